use Rattle.std.proofs.Common.{◌-◌, ◌%◌, arith}
use Rattle.sha2.proofs.Absorbing256.{padding-take}
use Rattle.digests.proofs.padding.Goals as goal

pub returns : goal.returns
returns c = padding-take 0x80 0 ((119 - c.args.used) % 64) (omega arith)
