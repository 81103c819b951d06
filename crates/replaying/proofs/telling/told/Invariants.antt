use Rattle.std.proofs.Common.{◌≡◌, ◌++◌, take}
use Rattle.std.specs.List.{flat_map}
use Rattle.replaying.specs.Replays.{keeper_bytes, answer_bytes}
use Rattle.replaying.proofs.telling.told.Given as goal

abbrev pub invariant-loop-keeper : goal.invariant-loop-keeper
invariant-loop-keeper l = l.out.items ≡ answer_bytes l.answers ++ flat_map keeper_bytes (take l.keeper-index l.keepers)
