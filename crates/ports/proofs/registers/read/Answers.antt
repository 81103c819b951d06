use Rattle.std.proofs.Common.{◌∙◌}
use Rattle.ports.proofs.ReadLaws.{put_read}
use Rattle.ports.proofs.registers.read.Goals as goal

pub returns : goal.returns
returns c = let told = rw (c.new.ensures.table, c.new.ensures.settings, c.new.ensures.blocks) at c.found-next.ensures in
    (c.value-byte.ensures _ _ told, c.take.ensures ∙ put_read _ _ _ _ c.requires.formed _ _ told)
