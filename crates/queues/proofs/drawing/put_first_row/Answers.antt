use Rattle.std.proofs.Common.{sym, ◌∙◌, length-take-le}
use Rattle.queues.proofs.drawing.put_first_row.Goals as goal

pub copy_from_slice-requires : goal.copy_from_slice-requires
copy_from_slice-requires c = length-take-le 272 c.args.table.now c.requires ∙ sym c.told-row
