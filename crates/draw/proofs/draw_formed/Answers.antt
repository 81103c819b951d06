use Rattle.std.proofs.Common.{sym}
use Rattle.state.proofs.FormedLaws.{formed, first_row}
use Rattle.draw.proofs.draw_formed.Goals as goal

pub drawn_body-body-requires : goal.drawn_body-body-requires
drawn_body-body-requires c = let f = formed _ _ (sym c.requires.form) in (first_row _ _ f, f.queues)

pub put_first_row-requires : goal.put_first_row-requires
put_first_row-requires c = first_row _ _ (formed _ _ (sym c.requires.form))
