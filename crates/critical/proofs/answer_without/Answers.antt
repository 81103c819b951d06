use Rattle.store.specs.Writes.{clear_held}
use Rattle.critical.proofs.LackLaws.{lacking, without_votes, lacking_again}
use Rattle.critical.proofs.answer_without.Goals as goal

pub poll-polled-requires : goal.poll-polled-requires
unfolding clear_held
poll-polled-requires c = rw (c.set_held.ensures, c.remove-left.ensures, c.held_set-held.ensures) (lacking c.requires)

pub returns : goal.returns
unfolding clear_held
returns c = (
  rw (without_votes c.requires) (rw (c.set_held.ensures, c.remove-left.ensures, c.held_set-held.ensures) at c.poll-polled.ensures.its_refusal),
  rw (c.set_held-2.ensures, c.set_held.ensures, c.remove-left.ensures, c.held_set-held.ensures) (lacking_again c.requires),
)
