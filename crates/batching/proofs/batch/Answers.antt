use Rattle.std.proofs.Common.{sym}
use Rattle.words.proofs.ReadingLaws.{state-read}
use Rattle.batching.proofs.DoneLaws.{done_taken}
use Rattle.batching.proofs.batch.Goals as goal

pub offer_all-requires-clause-set_in_range : goal.offer_all-requires-clause-set_in_range
offer_all-requires-clause-set_in_range c =
    let x = rw c.in_ok-s.ensures.ok_part at c.state.ensures in
    rw x.1 (state-read _ x.0).set

pub returns : goal.returns
returns c =
    let x = rw c.in_ok-s.ensures.ok_part at c.state.ensures in
    done_taken _ _ _ _ x.0 (rw x.1 at (sym c.in_ok-check.ensures.refusal)) (rw x.1 at c.offer_all.ensures)
