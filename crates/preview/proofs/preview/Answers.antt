use Rattle.std.proofs.Common.{arith}
use Rattle.preview.proofs.AnsweredLaws.{passed, anchors_ready, steps_ready, number_fits, number_told, list_told}
use Rattle.preview.proofs.preview.Goals as goal

pub take_leaders-requires : goal.take_leaders-requires
take_leaders-requires c = let x = c.in_ok-check.ensures in
    rw c.round.view_is (anchors_ready (passed c.in_ok-known.ensures.ok x.refusal x.leaders) c.last_round-last.ensures)

pub list_blocks-put-requires : goal.list_blocks-put-requires
list_blocks-put-requires c = let x = c.in_ok-check.ensures in
    rw c.round.view_is (steps_ready _ (passed c.in_ok-known.ensures.ok x.refusal x.leaders) c.last_round-last.ensures (rw c.round.view_is at c.take_leaders.ensures) c.take_leaders.auto.leaders)

pub overflow_cast-result : goal.overflow_cast-result
overflow_cast-result c = let x = c.in_ok-check.ensures in
    omega (arith, number_fits _ (passed c.in_ok-known.ensures.ok x.refusal x.leaders) c.last_round-last.ensures (rw c.round.view_is at c.take_leaders.ensures) (rw c.round.view_is at c.list_blocks-put.ensures))

pub returns-clause-value : goal.returns-clause-value
returns-clause-value c = let x = c.in_ok-check.ensures in
    number_told _ (passed c.in_ok-known.ensures.ok x.refusal x.leaders) c.last_round-last.ensures (rw c.round.view_is at c.take_leaders.ensures) (rw c.round.view_is at c.list_blocks-put.ensures)

pub returns-clause-list : goal.returns-clause-list
returns-clause-list c = let x = c.in_ok-check.ensures in
    list_told _ (passed c.in_ok-known.ensures.ok x.refusal x.leaders) c.last_round-last.ensures (rw c.round.view_is at c.take_leaders.ensures) (rw c.round.view_is at c.list_blocks-put.ensures)
