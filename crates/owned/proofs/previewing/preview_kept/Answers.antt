use Rattle.std.proofs.Common.{sym, ◌∙◌, ◌-◌, arith}
use Rattle.store.proofs.TableLaws.{held_in}
use Rattle.votes.proofs.CheckLaws.{led_on}
use Rattle.commit.proofs.CheckLaws.{accepted}
use Rattle.preview.proofs.RefusalLaws.{preview-passed}
use Rattle.preview.proofs.AnsweredLaws.{passed, anchors_ready, steps_ready, number_fits, number_told, list_told}
use Rattle.owned.proofs.RootedLaws.{whole}
use Rattle.owned.proofs.MakingLaws.{left-held}
use Rattle.owned.proofs.previewing.preview_kept.Goals as goal

pub view-requires : goal.view-requires
view-requires c = c.requires.0

pub take_leaders-requires : goal.take_leaders-requires
take_leaders-requires c = let x = c.in_ok-check.ensures in
    rw c.round.view_is (anchors_ready (passed (c.view.ensures.state, c.view.ensures.table, sym c.requires.0.form) x.refusal x.leaders) c.last_round-last.ensures)

pub list_whole-put-requires-clause-ready : goal.list_whole-put-requires-clause-ready
list_whole-put-requires-clause-ready c = let x = c.in_ok-check.ensures in
    rw c.round.view_is (steps_ready _ (passed (c.view.ensures.state, c.view.ensures.table, sym c.requires.0.form) x.refusal x.leaders) c.last_round-last.ensures (rw c.round.view_is at c.take_leaders.ensures) c.take_leaders.auto.leaders)

pub list_whole-put-requires-clause-whole : goal.list_whole-put-requires-clause-whole
list_whole-put-requires-clause-whole c =
    let x = c.in_ok-check.ensures in
    let p = passed (c.view.ensures.state, c.view.ensures.table, sym c.requires.0.form) x.refusal x.leaders in
    let w = anchors_ready p c.last_round-last.ensures in
    let s = c.args.state.now in
    let t = c.args.table.now in
    let y = accepted s t (preview-passed _ _ _ p.accepted).1 in
    let led = led_on s t y.formed y.timely.from _ p.leaders y.timely.above in
    let taken = rw c.round.view_is at c.take_leaders.ensures in
    rw c.round.view_is (whole (omega (arith, y.formed.numbers.round_to)) c.requires.1
    (λ q a b g. rw taken (left-held t _ _ _ w.above w.listed (rw led (held_in t _ (s.round - 1) ∙ y.led)) q a b (rw taken at g))))

pub overflow_cast-result : goal.overflow_cast-result
overflow_cast-result c = let x = c.in_ok-check.ensures in
    omega (arith, number_fits _ (passed (c.view.ensures.state, c.view.ensures.table, sym c.requires.0.form) x.refusal x.leaders) c.last_round-last.ensures (rw c.round.view_is at c.take_leaders.ensures) (rw c.round.view_is at c.list_whole-put.ensures))

pub returns-clause-value : goal.returns-clause-value
returns-clause-value c = let x = c.in_ok-check.ensures in
    number_told _ (passed (c.view.ensures.state, c.view.ensures.table, sym c.requires.0.form) x.refusal x.leaders) c.last_round-last.ensures (rw c.round.view_is at c.take_leaders.ensures) (rw c.round.view_is at c.list_whole-put.ensures)

pub returns-clause-list : goal.returns-clause-list
returns-clause-list c = let x = c.in_ok-check.ensures in
    list_told _ (passed (c.view.ensures.state, c.view.ensures.table, sym c.requires.0.form) x.refusal x.leaders) c.last_round-last.ensures (rw c.round.view_is at c.take_leaders.ensures) (rw c.round.view_is at c.list_whole-put.ensures)
