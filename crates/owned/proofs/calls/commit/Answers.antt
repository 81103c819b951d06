use Rattle.std.proofs.Common.{sym, ap, ◌∙◌, ◌≢◌}
use Rattle.state.specs.declared.State.{State}
use Rattle.engine.specs.Calls.{commit}
use Rattle.engine.specs.Engine.{Engine, refusal_for}
use Rattle.hosting.specs.Calls.{engine_in}
use Rattle.engine.proofs.AfterLaws.{refused-same}
use Rattle.refusals.proofs.RefusalLaws.{some-number}
use Rattle.hosting.proofs.SettledLaws.{fits-over}
use Rattle.owned.proofs.OwnedLaws.{low, committed_owned, committed-formed}
use Rattle.owned.proofs.CommittingLaws.{commit-settings, commit-rooted}
use Rattle.owned.proofs.calls.commit.Goals as goal

pub put_state-requires : goal.put_state-requires
put_state-requires c = let s = c.in-Some.ensures in
    let x = rw s.1 at c.in_ok-added.ensures in
    fits-over _ c.args.table.now commit s.0 tt (sym x.refusal) x.state

pub returns-clause-owned : goal.returns-clause-owned
returns-clause-owned c = let s = c.in-Some.ensures in
    let w = c.args.state.now in
    let h = c.requires in
    let x = rw s.1 at c.in_ok-added.ensures in
    let f = committed-formed (engine_in w c.args.table.now) x.state x.table (low w _ _ h) h.cached.form in
    let g = ap (λ (u : State). u.settings) x.state ∙ commit-settings _ c.args.table.now in
    let p = commit-rooted _ _ h.proposal (sym x.refusal) x.state x.table in
    rw c.put_state.ensures (committed_owned w _ _ h (sym x.refusal) x.state (record { form = f; committees = λ _. rw g x.kept }) (rw g x.rooted) p x.together)

pub returns-in_err-added-clause-owned : goal.returns-in_err-added-clause-owned
returns-in_err-added-clause-owned c = let s = c.in-Some.ensures in
    let h = c.requires in
    let x = rw s.1 at c.in_err-added.ensures in
    let e = engine_in c.args.state.now c.args.table.now in
    let n : refusal_for e commit ≢ 0 = λ z. some-number _ (x.refusal ∙ z) in
    let t = x.table ∙ ap (λ (z : Engine). z.table) (refused-same e commit n) in
    let b = ap (λ (z : State). z.blocks) x.state ∙ ap (λ (z : Engine). z.state.blocks) (refused-same e commit n) in
    record { reads = h.reads; cached = rw t (record { form = h.cached.form; committees = λ _. (rw (t, b) at x.kept) }); rooted = rw t h.rooted; proposal = rw t h.proposal; together = rw t h.together }
