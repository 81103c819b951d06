use Rattle.std.proofs.Common.{◌≡◌, refl, sym, rules, arith, List, []}
use Rattle.std.specs.Prelude.{Err}
use Rattle.refusals.specs.Refusals.{number_of, refusal_in}
use Rattle.terms.specs.declared.sheet.Weight.{Weight}
use Rattle.engine.specs.Calls.{committee}
use Rattle.reads.specs.Reads.{committee_refusal}
use Rattle.hosting.proofs.AnswerLaws.{committee-narrow}
use Rattle.hosting.proofs.SettledLaws.{shown}
use Rattle.owned.proofs.views.committee.Goals as goal

pub put_weights-requires : goal.put_weights-requires
put_weights-requires c = let s = c.in-Some.ensures in
    let x = rw (c.view.ensures.state, c.view.ensures.table, s.1) at c.in_ok-weights.ensures in
    (omega (arith, c.if-out-lt-COMMITTEE.false), committee-narrow _ _ _ (sym x.refusal) x.value)

pub returns-in_err-weights : goal.returns-in_err-weights
unfolding committee_refusal
returns-in_err-weights c = let s = c.in-Some.ensures in
    let x = rw (c.view.ensures.state, c.view.ensures.table, s.1) at c.in_err-weights.ensures in
    let n : refusal_in c.from_residual.result ≡ number_of c.in_err-weights.field-0.0 = search rules in
    rw n (shown _ _ _ (committee c.args.round) {A = List Weight} (Err c.in_err-weights.field-0.0) [] s.0 c.if-out-lt-COMMITTEE.false x.refusal refl tt)
