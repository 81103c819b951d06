use Rattle.std.proofs.Common.{◌≡◌, refl, rules, [], true, arith, length}
use Rattle.base.proofs.Words.{lt-leb}
use Rattle.std.specs.Prelude.{Err}
use Rattle.refusals.specs.Refusals.{number_of, refusal_in}
use Rattle.committee.specs.declared.effects.Effect.{Effect}
use Rattle.engine.specs.Calls.{effect, aside}
use Rattle.reads.specs.Reads.{effect_refusal}
use Rattle.hosting.proofs.SettledLaws.{shown}
use Rattle.hosting.proofs.Answered.{result_unread}
use Rattle.owned.proofs.views.bond_effect.Goals as goal

pub returns-in_err-effect : goal.returns-in_err-effect
unfolding effect_refusal
returns-in_err-effect c = let s = c.in-Some.ensures in
    let x = rw (c.view.ensures.state, c.view.ensures.table, s.1) at c.in_err-effect.ensures in
    let a = c.args in
    let n : refusal_in c.from_residual.result ≡ number_of c.in_err-effect.field-0.0 = search rules in
    rw n (shown _ _ _ (effect (record { 0 = a.member }) a.round a.amount) {A = Effect} (Err c.in_err-effect.field-0.0) [] s.0 c.if-out-lt-EFFECT.false x.refusal refl tt)

pub returns-then-out-lt-EFFECT : goal.returns-then-out-lt-EFFECT
returns-then-out-lt-EFFECT c =
    let a = c.args in
    let w = a.state.now in
    let few = lt-leb 33 (length a.out.now) (omega (arith, c.if-out-lt-EFFECT.true)) in
    rw (result_unread w a.table.now a.out.now true (aside (effect (record { 0 = a.member }) a.round a.amount)) (rw (c.in-Some.ensures.0, few) refl))
    (record { its_answer = refl; its_state = refl; its_table = refl; its_out = refl })
