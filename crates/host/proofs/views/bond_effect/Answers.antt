use Rattle.std.proofs.Common.{◌≡◌, refl, rules, []}
use Rattle.std.specs.Prelude.{Err}
use Rattle.refusals.specs.Refusals.{number_of, refusal_in}
use Rattle.committee.specs.declared.effects.Effect.{Effect}
use Rattle.engine.specs.Calls.{effect}
use Rattle.reads.specs.Reads.{effect_refusal}
use Rattle.hosting.proofs.SettledLaws.{shown}
use Rattle.host.proofs.views.bond_effect.Goals as goal

pub returns-in_err-effect : goal.returns-in_err-effect
unfolding effect_refusal
returns-in_err-effect c = let s = c.in-Some.ensures in
    let x = rw s.1 at c.in_err-effect.ensures in
    let a = c.args in
    let n : refusal_in c.from_residual.result ≡ number_of c.in_err-effect.field-0.0 = search rules in
    rw n (shown _ _ _ (effect (record { 0 = a.member }) a.round a.amount) {A = Effect} (Err c.in_err-effect.field-0.0) [] s.0 c.if-out-lt-EFFECT.false x.refusal refl tt)
