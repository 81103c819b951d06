use Rattle.std.proofs.Common.{◌≡◌, refl, rules, []}
use Rattle.std.specs.Prelude.{Err}
use Rattle.refusals.specs.Refusals.{number_of, refusal_in}
use Rattle.reads.specs.declared.Held.{Held}
use Rattle.engine.specs.Calls.{certificate}
use Rattle.reads.specs.Reads.{certificate_refusal}
use Rattle.hosting.proofs.SettledLaws.{shown}
use Rattle.owned.proofs.views.certificate.Goals as goal

pub returns-in_err-held : goal.returns-in_err-held
unfolding certificate_refusal
returns-in_err-held c = let s = c.in-Some.ensures in
    let x = rw (c.view.ensures.state, c.view.ensures.table, s.1) at c.in_err-held.ensures in
    let a = c.args in
    let n : refusal_in c.from_residual.result ≡ number_of c.in_err-held.field-0.0 = search rules in
    rw n (shown _ _ _ (certificate (record { 0 = a.author }) a.round) {A = Held} (Err c.in_err-held.field-0.0) [] s.0 c.if-out-lt-HELD.false x.refusal refl tt)
