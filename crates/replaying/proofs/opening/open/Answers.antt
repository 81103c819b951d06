use Rattle.std.proofs.Common.{◌≡◌, refl, sym, rules, arith}
use Rattle.std.specs.Prelude.{Err}
use Rattle.refusals.specs.Refusals.{number_of, refusal_in}
use Rattle.open.specs.Open.{closed_state}
use Rattle.engine.specs.Calls.{opens}
use Rattle.words.specs.Sheets.{sheet_in}
use Rattle.hosting.proofs.SettledLaws.{freshly_written, narrow-left}
use Rattle.replaying.proofs.opening.open.Goals as goal

pub put_state-requires : goal.put_state-requires
put_state-requires c = let b = c.in-Some.ensures in
    let x = rw (c.closed-s.ensures, b.1) at c.in_ok-open.ensures in
    let a = c.args in
    (c.if-state-lt-STATE.false, narrow-left (record { state = closed_state; table = a.table.now }) (omega arith) (opens _ (sheet_in a.head.now.sheet (record { 0 = a.head.now.rights }))) tt (sym x.refusal) x.state)

pub returns-in_err-open : goal.returns-in_err-open
returns-in_err-open c = let b = c.in-Some.ensures in
    let x = rw (c.closed-s.ensures, b.1) at c.in_err-open.ensures in
    let n : refusal_in c.from_residual.result ≡ number_of c.in_err-open.field-0.0 = search rules in
    rw n (freshly_written _ _ _ _ (Err c.in_err-open.field-0.0) _ refl c.if-state-lt-STATE.false b.0 refl x.refusal x.state x.table refl)
