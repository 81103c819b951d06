use Rattle.std.proofs.Common.{◌≡◌, ◌<◌, refl, sym, arith, rules, lt-ltb}
use Rattle.std.specs.Prelude.{Err}
use Rattle.refusals.specs.Refusals.{number_of, refusal_in}
use Rattle.engine.specs.Calls.{draw}
use Rattle.hosting.proofs.SettledLaws.{rewritten, fits-over}
use Rattle.host.proofs.queue_calls.draw.Goals as goal

pub put_state-requires : goal.put_state-requires
put_state-requires c = let s = c.in-Some.ensures in
    let e : c.in-Ok.previous ≡ c.args.previous = grind arith in
    let l : c.args.previous < 65536 = grind arith in
    let x = rw (s.1, e) at c.in_ok-draw.ensures in
    fits-over _ c.args.table.now (draw c.args.previous) s.0 l (sym x.refusal) x.state

pub returns-in_err-draw : goal.returns-in_err-draw
returns-in_err-draw c = let s = c.in-Some.ensures in
    let e : c.in-Ok.previous ≡ c.args.previous = grind arith in
    let l : c.args.previous < 65536 = grind arith in
    let x = rw (s.1, e) at c.in_err-draw.ensures in
    let n : refusal_in c.from_residual.result ≡ number_of c.in_err-draw.field-0.0 = search rules in
    rw n (rewritten _ _ _ _ refl s.0 (lt-ltb _ 65536 l) refl (Err c.in_err-draw.field-0.0) _ x.refusal x.state x.table refl)
