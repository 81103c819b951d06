use Rattle.std.proofs.Common.{◌≡◌, ◌<◌, ◌≢◌, refl, sym, ap, ◌∙◌, arith, rules, lt-ltb}
use Rattle.std.specs.Prelude.{Err}
use Rattle.refusals.specs.Refusals.{number_of, refusal_in}
use Rattle.engine.specs.Calls.{draw}
use Rattle.engine.specs.Engine.{Engine, refusal_for}
use Rattle.engine.proofs.AfterLaws.{refused-same}
use Rattle.refusals.proofs.RefusalLaws.{some-number}
use Rattle.hosting.specs.Calls.{engine_in}
use Rattle.hosting.proofs.HandedLaws.{draw-handed}
use Rattle.hosting.proofs.SettledLaws.{rewritten, fits-over}
use Rattle.state.proofs.FormedLaws.{formed}
use Rattle.owned.proofs.OwnedLaws.{owned_put}
use Rattle.owned.proofs.queue_calls.draw.Goals as goal

pub words-words-requires : goal.words-words-requires
words-words-requires c = rw c.in-Some.ensures.1 (formed _ _ (sym c.requires.cached.form))

pub put_state-requires : goal.put_state-requires
put_state-requires c = let s = c.in-Some.ensures in
    let e : c.in-Ok.previous ≡ c.args.previous = grind arith in
    let l : c.args.previous < 65536 = grind arith in
    let x = rw (s.1, e) at c.in_ok-draw_formed.ensures in
    fits-over _ c.args.table.now (draw c.args.previous) s.0 l (sym x.refusal) x.state

pub returns-clause-owned : goal.returns-clause-owned
returns-clause-owned c = let s = c.in-Some.ensures in
    let e : c.in-Ok.previous ≡ c.args.previous = grind arith in
    let l : c.args.previous < 65536 = grind arith in
    let x = rw (s.1, e) at c.in_ok-draw_formed.ensures in
    rw c.put_state.ensures (owned_put _ _ _ c.requires (draw c.args.previous) (rw (lt-ltb _ 65536 l) at (draw-handed c.args.previous)) refl refl (sym x.refusal) x.state x.table)

pub returns-in_err-draw_formed-clause-done : goal.returns-in_err-draw_formed-clause-done
returns-in_err-draw_formed-clause-done c = let s = c.in-Some.ensures in
    let e : c.in-Ok.previous ≡ c.args.previous = grind arith in
    let l : c.args.previous < 65536 = grind arith in
    let x = rw (s.1, e) at c.in_err-draw_formed.ensures in
    let n : refusal_in c.from_residual.result ≡ number_of c.in_err-draw_formed.field-0.0 = search rules in
    rw n (rewritten _ _ _ _ refl s.0 (lt-ltb _ 65536 l) refl (Err c.in_err-draw_formed.field-0.0) _ x.refusal x.state x.table refl)

pub returns-in_err-draw_formed-clause-owned : goal.returns-in_err-draw_formed-clause-owned
returns-in_err-draw_formed-clause-owned c = let s = c.in-Some.ensures in
    let x = rw s.1 at c.in_err-draw_formed.ensures in
    let e = engine_in c.args.state.now c.args.table.now in
    let n : refusal_for e (draw c.in-Ok.previous) ≢ 0 = λ z. some-number _ (x.refusal ∙ z) in
    let t = x.table ∙ ap (λ (z : Engine). z.table) (refused-same e (draw c.in-Ok.previous) n) in
    rw t c.requires
