-- Every call is refused and changes no word, or is an accepted open, or does what the rules say.
use Rattle.std.proofs.Common.{◌≡◌, refl, sym, subst, true}
use Rattle.base.proofs.Words.{ℕ_discrete}
use Rattle.state.specs.WellFormed.{well_formed}
use Rattle.engine.specs.Calls.{Call, opens, propose, endorse, certify, accept, advance, commit, enqueue, draw, port, aside, InRange}
use Rattle.engine.specs.Engine.{Engine, refusal_for, aside_checks}
use Rattle.engine.specs.Steps.{AsRuled, Step, refused, opened, moved, SetInRange}
use Rattle.engine.proofs.AfterLaws.{renewed, refused-same, accepted-new}
use Rattle.engine.proofs.WellLaws.{whole_by, propose-whole, draw-whole, endorse-whole, certify-whole, accept-whole, advance-whole, commit-whole, enqueue-whole, port-whole}
use Rattle.engine.proofs.NextLaws.{open_fresh, propose-next, endorse-next, certify-next, accept-next, advance-next, commit-next, enqueue-next, draw-next, port-next, aside-next}

module _ (e : Engine) (low : SetInRange e) where
  open e use {state, table}

  by_next : (c : Call) → refusal_for e c ≡ 0 → well_formed state table ≡ true → AsRuled e c (renewed e c) → Step e c
  by_next c a w n = moved a w (subst (AsRuled e c) (sym (accepted-new e c a)) n)

  accepted-step : (c : Call) → InRange c → refusal_for e c ≡ 0 → Step e c
  accepted-step (opens own sheet) r a = opened own sheet refl a (rw (accepted-new e (opens own sheet) a) (open_fresh e own sheet a))
  accepted-step (propose b) r a = by_next (propose b) a (propose-whole e b a) (propose-next e b r a)
  accepted-step (endorse p) r a = by_next (endorse p) a (endorse-whole e p a) (endorse-next e low p r a)
  accepted-step (certify d) r a = by_next (certify d) a (certify-whole e d a) (certify-next e low d r a)
  accepted-step (accept c) r a = by_next (accept c) a (accept-whole e c a) (accept-next e low c r a)
  accepted-step advance r a = by_next advance a (advance-whole e a) (advance-next e low a)
  accepted-step commit r a = by_next commit a (commit-whole e a) (commit-next e low a)
  accepted-step (enqueue g x) r a = by_next (enqueue g x) a (enqueue-whole e g x a) (enqueue-next e low g x a)
  accepted-step (draw v) r a = by_next (draw v) a (draw-whole e v a) (draw-next e v r a)
  accepted-step (port x) r a = by_next (port x) a (port-whole e x a) (port-next e low x r a)
  accepted-step (aside x) r a = let w = whole_by e (aside_checks e x) a in by_next (aside x) a w (aside-next e low x w)

-- every call is refused and changes nothing, or does what the rules say
pub every_step : (e : Engine) → SetInRange e → (c : Call) → InRange c → Step e c
every_step e low c r = go (ℕ_discrete (refusal_for e c) 0)
  where
    go : Dec (refusal_for e c ≡ 0) → Step e c
    go (yes a) = accepted-step e low c r a
    go (no n) = refused n (refused-same e c n)
