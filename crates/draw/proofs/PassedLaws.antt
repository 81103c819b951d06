-- What an accepted draw has passed: a draw in a well-formed state is a propose that check 6 lets pass.
use Rattle.std.proofs.Common.{◌≡◌, List, ℕ, ◌<◌}
use Rattle.terms.specs.Bodies.{body_of}
use Rattle.store.specs.Table.{Row}
use Rattle.state.specs.declared.State.{State}
use Rattle.state.specs.Formed.{BodyFits, Formed}
use Rattle.state.proofs.FormedLaws.{first_row}
use Rattle.propose.proofs.PassedLaws.{propose-passed}
use Rattle.draw.specs.Draw.{drawn_body, draw_refusal}

module _ (s : State) (t : List ℕ) where
  pub record DrawPassed (v : ℕ) : Type 0 where
    pub formed : Formed s t
    pub row : Row t 0
    pub fits : BodyFits s.settings.allowance s.round (drawn_body s t v)

  pub draw-passed : (v : ℕ) → draw_refusal s t v ≡ 0 → DrawPassed v
  unfolding draw_refusal
  draw-passed v e = let k = propose-passed s t (drawn_body s t v) e in record { formed = k.formed; row = first_row s t k.formed; fits = k.fits }

  -- the previous set is the one that is handed in
  pub drawn-small : (v : ℕ) → v < 65536 → (drawn_body s t v).previous < 65536
  unfolding drawn_body body_of
  drawn-small v h = h
