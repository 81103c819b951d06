-- What an accepted access or reset has passed; and check 1 after the checks before it.
use Rattle.std.proofs.Common.{◌≡◌, refl, sym, ◌∙◌, true, not, true≢false, List, [], ◌∷◌, ◌++◌, ◌≢◌, ℕ, ◌<◌, arith, ltb-false}
use Rattle.base.proofs.Words.{not-false}
use Rattle.base.specs.Checks.{Checks, refusal}
use Rattle.base.proofs.CheckLaws.{numbered, passes, passes-all, first-refuses, first_passes}
use Rattle.base.proofs.Passed.{passed}
use Rattle.base.proofs.TestLaws.{all-at}
use Rattle.store.specs.Table.{Row}
use Rattle.ports.specs.Ports.{FormedPort, port_fits, ports_fit}
use Rattle.ports.proofs.WriteLaws.{put-reset}
use Rattle.state.specs.declared.State.{State}
use Rattle.state.specs.WellFormed.{well_formed}
use Rattle.state.proofs.FormedLaws.{formed, formed-ports}
use Rattle.state.proofs.Walkable.{readable}
use Rattle.serial.specs.Calls.{PortCall, access, reset}
use Rattle.serial.specs.Serial.{access_checks, reset_checks, early_checks}

-- 26, 31 or 1, where the words of a state cannot be read
pub early_some : (x : PortCall) → refusal (early_checks x ++ ((true, 1) ∷ [])) ≢ 0
unfolding numbered
early_some (access g a) z = passed _ refl z λ h26 h31 h1. absurd (true≢false h1)
early_some (reset g) z = passed _ refl z λ h26 h1. absurd (true≢false h1)

module _ (s : State) (t : List ℕ) where
  abbrev late : Checks
  late = (not (well_formed s t), 1) ∷ []

  -- ---- the number, where the checks before 1 have come to n

  module _ (l : Checks) {n : ℕ} (q : n ≡ refusal l) where
    pub early_refused : n ≢ 0 → n ≡ refusal (l ++ late)
    early_refused h = q ∙ sym (first-refuses l late (omega arith))

    module _ (p : numbered l ≡ true) (z : n ≡ 0) where
      pub none-refused : well_formed s t ≡ true → 0 ≡ refusal (l ++ late)
      none-refused w = sym (first_passes l late p (sym q ∙ z) ∙ passes 1 [] (rw w refl) ∙ passes-all)

  -- ---- what follows where none refuses

  -- a port of a well-formed state
  pub port-opened : well_formed s t ≡ true → (g : ℕ) → g < 8 → FormedPort s.settings t s.blocks g
  unfolding ports_fit
  port-opened w g h = record { chain = readable s t (formed s t w); guest = h; fits = all-at (port_fits s.settings t s.blocks) 8 g h (formed-ports s t w) }

  -- row 0 is there
  pub port_row : well_formed s t ≡ true → Row t 0
  port_row w = let l = (formed s t w).long in omega arith

  pub record AccessPassed (g o : ℕ) : Type 0 where
    pub whole : well_formed s t ≡ true
    pub opened : FormedPort s.settings t s.blocks g
    pub row : Row t 0
    pub offset : o < 8

  pub access-passed : (g o : ℕ) → refusal (access_checks g o ++ late) ≡ 0 → AccessPassed g o
  unfolding numbered
  access-passed g o e =
      passed _ refl e λ h26 h31 h1.
      let w = not-false (well_formed s t) h1 in
      let i = ltb-false 7 g h26 in
      let j = ltb-false 7 o h31 in
      let l = (formed s t w).long in
      record { whole = w; opened = port-opened w g (omega arith); row = omega arith; offset = omega arith }

  pub record ResetPassed (g : ℕ) : Type 0 where
    pub whole : well_formed s t ≡ true
    pub opened : FormedPort s.settings t s.blocks g
    pub row : Row t 0

  pub reset-passed : (g : ℕ) → refusal (reset_checks g ++ late) ≡ 0 → ResetPassed g
  unfolding numbered
  reset-passed g e =
      passed _ refl e λ h26 h1.
      let w = not-false (well_formed s t) h1 in
      let i = ltb-false 7 g h26 in
      let l = (formed s t w).long in
      record { whole = w; opened = port-opened w g (omega arith); row = omega arith }

  -- ---- so where the checks of the port let an access pass, in a well-formed state

  module _ (w : well_formed s t ≡ true) where
    pub access_let : (g o : ℕ) → 0 ≡ refusal (access_checks g o) → AccessPassed g o
    unfolding numbered
    access_let g o e = access-passed g o (sym (none-refused (access_checks g o) e refl refl w))

-- for the calls: a port may be read and written, and what a reset leaves
pub ruleset ported = (port-opened, port_row, put-reset)
