-- A longer chain knows more rounds, and the committees of those that were known stay.
use Rattle.std.proofs.Common.{◌≡◌, refl, sym, ◌∙◌, true, inl, inr, ℕ, arith}
use Rattle.agreement.specs.Rules.{Chain, Rules}
use Rattle.agreement.specs.Laws.{Lawful}
use Rattle.agreement.specs.Prefixes.{◌≼◌, same, grown, Comparable}

module _ {R : Rules} (Y : Lawful R) where
  open R use {P, known, committee}
  open Y use {known_grow, committee_grow}

  pub known_stays : {c d : Chain P} {r : ℕ} → c ≼ d → known c r ≡ true → known d r ≡ true
  known_stays same k = k
  known_stays {r = r} (grown b {d = d} l h) k = known_grow b d r (omega arith) (known_stays h k)

  pub committee_stays : {c d : Chain P} {r : ℕ} → c ≼ d → known c r ≡ true → committee d r ≡ committee c r
  committee_stays same k = refl
  committee_stays {r = r} (grown b {d = d} l h) k = committee_grow b d r (omega arith) (known_stays h k) ∙ committee_stays h k

  -- comparable chains tell the same committee
  pub comparable-committee : {c d : Chain P} {r : ℕ} → Comparable c d → known c r ≡ true → known d r ≡ true → committee c r ≡ committee d r
  comparable-committee (inl h) k l = sym (committee_stays h k)
  comparable-committee (inr h) k l = committee_stays h l
