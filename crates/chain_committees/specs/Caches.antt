-- Committees cached by round beside the table, in a window of rounds: the first word is the first of them, then come sixteen words for each, as far as there is room and up to the ceiling.
use Rattle.std.specs.Prelude.{◌≡◌, List, ℕ, ◌+◌, ◌*◌, ◌-◌, ◌≤◌, length, get_or, map}
use Rattle.base.specs.Folds.{tab}
use Rattle.agreement.specs.Rules.{Chain}
use Rattle.terms.specs.Proposals.{Content}
use Rattle.terms.specs.declared.sheet.Settings.{Settings}
use Rattle.terms.specs.declared.sheet.Weight.{Weight}
use Rattle.terms.specs.Ranges.{weight}
use Rattle.committee.specs.Committees.{committee_of}
use Rattle.chain_committees.specs.declared.cache.TheConstants.{ROUNDS, COMMITTEE}

-- the first round of the window
abbrev pub first_round : List ℕ → ℕ
first_round cache = get_or cache 0 0

-- where the words of round r start in a window from the round q on
abbrev pub words_at : ℕ → ℕ → ℕ
words_at q r = (r - q) * COMMITTEE + ROUNDS

-- the words of one from round 0 on with room up to round r: as hosts are told them, by numbers
abbrev pub words_to : ℕ → ℕ
words_to r = r * 16 + 17

-- the sixteen weights from a place on
unfoldable pub weights_at : List ℕ → ℕ → List Weight
weights_at cache at = tab (λ i. weight (get_or cache (at + i) 0)) 16

-- weights as words
abbrev pub numbers : List Weight → List ℕ
numbers w = map (λ (x : Weight). x.0) w

-- round r is in the window
pub record InWindow (cache : List ℕ) (r : ℕ) : Type 0 where
  pub from : first_round cache ≤ r
  pub room : words_at (first_round cache) r + COMMITTEE ≤ length cache

pub record Caches (S : Settings) (c : Chain Content) (cache : List ℕ) : Type 0 where
  -- the words of round r are its committee
  pub committee : (r : ℕ) → r ≤ S.ceiling → InWindow cache r
      → weights_at cache (words_at (first_round cache) r) ≡ committee_of S c r
