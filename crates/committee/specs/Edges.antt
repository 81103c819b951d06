-- The cases by numbers of docs/RULES.md, "Edges", as one table.
use Rattle.std.specs.Prelude.{Bool, true, false, if◌then◌else◌, ◌&&◌, ◌||◌, List, [], ◌∷◌, ℕ, zero, suc, set, ◌==◌, nat_lt, Some, None, unwrap_or}
use Rattle.base.specs.Folds.{tab}
use Rattle.agreement.specs.Rules.{Block, Chain}
use Rattle.terms.specs.declared.Transaction.{Transaction}
use Rattle.terms.specs.declared.Transaction.TheVariants.{Bond, Unbond}
use Rattle.terms.specs.Proposals.{Content}
use Rattle.terms.specs.declared.sheet.Setting.TheVariants.{Written}
use Rattle.terms.specs.declared.sheet.Settings.{Settings}
use Rattle.terms.specs.declared.sheet.Sheet.{Sheet}
use Rattle.terms.specs.Sheets.{blank_sheet, filled}
use Rattle.terms.specs.Ranges.{weight, weight_in}
use Rattle.committee.specs.Changes.{changes}
use Rattle.committee.specs.Committees.{committee_of, ordered, known_by, bound_of, quorum_weight}
use Rattle.committee.specs.Shares.{share_of}
use Rattle.committee.specs.Leaders.{leader_of}

-- the blank sheet has lookback 20 and weights 1, 1, 1, 1
unfoldable pub blank : Settings
blank = filled blank_sheet

-- the blank sheet with member 3's weight written as 0
unfoldable pub written : Sheet
written = record blank_sheet { weights = set blank_sheet.weights 3 (Written 0) }

unfoldable pub bond : ℕ → ℕ → Transaction
bond m a = Bond (record { 0 = m }) a

unfoldable pub unbond : ℕ → Transaction
unbond m = Unbond (record { 0 = m })

-- member 0's certificate of round 1 with a bond of member 5 by 7, in the block of round 2
unfoldable pub bonding : Chain Content
bonding = record {
  round = 2;
  holds = λ a r. if a == 0 && r == 1 then Some (record {
    author = 0;
    round = 1;
    previous = 0;
    transactions = bond 5 7 ∷ [];
  }) else None;
} ∷ []

-- four members of weight 1, rounds up to 6
unfoldable pub four : Settings
four = record {
  lookback = blank.lookback;
  ceiling = 6;
  allowance = blank.allowance;
  weights = blank.weights;
  margin = blank.margin;
}

-- the block of round 4, whose anchor is member 2's: a full round of members 0 to 3, and the anchor
unfoldable pub full : Block Content
full = record {
  round = 4;
  holds = λ a r. if (nat_lt a 4 && r == 3) || (a == 2 && r == 4) then Some (record {
    author = a;
    round = r;
    previous = 15;
    transactions = [];
  }) else None;
}

-- nobody has a weight: the committee is empty
unfoldable pub nobody : Settings
nobody = record {
  lookback = blank.lookback;
  ceiling = 6;
  allowance = blank.allowance;
  weights = tab (λ i. weight 0) 16;
  margin = blank.margin;
}

-- the author of the certificate at place k of a list, 16 for none
unfoldable pub author_at : List Content → ℕ → ℕ
author_at [] k = 16
author_at (p ∷ l) zero = p.author
author_at (p ∷ l) (suc k) = author_at l k

unfoldable pub truth : Bool → ℕ
truth true = 1
truth false = 0

unfoldable pub cases : List (ℕ × ℕ)
cases =
    (bound_of 3 0, 0) ∷ (bound_of 3 1, 0) ∷ (bound_of 3 3, 0) ∷ (bound_of 3 4, 1)
    ∷ (bound_of 3 6, 1) ∷ (bound_of 3 7, 2)
    ∷ (quorum_weight 3 0, 0) ∷ (quorum_weight 3 1, 1) ∷ (quorum_weight 3 3, 3)
    ∷ (quorum_weight 3 4, 3) ∷ (quorum_weight 3 6, 5) ∷ (quorum_weight 3 7, 5)
    ∷ (bound_of 3 16, 5) ∷ (quorum_weight 3 16, 11) ∷ (bound_of 5 16, 3) ∷ (quorum_weight 5 16, 13)
    ∷ (bound_of 5 0, 0) ∷ (quorum_weight 5 0, 0) ∷ (blank.margin, 3)
    ∷ (truth (known_by blank [] 22), 1) ∷ (truth (known_by blank [] 23), 0)
    ∷ (weight_in (committee_of blank bonding 22) 5, 0)
    ∷ (weight_in (committee_of blank bonding 23) 5, 7)
    ∷ (unwrap_or (leader_of (weight_in blank.weights) 2) 16, 1)
    ∷ (unwrap_or (leader_of (weight_in blank.weights) 4) 16, 2)
    ∷ (unwrap_or (leader_of (weight_in blank.weights) 6) 16, 3)
    ∷ (unwrap_or (leader_of (weight_in blank.weights) 8) 16, 0)
    ∷ (share_of 1 16, 62) ∷ (share_of 3 16, 188) ∷ (share_of 1 2000, 0)
    ∷ (weight_in (changes (unbond 2 ∷ bond 2 5 ∷ []) blank.weights) 2, 5)
    ∷ (weight_in (changes (bond 2 5 ∷ unbond 2 ∷ []) blank.weights) 2, 0)
    ∷ (weight_in blank.weights 3, 1) ∷ (weight_in (filled written).weights 3, 0)
    ∷ (author_at (ordered four full []) 0, 2) ∷ (author_at (ordered four full []) 1, 3)
    ∷ (author_at (ordered four full []) 2, 0) ∷ (author_at (ordered four full []) 3, 1)
    ∷ (author_at (ordered four full []) 4, 2) ∷ (author_at (ordered four full []) 5, 16)
    ∷ (author_at (ordered nobody full []) 0, 0) ∷ (author_at (ordered nobody full []) 1, 1)
    ∷ (author_at (ordered nobody full []) 2, 2) ∷ (author_at (ordered nobody full []) 3, 3)
    ∷ []

-- both numbers of each row are equal
unfoldable pub agree : List (ℕ × ℕ) → Bool
agree [] = true
agree (x ∷ l) = x.0 == x.1 && agree l
