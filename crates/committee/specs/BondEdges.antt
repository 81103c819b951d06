-- Bonds by numbers, as one table: one that moves a share as far as it can, a sole member, exact halves on both sides, one whose largest difference is a fall.
use Rattle.std.specs.Prelude.{if◌then◌else◌, List, [], ◌∷◌, ℕ, get_or, ◌==◌, nat_lt}
use Rattle.base.specs.Folds.{tab}
use Rattle.terms.specs.declared.sheet.Weight.{Weight}
use Rattle.terms.specs.Ranges.{weight}
use Rattle.committee.specs.Totals.{total_in}
use Rattle.committee.specs.BondEffects.{bond_effect, most_moved}

-- member 0 alone, with weight 1
unfoldable pub sole : List Weight
sole = tab (λ i. weight (if i == 0 then 1 else 0)) 16

-- sixteen members of weight 1
unfoldable pub alike : List Weight
alike = tab (λ i. weight 1) 16

-- members 0 and 1 of weight 1, and member 15 of weight 42
unfoldable pub heavy : List Weight
heavy = tab (λ i. weight (if i == 15 then 42 else if nat_lt i 2 then 1 else 0)) 16

unfoldable pub before : ℕ → ℕ → List Weight → ℕ → ℕ
before m a w i = get_or (bond_effect m a w).before i 0

unfoldable pub after : ℕ → ℕ → List Weight → ℕ → ℕ
after m a w i = get_or (bond_effect m a w).after i 0

unfoldable pub cases : List (ℕ × ℕ)
cases =
    -- member 1 joins by 2: 0 becomes two thirds, and the bound is met
    (before 1 2 sole 1, 0) ∷ (after 1 2 sole 1, 667) ∷ (before 1 2 sole 0, 1000)
    ∷ (after 1 2 sole 0, 333) ∷ ((bond_effect 1 2 sole).largest, 667)
    ∷ (most_moved (total_in sole) 2, 667)
    -- a sole member has all before and after
    ∷ (before 0 1000 sole 0, 1000) ∷ (after 0 1000 sole 0, 1000)
    ∷ ((bond_effect 0 1000 sole).largest, 0)
    -- member 0 of sixteen bonds 64: 62.5 becomes 812.5, and the others' 12.5
    ∷ (before 0 64 alike 0, 62) ∷ (after 0 64 alike 0, 812) ∷ (before 0 64 alike 15, 62)
    ∷ (after 0 64 alike 15, 12) ∷ ((bond_effect 0 64 alike).largest, 750)
    ∷ (most_moved (total_in alike) 64, 801)
    -- member 1 bonds 1: it rises by 21, and the heaviest falls by 22
    ∷ (before 1 1 heavy 1, 23) ∷ (after 1 1 heavy 1, 44) ∷ (before 1 1 heavy 15, 955)
    ∷ (after 1 1 heavy 15, 933) ∷ ((bond_effect 1 1 heavy).largest, 22)
    ∷ []
