-- What a bond does to the shares of a committee (docs/RULES.md, "How far a bond moves the shares").
use Rattle.std.specs.Prelude.{◌≡◌, List, ℕ, ◌+◌, ◌*◌, ◌^◌, ◌/◌, max, ◌<◌, ◌≤◌, get_or}
use Rattle.base.specs.Folds.{fold_to, tab}
use Rattle.terms.specs.declared.Transaction.TheVariants.{Bond}
use Rattle.terms.specs.declared.sheet.Weight.{Weight}
use Rattle.terms.specs.Ranges.{weight_in}
use Rattle.committee.specs.Shares.{share_of, apart}
use Rattle.committee.specs.Changes.{change}
use Rattle.committee.specs.Totals.{total_in, TotalBounded}
use Rattle.committee.specs.declared.effects.Effect.{Effect}

-- the share of member i, 0 for a non-member
abbrev pub share_in : List Weight → ℕ → ℕ
share_in w i = share_of (weight_in w i) (total_in w)

-- all sixteen
unfoldable pub shares_of : List Weight → List ℕ
shares_of w = tab (share_in w) 16

-- the committee after member m has bonded a, who joins if there was no weight
abbrev pub bonded : ℕ → ℕ → List Weight → List Weight
bonded m a w = change (Bond (record { 0 = m }) a) w

-- the largest difference, without sign, of two lists of sixteen numbers: of the first n
unfoldable pub largest_to : ℕ → List ℕ → List ℕ → ℕ
largest_to n x y = fold_to (λ i d. max d (apart (get_or x i 0) (get_or y i 0))) n 0

-- all of it
unfoldable pub bond_effect : ℕ → ℕ → List Weight → Effect
bond_effect m a w = record {
  before = shares_of w;
  after = shares_of (bonded m a w);
  largest = largest_to 16 (shares_of w) (shares_of (bonded m a w));
}

-- how far a share moves at most, where the total before the bond is n: 1 plus the whole part of 1,000 times a divided by n plus a
abbrev pub most_moved : ℕ → ℕ → ℕ
most_moved n a = 1 + 1000 * a / (n + a)

-- n is the total of w, and not 0
pub record TotalOf (w : List Weight) (n : ℕ) : Type 0 where
  pub total : n ≡ total_in w
  pub some : 0 < n
  pub bounded : n ≤ 2 ^ 50

-- a committee of the total n, which is not 0, and a member who bonds
pub record Bonds (w : List Weight) (n m : ℕ) : Type 0 where
  pub member : m < 16
  pub total : n ≡ total_in w
  pub some : 0 < n
  pub bounded : TotalBounded w
