-- What the rows of a block tell of a next line, without the order within a row.
use Rattle.std.specs.Prelude.{◌≡◌, List, ℕ, ◌+◌, ◌*◌, ◌/◌, ◌<◌, ◌≤◌, Option, Some, None, MatchOption}
use Rattle.chain_committees.specs.Links.{Marked}
use Rattle.ports.specs.Cursors.{Lines}
use Rattle.ports.specs.Next.{first_place}
use Rattle.ports.specs.declared.rows.ByRows.{ByRows}
use Rattle.ports.specs.declared.rows.ByRows.TheVariants.{Nothing, Line, Untold}

-- no place from a on and below e has a certificate of block k
abbrev pub NoneMarked : List ℕ → ℕ → ℕ → ℕ → Type 0
NoneMarked t k a e = (i : ℕ) → a ≤ i → i < e → Marked t k i → ⊥

-- the first place from a on and below e that has one
abbrev pub FirstMarked : List ℕ → ℕ → ℕ → ℕ → Option ℕ → Type 0
FirstMarked t k a e r =
    MatchOption r (NoneMarked t k a e) (λ p. (a ≤ p) × (p < e) × Marked t k p × NoneMarked t k a p)

-- of the places from a on and below e, those that have one begin with p, which is alone in its row
pub record Alone (t : List ℕ) (k a e p : ℕ) : Type 0 where
  pub from : a ≤ p
  pub to : p < e
  pub marked : Marked t k p
  pub others : (i : ℕ) → a ≤ i → i < p / 16 * 16 + 16 → Marked t k i → i ≡ p

-- what the rows whose places are those from a on and below e tell of block k
abbrev pub RowsTell : List ℕ → ℕ → ℕ → ℕ → ByRows → Type 0
RowsTell t k a e Nothing = NoneMarked t k a e
RowsTell t k a e (Line p) = Alone t k a e p
RowsTell t k a e Untold = Unit {0}

-- of these lines, what rows tell of the first one
abbrev pub LinesTold : Lines → ByRows → Type 0
LinesTold l Nothing = None ≡ first_place l
LinesTold l (Line p) = Some p ≡ first_place l
LinesTold l Untold = Unit {0}
