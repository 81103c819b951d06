-- The line after a place's, in the table: what the search for it has found.
use Rattle.std.specs.Prelude.{◌≡◌, true, if◌then◌else◌, List, [], ◌∷◌, ℕ, ◌+◌, ◌-◌, ◌*◌, ◌/◌, ◌%◌, ◌<◌, ◌≤◌, length, drop, ◌==◌, Option, Some, None}
use Rattle.terms.specs.declared.sheet.Settings.{Settings}
use Rattle.store.specs.Table.{held_at, mark_at}
use Rattle.committee.specs.Chain.{chain_of}
use Rattle.chain_committees.specs.Links.{Marked}
use Rattle.ports.specs.Cursors.{Lines, lines_after}
use Rattle.ports.specs.Places.{lines_of}

-- the place of the first line, if there is one
abbrev pub first_place : Lines → Option ℕ
first_place [] = None
first_place (e ∷ l) = Some e.0

-- the lines after a place's; all of them after 0, which is no certificate's
unfoldable pub lines_from : Settings → List ℕ → ℕ → ℕ → Lines
lines_from S t blocks p =
    if p == 0 then lines_of S (chain_of S.ceiling t blocks)
    else lines_after (lines_of S (chain_of S.ceiling t blocks)) p

-- the lines of the blocks after the first k
unfoldable pub lines_beyond : Settings → List ℕ → ℕ → ℕ → Lines
lines_beyond S t blocks k =
    drop (length (lines_of S (chain_of S.ceiling t k)))
    (lines_of S (chain_of S.ceiling t blocks))

-- ---- keys: key q of a block whose rows start with member a is of round q / 16, and of the member that is q % 16 after a

abbrev pub key_member : ℕ → ℕ → ℕ
key_member a q = (a + q % 16) % 16

abbrev pub key_place : ℕ → ℕ → ℕ
key_place a q = q / 16 * 16 + key_member a q

-- the key of member m of round r
abbrev pub key_of : ℕ → ℕ → ℕ → ℕ
key_of a m r = r * 16 + (m + (16 - a % 16)) % 16

-- from key q on, v is the first one with a certificate of block k, in a table of ceiling n; it is the end if there is none
pub record KeyFound (t : List ℕ) (n k a q v : ℕ) : Type 0 where
  pub from : q ≤ v
  pub to : v ≤ n * 16 + 16
  pub here : v < n * 16 + 16 → Marked t k (key_place a v)
  pub skipped : (i : ℕ) → q ≤ i → i < v → Marked t k (key_place a i) → ⊥

-- after block k, v is the first one with a certificate; it is above the last if there is none
pub record BlockFound (t : List ℕ) (n blocks k v : ℕ) : Type 0 where
  pub from : k < v
  pub to : v ≤ blocks + 1
  pub here : v ≤ blocks → (p : ℕ) × (16 ≤ p) × (p < n * 16 + 16) × Marked t v p
  pub skipped : (j p : ℕ) → k < j → j < v → 16 ≤ p → p < n * 16 + 16 → Marked t j p → ⊥

-- ---- what the search relies on

-- a place of a line: a certificate in one of the first blocks
pub record LinePlace (t : List ℕ) (n blocks p : ℕ) : Type 0 where
  pub from : 16 ≤ p
  pub to : p < n * 16 + 16
  pub held : held_at t (p % 16) (p / 16) ≡ true
  pub mark_from : 1 ≤ mark_at t (p % 16) (p / 16)
  pub mark_to : mark_at t (p % 16) (p / 16) ≤ blocks

-- of the lines after p's, the place of the first one in the same block; where there is none, the lines are those of the later blocks
unfoldable pub NextInBlock : Settings → List ℕ → ℕ → ℕ → Option ℕ → Type 0
NextInBlock S t blocks p None =
    lines_from S t blocks p ≡ lines_beyond S t blocks (mark_at t (p % 16) (p / 16))
NextInBlock S t blocks p (Some v) = Some v ≡ first_place (lines_from S t blocks p)
