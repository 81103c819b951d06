-- The certificates of each block as a list of places, for all blocks at once: the first place of block k is head[k], and the one after place p is next[p].
use Rattle.std.specs.Prelude.{◌≡◌, true, List, ℕ, ◌+◌, ◌*◌, ◌/◌, ◌%◌, ◌<◌, ◌≤◌, get_or, length}
use Rattle.store.specs.Table.{held_at, mark_at}

-- the place of member m and round r is number 16 r + m; it has a certificate of block k
pub record Marked (t : List ℕ) (k p : ℕ) : Type 0 where
  pub held : held_at t (p % 16) (p / 16) ≡ true
  pub mark : mark_at t (p % 16) (p / 16) ≡ k

-- of the places from a on and below e, p is the first one of block k; it is e if there is none
pub record First (t : List ℕ) (k a e p : ℕ) : Type 0 where
  pub from : a ≤ p
  pub to : p ≤ e
  pub here : p < e → Marked t k p
  pub skipped : (i : ℕ) → a ≤ i → i < p → Marked t k i → ⊥

-- the places from a on and below e are linked
pub record Links (t : List ℕ) (a e : ℕ) (head next : List ℕ) : Type 0 where
  pub head_size : length head ≡ 512
  pub next_size : e ≤ length next
  pub within : a ≤ e
  pub heads : (k : ℕ) → k < 512 → First t k a e (get_or head k 0)
  pub nexts : (k p : ℕ) → k < 512 → a ≤ p → p < e → Marked t k p
      → First t k (p + 1) e (get_or next p 0)

-- those of the rounds 1 to n are
abbrev pub AllLinked : List ℕ → ℕ → List ℕ → List ℕ → Type 0
AllLinked t n head next = Links t 16 (n * 16 + 16) head next
