-- What the table says after its used part is cleared.
use Rattle.std.proofs.Common.{◌≡◌, ◌∙◌, false, List, ℕ, ◌+◌, ◌*◌, ◌<◌, ◌≤◌, arith, length, get_or, take, drop, replicate, length-append, length-drop, take_at, drop_at, None}
use Rattle.base.proofs.Words.{length-replicate, get_or-replicate, get_or-append}
use Rattle.base.proofs.UnionLaws.{in_none}
use Rattle.store.specs.Table.{row_length, used_length, Row, held_set, endorsed_set, held_at, endorsed_at, certificate_at}
use Rattle.store.proofs.TableLaws.{held_in, endorsed_in, certificate-absent}
use Rattle.store.specs.Writes.{clear_used}

module _ (t : List ℕ) (n : ℕ) where
  pub cleared-beyond : drop (used_length n) (clear_used t n) ≡ drop (used_length n) t
  unfolding clear_used
  cleared-beyond = drop_at (replicate (used_length n) 0) (drop (used_length n) t) (used_length n) (length-replicate (used_length n) 0)

  pub cleared-take : take (used_length n) (clear_used t n) ≡ replicate (used_length n) 0
  unfolding clear_used
  cleared-take = take_at (replicate (used_length n) 0) (drop (used_length n) t) (used_length n) (length-replicate (used_length n) 0)

  pub length-cleared : Row t n → length (clear_used t n) ≡ length t
  unfolding clear_used
  length-cleared h = simp (length-append, length-drop, length-replicate) (omega arith)

  word-cleared : (j : ℕ) → j < used_length n → get_or (clear_used t n) j 0 ≡ 0
  unfolding clear_used
  word-cleared j h = get_or-append (replicate (used_length n) 0) (drop (used_length n) t) 0 j (omega (arith, length-replicate {A = ℕ} (used_length n) 0)) ∙ get_or-replicate (used_length n) j 0 0 h

  pub held-set-cleared : (r : ℕ) → r ≤ n → held_set (clear_used t n) r ≡ 0
  unfolding held_set
  held-set-cleared r h = word-cleared (r * row_length) (omega arith)

  pub endorsed-set-cleared : (r : ℕ) → r ≤ n → endorsed_set (clear_used t n) r ≡ 0
  unfolding endorsed_set
  endorsed-set-cleared r h = word-cleared (r * row_length + 1) (omega arith)

  pub held-cleared : (m r : ℕ) → r ≤ n → held_at (clear_used t n) m r ≡ false
  held-cleared m r h = held_in (clear_used t n) m r ∙ rw (held-set-cleared r h) (in_none m)

  pub endorsed-cleared : (m r : ℕ) → r ≤ n → endorsed_at (clear_used t n) m r ≡ false
  endorsed-cleared m r h = endorsed_in (clear_used t n) m r ∙ rw (endorsed-set-cleared r h) (in_none m)

  pub certificate-cleared : (m r : ℕ) → r ≤ n → certificate_at (clear_used t n) m r ≡ None
  certificate-cleared m r h = certificate-absent (clear_used t n) m r (held-cleared m r h)
