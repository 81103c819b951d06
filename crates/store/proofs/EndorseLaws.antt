-- What the table says after an endorsed mark is set or cleared.
use Rattle.std.proofs.Common.{◌≡◌, refl, false, cond, ◌||◌, List, ◌≢◌, ℕ, ◌+◌, ◌*◌, ◌<◌, ◌≤◌, arith, length, get_or, set, drop, length-set, get_or-set_same, get_or-set_other}
use Rattle.base.proofs.Words.{ℕ_discrete}
use Rattle.base.specs.Sets.{insert, remove}
use Rattle.base.proofs.SetLaws.{insert_lt, remove_le}
use Rattle.store.specs.Table.{row_length, record_length, record_start, used_length, Row, Within, held_set, endorsed_set, block_round, held_at, endorsed_at, record_word, mark_at, content_at, certificate_at}
use Rattle.store.specs.Writes.{set_endorsed, clear_endorsed}
use Rattle.store.proofs.WriteLaws.{same_place, in_added, in_removed, content-same, certificate-same, same-beyond}

-- u is t but for the endorsed set of row q
pub record OnlyEndorsed (q : ℕ) (t u : List ℕ) : Type 0 where
  pub size : length u ≡ length t
  pub words : (j : ℕ) → j ≢ q * row_length + 1 → get_or u j 0 ≡ get_or t j 0

module _ {q : ℕ} {t u : List ℕ} (o : OnlyEndorsed q t u) where
  pub endorse-beyond : (n : ℕ) → q ≤ n → drop (used_length n) u ≡ drop (used_length n) t
  endorse-beyond n h = same-beyond t u (used_length n) o.size (λ j l. o.words j (omega arith))

  pub held-set-endorse : (r : ℕ) → held_set u r ≡ held_set t r
  unfolding held_set
  held-set-endorse r = o.words (r * row_length) (λ e. omega arith)

  pub held-endorse : (m r : ℕ) → held_at u m r ≡ held_at t m r
  unfolding held_at
  held-endorse m r = rw (held-set-endorse r) refl

  pub block-round-endorse : (k : ℕ) → block_round u k ≡ block_round t k
  unfolding block_round
  block-round-endorse k = o.words (k * row_length + 2) (λ e. omega arith)

  pub word-endorse : (m r : ℕ) → m < 16 → (k : ℕ) → k < record_length → record_word u m r k ≡ record_word t m r k
  unfolding record_word
  word-endorse m r h k l = o.words (record_start m r + k) (λ e. omega arith)

  pub mark-endorse : (m r : ℕ) → m < 16 → mark_at u m r ≡ mark_at t m r
  unfolding mark_at
  mark-endorse m r h = word-endorse m r h 2 (omega arith)

  pub content-endorse : (m r : ℕ) → m < 16 → content_at u m r ≡ content_at t m r
  content-endorse m r h = content-same t u m r (λ k l _. word-endorse m r h k l)

  pub certificate-endorse : (m r : ℕ) → certificate_at u m r ≡ certificate_at t m r
  certificate-endorse m r = certificate-same t u m r (held-endorse m r) (λ h k l _. word-endorse m r h k l)

  pub endorsed-set-other : (r : ℕ) → r ≢ q → endorsed_set u r ≡ endorsed_set t r
  unfolding endorsed_set
  endorsed-set-other r n = o.words (r * row_length + 1) (λ e. n (omega arith))

  -- where row q keeps a set of members, every row does
  pub endorsed_lt : (endorsed_set t q < 65536 → endorsed_set u q < 65536) → (r : ℕ) → endorsed_set t r < 65536 → endorsed_set u r < 65536
  endorsed_lt k r = by (ℕ_discrete r q)
    where
      by : Dec (r ≡ q) → endorsed_set t r < 65536 → endorsed_set u r < 65536
      by (yes e) h = rw e (k (rw e at h))
      by (no n) h = rw (endorsed-set-other r n) h

only-endorsed : (t : List ℕ) (q x : ℕ) → OnlyEndorsed q t (set t (q * row_length + 1) x)
only-endorsed t q x = record { size = length-set t (q * row_length + 1) x; words = λ j n. get_or-set_other t (q * row_length + 1) j x 0 n }

module _ (t : List ℕ) (a q : ℕ) where
  pub set-endorsed : OnlyEndorsed q t (set_endorsed t a q)
  unfolding set_endorsed
  set-endorsed = only-endorsed t q (insert (endorsed_set t q) a)

  pub clear-endorsed : OnlyEndorsed q t (clear_endorsed t a q)
  unfolding clear_endorsed
  clear-endorsed = only-endorsed t q (remove (endorsed_set t q) a)

endorsed-now : (t : List ℕ) (q x : ℕ) → Row t q → endorsed_set (set t (q * row_length + 1) x) q ≡ x
unfolding endorsed_set
endorsed-now t q x h = get_or-set_same t (q * row_length + 1) x 0 (omega arith)

module _ (t : List ℕ) (a q : ℕ) (at : Within t a q) where
  pub endorsed-set-same : endorsed_set (set_endorsed t a q) q ≡ insert (endorsed_set t q) a
  unfolding set_endorsed
  endorsed-set-same = endorsed-now t q (insert (endorsed_set t q) a) at.row

  pub endorsed-clear-same : endorsed_set (clear_endorsed t a q) q ≡ remove (endorsed_set t q) a
  unfolding clear_endorsed
  endorsed-clear-same = endorsed-now t q (remove (endorsed_set t q) a) at.row

  -- the places marked after
  pub endorsed-set : (m r : ℕ) → endorsed_at (set_endorsed t a q) m r ≡ (same_place m r a q || endorsed_at t m r)
  unfolding endorsed_at
  endorsed-set m r = in_added (endorsed_set t) (endorsed_set (set_endorsed t a q)) a q at.member endorsed-set-same (endorsed-set-other (set-endorsed t a q)) m r

  pub endorsed-clear : (m r : ℕ) → endorsed_at (clear_endorsed t a q) m r ≡ cond (same_place m r a q) false (endorsed_at t m r)
  unfolding endorsed_at
  endorsed-clear m r = in_removed (endorsed_set t) (endorsed_set (clear_endorsed t a q)) a q endorsed-clear-same (endorsed-set-other (clear-endorsed t a q)) m r

  pub endorsed_set_lt : (r : ℕ) → endorsed_set t r < 65536 → endorsed_set (set_endorsed t a q) r < 65536
  endorsed_set_lt = endorsed_lt (set-endorsed t a q) (λ h. rw endorsed-set-same (insert_lt 16 a (endorsed_set t q) at.member h))

  pub endorsed_clear_lt : (r : ℕ) → endorsed_set t r < 65536 → endorsed_set (clear_endorsed t a q) r < 65536
  endorsed_clear_lt = endorsed_lt (clear-endorsed t a q) (λ h. rw endorsed-clear-same (omega (arith, remove_le a (endorsed_set t q))))
