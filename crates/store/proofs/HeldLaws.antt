-- What the table says after a certificate is held no more, and that it is as it was when the certificate is held again.
use Rattle.std.proofs.Common.{◌≡◌, refl, ◌∙◌, Bool, true, false, cond, List, ◌≢◌, ℕ, ◌+◌, ◌*◌, ◌<◌, arith, length, get_or, length-set, get_or-set_same, get_or-set_other, ext_get_or, Some, None}
use Rattle.base.proofs.Words.{ℕ_discrete}
use Rattle.base.specs.Sets.{remove}
use Rattle.base.proofs.SetLaws.{remove_le}
use Rattle.store.specs.Table.{row_length, record_length, record_start, Row, held_set, endorsed_set, block_round, held_at, record_word, previous_at, mark_at, content_at, certificate_at}
use Rattle.store.proofs.TableLaws.{held-member}
use Rattle.store.specs.Writes.{set_held, clear_held}
use Rattle.store.proofs.WriteLaws.{same_place, in_removed, previous-same, content-same}

-- u is t but for the held set of row q
pub record OnlyHeld (q : ℕ) (t u : List ℕ) : Type 0 where
  pub size : length u ≡ length t
  pub words : (j : ℕ) → j ≢ q * row_length → get_or u j 0 ≡ get_or t j 0

module _ {q : ℕ} {t u : List ℕ} (o : OnlyHeld q t u) where
  pub endorsed-set-held : (r : ℕ) → endorsed_set u r ≡ endorsed_set t r
  unfolding endorsed_set
  endorsed-set-held r = o.words (r * row_length + 1) (λ e. omega arith)

  pub block-round-held : (k : ℕ) → block_round u k ≡ block_round t k
  unfolding block_round
  block-round-held k = o.words (k * row_length + 2) (λ e. omega arith)

  pub word_held : (m r : ℕ) → m < 16 → (k : ℕ) → k < record_length → record_word u m r k ≡ record_word t m r k
  unfolding record_word
  word_held m r h k l = o.words (record_start m r + k) (λ e. omega arith)

  pub mark-held : (m r : ℕ) → m < 16 → mark_at u m r ≡ mark_at t m r
  unfolding mark_at
  mark-held m r h = word_held m r h 2 (omega arith)

  pub previous-held : (m r : ℕ) → m < 16 → previous_at u m r ≡ previous_at t m r
  previous-held m r h = previous-same t u m r (λ k l _. word_held m r h k l)

  pub content-held : (m r : ℕ) → m < 16 → content_at u m r ≡ content_at t m r
  content-held m r h = content-same t u m r (λ k l _. word_held m r h k l)

  held-set-other : (r : ℕ) → r ≢ q → held_set u r ≡ held_set t r
  unfolding held_set
  held-set-other r n = o.words (r * row_length) (λ e. n (omega arith))

pub set-held : (t : List ℕ) (q x : ℕ) → OnlyHeld q t (set_held t q x)
unfolding set_held
set-held t q x = record { size = length-set t (q * row_length) x; words = λ j n. get_or-set_other t (q * row_length) j x 0 n }

held_word : (t : List ℕ) (q x : ℕ) → Row t q → get_or (set_held t q x) (q * row_length) 0 ≡ x
unfolding set_held
held_word t q x h = get_or-set_same t (q * row_length) x 0 (omega arith)

held-is : (t : List ℕ) (q : ℕ) → held_set t q ≡ get_or t (q * row_length) 0
unfolding held_set
held-is t q = refl

held-now : (t : List ℕ) (q x : ℕ) → Row t q → held_set (set_held t q x) q ≡ x
held-now t q x h = held-is (set_held t q x) q ∙ held_word t q x h

-- written over with what was there, the table is as it was
pub held-again : (t : List ℕ) (q x : ℕ) → Row t q → set_held (set_held t q x) q (held_set t q) ≡ t
held-again t q x h =
    let u = set_held t q x in
    let o = set-held t q x in
    let p = set-held u q (held_set t q) in
    ext_get_or 0 (set_held u q (held_set t q)) t (p.size ∙ o.size) (λ j l. by j (ℕ_discrete j (q * row_length)))
  where
    by : (j : ℕ) → Dec (j ≡ q * row_length) → get_or (set_held (set_held t q x) q (held_set t q)) j 0 ≡ get_or t j 0
    by j (yes e) = rw e (held_word (set_held t q x) q (held_set t q) (omega (arith, (set-held t q x).size)) ∙ held-is t q)
    by j (no n) = (set-held (set_held t q x) q (held_set t q)).words j n ∙ (set-held t q x).words j n

module _ (t : List ℕ) (a q : ℕ) (row : Row t q) where
  pub clear-held : OnlyHeld q t (clear_held t a q)
  unfolding clear_held
  clear-held = set-held t q (remove (held_set t q) a)

  held-set-clear : held_set (clear_held t a q) q ≡ remove (held_set t q) a
  unfolding clear_held
  held-set-clear = held-now t q (remove (held_set t q) a) row

  -- the places held then
  pub held-clear : (m r : ℕ) → held_at (clear_held t a q) m r ≡ cond (same_place m r a q) false (held_at t m r)
  unfolding held_at
  held-clear m r = in_removed (held_set t) (held_set (clear_held t a q)) a q held-set-clear (held-set-other clear-held) m r

  pub held_clear_lt : (r : ℕ) → held_set t r < 65536 → held_set (clear_held t a q) r < 65536
  held_clear_lt r = by (ℕ_discrete r q)
    where
      by : Dec (r ≡ q) → held_set t r < 65536 → held_set (clear_held t a q) r < 65536
      by (yes e) h = rw (e, held-set-clear) (let k : held_set t q < 65536 = rw e at h in omega (arith, remove_le a (held_set t q)))
      by (no n) h = rw (held-set-other clear-held r n) h

  -- the certificates held then
  pub certificate-clear : (m r : ℕ) → certificate_at (clear_held t a q) m r ≡ cond (same_place m r a q) None (certificate_at t m r)
  unfolding certificate_at
  certificate-clear m r = rw (held-clear m r) (go (same_place m r a q) (held_at t m r) refl)
    where
      go : (b c : Bool) → held_at t m r ≡ c → cond (cond b false c) (Some (content_at (clear_held t a q) m r)) None ≡ cond b None (cond c (Some (content_at t m r)) None)
      go true c h = refl
      go false false h = refl
      go false true h = rw (content-held clear-held m r (held-member t m r h)) refl
