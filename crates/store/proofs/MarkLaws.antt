-- What the table says after commit marks and block rounds are set: these are the words whose number leaves 2 when divided by 16.
use Rattle.std.proofs.Common.{◌≡◌, refl, sym, ◌∙◌, Bool, true, false, cond, List, ◌≢◌, ℕ, ◌+◌, ◌*◌, ◌%◌, ◌<◌, ◌≤◌, arith, length, get_or, set, drop, length-set, get_or-set_same, get_or-set_other}
use Rattle.base.proofs.Words.{dec_lt}
use Rattle.store.specs.Table.{row_length, record_length, record_start, used_length, Within, Row, held_set, endorsed_set, block_round, held_at, endorsed_at, record_word, previous_at, mark_at, content_at, certificate_at}
use Rattle.store.specs.Writes.{set_mark, set_block}
use Rattle.store.proofs.WriteLaws.{same_place, other_place, previous-same, content-same, certificate-same, same-beyond}

-- u is t but for marks and block rounds among the first n words
pub record OnlyMarks (n : ℕ) (t u : List ℕ) : Type 0 where
  pub size : length u ≡ length t
  pub words : (j : ℕ) → j % 16 ≢ 2 → get_or u j 0 ≡ get_or t j 0
  pub beyond : (j : ℕ) → n ≤ j → get_or u j 0 ≡ get_or t j 0

pub only-all : (n : ℕ) (t : List ℕ) → OnlyMarks n t t
only-all n t = record { size = refl; words = λ j h. refl; beyond = λ j h. refl }

pub only-both : {n : ℕ} {t u v : List ℕ} → OnlyMarks n t u → OnlyMarks n u v → OnlyMarks n t v
only-both k l = record { size = l.size ∙ k.size; words = λ j h. l.words j h ∙ k.words j h; beyond = λ j h. l.beyond j h ∙ k.beyond j h }

pub only_if : {n : ℕ} {t u : List ℕ} (b : Bool) → OnlyMarks n t u → OnlyMarks n t (cond b u t)
only_if true k = k
only_if {n} {t} false k = only-all n t

only_set : (n : ℕ) (t : List ℕ) (i x : ℕ) → i % 16 ≡ 2 → i < n → OnlyMarks n t (set t i x)
only_set n t i x e h =
    record { size = length-set t i x; words = λ j d. get_or-set_other t i j x 0 (λ q. d (rw q e)); beyond = λ j l. get_or-set_other t i j x 0 (omega arith) }

pub only-mark : (c : ℕ) (t : List ℕ) (m r b : ℕ) → m < 16 → r ≤ c → OnlyMarks (used_length c) t (set_mark t m r b)
unfolding set_mark
only-mark c t m r b h l = only_set (used_length c) t (record_start m r + 2) b (omega arith) (omega arith)

pub only-block : (c : ℕ) (t : List ℕ) (k r : ℕ) → k ≤ c → OnlyMarks (used_length c) t (set_block t k r)
unfolding set_block
only-block c t k r l = only_set (used_length c) t (k * row_length + 2) r (omega arith) (omega arith)

-- ---- what is kept

module _ {n : ℕ} {t u : List ℕ} (o : OnlyMarks n t u) where
  pub held-set-marked : (r : ℕ) → held_set u r ≡ held_set t r
  unfolding held_set
  held-set-marked r = o.words (r * row_length) (λ e. omega arith)

  pub endorsed-set-marked : (r : ℕ) → endorsed_set u r ≡ endorsed_set t r
  unfolding endorsed_set
  endorsed-set-marked r = o.words (r * row_length + 1) (λ e. omega arith)

  pub held-marked : (m r : ℕ) → held_at u m r ≡ held_at t m r
  unfolding held_at
  held-marked m r = rw (held-set-marked r) refl

  pub endorsed-marked : (m r : ℕ) → endorsed_at u m r ≡ endorsed_at t m r
  unfolding endorsed_at
  endorsed-marked m r = rw (endorsed-set-marked r) refl

  pub word-marked : (m r k : ℕ) → k < record_length → k ≢ 2 → record_word u m r k ≡ record_word t m r k
  unfolding record_word
  word-marked m r k h d = o.words (record_start m r + k) (λ e. d (omega arith))

  pub previous-marked : (m r : ℕ) → previous_at u m r ≡ previous_at t m r
  previous-marked m r = previous-same t u m r (word-marked m r)

  pub content-marked : (m r : ℕ) → content_at u m r ≡ content_at t m r
  content-marked m r = content-same t u m r (word-marked m r)

  pub certificate-marked : (m r : ℕ) → certificate_at u m r ≡ certificate_at t m r
  certificate-marked m r = certificate-same t u m r (held-marked m r) (λ _. word-marked m r)

  pub beyond-marked : drop n u ≡ drop n t
  beyond-marked = same-beyond t u n o.size o.beyond

-- ---- marks

-- a word is the mark of one place only
one_place : (m r a q : ℕ) → m < 16 → a < 16 → record_start m r + 2 ≡ record_start a q + 2 → (m ≡ a) × (r ≡ q)
one_place m r a q h k e = go (dec_lt r q) (dec_lt q r)
  where
    go : Dec (r < q) → Dec (q < r) → (m ≡ a) × (r ≡ q)
    go (yes l) d = absurd (omega arith)
    go (no n) (yes l) = absurd (omega arith)
    go (no n) (no l) = let i : r ≡ q = omega arith in (omega arith, i)

-- nor is it a block's round
no_block : (m r k : ℕ) → m < 16 → record_start m r + 2 ≢ k * row_length + 2
no_block m r k h e = go (dec_lt r k)
  where
    go : Dec (r < k) → ⊥
    go (yes l) = omega arith
    go (no l) = omega arith

pub mark-same : (t : List ℕ) (a q b : ℕ) → Within t a q → mark_at (set_mark t a q b) a q ≡ b
unfolding mark_at record_word set_mark
mark-same t a q b at = get_or-set_same t (record_start a q + 2) b 0 (omega arith)

pub mark-other : (t : List ℕ) (a q b m r : ℕ) → a < 16 → m < 16 → same_place m r a q ≡ false → mark_at (set_mark t a q b) m r ≡ mark_at t m r
unfolding mark_at record_word set_mark
mark-other t a q b m r k h n =
    get_or-set_other t (record_start a q + 2) (record_start m r + 2) b 0 (λ e. let z = one_place m r a q h k e in other_place m r a q n z.0 z.1)

pub mark-block : (t : List ℕ) (k q m r : ℕ) → m < 16 → mark_at (set_block t k q) m r ≡ mark_at t m r
unfolding mark_at record_word set_block
mark-block t k q m r h = get_or-set_other t (k * row_length + 2) (record_start m r + 2) q 0 (no_block m r k h)

-- ---- block rounds

pub block-round-same : (t : List ℕ) (k r : ℕ) → Row t k → block_round (set_block t k r) k ≡ r
unfolding block_round set_block
block-round-same t k r h = get_or-set_same t (k * row_length + 2) r 0 (omega arith)

pub block-round-other : (t : List ℕ) (k r j : ℕ) → j ≢ k → block_round (set_block t k r) j ≡ block_round t j
unfolding block_round set_block
block-round-other t k r j n = get_or-set_other t (k * row_length + 2) (j * row_length + 2) r 0 (λ e. n (omega arith))

pub block-round-mark : (t : List ℕ) (m r b k : ℕ) → m < 16 → block_round (set_mark t m r b) k ≡ block_round t k
unfolding block_round set_mark
block-round-mark t m r b k h = get_or-set_other t (record_start m r + 2) (k * row_length + 2) b 0 (λ e. no_block m r k h (sym e))
