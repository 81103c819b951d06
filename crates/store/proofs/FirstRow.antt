-- Row 0 of the table, which no rule speaks of: the store's writes leave it, and a write to it alone leaves all that the rules see.
use Rattle.std.proofs.Common.{◌≡◌, refl, sym, ap, ◌∙◌, List, ℕ, ◌+◌, ◌*◌, ◌<◌, ◌≤◌, arith, length, get_or, set, drop, length-set, get_or-take, get_or-set_other}
use Rattle.base.proofs.Words.{get_or-replicate, paste, length-paste}
use Rattle.base.specs.Sets.{insert, remove}
use Rattle.base.proofs.PasteLaws.{paste-below, paste-over}
use Rattle.terms.specs.Proposals.{Content}
use Rattle.store.specs.Table.{row_length, record_length, record_start, used_length, Within, held_set, endorsed_set, block_round, held_at, endorsed_at, record_word, previous_at, count_at, mark_at, endorsers_at, content_at, certificate_at}
use Rattle.store.specs.Writes.{put_transaction, record_of, put_record, put_certificate, set_endorsed, clear_endorsed, set_held, clear_held, set_mark, set_block, clear_used}
use Rattle.store.proofs.WriteLaws.{count_same, previous-same, endorsers-same, content-same, certificate-same, same-beyond}
use Rattle.store.proofs.ClearLaws.{cleared-take}

-- ---- a write to row 0

-- only row 0 differs
pub record OnlyFirst (t u : List ℕ) : Type 0 where
  pub size : length u ≡ length t
  pub rest : (i : ℕ) → row_length ≤ i → get_or u i 0 ≡ get_or t i 0

pub only_same : (t : List ℕ) → OnlyFirst t t
only_same t = record { size = refl; rest = λ i h. refl }

pub only_then : {t u v : List ℕ} → OnlyFirst t u → OnlyFirst u v → OnlyFirst t v
only_then k l = record { size = l.size ∙ k.size; rest = λ i h. l.rest i h ∙ k.rest i h }

pub only_set : (t : List ℕ) (i x : ℕ) → i < row_length → OnlyFirst t (set t i x)
only_set t i x h = record { size = length-set t i x; rest = λ j l. get_or-set_other t i j x 0 (omega arith) }

pub only-paste : (t : List ℕ) (at : ℕ) (w : List ℕ) (n : ℕ) → at + n ≤ row_length → at + n ≤ length t → n ≤ length w → OnlyFirst t (paste t at w n)
only-paste t at w n h l k = record { size = length-paste t at w n l k; rest = λ i j. paste-over t at w n l k i (omega arith) }

module _ {t u : List ℕ} (o : OnlyFirst t u) where
  pub only-beyond : (n : ℕ) → drop (used_length n) u ≡ drop (used_length n) t
  only-beyond n = same-beyond t u (used_length n) o.size (λ i h. o.rest i (omega arith))

  -- the round of a block
  pub block-round-only : (k : ℕ) → 0 < k → block_round u k ≡ block_round t k
  unfolding block_round
  block-round-only k h = o.rest (k * row_length + 2) (omega arith)

  -- the rows from round 1 on
  module _ (r : ℕ) (from : 0 < r) where
    pub held-set-only : held_set u r ≡ held_set t r
    unfolding held_set
    held-set-only = o.rest (r * row_length) (omega arith)

    pub endorsed-set-only : endorsed_set u r ≡ endorsed_set t r
    unfolding endorsed_set
    endorsed-set-only = o.rest (r * row_length + 1) (omega arith)

  module _ (m r : ℕ) (from : 0 < r) where
    pub held-only : held_at u m r ≡ held_at t m r
    unfolding held_at
    held-only = rw (held-set-only r from) refl

    pub endorsed-only : endorsed_at u m r ≡ endorsed_at t m r
    unfolding endorsed_at
    endorsed-only = rw (endorsed-set-only r from) refl

    pub word-only : (k : ℕ) → record_word u m r k ≡ record_word t m r k
    unfolding record_word
    word-only k = o.rest (record_start m r + k) (omega arith)

    pub mark-only : mark_at u m r ≡ mark_at t m r
    unfolding mark_at
    mark-only = word-only 2

    pub count-only : count_at u m r ≡ count_at t m r
    count-only = count_same t u m r (λ k _ _. word-only k)

    pub previous-only : previous_at u m r ≡ previous_at t m r
    previous-only = previous-same t u m r (λ k _ _. word-only k)

    pub endorsers-only : endorsers_at u m r ≡ endorsers_at t m r
    endorsers-only = endorsers-same t u m r (λ k _ _. word-only k)

    pub content-only : content_at u m r ≡ content_at t m r
    content-only = content-same t u m r (λ k _ _. word-only k)

    pub certificate-only : certificate_at u m r ≡ certificate_at t m r
    certificate-only = certificate-same t u m r held-only (λ _ k _ _. word-only k)

-- ---- the store's writes

-- row 0 is the same
abbrev pub SameFirst : List ℕ → List ℕ → Type 0
SameFirst t u = (j : ℕ) → j < row_length → get_or u j 0 ≡ get_or t j 0

pub first-same : (t : List ℕ) → SameFirst t t
first-same t j h = refl

pub same_then : (t u v : List ℕ) → SameFirst t u → SameFirst u v → SameFirst t v
same_then t u v k l j h = l j h ∙ k j h

set_first : (t : List ℕ) (i x : ℕ) → row_length ≤ i → SameFirst t (set t i x)
set_first t i x h j l = get_or-set_other t i j x 0 (omega arith)

pub set-mark-first : (t : List ℕ) (m r b : ℕ) → 0 < r → SameFirst t (set_mark t m r b)
unfolding set_mark
set-mark-first t m r b h = set_first t (record_start m r + 2) b (omega arith)

pub set-block-first : (t : List ℕ) (k r : ℕ) → 0 < k → SameFirst t (set_block t k r)
unfolding set_block
set-block-first t k r h = set_first t (k * row_length + 2) r (omega arith)

module _ (t : List ℕ) (m r : ℕ) (from : 0 < r) where
  pub set-endorsed-first : SameFirst t (set_endorsed t m r)
  unfolding set_endorsed
  set-endorsed-first = set_first t (r * row_length + 1) (insert (endorsed_set t r) m) (omega arith)

  pub clear-held-first : SameFirst t (clear_held t m r)
  unfolding clear_held set_held
  clear-held-first = set_first t (r * row_length) (remove (held_set t r) m) (omega arith)

  pub clear-endorsed-first : SameFirst t (clear_endorsed t m r)
  unfolding clear_endorsed
  clear-endorsed-first = set_first t (r * row_length + 1) (remove (endorsed_set t r) m) (omega arith)

pub put_first : (t : List ℕ) (p : Content) (d : ℕ) → Within t p.author p.round → 0 < p.round → SameFirst t (put_certificate t p d)
unfolding put_certificate put_record record_of put_transaction
put_first t p d at h =
    let b = record_start p.author p.round in
    let w = record_of p d in
    let u = paste t b w record_length in
    same_then t u (put_certificate t p d) (λ j l. paste-below t b w record_length (omega arith) refl j (omega arith)) (set_first u (p.round * row_length) (insert (held_set t p.round) p.author) (omega arith))

-- a cleared table has nothing there
pub cleared-first : (t : List ℕ) (n j : ℕ) → j < row_length → get_or (clear_used t n) j 0 ≡ 0
cleared-first t n j h =
    let l : j < used_length n = omega arith in
    sym (get_or-take (used_length n) (clear_used t n) j 0 l) ∙ ap (λ (u : List ℕ). get_or u j 0) (cleared-take t n) ∙ get_or-replicate (used_length n) j 0 0 l
