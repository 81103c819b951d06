-- Laws of certificates as words.
use Rattle.std.proofs.Common.{◌≡◌, refl, ap, sym, ◌∙◌, true, List, [], ◌∷◌, ◌++◌, map, append_assoc, append-nil, ℕ, ◌+◌, ◌-◌, ◌/◌, ◌%◌, ◌≤◌, arith, length, length-append, take, drop, take_all}
use Rattle.std.proofs.lemmas.List.{map-append}
use Rattle.std.proofs.lemmas.Slice.{put_mid-paste}
use Rattle.base.proofs.Words.{mid_of, put_mid, mid_len, paste, sets, sets-eq}
use Rattle.std.proofs.lemmas.List.{drop_all}
use Rattle.terms.specs.Proposals.{Content}
use Rattle.terms.specs.declared.Proposal.{Proposal}
use Rattle.reads.specs.declared.Held.{Held}
use Rattle.base.specs.Puts.{Puts}
use Rattle.base.proofs.PutLaws.{puts_then, puts_as}
use Rattle.store.specs.Table.{held_at, mark_at, content_at, endorsers_at, proposal_of}
use Rattle.words.specs.Lengths.{held_length}
use Rattle.words.specs.Bodies.{body_words}
use Rattle.words.proofs.BodyLaws.{length-body}
use Rattle.words.specs.Proposals.{held_words}
use Rattle.spans.specs.Spans.{stored, words_of, block_words}
use Rattle.spans.specs.Rows.{place_held, HeldFits, PutsHeld}
use Rattle.spans.proofs.RowLaws.{held_present}

pub held-length : (p : Proposal) (d k : ℕ) → length (held_words p d k) ≡ held_length
unfolding held_words
held-length p d k =
    let head = p.author.0 ∷ p.round ∷ [] in
    rw (length-append (head ++ body_words p.body) (d ∷ k ∷ []), length-append head (body_words p.body), length-body p.body) refl

-- as many words as a stretch is long, put over it
pasted : (t : List ℕ) (b : ℕ) (w : List ℕ) (n : ℕ) → length w ≡ n → b + n ≤ length t → paste t b w n ≡ sets t b w
pasted t b w n e h =
    let i : b + length w ≤ length t = omega arith in
    ap (λ (z : List ℕ). take b t ++ z ++ drop (b + n) t) (take_all n w (omega arith))
    ∙ ap (λ (k : ℕ). take b t ++ w ++ drop (b + k) t) (sym e)
    ∙ sym (sets-eq w t b i)

whole : (x w : List ℕ) (n : ℕ) → length w ≡ n → length x ≡ n → paste x 0 w n ≡ w
whole x w n e h =
    let z : 0 + n ≡ n = omega arith in
    rw (take_all n w (omega arith), z, drop_all n x (omega arith)) (append-nil w)

-- put over a part of a list
pub held_put : (q : Proposal) (d k at : ℕ) {t u : List ℕ} → at + held_length ≤ length t → u ≡ paste (mid_of at (at + held_length - at) t) 0 (held_words q d k) held_length
    → Puts t (put_mid at (at + held_length - at) t u) at (at + held_length) (held_words q d k) held_length
held_put q d k at {t} {u} h e =
    let w = held_words q d k in
    let n = held-length q d k in
    let i : at + held_length - at ≡ held_length = omega arith in
    let l = mid_len at (at + held_length) t h in
    record {
      bytes = put_mid-paste at (at + held_length - at) t u w held_length (e ∙ whole _ w held_length n (l ∙ i)) (sym i) (sym n) ∙ pasted t at w held_length n h;
      past = rw n refl;
      room = omega arith;
    }

-- those of certificates after those of others
pub words-join : (l m : List Held) → words_of (l ++ m) ≡ words_of l ++ words_of m
unfolding words_of
words-join [] m = refl
words-join (h ∷ l) m = rw (words-join l m) (sym (append_assoc (held_words h.proposal h.endorsers h.block) (words_of l) (words_of m)))

module _ (t : List ℕ) (k : ℕ) where
  pub words_none : block_words t k [] ≡ []
  unfolding words_of
  words_none = refl

  words-append : (l m : List Content) → block_words t k (l ++ m) ≡ block_words t k l ++ block_words t k m
  words-append l m = rw (map-append (stored t k) l m) (words-join (map (stored t k) l) (map (stored t k) m))

  -- certificates put after others
  pub put_then : {x y z : List ℕ} {at mid to : ℕ} (l m : List Content) → PutsHeld x y at mid t k l → PutsHeld y z mid to t k m → PutsHeld x z at to t k (l ++ m)
  put_then l m p q = puts_as (words-append l m) (omega (arith, length-append l m)) (puts_then p q)

  -- that of a place
  pub place_room : (p at : ℕ) (x : List ℕ) → held_at t (p % 16) (p / 16) ≡ true → mark_at t (p % 16) (p / 16) ≡ k → HeldFits x at (place_held t k p) → at + held_length ≤ length x
  place_room p at x h m r = let e = ap length (held_present t k p h m) in omega (arith, r)

  pub place_put : (p : ℕ) {q : Proposal} {d : ℕ} {x y : List ℕ} {at to : ℕ} → held_at t (p % 16) (p / 16) ≡ true → mark_at t (p % 16) (p / 16) ≡ k → q ≡ proposal_of (content_at t (p % 16) (p / 16)) → d ≡ endorsers_at t (p % 16) (p / 16)
      → Puts x y at to (held_words q d k) held_length → PutsHeld x y at to t k (place_held t k p)
  unfolding words_of stored content_at
  place_put p h m e f z = rw (held_present t k p h m, ← e, ← f) (puts_as (append-nil _) (omega arith) z)
