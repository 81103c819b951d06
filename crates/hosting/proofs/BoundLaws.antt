-- The claims of a bond's effect, over words.
use Rattle.std.proofs.Common.{◌≡◌, refl, sym, ap, ap₂, ◌∙◌, true, List, [], ◌∷◌, ◌++◌, ℕ, ◌+◌, ◌<◌, ◌≤◌, arith, length, length-append, get_or, leb, get_or-append-add, leb-true}
use Rattle.base.proofs.Words.{get_or-append, paste, get_or-append_seam}
use Rattle.base.proofs.Bools.{both}
use Rattle.base.proofs.FoldLaws.{length-tab}
use Rattle.base.proofs.PasteLaws.{paste-inside}
use Rattle.terms.specs.declared.Member.{Member}
use Rattle.terms.specs.declared.Round.{Round}
use Rattle.committee.specs.Shares.{apart}
use Rattle.committee.specs.declared.effects.Effect.{Effect}
use Rattle.rules.specs.Reads.{share_read, effect_read}
use Rattle.state.specs.View.{view}
use Rattle.reads.specs.Bounds.{moved_at, total_at}
use Rattle.reads.specs.Reads.{share_refusal, effect_refusal}
use Rattle.reads.proofs.BoundLaws.{effect_bounded, none_moves_further, one_moves_as_far, member_shared, effect_of_shares}
use Rattle.engine.specs.Calls.{share, effect, aside}
use Rattle.engine.proofs.ValueLaws.{value-accepted}
use Rattle.words.specs.Lengths.{effect_length}
use Rattle.words.specs.Words.{word, sixteen}
use Rattle.words.proofs.PasteLaws.{length-sixteen, in_sixteen}
use Rattle.words.specs.Effects.{effect_words}
use Rattle.words.specs.States.{settings_in, state_reads, state_in}
use Rattle.hosting.specs.Calls.{engine_in, result_of}
use Rattle.hosting.specs.Bounds.{effect_result, moved_in}
use Rattle.hosting.proofs.CallLaws.{accepted-call}
use Rattle.committee.specs.BondEffects.{most_moved}

-- the words of an effect: the largest difference is the last
module _ (x : Effect) where
  length_both : length (sixteen x.before ++ sixteen x.after) ≡ 32
  length_both = length-append (sixteen x.before) (sixteen x.after) ∙ ap₂ (λ (y z : ℕ). y + z) (length-sixteen x.before) (length-sixteen x.after)

  length-effect : length (effect_words x) ≡ 33
  unfolding effect_words
  length-effect = length-append (sixteen x.before ++ sixteen x.after) (x.largest ∷ []) ∙ ap (λ (n : ℕ). n + 1) length_both

  -- each word of it
  word-before : (i : ℕ) → i < 16 → word (effect_words x) i ≡ get_or x.before i 0
  unfolding effect_words
  word-before i h =
      get_or-append (sixteen x.before ++ sixteen x.after) (x.largest ∷ []) 0 i (omega (arith, length_both))
      ∙ get_or-append (sixteen x.before) (sixteen x.after) 0 i (omega (arith, length-sixteen x.before))
      ∙ in_sixteen x.before i h

  word_after : (i : ℕ) → i < 16 → word (effect_words x) (16 + i) ≡ get_or x.after i 0
  unfolding effect_words
  word_after i h =
      get_or-append (sixteen x.before ++ sixteen x.after) (x.largest ∷ []) 0 (16 + i) (omega (arith, length_both))
      ∙ ap (λ (k : ℕ). get_or (sixteen x.before ++ sixteen x.after) (k + i) 0) (sym (length-sixteen x.before))
      ∙ get_or-append-add (sixteen x.before) (sixteen x.after) i 0
      ∙ in_sixteen x.after i h

  word-largest : word (effect_words x) 32 ≡ x.largest
  unfolding effect_words
  word-largest =
      ap (λ (k : ℕ). get_or (sixteen x.before ++ sixteen x.after ++ (x.largest ∷ [])) k 0) (sym length_both)
      ∙ get_or-append_seam (sixteen x.before ++ sixteen x.after) x.largest [] 0

-- the words of an effect in an out stretch
pub record Told (o : List ℕ) (x : Effect) : Type 0 where
  pub before : (i : ℕ) → i < 16 → word o i ≡ get_or x.before i 0
  pub after : (i : ℕ) → i < 16 → word o (16 + i) ≡ get_or x.after i 0
  pub largest : word o 32 ≡ x.largest

put-told : (x : Effect) (o : List ℕ) → effect_length ≤ length o → Told (paste o 0 (effect_words x) effect_length) x
put-told x o h =
    let put : (k : ℕ) → k < 33 → word (paste o 0 (effect_words x) effect_length) (0 + k) ≡ word (effect_words x) k = paste-inside o 0 (effect_words x) effect_length (omega arith) (length-effect x) in
    let at : (k : ℕ) → k < 33 → word (paste o 0 (effect_words x) effect_length) k ≡ word (effect_words x) k = λ k l. let z : 0 + k ≡ k = omega arith in rw z at (put k l) in
    record {
      before = λ i l. at i (omega arith) ∙ word-before x i l;
      after = λ i l. at (16 + i) (omega arith) ∙ word_after x i l;
      largest = at 32 (omega arith) ∙ word-largest x;
    }

weights-long : (w : List ℕ) → length (state_in w).settings.weights ≡ 16
unfolding state_in settings_in
weights-long w = length-tab _ 16

module _ (w t o : List ℕ) (m : Member) (r : Round) (a : ℕ) (z : (effect_result w t o m r a).refusal ≡ 0) where
  abbrev told : Effect
  told = effect_read (state_in w).settings (view (state_in w) t) m.0 r a

  accepted : effect_refusal (state_in w) t m.0 r a ≡ 0
  unfolding effect_refusal
  accepted = (accepted-call w t o true (aside (effect m r a)) z).accepted

  -- the out stretch tells the effect
  out-told : Told (effect_result w t o m r a).out told
  out-told =
      let c = accepted-call w t o true (aside (effect m r a)) z in
      let room = leb-true effect_length (length o) (both (state_reads w) (leb effect_length (length o)) c.serving).1 in
      rw (c.its_out, value-accepted (engine_in w t) (aside (effect m r a)) c.accepted) (put-told told o room)

-- the largest difference is within the bound
pub bounded_over_words : (w t o : List ℕ) (m : Member) (r : Round) (a : ℕ) → (effect_result w t o m r a).refusal ≡ 0 → word (effect_result w t o m r a).out 32 ≤ most_moved (total_at (state_in w) t r) a
bounded_over_words w t o m r a z =
    let b = effect_bounded (state_in w) t (weights-long w) m.0 r a (accepted w t o m r a z) in
    omega (arith, b, (out-told w t o m r a z).largest)

-- in the words the shares move as in the effect
moved-told : (w t o : List ℕ) (m : Member) (r : Round) (a : ℕ) (z : (effect_result w t o m r a).refusal ≡ 0) (i : ℕ) → i < 16 → moved_in (effect_result w t o m r a).out i ≡ moved_at (told w t o m r a z) i
moved-told w t o m r a z i h = let x = out-told w t o m r a z in ap₂ (λ (y z : ℕ). apart y z) (x.before i h) (x.after i h)

-- no share moves further
pub none_moves_further_over_words : (w t o : List ℕ) (m : Member) (r : Round) (a : ℕ) → (effect_result w t o m r a).refusal ≡ 0 → (i : ℕ) → i < 16
    → moved_in (effect_result w t o m r a).out i ≤ word (effect_result w t o m r a).out 32
none_moves_further_over_words w t o m r a z i h =
    rw (moved-told w t o m r a z i h, (out-told w t o m r a z).largest) (none_moves_further (state_in w) t m.0 r a (accepted w t o m r a z) i h)

-- and one moves as far
pub one_moves_as_far_over_words : (w t o : List ℕ) (m : Member) (r : Round) (a : ℕ) → (effect_result w t o m r a).refusal ≡ 0
    → (i : ℕ) × (i < 16) × (moved_in (effect_result w t o m r a).out i ≡ word (effect_result w t o m r a).out 32)
one_moves_as_far_over_words w t o m r a z =
    let l = one_moves_as_far (state_in w) t m.0 r a (accepted w t o m r a z) in
    (l.0, l.1, rw (moved-told w t o m r a z l.0 l.1, (out-told w t o m r a z).largest) l.2)

-- the value of a share's read
share-told : (w t : List ℕ) (i : Member) (r : Round) → (result_of w t [] true (aside (share i r))).refusal ≡ 0
    → (share_refusal (state_in w) t i.0 r ≡ 0) × ((result_of w t [] true (aside (share i r))).value ≡ share_read (state_in w).settings (view (state_in w) t) i.0 r)
unfolding result_of share_refusal
share-told w t i r z =
    let c = accepted-call w t [] true (aside (share i r)) z in
    (c.accepted, rw (c.serving, value-accepted (engine_in w t) (aside (share i r)) c.accepted) refl)

-- where the share of member i can be read too, it is word i
pub shares_over_words : (w t o : List ℕ) (m i : Member) (r : Round) (a : ℕ) → (effect_result w t o m r a).refusal ≡ 0 → (result_of w t [] true (aside (share i r))).refusal ≡ 0
    → word (effect_result w t o m r a).out i.0 ≡ (result_of w t [] true (aside (share i r))).value
shares_over_words w t o m i r a z y =
    let s = share-told w t i r y in
    (out-told w t o m r a z).before i.0 (member_shared (state_in w) t i.0 r s.0)
    ∙ effect_of_shares (state_in w) t m.0 r a i.0 (accepted w t o m r a z) s.0
    ∙ sym s.1
