-- A store into a longer stretch: load takes the front that store wrote, and refuses every other one.
use Rattle.std.proofs.Common.{◌≡◌, ◌≢◌, refl, ap, sym, ◌∙◌, Bool, true, false, not, List, ℕ, ◌+◌, ◌*◌, ◌<◌, ◌≤◌, ◌==◌, ltb, ltb-false, ne_eqb, arith, length, get_or, take, drop, length-take-le, slice_index}
use Rattle.std.proofs.Math.Seq.{paste, length-paste, take-paste, drop-paste}
use Rattle.std.proofs.lemmas.List.{take_all, get_or-take}
use Rattle.base.specs.Checks.{refusal}
use Rattle.base.proofs.CheckLaws.{passes, refuses}
use Rattle.storing.specs.declared.stored.TheConstants.{MARK, FORMAT}
use Rattle.storing.specs.Bytes.{word_in}
use Rattle.storing.specs.Stored.{ceiling_of, covered_words, stored, stored_length}
use Rattle.storing.specs.Storing.{stored_over}
use Rattle.storing.specs.Round.{IsStored}
use Rattle.storing.specs.Loading.{ceiling_in, load_checks, load_refusal}
use Rattle.storing.proofs.RoundLaws.{Taken, taken, one_back, ceiling_cut, marks_cut, length-stored}

-- bytes with the mark and the format, of another length than their ceiling says
torn : (b : List ℕ) (own run n m : ℕ) → (stored_length 0 ≤ length b → (word_in b 0 ≡ MARK) × (word_in b 1 ≡ FORMAT) × (length b ≢ stored_length (ceiling_in b))) → load_refusal b own run n m ≡ 105
unfolding load_refusal
torn b own run n m f = go (ltb (length b) (stored_length 0)) refl
  where
    go : (x : Bool) → ltb (length b) (stored_length 0) ≡ x → refusal (load_checks b own run n m) ≡ 105
    go true e = refuses 105 _ e
    go false e =
        let g = f (ltb-false (length b) (stored_length 0) e) in
        passes 105 _ e
        ∙ passes 103 _ (ap (λ (i : ℕ). not (i == MARK)) g.0)
        ∙ passes 104 _ (ap (λ (i : ℕ). not (i == FORMAT)) g.1)
        ∙ refuses 105 _ (ap not (ne_eqb (length b) (stored_length (ceiling_in b)) g.2))

module _ (run : ℕ) (w t b : List ℕ) (s : IsStored run w t b) where
  p : Taken w (length t) (length b)
  p = taken w (length t) (length b) s.accepted

  long : length (stored run w t) ≡ stored_length (ceiling_of w)
  long = length-stored run w t s.state s.table s.run_fits p.long p.table

  over : stored_over run w t b ≡ paste b 0 (stored run w t) (stored_length (ceiling_of w))
  unfolding stored_over
  over = rw s.accepted refl

  pub front_written : take (stored_length (ceiling_of w)) (stored_over run w t b) ≡ stored run w t
  front_written =
      let n = stored_length (ceiling_of w) in
      let x = stored run w t in
      let z : n ≡ 0 + n = omega arith in
      ap (take n) over
      ∙ ap (λ (i : ℕ). take i (paste b 0 x n)) z
      ∙ take-paste b 0 x n (omega arith) (omega (arith, long))
      ∙ take_all n x (omega (arith, long))

  pub rest_kept : drop (stored_length (ceiling_of w)) (stored_over run w t b) ≡ drop (stored_length (ceiling_of w)) b
  rest_kept =
      let n = stored_length (ceiling_of w) in
      let x = stored run w t in
      let z : n ≡ 0 + n = omega arith in
      ap (drop n) over
      ∙ ap (λ (i : ℕ). drop i (paste b 0 x n)) z
      ∙ drop-paste b 0 x n (omega arith) (omega (arith, long))
      ∙ ap (λ (i : ℕ). drop i b) (sym z)

  length-over : length (stored_over run w t b) ≡ length b
  length-over = ap length over ∙ length-paste b 0 (stored run w t) (stored_length (ceiling_of w)) (omega (arith, p.room)) (omega (arith, long))

  -- what a front has of the bytes that were written
  module _ (k : ℕ) where
    byte_of_front : (j : ℕ) → j < k → j < stored_length (ceiling_of w) → slice_index (take k (stored_over run w t b)) j ≡ slice_index (stored run w t) j
    byte_of_front j h l =
        get_or-take k (stored_over run w t b) j 0 h
        ∙ sym (get_or-take (stored_length (ceiling_of w)) (stored_over run w t b) j 0 l)
        ∙ ap (λ (x : List ℕ). get_or x j 0) front_written

    word_of_front : (i : ℕ) → 4 * i + 4 ≤ k → 4 * i + 4 ≤ stored_length (ceiling_of w) → word_in (take k (stored_over run w t b)) i ≡ word_in (stored run w t) i
    unfolding word_in
    word_of_front i h l =
        rw (byte_of_front (4 * i) (omega arith) (omega arith), byte_of_front (4 * i + 1) (omega arith) (omega arith), byte_of_front (4 * i + 2) (omega arith) (omega arith), byte_of_front (4 * i + 3) (omega arith) (omega arith)) refl

    word_put : (i : ℕ) → i < 43 → 4 * i + 4 ≤ k → word_in (take k (stored_over run w t b)) i ≡ get_or (covered_words run w t) i 0
    word_put i g h = word_of_front i h (omega arith) ∙ one_back run w t s.state s.table s.run_fits p.long p.table i (omega arith)

    pub other_torn : (own run' n m : ℕ) → k ≤ length b → k ≢ stored_length (ceiling_of w) → load_refusal (take k (stored_over run w t b)) own run' n m ≡ 105
    other_torn own run' n m h d =
        let l : length (take k (stored_over run w t b)) ≡ k = length-take-le k (stored_over run w t b) (omega (arith, length-over)) in
        let marks = marks_cut run w t s.state s.table s.run_fits p.long p.table in
        torn (take k (stored_over run w t b)) own run' n m λ e.
        let c : ceiling_in (take k (stored_over run w t b)) ≡ ceiling_of w = word_put 6 (omega arith) (omega (arith, l)) ∙ ceiling_cut run w t s.state s.table s.run_fits p.long p.table in
        (word_put 0 (omega arith) (omega (arith, l)) ∙ marks.0, word_put 1 (omega arith) (omega (arith, l)) ∙ marks.1, λ x. d (sym l ∙ x ∙ ap stored_length c))

  pub whole_torn : (own run' n m : ℕ) → stored_length (ceiling_of w) < length b → load_refusal (stored_over run w t b) own run' n m ≡ 105
  whole_torn own run' n m h =
      ap (λ (x : List ℕ). load_refusal x own run' n m) (sym (take_all (length b) (stored_over run w t b) (omega (arith, length-over))))
      ∙ other_torn (length b) own run' n m (omega arith) (λ e. absurd (omega (arith, e)))
