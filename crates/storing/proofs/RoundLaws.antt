-- To load gives back what was stored, and takes nothing else.
use Rattle.std.proofs.Common.{◌≡◌, refl, ap, ap₂, sym, ◌∙◌, Bool, true, false, not, List, [], ◌∷◌, ◌++◌, ℕ, zero, suc, ◌+◌, ◌*◌, ◌/◌, ◌%◌, ◌<◌, ◌≤◌, ◌==◌, ◌||◌, ltb, eq-eqb, le-ltb, eqb-true, ltb-false, arith, length, length-append, get_or, take, drop, length-take-le, take-append-drop}
use Rattle.std.specs.Str.{bytes_eq}
use Rattle.std.proofs.lemmas.Slice.Eq.{bytes_eq-Decides}
use Rattle.std.proofs.lemmas.List.{take_at, drop_at, take_all, get_or-take}
use Rattle.base.proofs.Words.{get_or-append}
use Rattle.sha2.specs.Sha256.{sha256}
use Rattle.base.proofs.CheckLaws.{numbered, passes, passes-all}
use Rattle.base.proofs.Passed.{passed}
use Rattle.store.specs.Table.{used_length}
use Rattle.words.specs.Lengths.{state_length}
use Rattle.words.specs.Words.{word}
use Rattle.words.specs.States.{state_reads}
use Rattle.words.specs.declared.places.TheConstants.{STATE_OWN}
use Rattle.words.proofs.SameLaws.{state-reads-same}
use Rattle.base.specs.Parts.{part}
use Rattle.base.specs.Folds.{tab}
use Rattle.storing.specs.declared.stored.TheConstants.{MARK, FORMAT}
use Rattle.storing.specs.Bytes.{bytes_of, word_in, words_in, IsWords, IsBytes}
use Rattle.storing.specs.Stored.{head_words, ceiling_of, covered_length, covered_words, stored, stored_length}
use Rattle.storing.specs.Storing.{store_refusal}
use Rattle.storing.specs.Round.{IsStored, HasRoom}
use Rattle.storing.specs.Loading.{own_in, ceiling_in, run_in, state_words_in, table_words_in, digest_fits, load_refusal, loaded_state, loaded_table}
use Rattle.storing.proofs.StoredLaws.{reads_long, length-sha256, length-covered, length-covered_bytes}
use Rattle.storing.proofs.ReadLaws.{word-below, taken_below, joined_below, word_back, words_back, bytes_back, words_join, length-words_in, get_or-words_in}

-- two lists one after the other, cut at the seam
cut : (a b : List ℕ) (n : ℕ) → length a ≡ n → (take n (a ++ b) ≡ a) × (drop n (a ++ b) ≡ b)
cut a b n e = (take_at a b n e, drop_at a b n e)

equal_bytes : (b : List ℕ) → bytes_eq b b ≡ true
equal_bytes b = (bytes_eq-Decides b b).1 refl

module _ (run : ℕ) (w t : List ℕ) (fw : IsWords w) (ft : IsWords t) (hr : run < 18446744073709551616) (hw : state_length ≤ length w) (ht : used_length (ceiling_of w) ≤ length t) where
  head_fits : IsWords (head_words run)
  head_fits zero = omega arith
  head_fits (suc zero) = omega arith
  head_fits (suc (suc zero)) = omega arith
  head_fits (suc (suc (suc zero))) = omega arith
  head_fits (suc (suc (suc (suc k)))) = omega arith

  covered_fits : IsWords (covered_words run w t)
  unfolding covered_words
  covered_fits =
      joined_below 4294967296 (head_words run ++ take state_length w) (take (used_length (ceiling_of w)) t)
      (joined_below 4294967296 (head_words run) (take state_length w) head_fits (taken_below 4294967296 w state_length (omega arith) fw))
      (taken_below 4294967296 t (used_length (ceiling_of w)) (omega arith) ft)

  -- words of those before the digest
  stretch_back : (k n : ℕ) → k + n ≤ covered_length (ceiling_of w) → words_in (stored run w t) k n ≡ part (covered_words run w t) k n
  unfolding stored
  stretch_back k n h = words_back (covered_words run w t) (sha256 (bytes_of (covered_words run w t))) k n covered_fits (omega (arith, length-covered run w t hw ht))

  pub one_back : (k : ℕ) → k < covered_length (ceiling_of w) → word_in (stored run w t) k ≡ get_or (covered_words run w t) k 0
  unfolding stored
  one_back k h = word_back (covered_words run w t) (sha256 (bytes_of (covered_words run w t))) k (omega (arith, length-covered run w t hw ht)) (covered_fits k)

  state_cut : part (covered_words run w t) 4 state_length ≡ take state_length w
  unfolding covered_words
  state_cut = (cut (take state_length w) (take (used_length (ceiling_of w)) t) state_length (length-take-le state_length w hw)).0

  table_cut : part (covered_words run w t) 43 (used_length (ceiling_of w)) ≡ take (used_length (ceiling_of w)) t
  unfolding covered_words
  table_cut =
      ap (take (used_length (ceiling_of w))) (cut (take state_length w) (take (used_length (ceiling_of w)) t) 39 (length-take-le state_length w hw)).1
      ∙ take_all (used_length (ceiling_of w)) (take (used_length (ceiling_of w)) t) (omega (arith, length-take-le (used_length (ceiling_of w)) t ht))

  own_cut : get_or (covered_words run w t) 4 0 ≡ word w STATE_OWN
  unfolding covered_words
  own_cut = get_or-append (take state_length w) (take (used_length (ceiling_of w)) t) 0 0 (omega (arith, length-take-le state_length w hw)) ∙ get_or-take state_length w 0 0 (omega arith)

  pub ceiling_cut : get_or (covered_words run w t) 6 0 ≡ ceiling_of w
  unfolding covered_words
  ceiling_cut = get_or-append (take state_length w) (take (used_length (ceiling_of w)) t) 0 2 (omega (arith, length-take-le state_length w hw)) ∙ get_or-take state_length w 2 0 (omega arith)

  run_cut : get_or (covered_words run w t) 2 0 + get_or (covered_words run w t) 3 0 * 4294967296 ≡ run
  unfolding covered_words
  run_cut = omega arith

  pub marks_cut : (get_or (covered_words run w t) 0 0 ≡ MARK) × (get_or (covered_words run w t) 1 0 ≡ FORMAT)
  unfolding covered_words
  marks_cut = (refl, refl)

  ceiling_back : ceiling_in (stored run w t) ≡ ceiling_of w
  ceiling_back = one_back 6 (omega arith) ∙ ceiling_cut

  state_back : state_words_in (stored run w t) ≡ take state_length w
  state_back = stretch_back 4 state_length (omega arith) ∙ state_cut

  table_back : table_words_in (stored run w t) ≡ take (used_length (ceiling_of w)) t
  table_back = rw ceiling_back (stretch_back 43 (used_length (ceiling_of w)) (omega arith) ∙ table_cut)

  pub length-stored : length (stored run w t) ≡ stored_length (ceiling_of w)
  unfolding stored
  length-stored =
      length-append (bytes_of (covered_words run w t)) (sha256 (bytes_of (covered_words run w t)))
      ∙ ap₂ (λ (a b : ℕ). a + b) (length-covered_bytes run w t hw ht) (length-sha256 (bytes_of (covered_words run w t)))

  digest_back : digest_fits (stored run w t) (4 * covered_length (ceiling_of w)) ≡ true
  unfolding stored digest_fits
  digest_back =
      let c = bytes_of (covered_words run w t) in
      let s = cut c (sha256 c) (4 * covered_length (ceiling_of w)) (length-covered_bytes run w t hw ht) in
      ap₂ (λ (x y : List ℕ). bytes_eq (sha256 x) y) s.0 s.1 ∙ equal_bytes (sha256 c)

  reads_back : state_reads w ≡ true → state_reads (take state_length w) ≡ true
  reads_back e = state-reads-same (take state_length w) w (λ k h. get_or-take state_length w k 0 h) (omega (arith, length-take-le state_length w hw)) hw ∙ e

  own_back : own_in (stored run w t) ≡ word w STATE_OWN
  own_back = one_back 4 (omega arith) ∙ own_cut

  run_back : run_in (stored run w t) ≡ run
  run_back = rw (one_back 2 (omega arith), one_back 3 (omega arith)) run_cut

  -- it is loaded by the member and in the run that it was stored for, wherever there is room
  load_back : state_reads w ≡ true → (n m : ℕ) → state_length ≤ n → used_length (ceiling_of w) ≤ m → load_refusal (stored run w t) (word w STATE_OWN) run n m ≡ 0
  unfolding load_refusal
  load_back e n m hn hm =
      let marks = marks_cut in
      let long : stored_length 0 ≤ length (stored run w t) = omega (arith, length-stored) in
      let own_same = eq-eqb (own_in (stored run w t)) (word w STATE_OWN) own_back in
      let run_same = eq-eqb (run_in (stored run w t)) run run_back in
      passes 105 _ (le-ltb (length (stored run w t)) (stored_length 0) long)
      ∙ passes 103 _ (ap (λ (i : ℕ). not (i == MARK)) (one_back 0 (omega arith) ∙ marks.0))
      ∙ passes 104 _ (ap (λ (i : ℕ). not (i == FORMAT)) (one_back 1 (omega arith) ∙ marks.1))
      ∙ passes 105 _ (ap not (eq-eqb (length (stored run w t)) (stored_length (ceiling_in (stored run w t))) (length-stored ∙ ap stored_length (sym ceiling_back))))
      ∙ passes 105 _ (ap (λ (i : ℕ). not (digest_fits (stored run w t) (4 * covered_length i))) ceiling_back ∙ ap not digest_back)
      ∙ passes 106 _ (ap not own_same)
      ∙ passes 107 _ (ap not run_same)
      ∙ passes 101 _ (ap (λ (i : List ℕ). not (state_reads i)) state_back ∙ ap not (reads_back e))
      ∙ passes 102 _ (ap (λ (i : ℕ). ltb n state_length || ltb m (used_length i)) ceiling_back ∙ ap₂ (λ (x y : Bool). x || y) (le-ltb n state_length hn) (le-ltb m (used_length (ceiling_of w)) hm))
      ∙ passes-all

same_four : {a a₁ b b₁ c c₁ d d₁ : ℕ} → a ≡ a₁ → b ≡ b₁ → c ≡ c₁ → d ≡ d₁ → a ∷ b ∷ c ∷ d ∷ [] ≡ a₁ ∷ b₁ ∷ c₁ ∷ d₁ ∷ []
same_four p q r s = cc

unnot : (x : Bool) → not x ≡ false → x ≡ true
unnot true e = refl
unnot false e = absurd (cc)

-- what loads: each check has let it pass
pub record Loads (b : List ℕ) (own run n m : ℕ) : Type 0 where
  pub mark : word_in b 0 ≡ MARK
  pub format : word_in b 1 ≡ FORMAT
  pub long : length b ≡ stored_length (ceiling_in b)
  pub «digest» : sha256 (take (4 * covered_length (ceiling_in b)) b) ≡ drop (4 * covered_length (ceiling_in b)) b
  pub its_own : own_in b ≡ own
  pub its_run : run_in b ≡ run
  pub reads : state_reads (state_words_in b) ≡ true

module _ (b : List ℕ) (own run n m : ℕ) (e : load_refusal b own run n m ≡ 0) where
  pub loads : Loads b own run n m
  unfolding load_refusal numbered digest_fits
  loads =
      passed _ refl e λ h1 h2 h3 h4 h5 h6 h7 h8 h9.
      let covered = 4 * covered_length (ceiling_in b) in
      record {
        mark = eqb-true (word_in b 0) MARK (unnot _ h2);
        format = eqb-true (word_in b 1) FORMAT (unnot _ h3);
        long = eqb-true (length b) (stored_length (ceiling_in b)) (unnot _ h4);
        «digest» = (bytes_eq-Decides (sha256 (take covered b)) (drop covered b)).0 (unnot _ h5);
        its_own = eqb-true (own_in b) own (unnot _ h6);
        its_run = eqb-true (run_in b) run (unnot _ h7);
        reads = unnot _ h8;
      }

module _ (b : List ℕ) (own run n m : ℕ) (l : Loads b own run n m) where
  state_whole : take state_length (state_words_in b) ≡ state_words_in b
  state_whole = take_all state_length (state_words_in b) (omega (arith, length-words_in b 4 state_length))

  ceiling_same : ceiling_of (state_words_in b) ≡ ceiling_in b
  ceiling_same = get_or-words_in b 4 state_length 2 (omega arith)

  table_whole : take (used_length (ceiling_of (state_words_in b))) (table_words_in b) ≡ table_words_in b
  table_whole = rw ceiling_same (take_all (used_length (ceiling_in b)) (table_words_in b) (omega (arith, length-words_in b 43 (used_length (ceiling_in b)))))

  pub store_takes : store_refusal (state_words_in b) (length (table_words_in b)) (length b) ≡ 0
  unfolding store_refusal
  store_takes =
      let t = length-words_in b 43 (used_length (ceiling_in b)) in
      passes 101 _ (ap not l.reads)
      ∙ passes 101 _ (ap₂ (λ (x y : ℕ). ltb x (used_length y)) t ceiling_same ∙ le-ltb (used_length (ceiling_in b)) (used_length (ceiling_in b)) (omega arith))
      ∙ passes 102 _ (ap₂ (λ (x y : ℕ). ltb x (stored_length y)) l.long ceiling_same ∙ le-ltb (stored_length (ceiling_in b)) (stored_length (ceiling_in b)) (omega arith))
      ∙ passes-all

module _ (b : List ℕ) (own run n m : ℕ) (f : IsBytes b) (l : Loads b own run n m) where
  head_four : words_in b 0 4 ≡ word_in b 0 ∷ word_in b 1 ∷ word_in b 2 ∷ word_in b 3 ∷ []
  unfolding words_in tab
  head_four = refl

  head_same : head_words run ≡ words_in b 0 4
  head_same =
      let low : run % 4294967296 ≡ word_in b 2 = omega (arith, l.its_run, word-below b 2 f, word-below b 3 f) in
      let high : run / 4294967296 ≡ word_in b 3 = omega (arith, l.its_run, word-below b 2 f, word-below b 3 f) in
      same_four (sym l.mark) (sym l.format) low high ∙ sym head_four

  covered_same : covered_words run (state_words_in b) (table_words_in b) ≡ words_in b 0 (covered_length (ceiling_in b))
  unfolding covered_words
  covered_same =
      ap₂ (λ (x y : List ℕ). head_words run ++ x ++ y) (state_whole b own run n m l) (table_whole b own run n m l)
      ∙ ap (λ (x : List ℕ). x ++ state_words_in b ++ table_words_in b) head_same
      ∙ ap (λ (x : List ℕ). x ++ table_words_in b) (sym (words_join b 0 4 state_length))
      ∙ sym (words_join b 0 43 (used_length (ceiling_in b)))

  -- it is what store writes for the words that it gives
  pub stored_same : stored run (state_words_in b) (table_words_in b) ≡ b
  unfolding stored
  stored_same =
      let n = covered_length (ceiling_in b) in
      let e : bytes_of (covered_words run (state_words_in b) (table_words_in b)) ≡ take (4 * n) b = ap bytes_of covered_same ∙ bytes_back b n f (omega (arith, l.long)) in
      rw e (rw l.«digest» (take-append-drop (4 * n) b))

-- ---- the words afterwards

-- what store has taken can be read, the table is long enough, and there is room for the bytes
pub record Taken (w : List ℕ) (n m : ℕ) : Type 0 where
  pub reads : state_reads w ≡ true
  pub long : state_length ≤ length w
  pub table : used_length (ceiling_of w) ≤ n
  pub room : stored_length (ceiling_of w) ≤ m

pub taken : (w : List ℕ) (n m : ℕ) → store_refusal w n m ≡ 0 → Taken w n m
unfolding store_refusal numbered
taken w n m e =
    passed _ refl e λ h1 h2 h3.
    let r = unnot _ h1 in
    record { reads = r; long = reads_long w r; table = ltb-false n (used_length (ceiling_of w)) h2; room = ltb-false m (stored_length (ceiling_of w)) h3 }

module _ (run : ℕ) (w t b : List ℕ) (s : IsStored run w t b) where
  p : Taken w (length t) (length b)
  p = taken w (length t) (length b) s.accepted

  pub run_of : run_in (stored run w t) ≡ run
  run_of = run_back run w t s.state s.table s.run_fits p.long p.table

  pub state_of : state_words_in (stored run w t) ≡ take state_length w
  state_of = state_back run w t s.state s.table s.run_fits p.long p.table

  pub table_of : table_words_in (stored run w t) ≡ take (used_length (ceiling_of w)) t
  table_of = table_back run w t s.state s.table s.run_fits p.long p.table

  module _ (u v : List ℕ) (r : HasRoom w u v) where
    accepted : load_refusal (stored run w t) (word w STATE_OWN) run (length u) (length v) ≡ 0
    accepted = load_back run w t s.state s.table s.run_fits p.long p.table p.reads (length u) (length v) r.state r.table

    state_loaded : loaded_state (stored run w t) (word w STATE_OWN) run u v ≡ take state_length w ++ drop state_length u
    unfolding loaded_state
    state_loaded =
        let l = length-take-le state_length w p.long in
        rw (accepted, state_of) (ap (λ (x : List ℕ). x ++ drop state_length u) (take_all state_length (take state_length w) (omega arith)))

    table_loaded : loaded_table (stored run w t) (word w STATE_OWN) run u v ≡ take (used_length (ceiling_of w)) t ++ drop (used_length (ceiling_of w)) v
    unfolding loaded_table
    table_loaded =
        let l = length-take-le (used_length (ceiling_of w)) t p.table in
        let z : 0 + used_length (ceiling_of w) ≡ used_length (ceiling_of w) = omega arith in
        rw (accepted, table_of, ceiling_back run w t s.state s.table s.run_fits p.long p.table, z)
        (ap (λ (x : List ℕ). x ++ drop (used_length (ceiling_of w)) v) (take_all (used_length (ceiling_of w)) (take (used_length (ceiling_of w)) t) (omega arith)))

-- ---- as the theorems say it

pub stored_accepted : (run : ℕ) (w t b u v : List ℕ) → IsStored run w t b → HasRoom w u v → load_refusal (stored run w t) (word w STATE_OWN) run (length u) (length v) ≡ 0
stored_accepted run w t b u v s r = accepted run w t b s u v r

pub stored_state : (run : ℕ) (w t b u v : List ℕ) → IsStored run w t b → HasRoom w u v → loaded_state (stored run w t) (word w STATE_OWN) run u v ≡ take state_length w ++ drop state_length u
stored_state run w t b u v s r = state_loaded run w t b s u v r

pub stored_table : (run : ℕ) (w t b u v : List ℕ) → IsStored run w t b → HasRoom w u v → loaded_table (stored run w t) (word w STATE_OWN) run u v ≡ take (used_length (ceiling_of w)) t ++ drop (used_length (ceiling_of w)) v
stored_table run w t b u v s r = table_loaded run w t b s u v r

pub loaded_same : (b : List ℕ) (own run n m : ℕ) → IsBytes b → load_refusal b own run n m ≡ 0 → stored run (state_words_in b) (table_words_in b) ≡ b
loaded_same b own run n m f e = stored_same b own run n m f (loads b own run n m e)

pub loaded_own : (b : List ℕ) (own run n m : ℕ) → load_refusal b own run n m ≡ 0 → word (state_words_in b) STATE_OWN ≡ own
loaded_own b own run n m e = get_or-words_in b 4 state_length 0 (omega arith) ∙ (loads b own run n m e).its_own

pub loaded_taken : (b : List ℕ) (own run n m : ℕ) → load_refusal b own run n m ≡ 0 → store_refusal (state_words_in b) (length (table_words_in b)) (length b) ≡ 0
loaded_taken b own run n m e = store_takes b own run n m (loads b own run n m e)

module _ (run run' : ℕ) (w w' t t' b b' : List ℕ) (s : IsStored run w t b) (s' : IsStored run' w' t' b') (e : stored run w t ≡ stored run' w' t') where
  pub same_run : run ≡ run'
  same_run = sym (run_of run w t b s) ∙ ap run_in e ∙ run_of run' w' t' b' s'

  pub same_state : take state_length w ≡ take state_length w'
  same_state = sym (state_of run w t b s) ∙ ap state_words_in e ∙ state_of run' w' t' b' s'

  pub same_table : take (used_length (ceiling_of w)) t ≡ take (used_length (ceiling_of w')) t'
  same_table = sym (table_of run w t b s) ∙ ap table_words_in e ∙ table_of run' w' t' b' s'
