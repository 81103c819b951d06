-- What is signed tells the mark, the run's digest and the words: two proposals with the same bytes are the same. And the bytes of the run tell its settings and its number.
use Rattle.std.proofs.Common.{◌≡◌, ◌≢◌, refl, ap, ap₂, sym, subst, ◌∙◌, Bool, true, false, cond, eqb, ltb, List, [], ◌∷◌, ◌++◌, append_assoc, ℕ, zero, suc, ◌+◌, ◌*◌, ◌/◌, ◌%◌, ◌<◌, ◌≤◌, arith, length, length-append, get_or, take, drop}
use Rattle.std.proofs.lemmas.List.{take_at, drop_at, take_all}
use Rattle.sha2.specs.Sha256.{sha256}
use Rattle.base.specs.Folds.{tab}
use Rattle.base.specs.Parts.{part}
use Rattle.base.proofs.FoldLaws.{get_d_tab}
use Rattle.base.proofs.PasteLaws.{length_part}
use Rattle.terms.specs.declared.Transaction.{Transaction}
use Rattle.terms.specs.declared.Transaction.TheVariants.{Bond, Unbond, Entry}
use Rattle.terms.specs.declared.Body.{Body}
use Rattle.terms.specs.declared.Proposal.{Proposal}
use Rattle.terms.specs.declared.Certificate.{Certificate}
use Rattle.terms.specs.Transactions.{number_of, amount_of, read_transaction, no_transaction}
use Rattle.terms.specs.Proposals.{slot_of}
use Rattle.words.specs.Lengths.{state_length}
use Rattle.words.specs.Bodies.{slot_in, body_in, used_of, used_words, triple_words, body_words}
use Rattle.words.specs.Proposals.{proposal_in, certificate_in}
use Rattle.words.specs.TidyStates.{tidy_body}
use Rattle.words.proofs.BackLaws.{used_back}
use Rattle.words.proofs.TidyLaws.{body-tidy}
use Rattle.storing.specs.Bytes.{bytes_of, words_in, IsWords}
use Rattle.storing.specs.Round.{IsRun}
use Rattle.storing.specs.Signed.{settings_words, run_bytes, run_digest, proposal_words, message, proposal_message, certificate_message}
use Rattle.storing.proofs.ByteLaws.{length-bytes_of}
use Rattle.storing.proofs.ReadLaws.{words_back, taken_below, joined_below, dropped_below}
use Rattle.storing.proofs.SignedLaws.{length-message, length-run_digest, length-sixteen_words}

-- words are told by their bytes
bytes_back : (x : List ℕ) → IsWords x → words_in (bytes_of x ++ []) 0 (length x) ≡ x
bytes_back x f = words_back x [] 0 (length x) f (omega arith) ∙ take_all (length x) x (omega arith)

bytes_once : (x y : List ℕ) → IsWords x → IsWords y → length x ≡ length y → bytes_of x ≡ bytes_of y → x ≡ y
bytes_once x y f g l e =
    sym (bytes_back x f) ∙ ap₂ (λ (b : List ℕ) (n : ℕ). words_in (b ++ []) 0 n) e l ∙ bytes_back y g

-- the pieces of a message
module _ (mark : ℕ) (w : List ℕ) (run : ℕ) (x : List ℕ) where
  mark_piece : take 4 (message mark w run x) ≡ bytes_of (mark ∷ [])
  unfolding message
  mark_piece = ap (take 4) (append_assoc (bytes_of (mark ∷ [])) (run_digest w run) (bytes_of x)) ∙ take_at (bytes_of (mark ∷ [])) (run_digest w run ++ bytes_of x) 4 (length-bytes_of (mark ∷ []))

  rest_piece : drop 4 (message mark w run x) ≡ run_digest w run ++ bytes_of x
  unfolding message
  rest_piece = ap (drop 4) (append_assoc (bytes_of (mark ∷ [])) (run_digest w run) (bytes_of x)) ∙ drop_at (bytes_of (mark ∷ [])) (run_digest w run ++ bytes_of x) 4 (length-bytes_of (mark ∷ []))

  run_piece : take 32 (drop 4 (message mark w run x)) ≡ run_digest w run
  run_piece = ap (take 32) rest_piece ∙ take_at (run_digest w run) (bytes_of x) 32 (length-run_digest w run)

  words_piece : drop 32 (drop 4 (message mark w run x)) ≡ bytes_of x
  words_piece = ap (drop 32) rest_piece ∙ drop_at (run_digest w run) (bytes_of x) 32 (length-run_digest w run)

module _ (mark mark' : ℕ) (w w' : List ℕ) (run run' : ℕ) (x x' : List ℕ) (e : message mark w run x ≡ message mark' w' run' x') where
  pub same_mark : mark < 4294967296 → mark' < 4294967296 → mark ≡ mark'
  same_mark h h' =
      let k : mark ∷ [] ≡ mark' ∷ [] = bytes_once (mark ∷ []) (mark' ∷ []) (one mark h) (one mark' h') refl (sym (mark_piece mark w run x) ∙ ap (take 4) e ∙ mark_piece mark' w' run' x') in
      ap (λ (l : List ℕ). get_or l 0 0) k
    where
      one : (n : ℕ) → n < 4294967296 → IsWords (n ∷ [])
      one n h zero = h
      one n h (suc k) = omega arith

  pub same_digest : run_digest w run ≡ run_digest w' run'
  same_digest = sym (run_piece mark w run x) ∙ ap (λ (l : List ℕ). take 32 (drop 4 l)) e ∙ run_piece mark' w' run' x'

  pub same_words : IsWords x → IsWords x' → length x ≡ length x' → x ≡ x'
  same_words f f' l = bytes_once x x' f f' l (sym (words_piece mark w run x) ∙ ap (λ (z : List ℕ). drop 32 (drop 4 z)) e ∙ words_piece mark' w' run' x')

-- ---- a proposal is told by its words

body_back : (p : Proposal) → body_in (proposal_words p) 2 ≡ tidy_body p.body
unfolding body_in slot_in proposal_words body_words used_words tab tidy_body
body_back p = let b = p.body in rw (used_back b 0, used_back b 1, used_back b 2, used_back b 3) refl

pub proposal_back : (u : List ℕ) → proposal_in (proposal_words (proposal_in u)) ≡ proposal_in u
unfolding proposal_in proposal_words
proposal_back u =
    ap (λ (b : Body). record { author = record { 0 = get_or u 0 0 }; round = get_or u 1 0; body = b }) (body_back (proposal_in u) ∙ body-tidy u 2)

-- ---- its words are words

-- the numbers of a transaction are words
record Small (x : Transaction) : Type 0 where
  number : number_of x < 4294967296
  amount : amount_of x < 4294967296

read_small : (k n a : ℕ) → n < 4294967296 → a < 4294967296 → Small (read_transaction k n a)
unfolding read_transaction
read_small k n a h h' = go (eqb k 0) (eqb k 1)
  where
    go : (b c : Bool) → Small (cond b (Bond (record { 0 = n }) a) (cond c (Unbond (record { 0 = n })) (Entry n)))
    go true c = record { number = h; amount = h' }
    go false true = record { number = h; amount = omega arith }
    go false false = record { number = h; amount = omega arith }

none_small : Small no_transaction
none_small = record { number = omega arith; amount = omega arith }

chosen_small : (b : Bool) (x : Transaction) → Small x → Small (cond b x no_transaction)
chosen_small true x h = h
chosen_small false x h = none_small

slot_small : (u : List ℕ) (k : ℕ) → IsWords u → Small (slot_in u 2 k)
unfolding slot_in
slot_small u k f =
    chosen_small (ltb k (get_or u 3 0)) (read_transaction (get_or u (4 + k * 3) 0) (get_or u (4 + k * 3 + 1) 0) (get_or u (4 + k * 3 + 2) 0))
    (read_small (get_or u (4 + k * 3) 0) (get_or u (4 + k * 3 + 1) 0) (get_or u (4 + k * 3 + 2) 0) (f (4 + k * 3 + 1)) (f (4 + k * 3 + 2)))

used_small : (u : List ℕ) (k : ℕ) → k < 4 → IsWords u → Small (used_of (body_in u 2) k)
unfolding used_of slot_of body_in
used_small u k h f =
    chosen_small (ltb k (get_or u 3 0)) (get_or (tab (slot_in u 2) 4) k no_transaction)
    (subst Small (sym (get_d_tab (slot_in u 2) 4 k no_transaction h)) (slot_small u k f))

triple_fits : (x : Transaction) → Small x → IsWords (triple_words x)
triple_fits (Bond m a) s zero = omega arith
triple_fits (Unbond m) s zero = omega arith
triple_fits (Entry n) s zero = omega arith
triple_fits x s (suc zero) = s.number
triple_fits x s (suc (suc zero)) = s.amount
triple_fits x s (suc (suc (suc k))) = omega arith

none_fit : IsWords []
none_fit k = omega arith

used_fit : (u : List ℕ) (n : ℕ) → n ≤ 4 → IsWords u → IsWords (used_words (body_in u 2) n)
unfolding used_words
used_fit u zero h f = none_fit
used_fit u (suc n) h f =
    joined_below 4294967296 (used_words (body_in u 2) n) (triple_words (used_of (body_in u 2) n)) (used_fit u n (omega arith) f) (triple_fits (used_of (body_in u 2) n) (used_small u n (omega arith) f))

two_fit : (a b : ℕ) → a < 4294967296 → b < 4294967296 → IsWords (a ∷ b ∷ [])
two_fit a b h h' zero = h
two_fit a b h h' (suc zero) = h'
two_fit a b h h' (suc (suc k)) = omega arith

body_head_fits : (u : List ℕ) → IsWords u → IsWords ((body_in u 2).previous ∷ (body_in u 2).count ∷ [])
unfolding body_in
body_head_fits u f = two_fit (get_or u 2 0) (get_or u 3 0) (f 2) (f 3)

body_fits : (u : List ℕ) → IsWords u → IsWords (body_words (body_in u 2))
unfolding body_words
body_fits u f = joined_below 4294967296 ((body_in u 2).previous ∷ (body_in u 2).count ∷ []) (used_words (body_in u 2) 4) (body_head_fits u f) (used_fit u 4 (omega arith) f)

words_fit : (u : List ℕ) → IsWords u → IsWords (proposal_words (proposal_in u))
unfolding proposal_words proposal_in
words_fit u f = joined_below 4294967296 (get_or u 0 0 ∷ get_or u 1 0 ∷ []) (body_words (body_in u 2)) (two_fit (get_or u 0 0) (get_or u 1 0) (f 0) (f 1)) (body_fits u f)

-- ---- as the theorems say it

module _ (mark mark' : ℕ) (w w' : List ℕ) (run run' : ℕ) (x x' : List ℕ) where
  pub proposal_mark : mark < 4294967296 → mark' < 4294967296 → proposal_message mark w run x ≡ proposal_message mark' w' run' x' → mark ≡ mark'
  unfolding proposal_message
  proposal_mark h h' e = same_mark mark mark' w w' run run' (proposal_words (proposal_in x)) (proposal_words (proposal_in x')) e h h'

  pub proposal_run : proposal_message mark w run x ≡ proposal_message mark' w' run' x' → run_digest w run ≡ run_digest w' run'
  unfolding proposal_message
  proposal_run e = same_digest mark mark' w w' run run' (proposal_words (proposal_in x)) (proposal_words (proposal_in x')) e

  pub proposal_same : IsWords x → IsWords x' → proposal_message mark w run x ≡ proposal_message mark' w' run' x' → proposal_in x ≡ proposal_in x'
  unfolding proposal_message
  proposal_same f f' e =
      let l = length-sixteen_words (proposal_in x) in
      let l' = length-sixteen_words (proposal_in x') in
      sym (proposal_back x)
      ∙ ap proposal_in (same_words mark mark' w w' run run' (proposal_words (proposal_in x)) (proposal_words (proposal_in x')) e (words_fit x f) (words_fit x' f') (omega arith))
      ∙ proposal_back x'

-- the words of a certificate: those of its proposal, then its endorsers
certificate_words : List ℕ → List ℕ
certificate_words x = proposal_words (proposal_in x) ++ get_or x 16 0 ∷ []

length-certificate_words : (x : List ℕ) → length (certificate_words x) ≡ 17
unfolding certificate_words
length-certificate_words x = length-append (proposal_words (proposal_in x)) (get_or x 16 0 ∷ []) ∙ ap (λ (k : ℕ). k + 1) (length-sixteen_words (proposal_in x))

one_fits : (n : ℕ) → n < 4294967296 → IsWords (n ∷ [])
one_fits n h zero = h
one_fits n h (suc k) = omega arith

certificate_fits : (x : List ℕ) → IsWords x → IsWords (certificate_words x)
unfolding certificate_words
certificate_fits x f = joined_below 4294967296 (proposal_words (proposal_in x)) (get_or x 16 0 ∷ []) (words_fit x f) (one_fits (get_or x 16 0) (f 16))

certificate_back : (x : List ℕ) → ◌≡◌ {A = Certificate} (record { proposal = proposal_in (take 16 (certificate_words x)); endorsers = get_or (drop 16 (certificate_words x)) 0 0 }) (certificate_in x)
unfolding certificate_words certificate_in
certificate_back x =
    let l = length-sixteen_words (proposal_in x) in
    ap₂ (λ (z e : List ℕ). record { proposal = proposal_in z; endorsers = get_or e 0 0 }) (take_at (proposal_words (proposal_in x)) (get_or x 16 0 ∷ []) 16 l) (drop_at (proposal_words (proposal_in x)) (get_or x 16 0 ∷ []) 16 l)
    ∙ ap (λ (p : Proposal). record { proposal = p; endorsers = get_or x 16 0 }) (proposal_back x)

module _ (mark mark' : ℕ) (w w' : List ℕ) (run run' : ℕ) (x x' : List ℕ) (e : certificate_message mark w run x ≡ certificate_message mark' w' run' x') where
  pub certificate_mark : mark < 4294967296 → mark' < 4294967296 → mark ≡ mark'
  unfolding certificate_message certificate_words certificate_in
  certificate_mark h h' = same_mark mark mark' w w' run run' (certificate_words x) (certificate_words x') e h h'

  pub certificate_run : run_digest w run ≡ run_digest w' run'
  unfolding certificate_message certificate_words certificate_in
  certificate_run = same_digest mark mark' w w' run run' (certificate_words x) (certificate_words x') e

  pub certificate_same : IsWords x → IsWords x' → certificate_in x ≡ certificate_in x'
  unfolding certificate_message certificate_words certificate_in
  certificate_same f f' =
      let l = length-certificate_words x in
      let l' = length-certificate_words x' in
      let k : certificate_words x ≡ certificate_words x' = same_words mark mark' w w' run run' (certificate_words x) (certificate_words x') e (certificate_fits x f) (certificate_fits x' f') (omega arith) in
      sym (certificate_back x)
      ∙ ap (λ (z : List ℕ). record { proposal = proposal_in (take 16 z); endorsers = get_or (drop 16 z) 0 0 }) k
      ∙ certificate_back x'

-- ---- messages of two lengths

pub kinds_differ : (mark mark' : ℕ) (w w' : List ℕ) (run run' : ℕ) (x x' : List ℕ) → proposal_message mark w run x ≢ certificate_message mark' w' run' x'
unfolding proposal_message certificate_message certificate_words certificate_in
kinds_differ mark mark' w w' run run' x x' e =
    let l = length-message mark w run (proposal_words (proposal_in x)) in
    let l' = length-message mark' w' run' (certificate_words x') in
    absurd (omega (arith, ap length e, l, l', length-sixteen_words (proposal_in x), length-certificate_words x'))

-- ---- the run, by the bytes that its digest is of

pub run_digested : (w : List ℕ) (run : ℕ) → run_digest w run ≡ sha256 (run_bytes w run)
unfolding run_digest run_bytes
run_digested w run = refl

-- the words of a run: its settings, and the halves of its number
run_words : List ℕ → ℕ → List ℕ
run_words w run = settings_words w ++ run % 4294967296 ∷ run / 4294967296 ∷ []

length-settings_words : (w : List ℕ) → state_length ≤ length w → length (settings_words w) ≡ 20
length-settings_words w h = length-append (part w 1 19) (get_or w 37 0 ∷ []) ∙ ap (λ (k : ℕ). k + 1) (length_part w 1 19 (omega arith))

settings_fit : (w : List ℕ) → IsWords w → IsWords (settings_words w)
settings_fit w f =
    joined_below 4294967296 (part w 1 19) (get_or w 37 0 ∷ [])
    (taken_below 4294967296 (drop 1 w) 19 (omega arith) (dropped_below 4294967296 w 1 f))
    (one_fits (get_or w 37 0) (f 37))

module _ (w : List ℕ) (run : ℕ) (r : IsRun w run) where
  run_fits : IsWords (run_words w run)
  unfolding run_words
  run_fits =
      joined_below 4294967296 (settings_words w) (run % 4294967296 ∷ run / 4294967296 ∷ []) (settings_fit w r.state)
      (two_fit (run % 4294967296) (run / 4294967296) (omega arith) (omega (arith, r.run_fits)))

  length-run_words : length (run_words w run) ≡ 22
  unfolding run_words
  length-run_words =
      length-append (settings_words w) (run % 4294967296 ∷ run / 4294967296 ∷ []) ∙ ap (λ (k : ℕ). k + 2) (length-settings_words w r.long)

  pub run_bytes_long : length (run_bytes w run) ≡ 88
  unfolding run_bytes run_words
  run_bytes_long = length-bytes_of (run_words w run) ∙ ap (λ (k : ℕ). 4 * k) length-run_words

  settings_cut : take 20 (run_words w run) ≡ settings_words w
  unfolding run_words
  settings_cut = take_at (settings_words w) (run % 4294967296 ∷ run / 4294967296 ∷ []) 20 (length-settings_words w r.long)

  halves_cut : drop 20 (run_words w run) ≡ run % 4294967296 ∷ run / 4294967296 ∷ []
  unfolding run_words
  halves_cut = drop_at (settings_words w) (run % 4294967296 ∷ run / 4294967296 ∷ []) 20 (length-settings_words w r.long)

module _ (w w' : List ℕ) (run run' : ℕ) (r : IsRun w run) (r' : IsRun w' run') (e : run_bytes w run ≡ run_bytes w' run') where
  same_run_words : run_words w run ≡ run_words w' run'
  unfolding run_bytes run_words
  same_run_words = bytes_once (run_words w run) (run_words w' run') (run_fits w run r) (run_fits w' run' r') (length-run_words w run r ∙ sym (length-run_words w' run' r')) e

  pub same_settings : settings_words w ≡ settings_words w'
  same_settings = sym (settings_cut w run r) ∙ ap (take 20) same_run_words ∙ settings_cut w' run' r'

  pub same_number : run ≡ run'
  same_number =
      let h : run % 4294967296 ∷ run / 4294967296 ∷ [] ≡ run' % 4294967296 ∷ run' / 4294967296 ∷ [] = sym (halves_cut w run r) ∙ ap (drop 20) same_run_words ∙ halves_cut w' run' r' in
      let low : run % 4294967296 ≡ run' % 4294967296 = ap (λ (l : List ℕ). get_or l 0 0) h in
      let high : run / 4294967296 ≡ run' / 4294967296 = ap (λ (l : List ℕ). get_or l 1 0) h in
      omega (arith, low, high)
