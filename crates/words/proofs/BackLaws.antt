-- The words of a state give it back.
use Rattle.std.proofs.Common.{◌≡◌, refl, ap, ◌∙◌, Bool, true, false, cond, ◌&&◌, List, [], ◌∷◌, ◌++◌, ℕ, zero, suc, ◌+◌, ◌<◌, ◌≤◌, arith, length, length-append, eqb, leb, ltb, lt-ltb}
use Rattle.std.specs.Prelude.{Option, Some, None, is_some, unwrap_or, option_map}
use Rattle.base.proofs.Words.{paste, length-paste}
use Rattle.base.proofs.Bools.{cond_same}
use Rattle.base.proofs.PasteLaws.{paste-inside}
use Rattle.base.specs.Folds.{tab}
use Rattle.base.proofs.TestLaws.{all_hold}
use Rattle.terms.specs.declared.Transaction.{Transaction}
use Rattle.terms.specs.declared.Transaction.TheVariants.{Bond, Unbond, Entry}
use Rattle.terms.specs.declared.Body.{Body}
use Rattle.terms.specs.Transactions.{kind_of, number_of, amount_of, read_transaction, no_transaction}
use Rattle.terms.specs.Proposals.{slot_of}
use Rattle.terms.proofs.ProposalLaws.{read_back}
use Rattle.state.specs.declared.State.{State}
use Rattle.state.specs.States.{no_body, is_proposing, own_body}
use Rattle.words.specs.Lengths.{state_length, body_length}
use Rattle.words.specs.Words.{word, weight_words}
use Rattle.words.proofs.PasteLaws.{length-weights}
use Rattle.words.specs.Bodies.{is_triple, triple_reads, body_reads, slot_in, body_in, used_of, used_words, body_words}
use Rattle.words.specs.States.{state_reads, settings_in, own_proposal_in, state_in, state_words}
use Rattle.words.proofs.BodyLaws.{length-body}
use Rattle.words.proofs.SameLaws.{Agree, state-same, state-reads-same}
use Rattle.words.specs.TidyStates.{tidy_body, sixteen_weights, tidy}

-- ---- a transaction

pub used_back : (b : Body) (k : ℕ) → cond (ltb k b.count) (read_transaction (kind_of (used_of b k)) (number_of (used_of b k)) (amount_of (used_of b k))) no_transaction ≡ used_of b k
unfolding used_of
used_back b k = rw (read_back (used_of b k)) (go (ltb k b.count))
  where
    go : (t : Bool) → cond t (cond t (slot_of b k) no_transaction) no_transaction ≡ cond t (slot_of b k) no_transaction
    go true = refl
    go false = refl

pub triple-reads : (x : Transaction) → is_triple (kind_of x) (amount_of x) ≡ true
unfolding is_triple
triple-reads (Bond m a) = refl
triple-reads (Unbond m) = refl
triple-reads (Entry n) = refl

-- ---- the words alone

pub length-state : (s : State) → length (state_words s) ≡ state_length
unfolding state_words
length-state s =
    let w = weight_words s.settings.weights in
    let head = s.own.0 ∷ s.settings.lookback ∷ s.settings.ceiling ∷ s.settings.allowance ∷ [] in
    let middle = s.round ∷ cond (is_proposing s) 1 0 ∷ s.blocks ∷ [] in
    let b = body_words (own_body s) in
    length-append (head ++ w ++ middle ++ b) (s.settings.margin ∷ s.rights.0 ∷ [])
    ∙ ap (λ (k : ℕ). k + 2) (length-append (head ++ w ++ middle) b ∙ ap (λ (k : ℕ). length (head ++ w ++ middle) + k) (length-body (own_body s)))
    ∙ ap (λ (k : ℕ). k + body_length + 2) (length-append (head ++ w) middle ∙ ap (λ (k : ℕ). k + 3) (length-append head w ∙ ap (λ (k : ℕ). 4 + k) (length-weights s.settings.weights)))

body_back : (s : State) → body_in (state_words s) 23 ≡ tidy_body (own_body s)
unfolding body_in slot_in state_words body_words used_words weight_words tab tidy_body
body_back s = let b = own_body s in rw (used_back b 0, used_back b 1, used_back b 2, used_back b 3) refl

flag_back : (s : State) → word (state_words s) 21 ≡ cond (is_proposing s) 1 0
unfolding state_words weight_words tab
flag_back s = refl

own-proposal-back : (s : State) → own_proposal_in (state_words s) ≡ option_map tidy_body s.proposal
unfolding own_proposal_in
own-proposal-back s = rw (flag_back s, body_back s) (go s.proposal)
  where
    go : (o : Option Body) → cond (eqb (cond (is_some o) 1 0) 0) None (Some (tidy_body (unwrap_or o no_body))) ≡ option_map tidy_body o
    go None = refl
    go (Some b) = refl

head-back : (s : State) → settings_in (state_words s) ≡ (tidy s).settings
unfolding settings_in state_words body_words used_words weight_words tab sixteen_weights tidy
head-back s = refl

numbers-back : (s : State) → (word (state_words s) 0 ≡ s.own.0) × ((word (state_words s) 20 ≡ s.round) × (word (state_words s) 22 ≡ s.blocks))
unfolding state_words weight_words tab
numbers-back s = (refl, (refl, refl))

rights-back : (s : State) → word (state_words s) 38 ≡ s.rights.0
unfolding state_words body_words used_words weight_words tab
rights-back s = refl

words_back : (s : State) → state_in (state_words s) ≡ tidy s
unfolding state_in tidy
words_back s = let n = numbers-back s in rw (head-back s, own-proposal-back s, n.0, n.1.0, n.1.1, rights-back s) refl

pub either : (b : Bool) {x : Bool} → x ≡ true → cond b x true ≡ true
either b e = rw e (cond_same b true)

triple-read : (s : State) (k : ℕ) → k < 4 → triple_reads (state_words s) 23 k ≡ true
unfolding triple_reads state_words body_words used_words weight_words tab
triple-read s zero h = either (ltb 0 (own_body s).count) (triple-reads (used_of (own_body s) 0))
triple-read s (suc zero) h = either (ltb 1 (own_body s).count) (triple-reads (used_of (own_body s) 1))
triple-read s (suc (suc zero)) h = either (ltb 2 (own_body s).count) (triple-reads (used_of (own_body s) 2))
triple-read s (suc (suc (suc zero))) h = either (ltb 3 (own_body s).count) (triple-reads (used_of (own_body s) 3))
triple-read s (suc (suc (suc (suc k)))) h = absurd (omega arith)

set_back : (s : State) → word (state_words s) 23 ≡ (own_body s).previous
unfolding state_words body_words weight_words tab
set_back s = refl

body-read : (s : State) → (own_body s).previous < 65536 → body_reads (state_words s) 23 ≡ true
unfolding body_reads
body-read s h = rw (set_back s, lt-ltb (own_body s).previous 65536 h) (all_hold (triple_reads (state_words s) 23) 4 (triple-read s))

words-read : (s : State) → (own_body s).previous < 65536 → state_reads (state_words s) ≡ true
unfolding state_reads
words-read s h = rw (length-state s, flag_back s) (go (is_proposing s))
  where
    go : (p : Bool) → (leb state_length state_length && (leb (cond p 1 0) 1 && cond (eqb (cond p 1 0) 0) true (body_reads (state_words s) 23))) ≡ true
    go true = body-read s h
    go false = refl

-- ---- put over a stretch

module _ (w : List ℕ) (s : State) (l : state_length ≤ length w) where
  agree : Agree state_length (paste w 0 (state_words s) state_length) (state_words s)
  agree k h = let e : 0 + k ≡ k = omega arith in rw e at (paste-inside w 0 (state_words s) state_length l (length-state s) k h)

  -- what is read back is the state as its words tell it
  pub put_back : state_in (paste w 0 (state_words s) state_length) ≡ tidy s
  put_back = state-same (paste w 0 (state_words s) state_length) (state_words s) agree ∙ words_back s

  -- and it can be read
  pub put-read : (own_body s).previous < 65536 → state_reads (paste w 0 (state_words s) state_length) ≡ true
  put-read h =
      let m = length-state s in
      let n = length-paste w 0 (state_words s) state_length l (omega arith) in
      state-reads-same (paste w 0 (state_words s) state_length) (state_words s) agree (omega arith) (omega arith) ∙ words-read s h
