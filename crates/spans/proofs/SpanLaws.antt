-- Laws of what blocks in a row hold, block by block.
use Rattle.std.proofs.Common.{◌≡◌, refl, ◌∙◌, Bool, true, false, cond, List, [], ◌++◌, map, ℕ, zero, suc, ◌+◌, ◌-◌, ◌<◌, ◌≤◌, arith, add-one, eqb, eqb-true, length, length-append}
use Rattle.base.proofs.Words.{eqb-false, length-map}
use Rattle.agreement.specs.Rules.{Chain}
use Rattle.terms.specs.Proposals.{Content}
use Rattle.terms.specs.declared.sheet.Settings.{Settings}
use Rattle.committee.specs.Chain.{block_at, chain_of}
use Rattle.committee.specs.Committees.{ordered}
use Rattle.committee.proofs.ChainLaws.{chain_more, chain_length}
use Rattle.committee.proofs.OrderLaws.{ordered-rows}
use Rattle.chain_committees.specs.BlockChanges.{start_at}
use Rattle.spans.specs.Contents.{contents_of}
use Rattle.spans.specs.Spans.{stored, words_of, block_words, count_after, held_after}
use Rattle.spans.specs.Rows.{block_held}
use Rattle.spans.proofs.RowLaws.{rows_by}
use Rattle.spans.proofs.WordLaws.{words-join}

-- as many as are counted
pub held_counted : (S : Settings) (c : Chain Content) (t : List ℕ) (m n : ℕ) → length (held_after S c t m n) ≡ count_after S c m n
unfolding held_after count_after
held_counted S c t m zero = refl
held_counted S c t m (suc n) =
    let l = contents_of S c (suc (m + n)) in
    rw (length-append (held_after S c t m n) (map (stored t (suc (m + n))) l), held_counted S c t m n, length-map l (stored t (suc (m + n)))) refl

module _ (S : Settings) (t : List ℕ) where
  -- the block after the first k, of a chain of n
  pub contents-held : (n k : ℕ) → k < n → contents_of S (chain_of S.ceiling t n) (suc k) ≡ block_held S t k
  unfolding contents_of start_at
  contents-held zero k h = absurd (omega arith)
  contents-held (suc n) k h = rw (chain_more S.ceiling t n, chain_length S.ceiling t n) (go (eqb (suc k) (suc n)) refl (λ i. contents-held n k i))
    where
      own : ordered S (block_at S.ceiling t (suc k)) (chain_of S.ceiling t k) ≡ block_held S t k
      own = ordered-rows S (block_at S.ceiling t (suc k)) (chain_of S.ceiling t k) ∙ rw (← add-one k) (rows_by t (k + 1) (start_at S t k) S.ceiling S.ceiling (omega arith))

      go : (b : Bool) → eqb (suc k) (suc n) ≡ b → (k < n → contents_of S (chain_of S.ceiling t n) (suc k) ≡ block_held S t k)
          → ◌≡◌ {A = List Content} (cond b (ordered S (block_at S.ceiling t (suc n)) (chain_of S.ceiling t n)) (contents_of S (chain_of S.ceiling t n) (suc k))) (block_held S t k)
      go true e f = let q = eqb-true (suc k) (suc n) e in let p : n ≡ k = omega arith in rw p own
      go false e f = let d = eqb-false (suc k) (suc n) e in f (omega arith)

module _ (S : Settings) (t : List ℕ) (blocks m : ℕ) where
  abbrev C : Chain Content
  C = chain_of S.ceiling t blocks

  pub count-none : 0 ≡ count_after S C m 0
  unfolding count_after
  count-none = refl

  -- one block more
  pub count-next : (i : ℕ) → m + i < blocks → count_after S C m (i + 1) ≡ count_after S C m i + length (block_held S t (m + i))
  unfolding count_after
  count-next i h = rw (add-one i, contents-held S t blocks (m + i) h) refl

  count-up : (i d : ℕ) → count_after S C m i ≤ count_after S C m (i + d)
  unfolding count_after
  count-up i zero = let e : i + 0 ≡ i = omega arith in rw e (omega arith)
  count-up i (suc d) = let e : i + suc d ≡ suc (i + d) = omega arith in let h = count-up i d in rw e (omega arith)

  -- so there is room for a block, where there is for all
  pub span-room : (n i : ℕ) → i < n → m + n ≤ blocks → count_after S C m i + length (block_held S t (m + i)) ≤ count_after S C m n
  span-room n i h l =
      let q : i + 1 + (n - (i + 1)) ≡ n = omega arith in
      let g = rw q at (count-up (i + 1) (n - (i + 1))) in
      omega (arith, count-next i (omega arith))

  pub held-none : words_of (held_after S C t m 0) ≡ []
  unfolding held_after words_of
  held-none = refl

  pub held-next : (i : ℕ) → m + i < blocks → words_of (held_after S C t m (i + 1)) ≡ words_of (held_after S C t m i) ++ block_words t (m + i + 1) (block_held S t (m + i))
  unfolding held_after
  held-next i h = rw (add-one i, contents-held S t blocks (m + i) h, words-join (held_after S C t m i) (map (stored t (suc (m + i))) (block_held S t (m + i))), add-one (m + i)) refl
