-- One block more: the blocks before it stay, and what it holds.
use Rattle.std.proofs.Common.{◌≡◌, refl, sym, ap, ap₂, ◌∙◌, Bool, true, false, cond, ◌&&◌, List, ◌∷◌, ◌++◌, ℕ, zero, suc, ◌+◌, ◌-◌, ◌<◌, ◌≤◌, arith, eqb, eq-eqb, ne_eqb, eqb-true, Option, Some, None}
use Rattle.base.proofs.Words.{and-false, false≢true, dec_lt, ℕ_discrete}
use Rattle.std.proofs.lemmas.Option.{none-some}
use Rattle.base.proofs.Bools.{both}
use Rattle.base.specs.Sets.{only}
use Rattle.base.proofs.UnionLaws.{in_only}
use Rattle.agreement.specs.Rules.{Block, Chain}
use Rattle.agreement.specs.Dag.{is_held}
use Rattle.terms.specs.Proposals.{Content}
use Rattle.store.specs.Table.{used_length, Row, mark_at, held_at, certificate_at}
use Rattle.store.proofs.TableLaws.{held-member, certificate-present, certificate-absent, held-certificate, content-author, content-round}
use Rattle.store.proofs.MarkLaws.{OnlyMarks, held-marked, certificate-marked}
use Rattle.terms.specs.declared.sheet.Settings.{Settings}
use Rattle.committee.specs.Chain.{is_round, holds_at, block_at, chain_of}
use Rattle.committee.specs.Committees.{bonded_from, committee_of, ordered}
use Rattle.committee.proofs.ChainLaws.{round-parts, holds_at_lem, holds-absent, block-round, block-holds, block_inside, block-by, chain-none, chain_more}
use Rattle.committee.proofs.BondedLaws.{step_waits, bonded-step}
use Rattle.blocks.specs.History.{in_history}
use Rattle.blocks.proofs.HistoryLaws.{history-here, history-down, history-above}
use Rattle.blocks.specs.Blocks.{add_block}
use Rattle.blocks.proofs.MarkLaws.{new_mark, block-only, block-mark, block-round-old}
use Rattle.preview.specs.Entries.{entries_of, entries_after}

-- what is in the history of a held certificate is held
pub history-held : (t : List ℕ) (a r : ℕ) → a < 16 → held_at t a r ≡ true → (i q : ℕ) → in_history t r (only a) i q ≡ true → held_at t i q ≡ true
history-held t a r low h i q e = go (ℕ_discrete q r) (dec_lt q r)
  where
    go : Dec (q ≡ r) → Dec (q < r) → held_at t i q ≡ true
    go (yes z) d =
        let n = sym (history-here t r (only a) i ∙ in_only a i low) ∙ (rw z at e) in
        rw (z, eqb-true i a n) h
    go (no z) (yes l) = (both (held_at t i q) _ (sym (history-down t r (only a) i q l) ∙ e)).0
    go (no z) (no l) = absurd (false≢true (sym (history-above t r (only a) i q (omega arith)) ∙ e))

-- a block changes no committee of a round that is at most the lookback above its own
pub committee-more : (S : Settings) (b : Block Content) (c : Chain Content) (q : ℕ) → q ≤ S.lookback + b.round → committee_of S (b ∷ c) q ≡ committee_of S c q
unfolding committee_of
committee-more S b c q h =
    let e : bonded_from S (b ∷ c) (q - S.lookback) ≡ bonded_from S c (q - S.lookback) =
    bonded-step S (q - S.lookback) b c ∙ step_waits S (q - S.lookback) b c (bonded_from S c (q - S.lookback)) (omega arith) in
    rw e refl

-- certificates of a block that a table tells are at their own places
pub block-placed : (n : ℕ) (t : List ℕ) (k i q : ℕ) (p : Content) → (block_at n t k).holds i q ≡ Some p → (p.author ≡ i) × (p.round ≡ q)
block-placed n t k i q p e = go (is_round n q) (eqb (mark_at t i q) k) (sym (block-holds n t k i q ∙ ap (λ (o : Option Content). cond (is_round n q) o None) (holds_at_lem t k i q)) ∙ e)
  where
    go : (a b : Bool) → cond a (cond b (certificate_at t i q) None) None ≡ Some p → (p.author ≡ i) × (p.round ≡ q)
    go true true h = let z = (held-certificate t i q p h).1 in rw z (content-author t i q, content-round t i q)
    go true false h = absurd (none-some p h)
    go false b h = absurd (none-some p h)

-- marks of blocks up to c stay where block c + 1 is made
mark-old : (c : ℕ) (h : Bool) (x j : ℕ) → 0 < j → j ≤ c → eqb (new_mark (suc c) h x) j ≡ eqb x j
mark-old c h x j z l = go (eqb x 0) refl h
  where
    go : (b : Bool) → eqb x 0 ≡ b → (h : Bool) → eqb (cond (b && h) (suc c) x) j ≡ eqb x j
    go true e true = rw (ne_eqb (suc c) j (λ q. omega arith), ne_eqb x j (λ q. omega (arith, eqb-true x 0 e))) refl
    go true e false = refl
    go false e h = refl

-- and its own are those that were free
mark-new : (c : ℕ) (h : Bool) (x : ℕ) → x ≤ c → eqb (new_mark (suc c) h x) (suc c) ≡ (eqb x 0 && h)
mark-new c h x l = go (eqb x 0) h
  where
    None : eqb x (suc c) ≡ false
    None = ne_eqb x (suc c) (λ q. omega arith)

    go : (b h : Bool) → eqb (cond (b && h) (suc c) x) (suc c) ≡ (b && h)
    go true true = eq-eqb (suc c) (suc c) refl
    go true false = None
    go false h = None

-- ---- block c + 1, of the anchor of author a and round r

module _ (n c a r : ℕ) (u : List ℕ) (long : Row u r) where
  abbrev v : List ℕ
  v = add_block (suc c) a r u

  block-marks : OnlyMarks (used_length (suc c + r)) u v
  block-marks = block-only (suc c + r) (suc c) a r u (omega arith) (omega arith)

  -- the blocks before it stay
  holds-old : (j i q : ℕ) → 0 < j → j ≤ c → 0 < q → holds_at v j i q ≡ holds_at u j i q
  holds-old j i q z l w = go (held_at u i q) refl
    where
      go : (b : Bool) → held_at u i q ≡ b → holds_at v j i q ≡ holds_at u j i q
      go true e =
          let x = in_history u r (only a) i q in
          rw (holds_at_lem v j i q, holds_at_lem u j i q, block-mark (suc c) a r u long i q (held-member u i q e) w, certificate-marked block-marks i q, mark-old c x (mark_at u i q) j z l) refl
      go false e = holds-absent v j i q (held-marked block-marks i q ∙ e) ∙ sym (holds-absent u j i q e)

  pub block-old : (j : ℕ) → 0 < j → j ≤ c → block_at n v j ≡ block_at n u j
  block-old j z l =
      block-by n v j (block_at n u j) (block-round-old (suc c) a r j u (λ e. omega arith) ∙ sym (block-round n u j)) (λ i q. go i q (is_round n q) refl ∙ sym (block-holds n u j i q))
    where
      go : (i q : ℕ) (b : Bool) → is_round n q ≡ b → cond b (holds_at v j i q) None ≡ cond (is_round n q) (holds_at u j i q) None
      go i q true e = rw e (holds-old j i q z l (round-parts n q e).0)
      go i q false e = rw e refl

  pub chain-old : (j : ℕ) → j ≤ c → chain_of n v j ≡ chain_of n u j
  chain-old zero l = chain-none n v ∙ sym (chain-none n u)
  chain-old (suc j) l = chain_more n v j ∙ ap₂ ◌∷◌ (block-old (suc j) (omega arith) l) (chain-old j (omega arith)) ∙ sym (chain_more n u j)

  -- it holds what is in its anchor's history and was in no block
  module _ (low : (i q : ℕ) → 0 < q → q ≤ n → held_at u i q ≡ true → mark_at u i q ≤ c) (member : a < 16) (held : held_at u a r ≡ true) where
    pub block_new : (i q : ℕ) → i < 16 → 0 < q → q ≤ n → is_held ((block_at n v (suc c)).holds i q) ≡ (eqb (mark_at u i q) 0 && in_history u r (only a) i q)
    block_new i q h z l =
        rw (block_inside n v (suc c) i q z l, holds_at_lem v (suc c) i q, block-mark (suc c) a r u long i q h z, certificate-marked block-marks i q) (go (held_at u i q) refl)
      where
        chosen : (b : Bool) (o : Option Content) → is_held o ≡ true → is_held (cond b o None) ≡ b
        chosen true o e = e
        chosen false o e = refl

        nothing : (b : Bool) (o : Option Content) → is_held o ≡ false → is_held (cond b o None) ≡ false
        nothing true o e = e
        nothing false o e = refl

        outside : held_at u i q ≡ false → (b : Bool) → in_history u r (only a) i q ≡ b → b ≡ false
        outside e true y = absurd (false≢true (sym e ∙ history-held u a r member held i q y))
        outside e false y = refl

        its : Bool
        its = eqb (new_mark (suc c) (in_history u r (only a) i q) (mark_at u i q)) (suc c)

        go : (b : Bool) → held_at u i q ≡ b → is_held (cond its (certificate_at u i q) None) ≡ (eqb (mark_at u i q) 0 && in_history u r (only a) i q)
        go true e = chosen its (certificate_at u i q) (rw (certificate-present u i q e) refl) ∙ mark-new c (in_history u r (only a) i q) (mark_at u i q) (low i q z l e)
        go false e =
            nothing its (certificate_at u i q) (rw (certificate-absent u i q e) refl)
            ∙ sym (ap (λ (b : Bool). eqb (mark_at u i q) 0 && b) (outside e (in_history u r (only a) i q) refl) ∙ and-false (eqb (mark_at u i q) 0))

-- the entries of the blocks before it stay
pub entries-old : (S : Settings) (c a r : ℕ) (u : List ℕ) → Row u r → (k d : ℕ) → k + d ≤ c → entries_after S (add_block (suc c) a r u) k d ≡ entries_after S u k d
unfolding entries_after
entries-old S c a r u long k zero h = refl
entries-old S c a r u long k (suc d) h =
    let n = S.ceiling in
    ap₂ ◌++◌ (entries-old S c a r u long k d (omega arith))
    (ap₂ (λ (b : Block Content) (e : Chain Content). entries_of (suc (k + d)) (ordered S b e))
    (block-old n c a r u long (suc (k + d)) (omega arith) (omega arith)) (chain-old n c a r u long (k + d) (omega arith)))
