-- The computed chain is one that a commit may make, so a computed commit is a move.
use Rattle.std.proofs.Common.{◌≡◌, refl, sym, ◌∙◌, subst, Bool, true, false, cond, true≢false, List, [], ◌∷◌, ℕ, zero, suc, ◌+◌, ◌-◌, ◌≤◌, ◌<◌, arith, Option, Some, None}
use Rattle.std.proofs.lemmas.Option.{same_Some, none-some}
use Rattle.base.proofs.Words.{ℕ_discrete}
use Rattle.agreement.specs.Rules.{Chain, last, Rules}
use Rattle.agreement.specs.Laws.{Lawful}
use Rattle.agreement.specs.View.{View, Knows, Log}
use Rattle.agreement.specs.Dag.{Held, Placed, Reach}
use Rattle.agreement.specs.Quorum.{Outweighs}
use Rattle.agreement.specs.Anchors.{Anchor, votes}
use Rattle.agreement.specs.Links.{Linked}
use Rattle.agreement.specs.Invariants.{Invariant}
use Rattle.agreement.specs.Moves.{after_commit, Extension, first_block, next_block, Move, commit}
use Rattle.agreement.proofs.DagLaws.{on-place, all_placed}
use Rattle.agreement.specs.Histories.{in_history}
use Rattle.agreement.proofs.HistoryLaws.{history_reach, reach_history}
use Rattle.agreement.specs.Commits.{by_leader, anchor_at, block_of, blocks_of, choose, taken, committed}
use Rattle.agreement.proofs.BlockLaws.{FromDag, block-from-dag, linked-from-dag, link-made}

module _ {R : Rules} (s : View R) where
  open R use {P, committee, leader}

  -- the computed anchor is the anchor
  pub anchor-at : {r : ℕ} {q : P} → Knows s r → anchor_at s r ≡ Some q → Anchor s r q
  unfolding anchor_at
  anchor-at {r} {q} k h = go (leader (committee s.chain r) r) refl h
    where
      go : (o : Option ℕ) → leader (committee s.chain r) r ≡ o → by_leader s r o ≡ Some q → Anchor s r q
      go None e l = absurd (none-some q l)
      go (Some a) e l = record { aware = k; lead = a; leads = e; held = l }

  at-anchor : {r : ℕ} {q : P} → Anchor s r q → anchor_at s r ≡ Some q
  unfolding anchor_at
  at-anchor x = rw x.leads x.held

module _ {R : Rules} {s : View R} (X : Placed s) where
  open R use {P, round, committee, leader}

  -- the computed anchor is a certificate of its leader and round
  anchor-by : (r : ℕ) {q : P} → anchor_at s r ≡ Some q → (a : ℕ) × (s.dag a r ≡ Some q)
  unfolding anchor_at
  anchor-by r {q} h = go (leader (committee s.chain r) r) h
    where
      go : (o : Option ℕ) → by_leader s r o ≡ Some q → (a : ℕ) × (s.dag a r ≡ Some q)
      go None e = absurd (none-some q e)
      go (Some a) e = (a, e)

  pub anchor-held : (r : ℕ) {q : P} → anchor_at s r ≡ Some q → Held s q
  anchor-held r h = on-place X (anchor-by r h).1

  pub anchor-round : (r : ℕ) {q : P} → anchor_at s r ≡ Some q → round q ≡ r
  anchor-round r h = (X.place (anchor-by r h).1).1

module _ {R : Rules} (Y : Lawful R) {s : View R} (X : Placed s) (L : Linked s s.chain) where
  open R use {P, author, round, committee}
  open Y use {known_down, apart, late}

  blocks-from-dag : (l : List P) → FromDag s (blocks_of s l)
  unfolding blocks_of
  blocks-from-dag [] = linked-from-dag X s.chain L
  blocks-from-dag (x ∷ l) = (block-from-dag s x (blocks_of s l), blocks-from-dag l)

  -- no anchor of a round between m and that of x is in the history of x
  abbrev Gap : ℕ → P → Type 0
  Gap m x = (r : ℕ) (q : P) → m < r → r < round x → Anchor s r q → ¬ Reach s x q

  gap_down : {m n : ℕ} {x : P} → n ≡ suc m → ((q : P) → Anchor s n q → ¬ Reach s x q) → Gap n x → Gap m x
  gap_down {m} {n} {x} i f g r q l h a = go (ℕ_discrete r n)
    where
      go : Dec (r ≡ n) → ¬ Reach s x q
      go (yes e) = f q (subst (λ (z : ℕ). Anchor s z q) e a)
      go (no e) = g r q (omega arith) h a

  -- an anchor above a linked chain is two rounds above it
  above : {r : ℕ} {q : P} (c : Chain P) → Linked s c → Anchor s r q → last c < r → last c + 2 ≤ r
  above {r} [] l a h = omega (arith, late (committee s.chain r) a.leads)
  above {r} (b ∷ c) l a h = apart (committee s.chain b.round) (committee s.chain r) h l.1.sees.leads a.leads

  -- the walk from x, when n rounds above the last block are left
  abbrev Extends : ℕ → Type 0
  Extends n =
      (x : P) → Anchor s (round x) x → last s.chain + n < round x → Gap (last s.chain + n) x → Extension s (blocks_of s (x ∷ taken s n x))

  module _ (n : ℕ) (f : Extends n) (x : P) (a : Anchor s (round x) x) (h : last s.chain + suc n < round x) (g : Gap (last s.chain + suc n) x) where
    -- the anchor of the next round is not taken
    skip : ((q : P) → Anchor s (last s.chain + suc n) q → ¬ Reach s x q) → Extension s (blocks_of s (x ∷ taken s n x))
    skip k = f x a (omega arith) (gap_down (omega arith) k g)

    -- the anchor of the next round is taken
    take : {q : P} → Anchor s (last s.chain + suc n) q → Reach s x q → Extension s (blocks_of s (x ∷ q ∷ taken s n q))
    unfolding blocks_of block_of
    take {q} b l =
        let e : round q ≡ last s.chain + suc n = (X.place b.held).1 in
        let two = apart (committee s.chain (last s.chain + suc n)) (committee s.chain (round x)) h b.leads a.leads in
        let c = blocks_of s (q ∷ taken s n q) in
        next_block (link-made X x c (blocks-from-dag (q ∷ taken s n q)) (on-place X a.held) a (omega arith) (λ r p i j. g r p (omega arith) j))
        (q, subst (λ (z : ℕ). Anchor s z q) (sym e) b, l)
        (f q (subst (λ (z : ℕ). Anchor s z q) (sym e) b) (omega arith) (λ r p i j. absurd (omega arith)))

    extension_next : Extension s (blocks_of s (x ∷ taken s (suc n) x))
    unfolding taken
    extension_next = go (anchor_at s (last s.chain + suc n)) refl
      where
        aware : Knows s (last s.chain + suc n)
        aware = known_down s.chain (last s.chain + suc n) (round x) (omega arith) a.aware

        test : (q : P) → Anchor s (last s.chain + suc n) q → (i : Bool) → in_history s x (round q) (author q) ≡ i
            → Extension s (blocks_of s (x ∷ cond i (q ∷ taken s n q) (taken s n x)))
        test q b true e =
            let p = history_reach X (on-place X a.held) (round q) (author q) e in
            take b (subst (λ (z : P). Reach s x z) (same_Some p.0 q (sym p.1 ∙ on-place X b.held)) p.2)
        test q b false e =
            skip λ p c l.
            let same-anchor : p ≡ q = same_Some p q (sym (at-anchor s c) ∙ at-anchor s b) in
            let i : in_history s x (round q) (author q) ≡ true = subst (λ (z : P). in_history s x (round z) (author z) ≡ true) same-anchor (reach_history X (on-place X a.held) l) in
            true≢false (sym i ∙ e)

        go : (o : Option P) → anchor_at s (last s.chain + suc n) ≡ o → Extension s (blocks_of s (x ∷ choose s x (λ y. taken s n y) o))
        go None e = skip λ p c l. none-some p (sym e ∙ at-anchor s c)
        go (Some q) e = test q (anchor-at s aware e) (in_history s x (round q) (author q)) refl

  extension_made : (n : ℕ) → Extends n
  unfolding blocks_of taken
  extension_made zero x a h g =
      first_block (link-made X x s.chain (linked-from-dag X s.chain L) (on-place X a.held) a (above s.chain L a (omega arith)) (λ r q k m. g r q (omega arith) m))
  extension_made (suc n) x a h g = extension_next n (extension_made n) x a h g

  -- the computed chain is a chain that a commit may make
  pub committed_extension : (x : P) → Anchor s (round x) x → last s.chain < round x → Extension s (committed s x)
  unfolding committed
  committed_extension x a h = extension_made (round x - suc (last s.chain)) x a (omega arith) (λ r q k m. absurd (omega arith))

module _ {R : Rules} (Y : Lawful R) {correct : ℕ → Bool} {G : Log R} {k : ℕ} {s : View R} {l : List R.P} (I : Invariant correct G k s l) where
  open R use {P, round, committee}
  open Y use {known_down}

  -- the commit of the anchor q of a round above the last block, if the votes for it weigh more than the bound
  pub commit-move : (r : ℕ) (q : P) → anchor_at s r ≡ Some q → last s.chain < r → Knows s (suc r) → Outweighs R (committee s.chain (suc (round q))) (votes s q)
      → Move correct G k s l (after_commit s (committed s q)) l
  unfolding committed blocks_of block_of
  commit-move r q found later aware more =
      commit (committed s q) (committed_extension Y X I.ordering.linked q own (omega (arith, level))) (q, own, record { aware = rw level aware; more = more })
    where
      X : Placed s
      X = all_placed I.storing

      level : round q ≡ r
      level = anchor-round X r found

      own : Anchor s (round q) q
      own = subst (λ (n : ℕ). Anchor s n q) (sym level) (anchor-at s (known_down s.chain r (suc r) (omega arith) aware) found)
