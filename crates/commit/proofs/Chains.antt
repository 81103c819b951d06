-- The chain on the table after a commit is the one that the theory's commit makes.
use Rattle.std.proofs.Common.{◌≡◌, refl, sym, ap, ap₂, ◌∙◌, Bool, true, false, ◌&&◌, cond, List, [], ◌∷◌, ℕ, zero, suc, ◌+◌, ◌-◌, ◌≤◌, ◌<◌, arith, eqb, get_or, length, lt-ltb, le-ltb}
use Rattle.base.proofs.Words.{ℕ_discrete}
use Rattle.base.specs.Sets.{only}
use Rattle.agreement.specs.Rules.{Chain, last, Rules}
use Rattle.agreement.specs.View.{View}
use Rattle.agreement.specs.Dag.{is_held, Held}
use Rattle.agreement.proofs.DagLaws.{held_by, on-place}
use Rattle.agreement.proofs.HistoryLaws.{history-held}
use Rattle.agreement.specs.Commits.{committed}
use Rattle.agreement.specs.Marks.{MarksFit, marked_chain, mark_block, rounds_of, marks_of}
use Rattle.agreement.proofs.MarkLaws.{marks-committed}
use Rattle.store.specs.Table.{Row, mark_at, block_round}
use Rattle.store.proofs.MarkLaws.{OnlyMarks}
use Rattle.store.proofs.TableLaws.{held-member}
use Rattle.blocks.proofs.HistoryLaws.{history-marked}
use Rattle.blocks.specs.Anchors.{taken_leaders}
use Rattle.blocks.proofs.TakenLaws.{taken-left}
use Rattle.blocks.specs.Blocks.{add_block, commit_table, commit_count}
use Rattle.blocks.proofs.MarkLaws.{new_mark, block-mark, block-round-new, block-round-old}
use Rattle.blocks.proofs.CommitLaws.{Stage, commit-each}
use Rattle.commit.proofs.Histories.{Shows, history-same}
use Rattle.commit.proofs.Anchors.{anchor_in, anchors_in, Ready, author-low, left-top, anchors-left}
use Rattle.agreement.specs.Histories as theory

unfoldable pub rounds_in : List ℕ → ℕ → List ℕ
rounds_in t zero = []
rounds_in t (suc n) = block_round t (suc n) ∷ rounds_in t n

pub rounds-none : (t : List ℕ) → rounds_in t 0 ≡ []
unfolding rounds_in
rounds-none t = refl

pub rounds-more : (t : List ℕ) (n : ℕ) → rounds_in t (suc n) ≡ block_round t (suc n) ∷ rounds_in t n
unfolding rounds_in
rounds-more t n = refl

pub rounds-length : (t : List ℕ) (n : ℕ) → length (rounds_in t n) ≡ n
unfolding rounds_in
rounds-length t zero = refl
rounds-length t (suc n) = ap suc (rounds-length t n)

rounds-same : (t u : List ℕ) (n : ℕ) → ((j : ℕ) → 0 < j → j ≤ n → block_round t j ≡ block_round u j) → rounds_in t n ≡ rounds_in u n
unfolding rounds_in
rounds-same t u zero f = refl
rounds-same t u (suc n) f = ap₂ ◌∷◌ (f (suc n) (omega arith) (omega arith)) (rounds-same t u n λ j h l. f j h (omega arith))

module _ {R : Rules} (s : View R) where
  unfoldable pub marks_in : List ℕ → ℕ → ℕ → ℕ
  marks_in t a q = cond (is_held (s.dag a q)) (mark_at t a q) 0

  pub marks_in_lem : (t : List ℕ) (a q : ℕ) → marks_in t a q ≡ cond (is_held (s.dag a q)) (mark_at t a q) 0
  unfolding marks_in
  marks_in_lem t a q = refl

  abbrev pub chain_in : List ℕ → ℕ → Chain R.P
  chain_in t n = marked_chain s.dag (marks_in t) (rounds_in t n)

module _ {R : Rules} {s : View R} {c : ℕ} {t : List ℕ} (S : Shows s c t) where
  open R use {P, author, round}

  -- one more block
  module _ {x : P} (hx : Held s x) (low : author x < 16) (top : round x ≤ c) (k : ℕ) {n : ℕ} (u : List ℕ) (o : OnlyMarks n t u) (long : Row u (round x)) where
    marks-added : (i q : ℕ) → marks_in s (add_block (suc k) (author x) (round x) u) i q ≡ mark_block s x (suc k) (marks_in s u) i q
    unfolding marks_in mark_block
    marks-added i q = go (is_held (s.dag i q)) refl
      where
        go : (b : Bool) → is_held (s.dag i q) ≡ b
            → cond b (mark_at (add_block (suc k) (author x) (round x) u) i q) 0 ≡ cond (eqb (cond b (mark_at u i q) 0) 0 && theory.in_history s x q i) (suc k) (cond b (mark_at u i q) 0)
        go true h =
            let z = S.inside i q h in
            block-mark (suc k) (author x) (round x) u long i q (held-member t i q (S.held i q z.0 z.1 ∙ h)) z.0
            ∙ ap (λ (y : Bool). new_mark (suc k) y (mark_at u i q)) (history-marked o (round x) (only (author x)) i q ∙ history-same S hx top low i q z.0)
        go false h = rw (history-held S.placed hx q i h) refl

    rounds-added : Row u (suc k) → rounds_in (add_block (suc k) (author x) (round x) u) (suc k) ≡ round x ∷ rounds_in u k
    unfolding rounds_in
    rounds-added h =
        ap₂ ◌∷◌ (block-round-new (suc k) (author x) (round x) u h)
        (rounds-same (add_block (suc k) (author x) (round x) u) u k λ j z l. block-round-old (suc k) (author x) (round x) j u (omega arith))

module _ {R : Rules} {s : View R} {c k : ℕ} {l t : List ℕ} {x : R.P} (W : Ready s c k l t x) where
  open R use {P, author, round}

  abbrev m : ℕ
  m = last s.chain

  abbrev left : List ℕ
  left = taken_leaders t m (round x) l

  abbrev anchors : ℕ → List P
  anchors r = anchors_in s left m (r - m)

  record Made (r b : ℕ) (u : List ℕ) : Type 0 where
    marks : marks_in s u ≡ marks_of s (marks_in s t) (rounds_in t k) (anchors r)
    rounds : rounds_in u b ≡ rounds_of R (rounds_in t k) (anchors r)

  left-held : (r : ℕ) → m < r → r ≤ round x → get_or left r 0 < 16 → is_held (s.dag (get_or left r 0) r) ≡ true
  left-held r h i g = go (ℕ_discrete r (round x))
    where
      go : Dec (r ≡ round x) → is_held (s.dag (get_or left r 0) r) ≡ true
      go (yes e) = rw (e, left-top W, W.held) refl
      go (no e) =
          let y = taken-left t m (round x) l W.above W.leaders r g in
          rw y.0 (sym (W.shows.held (get_or l r 0) r (omega arith) (omega (arith, W.inside))) ∙ y.1 h (omega arith))

  made : (r b : ℕ) (u : List ℕ) → Stage m k t r b u → r < round x → get_or left (suc r) 0 < 16 → Made r b u
      → Made (suc r) (suc b) (add_block (suc b) (get_or left (suc r) 0) (suc r) u)
  unfolding anchors_in anchor_in marks_of rounds_of
  made r b u S h a d =
      let f = S.from in
      let g = held_by (s.dag (get_or left (suc r) 0) (suc r)) (left-held (suc r) (omega arith) h a) in
      let q = g.0 in
      let p = W.shows.placed.place g.1 in
      let hq : Held s q = on-place W.shows.placed g.1 in
      let i : suc r - m ≡ suc (r - m) = omega arith in
      let j : m + suc (r - m) ≡ suc r = omega arith in
      let size = S.only.size in
      let table = W.table in
      let long : Row u (round q) = omega (arith, p.1, W.inside) in
      let wide : Row u (suc b) = omega (arith, S.few, W.few, W.inside) in
      let z = lt-ltb (get_or left (suc r) 0) 16 a in
      let count : length (rounds_of R (rounds_in t k) (anchors r)) ≡ b = ap length (sym d.rounds) ∙ rounds-length u b in
      let first = marks-added W.shows hq (author-low W hq) (omega (arith, p.1, W.inside)) b u S.only long in
      let second = rounds-added W.shows hq (author-low W hq) (omega (arith, p.1, W.inside)) b u S.only long wide in
      record {
        marks = rw (i, j, z, g.1, count, ← d.marks) (λ w. λ e y. (rw (p.0, p.1) at (first e y)) w);
        rounds = rw (i, j, z, g.1, ← d.rounds) ((rw (p.0, p.1) at second) ∙ ap (λ (v : ℕ). v ∷ rounds_in u b) (sym p.1));
      }

  passed : (r b : ℕ) (u : List ℕ) → Stage m k t r b u → r < round x → 16 ≤ get_or left (suc r) 0 → Made r b u → Made (suc r) b u
  unfolding anchors_in anchor_in
  passed r b u S h a d =
      let f = S.from in
      let i : suc r - m ≡ suc (r - m) = omega arith in
      let j : m + suc (r - m) ≡ suc r = omega arith in
      let z = le-ltb (get_or left (suc r) 0) 16 a in
      record { marks = rw (i, j, z) d.marks; rounds = rw (i, j, z) d.rounds }

  all_made : Made (round x) (commit_count m (round x) k l t) (commit_table m (round x) k l t)
  unfolding anchors_in marks_of rounds_of
  all_made =
      let e : m - m ≡ 0 = omega arith in
      commit-each m (round x) k l t W.few W.above Made (record { marks = rw e refl; rounds = rw e refl }) made passed

  -- the chain that the table shows after the commit is the chain that the theory's commit makes
  pub commit-chain : MarksFit s (marks_in s t) k → s.chain ≡ chain_in s t k → chain_in s (commit_table m (round x) k l t) (commit_count m (round x) k l t) ≡ committed s x
  commit-chain fits chain =
      let f : MarksFit s (marks_in s t) (length (rounds_in t k)) = rw (rounds-length t k) fits in
      rw (all_made.marks, all_made.rounds, anchors-left W) (marks-committed W.shows.placed (marks_in s t) (rounds_in t k) f chain x W.held)
