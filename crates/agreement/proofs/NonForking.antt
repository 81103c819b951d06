-- In a sound world, linked chains with an elected top are prefixes of one another, whichever correct members see them so.
use Rattle.std.proofs.Common.{◌≡◌, refl, sym, ap, ap₂, ◌∙◌, subst, Bool, true, [], ◌∷◌, inl, inr, ◌≢◌, ℕ, ◌≤◌, ◌<◌, le_antisymm, arith, Some}
use Rattle.std.proofs.lemmas.Option.{same_Some}
use Rattle.base.proofs.Words.{ℕ_discrete, dec_le}
use Rattle.base.proofs.Options.{option_ext}
use Rattle.agreement.specs.Rules.{Block, Chain, last, Rules}
use Rattle.agreement.specs.View.{View, Knows, World, Log}
use Rattle.agreement.specs.Dag.{Held, Reach}
use Rattle.agreement.specs.Anchors.{Anchor, Elected}
use Rattle.agreement.specs.Links.{Link, ReachesLast, Linked, LastElected}
use Rattle.agreement.specs.Prefixes.{◌≼◌, same, grown, Comparable}
use Rattle.agreement.specs.Invariants.{Storing, Sound}
use Rattle.agreement.proofs.DagLaws.{at_place, carry}
use Rattle.agreement.proofs.NonEquivocation.{committee_agreement, dag-nonequivocation}
use Rattle.agreement.proofs.AnchorPaths.{anchor_path}

-- blocks with the same round and certificates
block_ext : {P : Type 0} {b d : Block P} → b.round ≡ d.round → ((a r : ℕ) → b.holds a r ≡ d.holds a r) → b ≡ d
block_ext e f = λ i. record { round = e i; holds = λ a r. f a r i }

-- a linked chain grows from nothing
from_nothing : {R : Rules} (s : View R) (c : Chain R.P) → Linked s c → [] ≼ c
from_nothing s [] l = same
from_nothing s (b ∷ c) l = grown b l.1.spaced (from_nothing s c l.3)

module _ {R : Rules} {correct : ℕ → Bool} {w : World R} {G : Log R} (S : Sound correct w G) where
  open R use {P, committee, leader}
  open S.laws use {known_down, apart}

  module _ {i j : ℕ} (ci : correct i ≡ true) (cj : correct j ≡ true) where
    stored : Storing correct G (w j)
    stored = (S.members j cj).storing

    -- one history, for i and for j
    carried : {p q : P} → Held (w j) p → Reach (w i) p q → Reach (w j) p q × Held (w j) q
    carried h l = carry stored (record { alike = dag-nonequivocation S ci cj }) h l

    -- the anchor that i sees is the one that j sees
    anchor-once : {r : ℕ} {p q : P} → Anchor (w i) r p → Anchor (w j) r q → p ≡ q
    anchor-once {r} {p} {q} x y = dag-nonequivocation S ci cj x.held (subst (λ (a : ℕ). (w j).dag a r ≡ Some q) (sym leads) y.held)
      where
        leads : x.lead ≡ y.lead
        leads =
            same_Some x.lead y.lead
            (sym x.leads ∙ ap (λ (v : ℕ → ℕ). leader v r) (committee_agreement S ci cj x.aware y.aware) ∙ y.leads)

    -- the anchor that i sees is j's, once j holds it and knows the round
    anchor-moves : {r : ℕ} {q : P} → Anchor (w i) r q → Knows (w j) r → Held (w j) q → Anchor (w j) r q
    anchor-moves {r} x k h =
        let e = (S.members i ci).storing.place x.held in
        record {
          aware = k;
          lead = x.lead;
          leads = ap (λ (v : ℕ → ℕ). leader v r) (committee_agreement S cj ci k x.aware) ∙ x.leads;
          held = rw (e.0, e.1) at h;
        }

    -- no anchor that i sees in the gap under j's block is in that block's history
    no_gap : {d : Block P} {e : Chain P} {y : P} {r : ℕ} {q : P} → Link (w j) d e y → Anchor (w i) r q → Reach (w j) y q → r < d.round → r ≤ last e
    no_gap {d} {e} {r = r} {q} m x l h = go (dec_le r (last e))
      where
        held : Held (w j) q
        held = (carry stored (record { alike = dag-nonequivocation S cj cj }) (at_place stored m.sees.held) l).1

        go : Dec (r ≤ last e) → r ≤ last e
        go (yes k) = k
        go (no k) = absurd (m.gap r q (omega arith) h (anchor-moves x (known_down (w j).chain r d.round (omega arith) m.sees.aware) held) l)

    -- blocks of one round have one anchor, whose history j sees as i does
    anchors-same : {b d : Block P} {c e : Chain P} {x y : P} → Link (w i) b c x → Link (w j) d e y → b.round ≡ d.round → x ≡ y
    anchors-same {y = y} l m er = anchor-once l.sees (subst (λ (r : ℕ). Anchor (w j) r y) (sym er) m.sees)

    reach_moves : {b d : Block P} {c e : Chain P} {x y : P} → Link (w i) b c x → Link (w j) d e y → b.round ≡ d.round
        → {q : P} → Reach (w i) x q → Reach (w j) y q
    reach_moves l m er {q} h =
        let k = subst (λ (z : P). Reach (w i) z q) (anchors-same l m er) h in
        (carried (at_place stored m.sees.held) k).0

    -- under two blocks of one round: i's chain ends no later than j's
    no_later : {b d : Block P} (c e : Chain P) {x y : P} → Link (w i) b c x → ReachesLast (w i) c x → Link (w j) d e y → b.round ≡ d.round → last c ≤ last e
    no_later [] e l p m er = omega arith
    no_later (f ∷ c) e l p m er = no_gap m p.1 (reach_moves l m er p.2) (omega (arith, l.spaced))

    content-moves : {b d : Block P} {c : Chain P} {x y : P} → Link (w i) b c x → Link (w j) d c y → b.round ≡ d.round
        → {a r : ℕ} {p : P} → b.holds a r ≡ Some p → d.holds a r ≡ Some p
    content-moves l m er {a} {r} {p} h =
        let f = (l.content a r p).0 h in
        (m.content a r p).1 (record { by = f.by; at = f.at; reached = reach_moves l m er f.reached; unused = f.unused })

  module _ {i j : ℕ} (ci : correct i ≡ true) (cj : correct j ≡ true) where
    -- blocks of one round on one chain are the same
    block-once : {b d : Block P} {c : Chain P} {x y : P} → Link (w i) b c x → Link (w j) d c y → b.round ≡ d.round → b ≡ d
    block-once {b} {d} l m er =
        block_ext er λ a r. option_ext (b.holds a r) (d.holds a r)
        (λ p h. content-moves ci cj l m er h) (λ p h. content-moves cj ci m l (sym er) h)

    -- linked chains of one length in rounds are the same
    same-chain : (c e : Chain P) → Linked (w i) c → Linked (w j) e → last c ≡ last e → c ≡ e
    same-chain [] [] x y er = refl
    same-chain [] (d ∷ e) x y er = absurd (omega (arith, y.1.spaced))
    same-chain (b ∷ c) [] x y er = absurd (omega (arith, x.1.spaced))
    same-chain (b ∷ c) (d ∷ e) x y er =
        join (same-chain c e x.3 y.3 (le_antisymm (no_later ci cj c e x.1 x.2 y.1 er) (no_later cj ci e c y.1 y.2 x.1 (sym er))))
      where
        join : c ≡ e → b ∷ c ≡ d ∷ e
        join k = ap₂ ◌∷◌ (block-once x.1 (subst (λ (z : Chain P). Link (w j) d z y.0) (sym k) y.1) er) k

    module _ {r : ℕ} {x : P} (a : Anchor (w i) r x) (v : Elected (w i) x) (pos : 0 < r) where
      -- a part of the chain d that ends at round r
      record Found (d : Chain P) : Type 0 where
        upper : Chain P
        linked : Linked (w j) upper
        level : last upper ≡ r
        prefix : upper ≼ d

      -- j's chain has a block at the round of an elected anchor, if it comes so far
      descend : (d : Chain P) → Linked (w j) d → r ≤ last d → Found d
      descend [] l h = absurd (omega arith)
      descend (b ∷ d) l h = go (ℕ_discrete b.round r) (dec_le r (last d)) (descend d l.3)
        where
          over : b.round ≢ r → Reach (w j) l.0 x
          over n =
              let si = (S.members i ci).storing in
              let sj = (S.members j cj).storing in
              let two = apart (committee (w i).chain r) (committee (w j).chain b.round) (omega arith) a.leads l.1.sees.leads in
              anchor_path S ci (at_place si a.held) v cj (at_place sj l.1.sees.held)
              (omega (arith, two, (si.place a.held).1, (sj.place l.1.sees.held).1))

          go : Dec (b.round ≡ r) → Dec (r ≤ last d) → (r ≤ last d → Found d) → Found (b ∷ d)
          go (yes e) k f = record { upper = b ∷ d; linked = l; level = e; prefix = same }
          go (no n) (yes k) f = let y = f k in record { upper = y.upper; linked = y.linked; level = y.level; prefix = grown b l.1.spaced y.prefix }
          go (no n) (no k) f = absurd (k (no_gap ci cj l.1 a (over n) (omega arith)))

    -- i's chain with an elected top is a prefix of j's, if it ends no later
    shorter : (c d : Chain P) → Linked (w i) c → LastElected (w i) c → Linked (w j) d → last c ≤ last d → c ≼ d
    shorter [] d x v y h = from_nothing (w j) d y
    shorter (b ∷ c) d x v y h =
        let f = descend v.1 v.2 (omega (arith, x.1.spaced)) d y h in
        subst (λ (z : Chain P). z ≼ d) (sym (same-chain (b ∷ c) f.upper x f.linked (sym f.level))) f.prefix

  -- linked chains with elected tops are comparable
  pub comparable : {i j : ℕ} → correct i ≡ true → correct j ≡ true → (c d : Chain P)
      → Linked (w i) c → LastElected (w i) c → Linked (w j) d → LastElected (w j) d → Comparable c d
  comparable {i} {j} ci cj c d x u y v = go (dec_le (last c) (last d))
    where
      go : Dec (last c ≤ last d) → Comparable c d
      go (yes h) = inl (shorter ci cj c d x u y h)
      go (no h) = inr (shorter cj ci d c y v x (omega arith))
