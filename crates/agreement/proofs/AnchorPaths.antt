-- An anchor that has the votes is in the history of every certificate held two or more rounds above it.
use Rattle.std.proofs.Common.{◌≡◌, sym, ap, ◌∙◌, Bool, true, ◌⊎◌, inl, inr, ℕ, zero, suc, ◌+◌, ◌-◌, ◌≤◌, arith, Some}
use Rattle.agreement.specs.Quorum.{Common}
use Rattle.agreement.specs.Rules.{Rules}
use Rattle.agreement.specs.View.{World, Log}
use Rattle.agreement.specs.Dag.{Held, Reach, here, back}
use Rattle.agreement.specs.Anchors.{votes, Elected}
use Rattle.agreement.specs.Invariants.{PreviousQuorum, Storing, Sound}
use Rattle.agreement.proofs.WeightLaws.{everyone}
use Rattle.agreement.proofs.QuorumIntersection.{voters-meet}
use Rattle.agreement.proofs.DagLaws.{vote-by, at_place}
use Rattle.agreement.proofs.NonEquivocation.{committee_agreement, dag-nonequivocation, Signer, signer}

module _ {R : Rules} {correct : ℕ → Bool} {w : World R} {G : Log R} (S : Sound correct w G) where
  open R use {size, P, author, round, names, committee}

  -- above round 1, what a correct member holds names a quorum of the round before, as some correct member knows it
  pub record DagPrevious (p : P) : Type 0 where
    pub who : ℕ
    pub good : correct who ≡ true
    pub previous : PreviousQuorum (w who) p

  pub dag-previous-quorum : {j : ℕ} {p : P} → correct j ≡ true → Held (w j) p → 2 ≤ round p → DagPrevious p
  dag-previous-quorum {j} {p} cj h two = go k.who k.good ((S.members k.who k.good).signing.signable p k.signed).previous
    where
      k : Signer S p
      k = signer S cj h

      go : (i : ℕ) → correct i ≡ true → (round p ≡ 1) ⊎ PreviousQuorum (w i) p → DagPrevious p
      go i c (inl e) = absurd (omega arith)
      go i c (inr v) = record { who = i; good = c; previous = v }

  module _ {i : ℕ} {c : P} (ci : correct i ≡ true) (hc : Held (w i) c) (vc : Elected (w i) c) {j : ℕ} (cj : correct j ≡ true) where
    -- what i holds at a place is what j holds there
    settle : {a r : ℕ} {q : P} → (w i).dag a r ≡ Some q → (q' : P) × ((w j).dag a r ≡ Some q') → (w j).dag a r ≡ Some q
    settle h y = y.1 ∙ ap Some (sym (dag-nonequivocation S ci cj h y.1))

    -- two rounds above: the previous quorum meets the voters
    path_two : {p : P} → Held (w j) p → round p ≡ suc (suc (round c)) → Reach (w j) p c
    path_two {p} h e = back (suc (round c)) m.who e m.first hq (back (round c) (author c) (sj.place hq).1 x.2 hc' here)
      where
        sj : Storing correct G (w j)
        sj = (S.members j cj).storing

        u : DagPrevious p
        u = dag-previous-quorum cj h (omega arith)

        level : u.previous.before ≡ suc (round c)
        level = omega (arith, u.previous.follows)

        alike : committee (w u.who).chain u.previous.before ≡ committee (w i).chain (suc (round c))
        alike = ap (committee (w u.who).chain) level ∙ committee_agreement S u.good ci (rw level at u.previous.aware) vc.aware

        m : Common size (names p) (votes (w i) c) everyone
        m = voters-meet R (rw alike at u.previous.quorum) vc.more

        x : (q : P) × ((w i).dag m.who (suc (round c)) ≡ Some q) × (names q (author c) ≡ true)
        x = vote-by R ((w i).dag m.who (suc (round c))) m.second

        hq : (w j).dag m.who (suc (round c)) ≡ Some x.0
        hq = settle x.1 (sj.closed h (suc (round c)) m.who e m.first)

        hc' : (w j).dag (author c) (round c) ≡ Some c
        hc' = settle hc (sj.closed hq (round c) (author c) (sj.place hq).1 x.2)

    path_up : (n : ℕ) {p : P} → Held (w j) p → round p ≡ n + suc (suc (round c)) → Reach (w j) p c
    path_up zero h e = path_two h (omega arith)
    path_up (suc n) {p} h e =
        let sj = (S.members j cj).storing in
        let v : DagPrevious p = dag-previous-quorum cj h (omega arith) in
        let u = v.previous in
        let y = sj.closed h u.before u.someone u.follows u.named in
        back u.before u.someone u.follows u.named y.1
        (path_up n (at_place sj y.1) (omega (arith, u.follows, (sj.place y.1).1)))

    -- whatever j holds two or more rounds above c has c in its history
    pub anchor_path : {p : P} → Held (w j) p → round c + 2 ≤ round p → Reach (w j) p c
    anchor_path {p} h l = path_up (round p - (round c + 2)) h (omega arith)
