-- In a sound world no two correct members hold different certificates at one place.
use Rattle.std.proofs.Common.{◌≡◌, sym, ap, ◌∙◌, Bool, true, ℕ, Some}
use Rattle.agreement.specs.Rules.{Rules}
use Rattle.agreement.specs.View.{Knows, World, Log, Among}
use Rattle.agreement.specs.Dag.{Held}
use Rattle.agreement.specs.Quorum.{Common, Tolerant}
use Rattle.agreement.specs.Invariants.{Certified, Sound}
use Rattle.agreement.proofs.QuorumIntersection.{quorum_pos, quorums_meet, quorum-correct}
use Rattle.agreement.proofs.KnownCommittees.{comparable-committee}
use Rattle.agreement.proofs.DagLaws.{at_place}

module _ {R : Rules} {correct : ℕ → Bool} {w : World R} {G : Log R} (S : Sound correct w G) where
  open R use {size, P, author, round, committee}

  -- correct members who know a round know the same committee
  pub committee_agreement : {i j r : ℕ} → correct i ≡ true → correct j ≡ true → Knows (w i) r → Knows (w j) r
      → committee (w i).chain r ≡ committee (w j).chain r
  committee_agreement {i} {j} ci cj k l = comparable-committee S.laws (S.agree i j ci cj) k l

  -- the certificate that a correct member holds has a quorum of signers, in a committee with few faults
  certified : {i : ℕ} {p : P} → correct i ≡ true → Held (w i) p → Certified correct G (w i) p
  certified {i} ci h = (S.members i ci).storing.certified h

  few_faults : {i : ℕ} {p : P} → correct i ≡ true → Held (w i) p → Tolerant R correct (committee (w i).chain (round p))
  few_faults {i} {p} ci h = S.tolerant i p ci h (certified ci h).aware

  -- two certificates of one author and round, held by correct members, are the same
  held-once : {i j : ℕ} {p q : P} → correct i ≡ true → correct j ≡ true → Held (w i) p → Held (w j) q → author p ≡ author q → round p ≡ round q → p ≡ q
  held-once {i} {j} {p} {q} ci cj hp hq ea er =
      (S.members m.who m.third).signing.nonequivocation p q
      (x.signs m.who m.third m.first) (y.signs m.who m.third m.second) ea er
    where
      x : Certified correct G (w i) p
      x = certified ci hp

      y : Certified correct G (w j) q
      y = certified cj hq

      alike : committee (w j).chain (round q) ≡ committee (w i).chain (round p)
      alike = ap (committee (w j).chain) (sym er) ∙ committee_agreement cj ci (rw (← er) at y.aware) x.aware

      m : Common size x.signers y.signers correct
      m = quorums_meet S.laws (few_faults ci hp) (quorum_pos R x.quorum x.with_author) x.quorum (rw alike at y.quorum)

  -- two certificates held at one place are the same
  pub dag-nonequivocation : {i j a r : ℕ} {p q : P} → correct i ≡ true → correct j ≡ true → (w i).dag a r ≡ Some p → (w j).dag a r ≡ Some q → p ≡ q
  dag-nonequivocation {i} {j} {a} {r} {p} {q} ci cj hp hq =
      let si = (S.members i ci).storing in
      let sj = (S.members j cj).storing in
      held-once ci cj (at_place si hp) (at_place sj hq) ((si.place hp).0 ∙ sym (sj.place hq).0) ((si.place hp).1 ∙ sym (sj.place hq).1)

  -- a correct member signed p
  pub record Signer (p : P) : Type 0 where
    pub who : ℕ
    pub good : correct who ≡ true
    pub signed : Among p (G who)

  -- what a correct member holds has a correct signer
  pub signer : {i : ℕ} {p : P} → correct i ≡ true → Held (w i) p → Signer p
  signer {i} {p} ci h =
      let x = certified ci h in
      let m = quorum-correct S.laws {C = correct} (few_faults ci h) (quorum_pos R x.quorum x.with_author) x.quorum in
      record { who = m.who; good = m.third; signed = x.signs m.who m.third m.first }
