-- What a member knows stays when its certificates and its chain grow, and every move grows them.
use Rattle.std.proofs.Common.{◌≡◌, sym, ◌∙◌, Bool, true, List, [], ◌∷◌, ◌⊎◌, inl, inr, ℕ, suc, ◌≤◌, arith, Some}
use Rattle.std.proofs.lemmas.Option.{same_Some}
use Rattle.agreement.specs.Weights.{weigh}
use Rattle.agreement.specs.Rules.{Block, Chain, Rules}
use Rattle.agreement.specs.Laws.{Lawful}
use Rattle.agreement.specs.View.{View, Knows, Log}
use Rattle.agreement.specs.Dag.{Held, Reach, Closed}
use Rattle.agreement.specs.Anchors.{Anchor, votes, Elected}
use Rattle.agreement.specs.Links.{Link, ReachesLast, Linked, LastElected}
use Rattle.agreement.specs.Prefixes.{◌≼◌, same, grown}
use Rattle.agreement.specs.Invariants.{PreviousQuorum, Signable, Ordering, Certified, Storing}
use Rattle.agreement.specs.Moves.{Extension, first_block, next_block, Move, other_call, propose, endorse, certify, accept, advance, commit}
use Rattle.agreement.proofs.WeightLaws.{weigh_mono}
use Rattle.agreement.proofs.KnownCommittees.{known_stays, committee_stays}
use Rattle.agreement.proofs.DagLaws.{vote-by, Compatible, at_place, carry}
use Rattle.agreement.proofs.PlaceLaws.{put-old}

-- t has all that s has
pub record Grows {R : Rules} (s t : View R) : Type 0 where
  pub dag : {a r : ℕ} {p : R.P} → s.dag a r ≡ Some p → t.dag a r ≡ Some p
  pub chain : s.chain ≼ t.chain

module _ {R : Rules} (Y : Lawful R) {s t : View R} (g : Grows s t) where
  open R use {size, P, round, committee}

  alike : Compatible s t
  alike = record { alike = λ {a} {r} {p} {q} h k. same_Some p q (sym (g.dag h) ∙ k) }

  alike-back : Compatible t s
  alike-back = record { alike = λ {a} {r} {p} {q} h k. same_Some p q (sym h ∙ g.dag k) }

  knows_grows : {r : ℕ} → Knows s r → Knows t r
  knows_grows k = known_stays Y g.chain k

  stays : {r : ℕ} → Knows s r → committee t.chain r ≡ committee s.chain r
  stays k = committee_stays Y g.chain k

  pub closed-grows : {p : P} → Closed s p → Closed t p
  closed-grows f m a e n = let h = f m a e n in (h.0, g.dag h.1)

  previous-grows : {p : P} → PreviousQuorum s p → PreviousQuorum t p
  previous-grows v =
      record {
        before = v.before;
        follows = v.follows;
        aware = knows_grows v.aware;
        quorum = rw (stays v.aware) v.quorum;
        someone = v.someone;
        named = v.named;
      }

  pub signable-grows : {p : P} → Signable s p → Signable t p
  signable-grows {p} h = record { closed = closed-grows h.closed; previous = go h.previous }
    where
      go : (round p ≡ 1) ⊎ PreviousQuorum s p → (round p ≡ 1) ⊎ PreviousQuorum t p
      go (inl e) = inl e
      go (inr v) = inr (previous-grows v)

  pub certified-grows : {correct : ℕ → Bool} {G : Log R} {p : P} → Certified correct G s p → Certified correct G t p
  certified-grows x =
      record {
        aware = knows_grows x.aware;
        signers = x.signers;
        quorum = rw (stays x.aware) x.quorum;
        with_author = x.with_author;
        signs = x.signs;
      }

  anchor-grows : {r : ℕ} {q : P} → Anchor s r q → Anchor t r q
  anchor-grows x = record { aware = knows_grows x.aware; lead = x.lead; leads = rw (stays x.aware) x.leads; held = g.dag x.held }

  elected-grows : {q : P} → Elected s q → Elected t q
  elected-grows {q} v = record { aware = knows_grows v.aware; more = rw (stays v.aware) (omega (arith, v.more, wider)) }
    where
      still : (i : ℕ) → votes s q i ≡ true → votes t q i ≡ true
      still i h =
          let x = vote-by R (s.dag i (suc (round q))) h in
          rw (g.dag x.1) x.2

      wider : weigh size (committee s.chain (suc (round q))) (votes s q) ≤ weigh size (committee s.chain (suc (round q))) (votes t q)
      wider = weigh_mono size (committee s.chain (suc (round q))) (votes s q) (votes t q) still

  last-elected-grows : (c : Chain P) → LastElected s c → LastElected t c
  last-elected-grows [] x = tt
  last-elected-grows (b ∷ c) x = (x.0, anchor-grows x.1, elected-grows x.2)

module _ {R : Rules} (Y : Lawful R) {correct : ℕ → Bool} {G : Log R} {s t : View R} (g : Grows s t) (T : Storing correct G s) (U : Storing correct G t) where
  open R use {P}
  open Y use {known_down}

  -- a held certificate has the history that it had
  forth : {p q : P} → Held s p → Reach s p q → Reach t p q
  forth h l = (carry U (alike Y g) (g.dag h) l).0

  back-again : {p q : P} → Held s p → Reach t p q → Reach s p q × Held s q
  back-again h l = carry T (alike-back Y g) h l

  link-grows : {b : Block P} {c : Chain P} {x : P} → Link s b c x → Link t b c x
  link-grows {b} {x = top} l =
      record {
        sees = anchor-grows Y g l.sees;
        spaced = l.spaced;
        gap = λ r q h k x m.
            let n = back-again held m in
            let known : Knows s r = known_down s.chain r b.round (omega arith) l.sees.aware in
            let e = U.place x.held in
            l.gap r q h k (record { aware = known; lead = x.lead; leads = rw (stays Y g known) at x.leads; held = rw (e.0, e.1) at n.1 }) n.0;
        content = λ a r p. (
          (λ h. let f = (l.content a r p).0 h in record { by = f.by; at = f.at; reached = forth held f.reached; unused = f.unused }),
          (λ f. (l.content a r p).1 (record { by = f.by; at = f.at; reached = (back-again held f.reached).0; unused = f.unused })),
        );
      }
    where
      held : Held s top
      held = at_place T l.sees.held

  reaches-last-grows : {x : P} (c : Chain P) → Held s x → ReachesLast s c x → ReachesLast t c x
  reaches-last-grows [] h p = tt
  reaches-last-grows (b ∷ c) h p = (p.0, anchor-grows Y g p.1, forth h p.2)

  linked-grows : (c : Chain P) → Linked s c → Linked t c
  linked-grows [] l = tt
  linked-grows (b ∷ c) l = (l.0, link-grows l.1, reaches-last-grows c (at_place T l.1.sees.held) l.2, linked-grows c l.3)

  pub ordering-grows : Linked s t.chain → LastElected s t.chain → Ordering t
  ordering-grows l e = record { linked = linked-grows t.chain l; elected = last-elected-grows Y g t.chain e }

-- a commit's chain grows from the chain before
extension_grows : {R : Rules} {s : View R} {c : Chain R.P} → Extension s c → s.chain ≼ c
extension_grows (first_block {b = b} l) = grown b l.spaced same
extension_grows (next_block {b = b} l p x) = grown b l.spaced (extension_grows x)

-- every move grows the view
pub move-grows : {R : Rules} {correct : ℕ → Bool} {G : Log R} {k : ℕ} {s t : View R} {l m : List R.P} → Move correct G k s l t m → Grows s t
move-grows other_call = record { dag = λ h. h; chain = same }
move-grows (propose p ek er f g) = record { dag = λ h. h; chain = same }
move-grows (endorse p n e f g) = record { dag = λ h. h; chain = same }
move-grows {R} {s = s} (certify p e f b) = record { dag = λ h. put-old R p s.dag f h; chain = same }
move-grows {R} {s = s} (accept p f c b) = record { dag = λ h. put-old R p s.dag f h; chain = same }
move-grows advance = record { dag = λ h. h; chain = same }
move-grows (commit c x e) = record { dag = λ h. h; chain = extension_grows x }
