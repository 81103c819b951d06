-- Each move of a correct member in a sound world keeps what holds of that member.
use Rattle.std.proofs.Common.{◌≡◌, subst, Bool, true, List, [], ◌∷◌, ◌⊎◌, inl, inr, ℕ, arith, Some}
use Rattle.agreement.specs.Rules.{Block, Chain, Rules}
use Rattle.agreement.specs.View.{View, World, Log}
use Rattle.agreement.specs.Dag.{Closed}
use Rattle.agreement.specs.Places.{put}
use Rattle.agreement.specs.Links.{Link, ReachesLast, Linked, LastElected}
use Rattle.agreement.specs.Invariants.{Certified, Storing, Invariant, Sound}
use Rattle.agreement.specs.Moves.{Extension, first_block, next_block, Move, certify, accept, commit}
use Rattle.agreement.proofs.DagLaws.{at_place}
use Rattle.agreement.proofs.AnchorPaths.{anchor_path}
use Rattle.agreement.proofs.PlaceLaws.{put_only}
use Rattle.agreement.proofs.Growth.{Grows, closed-grows, certified-grows, ordering-grows, move-grows}
use Rattle.agreement.proofs.Signatures.{signing-kept}

-- what is asked of a certificate at (a, r), as s sees it
record Admissible {R : Rules} (correct : ℕ → Bool) (G : Log R) (s : View R) (a r : ℕ) (p : R.P) : Type 0 where
  by : R.author p ≡ a
  at : R.round p ≡ r
  closed : Closed s p
  certified : Certified correct G s p

module _ {R : Rules} {correct : ℕ → Bool} {w : World R} {G : Log R} (S : Sound correct w G) {k : ℕ} (ck : correct k ≡ true) where
  open R use {P, author, round}

  mine : Invariant correct G k (w k) (G k)
  mine = S.members k ck

  held-admissible : {a r : ℕ} {p : P} → (w k).dag a r ≡ Some p → Admissible correct G (w k) a r p
  held-admissible h =
      let x = mine.storing in
      record { by = (x.place h).0; at = (x.place h).1; closed = x.closed h; certified = x.certified h }

  put-admissible : (p : P) → Closed (w k) p → Certified correct G (w k) p → (a r : ℕ) (q : P) → put R p (w k).dag a r ≡ Some q → Admissible correct G (w k) a r q
  put-admissible p c b a r q h = go (put_only R p (w k).dag h)
    where
      go : ((author p ≡ a) × (round p ≡ r) × (p ≡ q)) ⊎ ((w k).dag a r ≡ Some q) → Admissible correct G (w k) a r q
      go (inl e) = subst (λ (z : P). Admissible correct G (w k) a r z) e.2 (record { by = e.0; at = e.1; closed = c; certified = b })
      go (inr k) = held-admissible k

  -- each certificate after a move is in order
  admissible : {t : View R} {m : List P} → Move correct G k (w k) (G k) t m → (a r : ℕ) (p : P) → t.dag a r ≡ Some p → Admissible correct G (w k) a r p
  admissible (certify p e f b) a r q h = put-admissible p (mine.signing.signable p (mine.signing.proposed p e).0).closed b a r q h
  admissible (accept p f c b) a r q h = put-admissible p c b a r q h
  admissible c a r q h = held-admissible h

  storing-kept : {t : View R} {m : List P} → Grows (w k) t → Move correct G k (w k) (G k) t m → Storing correct G t
  storing-kept g v =
      record {
        place = λ {a} {r} {p} h. let x = admissible v a r p h in (x.by, x.at);
        closed = λ {a} {r} {p} h. closed-grows S.laws g (admissible v a r p h).closed;
        certified = λ {a} {r} {p} h. certified-grows S.laws g (admissible v a r p h).certified;
      }

  -- the votes of the last block put its anchor into the history of the next
  reaches-elected : {b : Block P} (c : Chain P) → LastElected (w k) c → {x : P} → Link (w k) b c x → ReachesLast (w k) c x
  reaches-elected [] e l = tt
  reaches-elected (d ∷ c) e l =
      let x = mine.storing in
      let low = e.1.held in
      let high = l.sees.held in
      (e.0, e.1, anchor_path S ck (at_place x low) e.2 ck (at_place x high) (omega (arith, (x.place low).1, (x.place high).1, l.spaced)))

  extension_linked : {c : Chain P} → Extension (w k) c → Linked (w k) c
  extension_linked (first_block {x = x} l) = (x, l, reaches-elected (w k).chain mine.ordering.elected l, mine.ordering.linked)
  extension_linked (next_block {x = x} l p e) = (x, l, p, extension_linked e)

  -- the chain after a move is linked, with an elected top, already in the world before it
  pub new-chain : {t : View R} {m : List P} → Move correct G k (w k) (G k) t m → Linked (w k) t.chain × LastElected (w k) t.chain
  new-chain (commit c x e) = (extension_linked x, e)
  new-chain c = (mine.ordering.linked, mine.ordering.elected)

  pub invariant-kept : {t : View R} {m : List P} → Move correct G k (w k) (G k) t m → Invariant correct G k t m
  invariant-kept v =
      let g = move-grows v in
      let u = storing-kept g v in
      record {
        signing = signing-kept S.laws (w k) (G k) mine.signing g v;
        storing = u;
        ordering = ordering-grows S.laws g mine.storing u (new-chain v).0 (new-chain v).1;
      }
