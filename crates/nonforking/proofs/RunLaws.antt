-- A run of engines is a run of the rules, on the same list of calls.
use Rattle.std.proofs.Common.{◌≡◌, sym, ◌∙◌, subst, subst₂, true, List, [], ◌∷◌, ◌++◌, inl, inr, ℕ, ◌≤◌, Some}
use Rattle.std.proofs.lemmas.Option.{same_Some}
use Rattle.agreement.specs.Weights.{weigh, total, outside}
use Rattle.agreement.specs.Listing.{listing, Lists}
use Rattle.agreement.proofs.EntryLaws.{Each, kept}
use Rattle.terms.specs.Proposals.{Content, content_of, transactions_of}
use Rattle.terms.specs.declared.sheet.Settings.{Settings}
use Rattle.terms.specs.Ranges.{weight_in}
use Rattle.committee.specs.Committees.{committee_of, ordered, known_by, bound_of}
use Rattle.rules.specs.Tests.{MemberView}
use Rattle.rules.specs.Calls as rules
use Rattle.rules.specs.Signatures as signatures
use Rattle.rules.proofs.Runs as runs
use Rattle.state.specs.View.{own_proposal}
use Rattle.state.proofs.ViewLaws.{proposal-some}
use Rattle.certify.proofs.PassedLaws.{certify-passed}
use Rattle.draw.specs.Draw.{drawn_body}
use Rattle.engine.specs.Calls.{Call, certify, accept}
use Rattle.engine.specs.Engine.{Engine, refusal_for, after}
use Rattle.engine.specs.Steps.{view_at, ruled}
use Rattle.engine.specs.Reached.{Good}
use Rattle.engine.proofs.RuledLaws.{good_after}
use Rattle.nonforking.specs.Statement.{chain, Prefix, draft, Members, Entry, Takes, certifies, accepts, Proposes, proposes, draws, Endorses, endorses, engine_after, Made, Signed, Fair, WithinBound, Run, engine_behaviour}
use Rattle.nonforking.proofs.Implemented.{Handed}
use Rattle.nonforking.proofs.StartLaws.{starts, group}
use Rattle.state.specs.States.{own_body}

-- ---- one call

-- an accepted certify has a proposal
pub proposal-there : (e : Engine) (d : ℕ) → refusal_for e (certify d) ≡ 0 → own_proposal e.state ≡ Some (draft e (own_body e.state))
proposal-there e d a = proposal-some e.state (certify-passed e.state e.table d a).proposing

module _ (S : Settings) (e : Engine) where
  propose-ruled : (c : Call) (p : Content) → Proposes e c p → signatures.Proposes S p.author (view_at S e) (ruled e c) p
  propose-ruled c p (proposes b) = signatures.proposes b.previous (transactions_of b)
  propose-ruled c p (draws v) = let b = drawn_body e.state e.table v in signatures.proposes b.previous (transactions_of b)

  endorse-ruled : (c : Call) (p : Content) → Endorses c p → signatures.Endorses (ruled e c) p
  endorse-ruled c p (endorses q) = signatures.endorses (content_of q)

  -- what the rules' call takes in, the engine's does
  takes_back : (c : Call) → refusal_for e c ≡ 0 → (p : Content) (d : ℕ) → signatures.Takes S (view_at S e) (ruled e c) p d → Takes e c p d
  takes_back (certify d) a p x (signatures.certifies q y i) =
      subst (λ (z : Content). Takes e (certify d) z d) (same_Some _ q (sym (proposal-there e d a) ∙ i)) (certifies d)
  takes_back (accept c) a p x (signatures.accepts q y) = accepts c
  takes_back c a p x y = elim y [ ]

-- the rules speak of the settings of all, the claim of each member's own
pub prefix-own : {S : Settings} {i j : ℕ} (e d : Engine) → Good S i e → Good S j d → Lists (ordered S) (chain e) (chain d) → Prefix e d
prefix-own e d g h =
    subst₂ (λ (T U : Settings). (more : List (ℕ × List Content)) × (listing (ordered U) (chain d) ≡ listing (ordered T) (chain e) ++ more)) (sym g.settings) (sym h.settings)

-- ---- a list of calls

-- every call was handed in
abbrev pub AllHanded : Members engine_behaviour → List Entry → Type 0
AllHanded X l = Each (λ k e c. after e c) (starts X) Handed l

module _ (X : Members engine_behaviour) where
  open X use {correct, settings}

  made-ruled : (f : Engine → Call → Type 0) (h : MemberView settings → rules.Call → Type 0) → ((e : Engine) (c : Call) → f e c → h (view_at settings e) (ruled e c))
      → (i : ℕ) (l : List Entry) → Made X f i l → runs.Made (group X) h i l
  made-ruled f h g i [] m = absurd m
  made-ruled f h g i (e ∷ l) (inl m) = inl (m.0, m.1, g (engine_after X l i) e.call m.2)
  made-ruled f h g i (e ∷ l) (inr m) = inr (made-ruled f h g i l m)

  signed-ruled : (l : List Entry) (p : Content) (d : ℕ) → Signed X p d l → runs.Signed (group X) p d l
  signed-ruled l p d x =
      record {
        by_author = λ c. made-ruled (λ e c. Proposes e c p) (λ s c. signatures.Proposes settings p.author s c p) (λ e c. propose-ruled settings e c p) p.author l (x.by_author c);
        by_endorsers = λ i c n. made-ruled (λ e c. Endorses c p) (λ s c. signatures.Endorses c p) (λ e c. endorse-ruled settings e c p) i l (x.by_endorsers i c n);
      }

  fair_ruled : (e : Entry) (l : List Entry) → Fair X e l → runs.Fair (group X) e l
  fair_ruled e l x =
      record {
        by = x.by;
        handed = (x.is_in_range, x.still_open);
        signed = λ a p d t. signed-ruled l p d (x.signed a p d (takes_back settings (engine_after X l e.who) e.call a p d t));
      }

  all-handed : (l : List Entry) → Run X l → AllHanded X l
  all-handed [] r = tt
  all-handed (e ∷ l) r = ((r.0.is_in_range, r.0.still_open), all-handed l r.2)

  pub run-good : (l : List Entry) → Run X l → (i : ℕ) → correct i ≡ true → Good settings i (engine_after X l i)
  run-good l r i c = kept (λ k e c. after e c) (starts X) Handed (Good settings) (λ k e c h g. good_after g c h.0 h.1) i ((group X).good i c) l (all-handed l r)

  bound-ruled : (l : List Entry) → Run X l → WithinBound X l → runs.WithinBound (group X) l
  bound-ruled l r b j q c i =
      let x = chain (engine_after X l j) in
      subst
      (λ (T : Settings). known_by T x q ≡ true → weigh 16 (weight_in (committee_of T x q)) (outside correct) ≤ bound_of settings.margin (total 16 (weight_in (committee_of T x q))))
      (run-good l r j c).settings (b j q c i.0 i.1)

  pub run-ruled : (l : List Entry) → Run X l → runs.Run (group X) l
  run-ruled [] r = bound-ruled [] r r
  run-ruled (e ∷ l) r = (fair_ruled e l r.0, bound-ruled (e ∷ l) r r.1, run-ruled l r.2)
