-- Of two ways in which engines answer one refuses more: its runs, their refused calls left out, are runs of the other.
use Rattle.std.proofs.Common.{◌≡◌, refl, sym, ap, ◌∙◌, subst, Bool, true, false, cond, List, [], ◌∷◌, inl, inr, ◌≢◌, ℕ, ◌≤◌, eqb, eqb-true}
use Rattle.base.proofs.Words.{fun_ext, eqb-false}
use Rattle.agreement.specs.Weights.{weigh, total, outside}
use Rattle.agreement.specs.Entries.{states}
use Rattle.terms.specs.Proposals.{Content}
use Rattle.committee.specs.Committees.{bound_of}
use Rattle.engine.specs.Calls.{Call}
use Rattle.engine.specs.Engine.{Engine}
use Rattle.nonforking.specs.Statement.{Behaviour, Members, Entry, engine_after, Knows, weights, Takes, Proposes, Endorses, Made, Signed, Fair, WithinBound, Run}
use Rattle.earlier.specs.Refusing.{AllAccepted, accepted_only, RefusesMore, answering_as, WasAllowed}

module _ {E D : Behaviour} (R : RefusesMore E D) (X : Members E) where
  open X use {correct, before, sheet, settings}

  -- the same members, answering as D
  abbrev Y : Members D
  Y = answering_as R X

  -- the number that E gives to the entry e after the entries l
  abbrev number_at : Entry → List Entry → ℕ
  number_at e l = E.refusal (engine_after X l e.who) e.call

  same-engine : (l : List Entry) (i : ℕ) → engine_after Y (accepted_only X l) i ≡ engine_after X l i
  unfolding states accepted_only
  same-engine [] i = R.opens_alike (before i) (record { 0 = i }) (sheet i)
  same-engine (e ∷ l) i = go (eqb (number_at e l) 0) refl (eqb i e.who) refl (same-engine l i)
    where
      go : (b : Bool) → eqb (number_at e l) 0 ≡ b → (h : Bool) → eqb i e.who ≡ h → engine_after Y (accepted_only X l) i ≡ engine_after X l i
          → engine_after Y (accepted_only X (e ∷ l)) i ≡ engine_after X (e ∷ l) i
      go true q true t k =
          let a = subst (λ (j : ℕ). E.refusal (engine_after X l j) e.call ≡ 0) (sym (eqb-true i e.who t)) (eqb-true (number_at e l) 0 q) in
          rw (q, t) (ap (λ (x : Engine). D.after x e.call) k ∙ (R.allowed (engine_after X l i) e.call a).1)
      go false q true t k =
          let a = subst (λ (j : ℕ). E.refusal (engine_after X l j) e.call ≢ 0) (sym (eqb-true i e.who t)) (eqb-false (number_at e l) 0 q) in
          rw (q, t) (k ∙ sym (R.unchanged (engine_after X l i) e.call a))
      go true q false t k = rw (q, t) k
      go false q false t k = rw (q, t) k

  -- what E accepts after the entries l D accepts after those that are left
  accepted-there : (l : List Entry) (i : ℕ) (c : Call) → E.refusal (engine_after X l i) c ≡ 0 → D.refusal (engine_after Y (accepted_only X l) i) c ≡ 0
  accepted-there l i c a = subst (λ (x : Engine). D.refusal x c ≡ 0) (sym (same-engine l i)) (R.allowed (engine_after X l i) c a).0

  -- a call that E accepts stays in the list
  made-left : (f : Engine → Call → Type 0) (i : ℕ) (l : List Entry) → Made X f i l → Made Y f i (accepted_only X l)
  unfolding accepted_only
  made-left f i [] m = absurd m
  made-left f i (e ∷ l) m = go (eqb (number_at e l) 0) refl (made-left f i l) m
    where
      go : (b : Bool) → eqb (number_at e l) 0 ≡ b → (Made X f i l → Made Y f i (accepted_only X l)) → Made X f i (e ∷ l) → Made Y f i (cond b (e ∷ accepted_only X l) (accepted_only X l))
      go true q k (inl x) = inl (x.0, accepted-there l i e.call x.1, subst (λ (y : Engine). f y e.call) (sym (same-engine l i)) x.2)
      go true q k (inr x) = inr (k x)
      go false q k (inl x) = absurd (eqb-false (number_at e l) 0 q (subst (λ (j : ℕ). E.refusal (engine_after X l j) e.call ≡ 0) x.0 x.1))
      go false q k (inr x) = k x

  signed-left : (p : Content) (d : ℕ) (l : List Entry) → Signed X p d l → Signed Y p d (accepted_only X l)
  signed-left p d l x =
      record {
        by_author = λ c. made-left (λ e c. Proposes e c p) p.author l (x.by_author c);
        by_endorsers = λ i c n. made-left (λ e c. Endorses c p) i l (x.by_endorsers i c n);
      }

  bound-left : (l : List Entry) → WithinBound X l → WithinBound Y (accepted_only X l)
  bound-left l b j r c from to =
      subst (λ (e : Engine). Knows e r → weigh 16 (weights e r) (outside correct) ≤ bound_of settings.margin (total 16 (weights e r))) (sym (same-engine l j)) (b j r c from to)

  fair_left : (e : Entry) (l : List Entry) → number_at e l ≡ 0 → Fair X e l → Fair Y e (accepted_only X l)
  fair_left e l a x =
      record {
        by = x.by;
        is_in_range = x.is_in_range;
        still_open = λ own other q. absurd (x.still_open own other q a);
        signed = λ _ p d t. signed-left p d l (x.signed a p d (subst (λ (y : Engine). Takes y e.call p d) (same-engine l e.who) t));
      }

  parts : (l : List Entry) → Run X l → Run Y (accepted_only X l) × AllAccepted Y (accepted_only X l)
  unfolding accepted_only
  parts [] r = (bound-left [] r, tt)
  parts (e ∷ l) r = go (eqb (number_at e l) 0) refl (parts l r.2) (bound-left (e ∷ l) r.1)
    where
      go : (b : Bool) → eqb (number_at e l) 0 ≡ b → Run Y (accepted_only X l) × AllAccepted Y (accepted_only X l) → WithinBound Y (cond b (e ∷ accepted_only X l) (accepted_only X l))
          → Run Y (cond b (e ∷ accepted_only X l) (accepted_only X l)) × AllAccepted Y (cond b (e ∷ accepted_only X l) (accepted_only X l))
      go true q k w = let a = eqb-true (number_at e l) 0 q in ((fair_left e l a r.0, w, k.0), (accepted-there l e.who e.call a, k.1))
      go false q k w = k

-- after every list each member's engine is the same: the list with its refused calls left out leads D where the whole leads E
pub same_engines : (E D : Behaviour) (R : RefusesMore E D) (X : Members E) (l : List Entry) (i : ℕ) → engine_after (answering_as R X) (accepted_only X l) i ≡ engine_after X l i
same_engines E D R X l i = same-engine R X l i

-- every run of E, its refused calls left out, was allowed by D
pub runs_were_allowed : (E D : Behaviour) (R : RefusesMore E D) (X : Members E) (l : List Entry) → Run X l → WasAllowed R X l
runs_were_allowed E D R X l r = let p = parts R X l r in record { run = p.0; all_accepted = p.1 }

-- so what holds of the engines after every run of D holds of them after every run of E
pub carries_over : (E D : Behaviour) (R : RefusesMore E D) (X : Members E) (Q : (ℕ → Engine) → Type 0)
    → ((l : List Entry) → Run (answering_as R X) l → Q (engine_after (answering_as R X) l)) → (l : List Entry) → Run X l → Q (engine_after X l)
carries_over E D R X Q f l r = subst Q (fun_ext (same-engine R X l)) (f (accepted_only X l) (parts R X l r).0)
