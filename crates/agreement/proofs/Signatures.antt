-- Each move keeps what holds of a member's signatures.
use Rattle.std.proofs.Common.{◌≡◌, sym, ap, ◌∙◌, subst, Bool, true, false, List, ◌∷◌, ◌⊎◌, inl, inr, ◌≢◌, ℕ, suc, ◌<◌, arith, Some, None}
use Rattle.base.proofs.Words.{false≢true}
use Rattle.std.proofs.lemmas.Option.{same_Some, none-some}
use mathlib.Core.List.Memᴰ
use Rattle.agreement.specs.Rules.{Rules}
use Rattle.agreement.specs.Laws.{Lawful}
use Rattle.agreement.specs.View.{View, Log, Among}
use Rattle.agreement.specs.Places.{put, mark}
use Rattle.agreement.specs.Invariants.{Signable, Signing}
use Rattle.agreement.specs.Moves.{Move, other_call, propose, endorse, certify, accept, advance, commit}
use Rattle.agreement.proofs.PlaceLaws.{put-own, mark-own, mark-other}
use Rattle.agreement.proofs.Growth.{Grows, signable-grows}

-- what was signed stays signed
pub signed-stays : {R : Rules} {correct : ℕ → Bool} {G : Log R} {k : ℕ} {s t : View R} {l m : List R.P}
    → Move correct G k s l t m → (x : R.P) → Among x l → Among x m
signed-stays (propose p ek er f g) x h = Memᴰ.tail h
signed-stays (endorse p n e f g) x h = Memᴰ.tail h
signed-stays c x h = h

module _ {R : Rules} (Y : Lawful R) {k : ℕ} (s : View R) (l : List R.P) (X : Signing s k l) where
  open R use {P, author, round}

  -- one more signature, at a place where there was none
  one_more : (p : P) → ((q : P) → Among q l → author q ≡ author p → round q ≡ round p → ⊥)
      → (x y : P) → Among x (p ∷ l) → Among y (p ∷ l) → author x ≡ author y → round x ≡ round y → x ≡ y
  one_more p fresh x y (Memᴰ.head e) (Memᴰ.head f) ea er = e ∙ sym f
  one_more p fresh x y (Memᴰ.head e) (Memᴰ.tail h) ea er = absurd (fresh y h (sym ea ∙ ap author e) (sym er ∙ ap round e))
  one_more p fresh x y (Memᴰ.tail h) (Memᴰ.head f) ea er = absurd (fresh x h (ea ∙ ap author f) (er ∙ ap round f))
  one_more p fresh x y (Memᴰ.tail h) (Memᴰ.tail i) ea er = X.nonequivocation x y h i ea er

  signable-more : {t : View R} → Grows s t → {p : P} → Signable s p → (x : P) → Among x (p ∷ l) → Signable t x
  signable-more g d x (Memᴰ.head e) = signable-grows Y g (subst (λ (z : P). Signable s z) (sym e) d)
  signable-more g d x (Memᴰ.tail h) = signable-grows Y g (X.signable x h)

  -- without a proposal, what one signed of one's own is of an earlier round
  own_older : s.proposal ≡ None → (q : P) → Among q l → author q ≡ k → round q < s.round
  own_older none_yet q h ea = go (X.own q h ea)
    where
      go : (round q < s.round) ⊎ ((round q ≡ s.round) × (s.proposal ≡ Some q)) → round q < s.round
      go (inl h') = h'
      go (inr h') = absurd (none-some q (sym none_yet ∙ h'.1))

  own_fresh : {p : P} → author p ≡ k → round p ≡ s.round → s.proposal ≡ None
      → (q : P) → Among q l → author q ≡ author p → round q ≡ round p → ⊥
  own_fresh ek er none_yet q h ea eq = omega (arith, own_older none_yet q h (ea ∙ ek))

  -- nothing of another's was signed at a place that is neither endorsed nor held
  other-fresh : {p : P} → author p ≢ k → s.endorsed (author p) (round p) ≡ false → s.dag (author p) (round p) ≡ None
      → (q : P) → Among q l → author q ≡ author p → round q ≡ round p → ⊥
  other-fresh {p} n f d q h ea er = go (rw (ea, er) at (X.other q h (λ e. n (sym ea ∙ e))))
    where
      go : (s.endorsed (author p) (round p) ≡ true) ⊎ ((x : P) × (s.dag (author p) (round p) ≡ Some x)) → ⊥
      go (inl e) = false≢true (sym f ∙ e)
      go (inr x) = none-some x.0 (sym d ∙ x.1)

  module _ {t : View R} (g : Grows s t) where
    still-signable : (x : P) → Among x l → Signable t x
    still-signable x h = signable-grows Y g (X.signable x h)

    -- another's place stays marked or held, if no mark is lost but where a certificate comes
    still-other : ((a r : ℕ) → s.endorsed a r ≡ true → (t.endorsed a r ≡ true) ⊎ ((q : P) × (t.dag a r ≡ Some q)))
        → (x : P) → Among x l → author x ≢ k
        → (t.endorsed (author x) (round x) ≡ true) ⊎ ((q : P) × (t.dag (author x) (round x) ≡ Some q))
    still-other f x h n = go (X.other x h n)
      where
        go : (s.endorsed (author x) (round x) ≡ true) ⊎ ((q : P) × (s.dag (author x) (round x) ≡ Some q))
            → (t.endorsed (author x) (round x) ≡ true) ⊎ ((q : P) × (t.dag (author x) (round x) ≡ Some q))
        go (inl e) = f (author x) (round x) e
        go (inr q) = inr (q.0, g.dag q.1)

  pub signing-kept : {correct : ℕ → Bool} {G : Log R} {t : View R} {m : List P} → Grows s t → Move correct G k s l t m → Signing t k m
  signing-kept g other_call = X
  signing-kept g (propose p ek er none_yet d) =
      record {
        nonequivocation = one_more p (own_fresh ek er none_yet);
        signable = signable-more g d;
        own = own-now;
        other = other-now;
        proposed = λ x e.
            let i = same_Some p x e in
            (Memᴰ.head (sym i), ap author (sym i) ∙ ek, ap round (sym i) ∙ er);
      }
    where
      own-now : (x : P) → Among x (p ∷ l) → author x ≡ k → (round x < s.round) ⊎ ((round x ≡ s.round) × (Some p ≡ Some x))
      own-now x (Memᴰ.head e) ea = inr (ap round e ∙ er, ap Some (sym e))
      own-now x (Memᴰ.tail h) ea = inl (own_older none_yet x h ea)

      other-now : (x : P) → Among x (p ∷ l) → author x ≢ k
          → (s.endorsed (author x) (round x) ≡ true) ⊎ ((q : P) × (s.dag (author x) (round x) ≡ Some q))
      other-now x (Memᴰ.head e) n = absurd (n (ap author e ∙ ek))
      other-now x (Memᴰ.tail h) n = X.other x h n
  signing-kept g (endorse p n e f b) =
      record {
        nonequivocation = one_more p (other-fresh n e f);
        signable = signable-more g b;
        own = own-now;
        other = other-now;
        proposed = λ x i. let y = X.proposed x i in (Memᴰ.tail y.0, y.1, y.2);
      }
    where
      own-now : (x : P) → Among x (p ∷ l) → author x ≡ k → (round x < s.round) ⊎ ((round x ≡ s.round) × (s.proposal ≡ Some x))
      own-now x (Memᴰ.head i) ea = absurd (n (ap author (sym i) ∙ ea))
      own-now x (Memᴰ.tail h) ea = X.own x h ea

      kept : (a r : ℕ) → s.endorsed a r ≡ true → mark R true p s.endorsed a r ≡ true
      kept a r h = go (mark-other R true p s.endorsed a r)
        where
          go : ((author p ≡ a) × (round p ≡ r)) ⊎ (mark R true p s.endorsed a r ≡ s.endorsed a r) → mark R true p s.endorsed a r ≡ true
          go (inl i) = rw (i.0, i.1) at (mark-own R true p s.endorsed)
          go (inr i) = i ∙ h

      other-now : (x : P) → Among x (p ∷ l) → author x ≢ k
          → (mark R true p s.endorsed (author x) (round x) ≡ true) ⊎ ((q : P) × (s.dag (author x) (round x) ≡ Some q))
      other-now x (Memᴰ.head i) n' = inl (subst (λ (z : P). mark R true p s.endorsed (author z) (round z) ≡ true) (sym i) (mark-own R true p s.endorsed))
      other-now x (Memᴰ.tail h) n' = still-other g (λ a r i. inl (kept a r i)) x h n'
  signing-kept g (certify p e f b) =
      record { nonequivocation = X.nonequivocation; signable = still-signable g; own = X.own; other = still-other g (λ a r i. inl i); proposed = X.proposed }
  signing-kept g (accept p f c b) =
      record { nonequivocation = X.nonequivocation; signable = still-signable g; own = X.own; other = still-other g cleared; proposed = X.proposed }
    where
      cleared : (a r : ℕ) → s.endorsed a r ≡ true → (mark R false p s.endorsed a r ≡ true) ⊎ ((q : P) × (put R p s.dag a r ≡ Some q))
      cleared a r h = go (mark-other R false p s.endorsed a r)
        where
          go : ((author p ≡ a) × (round p ≡ r)) ⊎ (mark R false p s.endorsed a r ≡ s.endorsed a r)
              → (mark R false p s.endorsed a r ≡ true) ⊎ ((q : P) × (put R p s.dag a r ≡ Some q))
          go (inl i) = inr (p, rw (i.0, i.1) at (put-own R p s.dag))
          go (inr i) = inl (i ∙ h)
  signing-kept g advance =
      record {
        nonequivocation = X.nonequivocation;
        signable = still-signable g;
        own = λ x h ea. inl (go x (X.own x h ea));
        other = still-other g (λ a r i. inl i);
        proposed = λ x e. absurd (none-some x e);
      }
    where
      go : (x : P) → (round x < s.round) ⊎ ((round x ≡ s.round) × (s.proposal ≡ Some x)) → round x < suc s.round
      go x (inl h) = omega arith
      go x (inr h) = omega arith
  signing-kept g (commit c v e) =
      record { nonequivocation = X.nonequivocation; signable = still-signable g; own = X.own; other = still-other g (λ a r i. inl i); proposed = X.proposed }
