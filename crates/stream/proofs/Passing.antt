-- One pass, put together.
use Rattle.std.proofs.Common.{◌≡◌, ℕ, ◌-◌, ◌≤◌, Bool, List, [], ◌∷◌, ◌++◌, refl, ◌∙◌, ap, subst, append-nil, length, drop, Option, None, Ok, Err, arith}
use Rattle.std.proofs.lemmas.List.{nil_from_length}
use Rattle.framing.specs.Framing.{Waits}
use Rattle.framing.specs.AtHand.{AtHand}
use Rattle.stream.specs.Lines.{Put}
use Rattle.stream.specs.Answers.{answers, Answered}
use Rattle.stream.specs.Held.{Held}
use Rattle.stream.specs.Talk.{Event, came}
use Rattle.stream.specs.Peer.{HandedOut}
use Rattle.stream.specs.Passes.{behind, MoreCame, Next, full, read_on, at_end, cut_off, PassDone}
use Rattle.std_io.specs.declared.io.error.Error.{Error}
use Rattle.stream.specs.declared.Wanted.{Wanted}
use Rattle.stream.specs.declared.Wanted.TheVariants.{Room}
use Rattle.stream.specs.declared.passed.Passed.{Passed}
use Rattle.stream.specs.declared.passed.Passed.TheVariants.{On, Over, Cut}
use Rattle.stream.proofs.Holding.{last-bytes}

-- what was kept are the bytes that are left
pub kept-left : (h l k : AtHand) (taken count : ℕ) (skipping : Bool) → l.hand ≡ drop taken h.hand → count ≡ length l.hand → skipping ≡ l.skipping → k.hand ≡ drop (length h.hand - count) h.hand → k.skipping ≡ skipping → k ≡ l
kept-left h l k taken count skipping r n b x y =
    let e : k.hand ≡ l.hand = x ∙ rw n (last-bytes h.hand l.hand taken r) in
    let f : k.skipping ≡ l.skipping = y ∙ b in
    ap (λ (z : List ℕ). record { hand = z; skipping = k.skipping }) e ∙ ap (λ (z : Bool). record { hand = l.hand; skipping = z }) f

behind-none : (h : AtHand) (b : List ℕ) → length b ≡ 0 → behind h b ≡ h
behind-none h b z = rw (nil_from_length b z) (ap (λ (l : List ℕ). record { hand = l; skipping = h.skipping }) (append-nil h.hand))

module _ {P : Type 0} (talk : P → List Event → P → Type 0) (put : List ℕ) (failed : Option Error) (l : AtHand) (k h : Held) (p q : P) (w : failed ≡ None) (z : Waits l.hand) (e : k.here ≡ l) where
  pub next-over : (n : ℕ) → n ≡ 0 → MoreCame talk k (Ok n) h p q → Next talk put failed l p h.here q Over
  next-over n i m =
      let b : m.bytes ≡ [] = nil_from_length m.bytes (m.counted ∙ i) in
      at_end w z (m.hand ∙ behind-none k.here m.bytes (m.counted ∙ i) ∙ e) (subst (λ (b : List ℕ). talk p (came b ∷ []) q) b m.talked)

  pub next-on : (n : ℕ) → (n ≡ 0 → ⊥) → MoreCame talk k (Ok n) h p q → Next talk put failed l p h.here q On
  next-on n i m = read_on w z m.bytes (omega (arith, i, m.counted)) (m.hand ∙ ap (λ (a : AtHand). behind a m.bytes) e) m.talked

  pub next-cut : (why : Error) → MoreCame talk k (Err why) h p q → Next talk put failed l p h.here q (Cut why)
  next-cut why m = cut_off w z (m.hand ∙ behind-none k.here m.bytes m.counted ∙ e) why m.talked

module _ {E P : Type 0} (after : E → Option (List ℕ) → E) (answer : E → Option (List ℕ) → List ℕ) (most : E → ℕ) (talk : P → List Event → P → Type 0) where
  pub next-full : {failed : Option Error} {l : AtHand} (k : Held) (p : P) {e e₁ : E} {h : AtHand} {x y : Put} (a : Answered after answer most Room e h e₁ l x y) → x.bytes ≡ [] → most e ≤ x.room → failed ≡ None → k.here ≡ l
      → Next talk (answers after answer e a.found) failed l p k.here p On
  next-full k p {e = e} {x = x} {y = y} a b r w i = full w i refl (let f = a.full refl in let n : y.bytes ≡ answers after answer e a.found = a.bytes ∙ ap (λ (z : List ℕ). z ++ answers after answer e a.found) b in omega (arith, f, a.room, r, ap length n))

  pub pass_done : {wanted : Wanted} {e e₁ : E} (h k : Held) {l : AtHand} {p p₁ q : P} {x y : Put} {put : List ℕ} {failed : Option Error} {passed : Passed} (a : Answered after answer most wanted e h.here e₁ l x y) → x.bytes ≡ [] → put ≡ y.bytes
      → HandedOut talk p put failed p₁ → k.size ≡ h.size → Next talk (answers after answer e a.found) failed l p₁ k.here q passed → PassDone after answer most talk e h p e₁ k q passed
  pass_done {e = e} h k {l = l} {p = p} {p₁ = p₁} {failed = failed} a b c g n z = record {
    found = a.found;
    left = l;
    finds = a.finds;
    failed = failed;
    between = p₁;
    handed = subst (λ (m : List ℕ). HandedOut talk p m failed p₁) (c ∙ a.bytes ∙ ap (λ (m : List ℕ). m ++ answers after answer e a.found) b) g;
    next = z;
    steady = a.steady;
    size = n;
  }
