-- What one record more does to a stream that is being served.
use Rattle.std.proofs.Common.{◌≡◌, ℕ, ◌+◌, List, [], ◌∷◌, ◌++◌, refl, sym, ◌∙◌, ap, append_assoc, append-nil, drop, Option, Some}
use Rattle.std.proofs.lemmas.List.{drop-drop}
use Rattle.framing.specs.AtHand.{AtHand, left, Tells}
use Rattle.stream.specs.Lines.{Put}
use Rattle.stream.specs.Answers.{after_all, answers, Served, Found}

module _ {E : Type 0} (after : E → Option (List ℕ) → E) (answer : E → Option (List ℕ) → List ℕ) where
  pub after_all-append : (e : E) (l m : List (Option (List ℕ))) → after_all after answer e (l ++ m) ≡ after_all after answer (after_all after answer e l) m
  after_all-append e [] m = refl
  after_all-append e (o ∷ l) m = after_all-append (after e o) l m

  pub answers-append : (e : E) (l m : List (Option (List ℕ))) → answers after answer e (l ++ m) ≡ answers after answer e l ++ answers after answer (after_all after answer e l) m
  answers-append e [] m = refl
  answers-append e (o ∷ l) m = ap (λ x. answer e o ++ x) (answers-append (after e o) l m) ∙ sym (append_assoc (answer e o) (answers after answer (after e o) l) (answers after answer (after_all after answer (after e o) l) m))

  -- the loop's invariant
  pub record Answering (most : E → ℕ) (e : E) (h : AtHand) (e' : E) (h' : AtHand) (x y : Put) : Type 0 where
    pub found : List (Option (List ℕ))
    pub finds : Found after answer found e h e' h'
    pub bytes : y.bytes ≡ x.bytes ++ answers after answer e found
    pub room : y.room ≡ x.room
    pub steady : most e' ≡ most e

  module _ (most : E → ℕ) where
    pub answering_more : {e e₁ e₂ : E} {h h₁ h₂ : AtHand} {x y z : Put} (r : Option (List ℕ)) → Answering most e h e₁ h₁ x y → Tells h₁ (Some r) h₂ → Served after answer e₁ e₂ r y z
        → z.room ≡ y.room → most e₂ ≡ most e₁ → Answering most e h e₂ h₂ x z
    answering_more {e} {e₁} {e₂} {h} {h₁} {h₂} {x} {y} {z} r s t v k m =
        let n = r ∷ [] in
        record {
          found = s.found ++ n;
          finds =
              record {
                whole = λ over more. s.finds.whole over more ∙ ap (λ (l : List (Option (List ℕ))). s.found ++ l) (t.whole over more) ∙ sym (append_assoc s.found n (left over h₂ more));
                state = v.state ∙ ap (λ (e : E). after e r) s.finds.state ∙ sym (after_all-append e s.found n);
                taken = s.finds.taken + t.taken;
                rest = t.rest ∙ ap (drop t.taken) s.finds.rest ∙ drop-drop t.taken s.finds.taken h.hand;
              };
          bytes =
              v.bytes
              ∙ ap (λ (l : List ℕ). l ++ answer e₁ r) s.bytes
              ∙ append_assoc x.bytes (answers after answer e s.found) (answer e₁ r)
              ∙ ap (λ (l : List ℕ). x.bytes ++ l) (rw s.finds.state (sym (answers-append e s.found n ∙ ap (λ (l : List ℕ). answers after answer e s.found ++ l) (append-nil (answer (after_all after answer e s.found) r)))));
          room = k ∙ s.room;
          steady = m ∙ s.steady;
        }
