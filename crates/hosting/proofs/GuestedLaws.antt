-- Laws of guests' calls over words: a caller lacking the right is refused and changes no word, one with it gets the host's answer, and the word of rights stays.
use Rattle.std.proofs.Common.{◌≡◌, refl, sym, ap, ◌∙◌, List, ◌≢◌, ℕ, eq-eqb, ne_eqb}
use Rattle.base.proofs.Words.{ℕ_discrete}
use Rattle.state.specs.declared.State.{State}
use Rattle.terms.specs.declared.rights.Right.{Right}
use Rattle.terms.proofs.RightLaws.{allowed, barred}
use Rattle.engine.specs.Calls.{Call, opens}
use Rattle.engine.proofs.GuestLaws.{call-rights}
use Rattle.words.specs.States.{state_in}
use Rattle.hosting.specs.Calls.{Result, use_of, engine_for, refused, result_of}
use Rattle.hosting.proofs.RefusalLaws.{refused-same}
use Rattle.hosting.proofs.NextLaws.{accepted-gives}
use Rattle.hosting.specs.Guested.{rights_in, caller_number, as_guest, NoOpening, RefusedAlike}
use Rattle.terms.specs.Rights.{may}
use Rattle.std.specs.Prelude.{true, false, Bool}
use Rattle.hosting.specs.Handed.{Handed}

module _ (w t o : List ℕ) (c : ℕ) (r : Right) (x : Result) where
  pub guest-barred : caller_number w c r ≢ 0 → as_guest w t o c r x ≡ refused w t o (caller_number w c r)
  unfolding as_guest
  guest-barred n = rw (ne_eqb (caller_number w c r) 0 n) refl

  pub guest-allowed : caller_number w c r ≡ 0 → as_guest w t o c r x ≡ x
  unfolding as_guest
  guest-allowed h = rw (eq-eqb (caller_number w c r) 0 h) refl
  -- what the code does: the number n refuses, or is 0

-- a caller with the right gets what the host's own call comes to
pub allowed_over_words : (w t o : List ℕ) (c : ℕ) (r : Right) → may (rights_in w) r c ≡ true → (x : Result) → as_guest w t o c r x ≡ x
allowed_over_words w t o c r h x = guest-allowed w t o c r x (allowed (rights_in w) r c h)

-- noninterference: so it is of two states with the same rights and a caller lacking one, whatever their other words, tables and lent lists, and whatever is handed in
pub noninterference_over_words : (w t o v u p : List ℕ) → rights_in w ≡ rights_in v → (c : ℕ) (r : Right) → may (rights_in w) r c ≡ false → (x y : Result) → RefusedAlike w t o v u p c r x y
noninterference_over_words w t o v u p q c r h x y =
    let n = barred (rights_in w) r c h in
    record { first = guest-barred w t o c r x n; second = rw (← q) at (guest-barred v u p c r y (rw (← q) n)) }

-- the engine that a call but open is made on
read-state : (w t o : List ℕ) (k : Call) → NoOpening k → (engine_for w t o (use_of k)).state ≡ state_in w
read-state w t o (opens own sheet) q = absurd (q own sheet refl)
read-state w t o c q = refl

-- the rights of the state that words give
rights-read : (w : List ℕ) → (state_in w).rights ≡ rights_in w
unfolding state_in
rights-read w = refl

-- no call but open changes the word of rights, accepted or refused, on a state that is well formed or not
pub rights_word_stays : (w t o : List ℕ) (b : Bool) (k : Call) → Handed b k → NoOpening k → rights_in (result_of w t o b k).state ≡ rights_in w
rights_word_stays w t o b k h other = go (ℕ_discrete (result_of w t o b k).refusal 0)
  where
    go : Dec ((result_of w t o b k).refusal ≡ 0) → rights_in (result_of w t o b k).state ≡ rights_in w
    go (yes z) =
        sym (rights-read (result_of w t o b k).state)
        ∙ ap (λ (s : State). s.rights) (accepted-gives w t o h z).gives
        ∙ call-rights (engine_for w t o (use_of k)) k (λ own sheet q. absurd (other own sheet q))
        ∙ ap (λ (s : State). s.rights) (read-state w t o k other)
        ∙ rights-read w
    go (no n) = ap (λ (x : Result). rights_in x.state) (refused-same w t o b k n)
