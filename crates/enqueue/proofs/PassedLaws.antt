-- What an accepted enqueue has passed; one of a guest above 7 is refused.
use Rattle.std.proofs.Common.{◌≡◌, refl, ◌∙◌, true, not, List, ℕ, ◌<◌, arith, length, ltb, ltb-false, leb-false}
use Rattle.base.proofs.Words.{not-false}
use Rattle.base.proofs.CheckLaws.{numbered, cleared, passes, refuses}
use Rattle.base.proofs.Passed.{passed}
use Rattle.terms.specs.declared.Transaction.{Transaction}
use Rattle.terms.specs.Transactions.{in_range}
use Rattle.queues.specs.Words.{Place, waiting_count, queue_of}
use Rattle.queues.proofs.WordLaws.{length-queue_of}
use Rattle.state.specs.declared.State.{State}
use Rattle.state.specs.WellFormed.{well_formed}
use Rattle.state.specs.Formed.{Formed}
use Rattle.state.proofs.FormedLaws.{formed}
use Rattle.enqueue.specs.Enqueue.{enqueueing, enqueue_refusal}

-- as many wait as the count says
pub as_counted : (t : List ℕ) (g : ℕ) → g < 8 → length (queue_of t g) ≡ waiting_count t g
as_counted = length-queue_of

module _ (s : State) (t : List ℕ) where
  pub record EnqueuePassed (g : ℕ) (x : Transaction) : Type 0 where
    pub formed : Formed s t
    pub place : Place t g (waiting_count t g)
    pub is_in_range : in_range x ≡ true

  pub enqueue-passed : (g : ℕ) (x : Transaction) → enqueue_refusal s t g x ≡ 0 → EnqueuePassed g x
  unfolding enqueue_refusal numbered
  enqueue-passed g x e =
      let n = cleared (not (well_formed s t)) 1 (enqueueing t g x) (omega arith) e in
      let f = formed s t (not-false (well_formed s t) n.0) in
      passed _ refl n.1 λ h26 h6 h27.
      let low = ltb-false 7 g h26 in
      let l = length-queue_of t g (omega arith) in
      let room = leb-false 8 (length (queue_of t g)) h27 in
      let long = f.long in
      record { formed = f; place = record { row = omega arith; guest = omega arith; place = omega arith }; is_in_range = not-false (in_range x) h6 }

  pub enqueue-refused : (g : ℕ) (x : Transaction) → well_formed s t ≡ true → ltb 7 g ≡ true → enqueue_refusal s t g x ≡ 26
  unfolding enqueue_refusal
  enqueue-refused g x w h = passes 1 (enqueueing t g x) (rw w refl) ∙ refuses 26 _ h
