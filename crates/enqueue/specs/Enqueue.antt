-- Adding to a guest's queue, on a state and its table: the number that refuses, and the table. The state stays.
use Rattle.std.specs.Prelude.{not, List, [], ◌∷◌, ℕ, length, nat_le, nat_lt}
use Rattle.base.specs.Checks.{Checks, refusal}
use Rattle.terms.specs.declared.Transaction.{Transaction}
use Rattle.terms.specs.Transactions.{in_range}
use Rattle.queues.specs.Words.{queue_of, added_table}
use Rattle.state.specs.declared.State.{State}
use Rattle.state.specs.Refusals.{guarded}
use Rattle.state.specs.Answers.{if_accepted}

-- 26 guest above 7; 6 transaction out of range; 27 the queue holds eight
abbrev pub enqueueing : List ℕ → ℕ → Transaction → Checks
enqueueing t g x = (nat_lt 7 g, 26) ∷ (not (in_range x), 6) ∷ (nat_le 8 (length (queue_of t g)), 27)
    ∷ []

module _ (s : State) (t : List ℕ) where
  unfoldable pub enqueue_refusal : ℕ → Transaction → ℕ
  enqueue_refusal g x = refusal (guarded s t (enqueueing t g x))

  unfoldable pub enqueue_table : ℕ → Transaction → List ℕ
  enqueue_table g x = if_accepted (enqueue_refusal g x) (added_table t g x) t
