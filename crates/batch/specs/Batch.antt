-- A batch on a state and its table: each certificate of a row gets what accept answers at its turn. The number that refuses the batch, the table and the answers.
use Rattle.std.specs.Prelude.{◌||◌, List, [], ◌∷◌, ℕ, length, nat_lt, Option}
use Rattle.std.proofs.Math.Seq.{paste}
use Rattle.base.specs.Options.{if_there}
use Rattle.base.specs.Folds.{tab}
use Rattle.base.specs.Checks.{Checks, refusal}
use Rattle.terms.specs.declared.Certificate.{Certificate}
use Rattle.state.specs.declared.State.{State}
use Rattle.state.specs.Refusals.{guarded}
use Rattle.state.specs.Answers.{if_accepted}
use Rattle.accept.specs.Accept.{accept_refusal, accept_table}
use Rattle.batch.specs.Turns.{Key, turns, leaves, answer_to}

-- what stands at a place of a row: by what it is tried, and the certificate that its words give, none where they cannot be read
pub record Offer : Type 0 where
  pub key : Key
  pub certificate : Option Certificate

abbrev pub key_of : Certificate → Key
key_of c = record { round = c.proposal.round; author = c.proposal.author.0 }

-- a row of so many
pub record Row : Type 0 where
  pub count : ℕ
  pub at : ℕ → Offer

-- the places of a row in the order of their turns
abbrev pub turns_of : Row → List ℕ
turns_of row = turns (λ p. (row.at p).key) row.count

module _ (s : State) (row : Row) where
  -- what place p is answered on a table: what accept answers, 1 to words that cannot be read
  abbrev pub number_on : List ℕ → ℕ → ℕ
  number_on t p = if_there (row.at p).certificate 1 (accept_refusal s t)

  -- and the table that it leaves
  abbrev pub table_after : List ℕ → ℕ → List ℕ
  table_after t p = if_there (row.at p).certificate t (accept_table s t)

  -- the table that all turns leave
  abbrev pub tried_table : List ℕ → List ℕ
  tried_table t = leaves table_after (turns_of row) t

  -- what place p is answered at its turn
  abbrev pub answer_at : List ℕ → ℕ → ℕ
  answer_at t p = answer_to table_after number_on (turns_of row) t p

-- 25: the row is over 64, or the answers are shorter than the row
abbrev pub batch_checks : ℕ → ℕ → Checks
batch_checks n room = (nat_lt 64 n || nat_lt room n, 25) ∷ []

-- the number of the first check that refuses the batch, 0 for none
unfoldable pub batch_refusal : State → List ℕ → ℕ → ℕ → ℕ
batch_refusal s t n room = refusal (guarded s t (batch_checks n room))

module _ (s : State) (t : List ℕ) (row : Row) (answers : List ℕ) where
  -- the table after the batch
  unfoldable pub batch_table : List ℕ
  batch_table = if_accepted (batch_refusal s t row.count (length answers)) (tried_table s row t) t

  -- the answers after it: each at its place in the row, the rest as it was
  unfoldable pub batch_answers : List ℕ
  batch_answers =
      if_accepted (batch_refusal s t row.count (length answers))
      (paste answers 0 (tab (answer_at s row t) row.count) row.count) answers
