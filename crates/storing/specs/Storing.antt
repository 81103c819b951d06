-- To store: what refuses it, and the bytes afterwards.
use Rattle.std.specs.Prelude.{if◌then◌else◌, List, [], ◌∷◌, ℕ, length, not, nat_lt, ◌==◌}
use Rattle.std.proofs.Math.Seq.{paste}
use Rattle.base.specs.Checks.{Checks, refusal}
use Rattle.store.specs.Table.{used_length}
use Rattle.words.specs.States.{state_reads}
use Rattle.storing.specs.Stored.{stored_length, ceiling_of, stored}

-- the state's words w, how many words of a table and how many bytes are lent
abbrev pub store_checks : List ℕ → ℕ → ℕ → Checks
store_checks w m n =
    (not (state_reads w), 101)
    ∷ (nat_lt m (used_length (ceiling_of w)), 101)
    ∷ (nat_lt n (stored_length (ceiling_of w)), 102)
    ∷ []

-- the number that refuses, 0 for none
unfoldable pub store_refusal : List ℕ → ℕ → ℕ → ℕ
store_refusal w m n = refusal (store_checks w m n)

-- the lent bytes b afterwards: the rest of them stays
unfoldable pub stored_over : ℕ → List ℕ → List ℕ → List ℕ → List ℕ
stored_over run w t b =
    if store_refusal w (length t) (length b) == 0
    then paste b 0 (stored run w t) (stored_length (ceiling_of w))
    else b
