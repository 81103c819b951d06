use Rattle.std.proofs.Common.{◌≡◌, List, ℕ, ◌*◌}
use Rattle.state.specs.declared.State.{State}
use Rattle.base.proofs.PutLaws.{Putting}
use Rattle.critical.specs.Critical.{place_words, critical_in}
use Rattle.critical.proofs.list_row.Given as goal

-- the members before i are listed, and the table is as it was
pub record Listing (s : State) (t₀ : List ℕ) (q : ℕ) (list₀ : List ℕ) (at : ℕ) (t list : List ℕ) (to i : ℕ) : Type 0 where
  pub same : t ≡ t₀
  pub listed : Putting list₀ list at to (place_words (critical_in s t₀ q i)) (2 * i) 16 i

abbrev pub invariant-loop-i : goal.invariant-loop-i
invariant-loop-i l = Listing l.state l.initial.table l.round l.initial.list l.at l.table l.list l.to l.i
