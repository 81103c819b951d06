-- A sum over a range of what a function gives of each place fits where the sum by place does.
use Rattle.std.proofs.Common.{◌≡◌, ℕ, ◌+◌, ◌<◌, Option, fold}
use Rattle.std.proofs.lemmas.Iterator.{YieldsList, maps, YieldsList-from_map}
use Rattle.std.proofs.lemmas.Iterator.Consumers.{fits_by_from_yields_list}
use Rattle.std.specs.Fn.{Called}
use Rattle.std.specs.Iterator.Adapters.{map_source, map_callee}
use Rattle.std.specs.Iterator.Runs.{EachRunFrom}
use Rattle.std.specs.List.{range_with_len}
use Rattle.base.proofs.Words.{Mut}
use Rattle.base.specs.Folds.{sum_to}

module _ {S F : Type 0} {g : Mut F (ℕ × Unit {0}) ℕ} {steps : S → Option ℕ → S → Type 0} (h : ℕ → ℕ) (n : ℕ) {f : F} {top : ℕ} where
  pub sum_fits : {s : _} → YieldsList steps (λ x. x) (map_source s) (range_with_len 0 n) → map_callee s ≡ f → ((k y : ℕ) (q : F) → Called g f (k, tt) y q → (q ≡ f) × (y ≡ h k)) → sum_to h n < top
      → EachRunFrom (maps steps g) s (λ p. fold (λ a x. a + x) 0 p.items < top)
  unfolding sum_to
  sum_fits {s} from by gives few = fits_by_from_yields_list h (range_with_len 0 n) s top (YieldsList-from_map _ h from by gives) few
