-- The authors of the certificates held in the present round, by the held set of the table.
use Rattle.std.proofs.Common.{◌≡◌, refl, ◌∙◌, Bool, not, List, ℕ}
use Rattle.base.proofs.Words.{fun_ext}
use Rattle.base.specs.Sets.{contains}
use Rattle.store.specs.Table.{held_set}
use Rattle.store.proofs.TableLaws.{held_in}
use Rattle.terms.specs.Ranges.{weight_in}
use Rattle.committee.specs.Committees.{committee_of, quorum}
use Rattle.rules.specs.Tests.{committee_in, authors_in}
use Rattle.state.specs.declared.State.{State}
use Rattle.state.specs.Formed.{Formed}
use Rattle.state.specs.View.{view}
use Rattle.state.proofs.ViewLaws.{held-dag}
use Rattle.terms.specs.declared.sheet.Weight.{Weight}

module _ (s : State) (t : List ℕ) (f : Formed s t) where
  pub authors-held : authors_in s.settings (view s t) s.round ≡ contains (held_set t s.round)
  authors-held = fun_ext λ i. held-dag s.settings.ceiling t i s.round f.numbers.round_from f.numbers.round_to ∙ held_in t i s.round

  -- check 28, by the committee w and the set h that the code has
  pub thin_by : {w : List Weight} {h : ℕ} {b : Bool} → w ≡ committee_of s.settings (view s t).chain s.round → h ≡ held_set t s.round → b ≡ quorum s.settings.margin (weight_in w) (contains h)
      → not (quorum s.settings.margin (committee_in s.settings (view s t) s.round) (authors_in s.settings (view s t) s.round)) ≡ not b
  thin_by e i k = rw (authors-held, ← e, ← i, k) refl
