-- Laws of what is cached beside a state: one that is not well formed, and one after a commit.
use Rattle.std.proofs.Common.{◌≡◌, refl, sym, ◌∙◌, Bool, true, false, List, ℕ, arith}
use Rattle.base.proofs.Words.{false≢true}
use Rattle.state.specs.declared.State.{State}
use Rattle.state.specs.WellFormed.{well_formed}
use Rattle.state.proofs.FormedLaws.{formed}
use Rattle.state.specs.Cached.{Cached}
use Rattle.open.specs.Open.{closed_state}
use Rattle.commit.specs.Commit.{commit_state, commit_table_after}
use Rattle.engine.specs.Engine.{Engine}
use Rattle.engine.specs.Steps.{SetInRange}
use Rattle.engine.proofs.CachedLaws.{formed-commit}

-- beside a state that is not well formed nothing need be cached
pub cached-unformed : {s : State} {t : List ℕ} {b : Bool} (cache : List ℕ) → b ≡ well_formed s t → b ≡ false → Cached s t b cache
cached-unformed cache w n = record { form = w; committees = λ e. absurd (false≢true (sym n ∙ w ∙ e)) }

-- such is the state before an open
pub closed-unformed : (t : List ℕ) → well_formed closed_state t ≡ false
closed-unformed t = go (well_formed closed_state t) refl
  where
    go : (b : Bool) → well_formed closed_state t ≡ b → b ≡ false
    go true e = let h = (formed closed_state t e).numbers.round_from in absurd (omega arith)
    go false e = refl

pub cached-closed : (t cache : List ℕ) → Cached closed_state t false cache
cached-closed t cache = cached-unformed cache (sym (closed-unformed t)) refl

-- s and u are the state and the table after a commit
module _ (e : Engine) {s : State} {u : List ℕ} (q : s ≡ commit_state e.state e.table) (d : u ≡ commit_table_after e.state e.table) {b : Bool} where
  -- it leaves a well-formed state so
  pub committed-formed : SetInRange e → b ≡ well_formed e.state e.table → b ≡ well_formed s u
  committed-formed low w = rw (q, d) (w ∙ sym (formed-commit e low))
