-- The engines that calls from an accepted open lead to, and what is so of each.
use Rattle.std.specs.Prelude.{◌≡◌, true, ℕ, ◌<◌}
use Rattle.terms.specs.declared.sheet.Sheet.{Sheet}
use Rattle.terms.specs.declared.sheet.Settings.{Settings}
use Rattle.terms.specs.Sheets.{filled}
use Rattle.state.specs.WellFormed.{well_formed}
use Rattle.engine.specs.Calls.{Call, InRange}
use Rattle.engine.specs.Engine.{Engine, after}
use Rattle.engine.specs.Sequences.{Opening, after_opening}
use Rattle.state.specs.States.{own_body}

-- an accepted open, then any calls with values of their types
pub data Reached : Engine → Type 0 where
  by_open : (x : Opening) → Reached (after_opening x)
  by_call : (e : Engine) → Reached e → (c : Call) → InRange c → Reached (after e c)

-- what every call but an accepted open keeps: own number, settings, and that the state is well formed; the previous set in it is a 16-bit number
pub record Good (S : Settings) (k : ℕ) (e : Engine) : Type 0 where
  pub own : e.state.own.0 ≡ k
  pub settings : e.state.settings ≡ S
  pub formed : well_formed e.state e.table ≡ true
  pub small : (own_body e.state).previous < 65536

-- its settings are those of a sheet, and its state is well formed
pub record Intact (e : Engine) : Type 0 where
  pub sheet : Sheet
  pub own : ℕ
  pub good : Good (filled sheet) own e
