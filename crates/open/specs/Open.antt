-- Open: its checks, and the fresh state and the cleared table of an accepted one.
use Rattle.std.specs.Prelude.{None, List, [], ◌∷◌, ℕ, length, replicate, nat_lt}
use Rattle.base.specs.Checks.{Checks, refusal}
use Rattle.terms.specs.declared.Member.{Member}
use Rattle.store.specs.Table.{used_length}
use Rattle.store.specs.Writes.{clear_used}
use Rattle.terms.specs.declared.sheet.Rights.{Rights}
use Rattle.terms.specs.declared.sheet.Settings.{Settings}
use Rattle.terms.specs.declared.sheet.Sheet.{Sheet}
use Rattle.terms.specs.Sheets.{filled}
use Rattle.terms.specs.Ranges.{weight, out_of_range, weightless}
use Rattle.state.specs.declared.State.{State}
use Rattle.state.specs.States.{fresh}
use Rattle.state.specs.Answers.{if_accepted}

-- the state before an open: it is not well formed
abbrev pub closed_state : State
closed_state =
    record {
      own = record { 0 = 0 };
      settings = record {
        lookback = 0;
        ceiling = 0;
        allowance = 0;
        weights = replicate 16 (weight 0);
        margin = 0;
      };
      round = 0;
      proposal = None;
      blocks = 0;
      rights = record { 0 = 0 };
    }

-- a fresh state has round 1 and nothing else, beside the rights
abbrev pub fresh_state : Member → Settings → Rights → State
fresh_state own S R = fresh own S R

-- 4 member above 15; 2 setting out of range; 3 no positive weight; 1 lent table too short
abbrev pub opening : List ℕ → Member → Settings → Checks
opening t own S = (nat_lt 15 own.0, 4) ∷ (out_of_range S, 2) ∷ (weightless S, 3)
    ∷ (nat_lt (length t) (used_length S.ceiling), 1) ∷ []

unfoldable pub open_refusal : List ℕ → Member → Settings → ℕ
open_refusal t own S = refusal (opening t own S)

-- of a sheet only its filled settings and the rights are seen
unfoldable pub open_state : State → List ℕ → Member → Sheet → State
open_state s t own sheet =
    if_accepted (open_refusal t own (filled sheet)) (fresh_state own (filled sheet) sheet.rights) s

unfoldable pub open_table : List ℕ → Member → Sheet → List ℕ
open_table t own sheet =
    if_accepted (open_refusal t own (filled sheet)) (clear_used t (filled sheet).ceiling) t
