-- A state as its words tell it: slots beyond the count are no part of it.
use Rattle.std.specs.Prelude.{List, option_map}
use Rattle.base.specs.Folds.{tab}
use Rattle.terms.specs.declared.Body.{Body}
use Rattle.terms.specs.declared.sheet.Weight.{Weight}
use Rattle.terms.specs.Ranges.{weight, weight_in}
use Rattle.state.specs.declared.State.{State}
use Rattle.words.specs.Bodies.{used_of}

unfoldable pub tidy_body : Body → Body
tidy_body b = record b { slots = tab (used_of b) 4 }

-- the first sixteen weights
unfoldable pub sixteen_weights : List Weight → List Weight
sixteen_weights x = tab (λ i. weight (weight_in x i)) 16

unfoldable pub tidy : State → State
tidy s =
    record {
      own = s.own;
      settings = record {
        lookback = s.settings.lookback;
        ceiling = s.settings.ceiling;
        allowance = s.settings.allowance;
        weights = sixteen_weights s.settings.weights;
        margin = s.settings.margin;
      };
      round = s.round;
      proposal = option_map tidy_body s.proposal;
      blocks = s.blocks;
      rights = s.rights;
    }
