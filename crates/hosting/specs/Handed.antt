-- What words that are handed in give of a call.
use Rattle.std.specs.Prelude.{◌≡◌, Bool, true}
use Rattle.terms.specs.declared.Body.{Body}
use Rattle.engine.specs.Calls.{Call, propose, InRange}
use Rattle.words.specs.TidyStates.{tidy_body}

-- b tells whether the words can be read, c is the call that they give: its sets are 16-bit numbers where they can, and a body that it proposes has no transactions beyond its count
pub record Handed (b : Bool) (c : Call) : Type 0 where
  pub is_in_range : b ≡ true → InRange c
  pub tidy : (x : Body) → c ≡ propose x → tidy_body x ≡ x
