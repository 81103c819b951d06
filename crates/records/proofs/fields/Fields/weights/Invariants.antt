use Rattle.std.proofs.Common.{◌≡◌, List, ℕ, length, drop}
use Rattle.terms.specs.declared.sheet.Setting.{Setting}
use Rattle.records.specs.Settings.{weights_in}
use Rattle.records.proofs.Reading.{all_weights}
use Rattle.records.proofs.fields.Fields.weights.Given as goal

pub record Weighing (fs : List (List ℕ)) (weights : List Setting) (i : ℕ) (left : List (List ℕ)) : Type 0 where
  pub sixteen : length weights ≡ 16
  pub all : weights_in 16 fs ≡ all_weights weights i left
  pub passed : left ≡ drop i fs

abbrev pub invariant-loop-i : goal.invariant-loop-i
invariant-loop-i l = Weighing l.fn.self l.weights l.i l.self
