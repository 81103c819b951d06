use Rattle.std.proofs.Common.{◌+◌, ◌∙◌, ◌≡◌, sym, ap, arith, set, length-set}
use Rattle.records.specs.Fields.{other_fields}
use Rattle.records.proofs.Reading.{all_weights, all_weights-next, all_weights-none, all_weights_end, other_fields-drop}
use Rattle.records.proofs.fields.Fields.weights.Goals as goal

pub loop-i-preserved : goal.loop-i-preserved
loop-i-preserved c =
    let l = c.loop-i in
    let s = c.setting.ensures in
    record {
      sixteen = length-set l.weights l.i _ ∙ l.invariant.sixteen;
      all = l.invariant.all ∙ all_weights-next l.weights l.i l.self _ (omega arith) l.invariant.sixteen (sym s.value ∙ c.in_ok-weights.was) ∙ ap (λ fs. all_weights (set l.weights l.i c.in_ok-weights.field-0) (l.i + 1) fs) (sym s.left);
      passed = s.left ∙ ap other_fields l.invariant.passed ∙ other_fields-drop l.i _;
    }

pub returns-in_err-weights-clause-value : goal.returns-in_err-weights-clause-value
returns-in_err-weights-clause-value c =
    let l = c.loop-i in
    c.from_residual.ensures ∙ sym (l.invariant.all ∙ all_weights-none l.weights l.i l.self (omega arith) (sym c.setting.ensures.value ∙ c.in_err-weights.was))

pub returns-clause-value : goal.returns-clause-value
returns-clause-value c =
    let l = c.loop-i in
    let e : l.i ≡ 16 = omega arith in
    sym (l.invariant.all ∙ rw e (all_weights_end l.weights l.self l.invariant.sixteen))
