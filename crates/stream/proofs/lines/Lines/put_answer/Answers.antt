use Rattle.std.proofs.Common.{◌≡◌, ◌∙◌, ap, arith, List, ℕ, ◌++◌, ◌-◌, length, take}
use Rattle.stream.proofs.Holding.{behind}
use Rattle.stream.proofs.lines.Lines.put_answer.Goals as goal

pub returns-clause-served : goal.returns-clause-served
returns-clause-served g c =
    let m = c.self.inside.memory.now in
    let i = c.self.inside.count in
    let y = c.serve-n.new.out in
    let size : length y ≡ length m - i = omega arith in
    rw (← c.self.view_is)
    (record {
      state = c.serve-n.ensures.engine;
      bytes = behind m y i c.serve-n.result _ c.self.invariant size c.serve-n.ensures.within (omega arith) ∙ ap (λ (l : List ℕ). take i m ++ l) c.serve-n.ensures.answer;
    })
