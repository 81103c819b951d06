use Rattle.std.proofs.Common.{arith}
use Rattle.spans.proofs.starts.walked.Goals as goal

pub returns : goal.returns
returns c = let w = c.begin.new.self in
    rw (← c.begin.ensures.chain) (record { size = w.started.size; told = λ k h l. w.started.written k (omega (arith, c.begin.ensures.begun)) })
