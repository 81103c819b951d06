use Rattle.framing.specs.AtHand.{record_now}
use Rattle.stream.proofs.Serving.{answering_more}
use Rattle.stream.proofs.answer_all.Goals as goal

pub loop-records-preserved : goal.loop-records-preserved
loop-records-preserved g c = answering_more g.E.Engine.after g.E.Engine.answer g.E.Engine.most (record_now c.in-Some.found) c.loop-records.invariant c.in-Some.ensures c.put_answer.ensures.served c.put_answer.ensures.room c.put_answer.ensures.most
