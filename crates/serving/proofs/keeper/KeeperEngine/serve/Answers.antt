use Rattle.replies.proofs.RecordLaws.{unreadable_answered}
use Rattle.serving.proofs.KeepingLaws.{put_first}
use Rattle.serving.proofs.keeper.KeeperEngine.serve.Goals as goal

pub returns-in-None-clause-engine : goal.returns-in-None-clause-engine
returns-in-None-clause-engine c =
    let a = unreadable_answered {e = c.args.self.now} (rw c.number.ensures at c.put_refused.ensures) in
    rw (← c.in-None.ensures) a.its_engine

pub returns-in-None-clause-answer : goal.returns-in-None-clause-answer
returns-in-None-clause-answer c =
    let a = unreadable_answered {e = c.args.self.now} (rw c.number.ensures at c.put_refused.ensures) in
    rw (← c.in-None.ensures) (put_first c.requires a.its_lines)

pub returns-in-Some-clause-engine : goal.returns-in-Some-clause-engine
returns-in-Some-clause-engine c = rw (← c.in-Some.ensures) c.answer.ensures.answered.its_engine

pub returns-in-Some-clause-answer : goal.returns-in-Some-clause-answer
returns-in-Some-clause-answer c = rw (← c.in-Some.ensures) (put_first c.requires c.answer.ensures.answered.its_lines)
