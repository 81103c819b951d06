use Rattle.std.proofs.Common.{refl, ◌∙◌, ap, arith}
use Rattle.std.proofs.lemmas.Grind.{common_steps}
use Rattle.std.specs.Result.{result_err}
use Rattle.stream.specs.Passes.{lost}
use Rattle.stream.proofs.Passing.{next-over, next-on, next-cut, next-full, pass_done}
use Rattle.stream.proofs.run.pass.Goals as goal

pub returns-in-Err : goal.returns-in-Err
returns-in-Err g c =
    let k = c.answer_hand-wanted in
    pass_done _ _ _ _ c.args.hand.now k.new.hand k.ensures.answers c.new-lines.ensures.bytes (grind (arith, common_steps)) c.hand_out.ensures k.ensures.size (lost c.in-Err.why (ap result_err c.in-Err.is) refl refl)

pub returns-in-Room : goal.returns-in-Room
returns-in-Room g c =
    let k = c.answer_hand-wanted in
    let a = rw c.in-Room.is at k.ensures.answers in
    pass_done _ _ _ _ c.args.hand.now k.new.hand a c.new-lines.ensures.bytes (grind (arith, common_steps)) c.hand_out.ensures k.ensures.size (next-full _ _ _ _ k.new.hand _ a c.new-lines.ensures.bytes (rw c.new-lines.ensures.room c.requires.room) (ap result_err c.in_default.is) refl)

pub returns-in-Ok-eq0 : goal.returns-in-Ok-eq0
returns-in-Ok-eq0 g c =
    let k = c.answer_hand-wanted in
    let a = rw c.in-Bytes.is at k.ensures.answers in
    pass_done _ _ _ _ c.args.hand.now c.more.new.self a c.new-lines.ensures.bytes (grind (arith, common_steps)) c.hand_out.ensures (c.more.ensures.size ∙ k.ensures.size)
    (next-over g.P.Peer.talk _ (result_err c.hand_out.result) _ k.new.hand c.more.new.self c.hand_out.new.peer c.more.new.peer (ap result_err c.in_default.is) (a.waits refl) refl c.in-Ok-eq0.field-0 c.in-Ok-eq0.field-0-test (rw c.in-Ok-eq0.is at c.more.ensures))

pub returns-in-Ok : goal.returns-in-Ok
returns-in-Ok g c =
    let k = c.answer_hand-wanted in
    let a = rw c.in-Bytes.is at k.ensures.answers in
    pass_done _ _ _ _ c.args.hand.now c.more.new.self a c.new-lines.ensures.bytes (grind (arith, common_steps)) c.hand_out.ensures (c.more.ensures.size ∙ k.ensures.size)
    (next-on g.P.Peer.talk _ (result_err c.hand_out.result) _ k.new.hand c.more.new.self c.hand_out.new.peer c.more.new.peer (ap result_err c.in_default.is) (a.waits refl) refl c.in-Ok.field-0 c.in-Ok.field-0-test.1 (rw c.in-Ok.is at c.more.ensures))

pub returns-in-Err-more : goal.returns-in-Err-more
returns-in-Err-more g c =
    let k = c.answer_hand-wanted in
    let a = rw c.in-Bytes.is at k.ensures.answers in
    pass_done _ _ _ _ c.args.hand.now c.more.new.self a c.new-lines.ensures.bytes (grind (arith, common_steps)) c.hand_out.ensures (c.more.ensures.size ∙ k.ensures.size)
    (next-cut g.P.Peer.talk _ (result_err c.hand_out.result) _ k.new.hand c.more.new.self c.hand_out.new.peer c.more.new.peer (ap result_err c.in_default.is) (a.waits refl) refl c.in-Err-more.why (rw c.in-Err-more.is at c.more.ensures))
