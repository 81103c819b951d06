use Rattle.std.proofs.Common.{ap, length, arith}
use Rattle.std.proofs.lemmas.Grind.{common_steps}
use Rattle.stream.proofs.Passing.{kept-left}
use Rattle.stream.proofs.run.answer_hand.Goals as goal

pub returns-clause-answers : goal.returns-clause-answers
returns-clause-answers g c =
    let a = rw c.records-records.ensures at c.answer_all-wanted.ensures in
    let h = c.args.hand.now.here in
    let l = c.answer_all-wanted.new.records in
    let k = c.keep.new.self.here in
    let e = kept-left h l k a.finds.taken _ _ a.finds.rest (let n = ap length c.hand-left.ensures in omega (arith, n)) (grind (arith, common_steps)) c.keep.ensures.hand c.keep.ensures.skipping in
    rw e a
