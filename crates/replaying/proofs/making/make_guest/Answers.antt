use Rattle.std.proofs.Common.{◌<◌, sym, arith}
use Rattle.terms.specs.Rights.{caller_refusal}
use Rattle.hosting.specs.Guested.{rights_in}
use Rattle.replaying.specs.Told.{right_of}
use Rattle.replaying.specs.Runs.{words_of}
use Rattle.hosting.proofs.Answered.{some_number}
use Rattle.replaying.proofs.Guests.{guest_unchanged, guest_answer}
use Rattle.replaying.proofs.making.make_guest.Goals as goal

pub returns-in-Err-clause-words : goal.returns-in-Err-clause-words
returns-in-Err-clause-words c =
    let n = rw (c.deref.ensures.value, c.right_of.ensures) at c.in-Err.ensures in
    let p : 0 < caller_refusal (rights_in c.args.keeper.now.state.items) (right_of c.args.call.now) c.args.caller = omega (arith, n, some_number c.in-Err.refusal) in
    sym (guest_unchanged (words_of c.args.keeper.now) c.args.caller c.args.call.now p)

pub returns-in-Err-clause-answer : goal.returns-in-Err-clause-answer
returns-in-Err-clause-answer c =
    let n = rw (c.deref.ensures.value, c.right_of.ensures) at c.in-Err.ensures in
    let p : 0 < caller_refusal (rights_in c.args.keeper.now.state.items) (right_of c.args.call.now) c.args.caller = omega (arith, n, some_number c.in-Err.refusal) in
    rw (c.refused.ensures, n) (sym (guest_answer (words_of c.args.keeper.now) c.args.caller c.args.call.now p))
