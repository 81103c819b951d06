use Rattle.std.proofs.Common.{sym, ◌∙◌, arith}
use Rattle.refusals.proofs.RefusalLaws.{some-number}
use Rattle.engine.specs.Calls.{opens}
use Rattle.replies.specs.Records.{engine_of}
use Rattle.serving.proofs.KeepingLaws.{accepted-formed, kept-anew, kept-refused}
use Rattle.serving.proofs.keeper.Keeper.open.Goals as goal

pub invariant_of-self : goal.invariant_of-self
invariant_of-self c =
    let i = c.self.inside in
    let h = c.open.ensures in
    kept-refused (engine_of i.state i.table.now) (opens c.args.own c.args.written) tt h.state h.table (omega arith) c.self.invariant (λ z. some-number _ (c.in_err-open.ensures.refusal ∙ z))

pub renew-requires : goal.renew-requires
renew-requires c =
    let i = c.self.inside in
    let h = c.open.ensures in
    sym (rw (h.state, h.table) (accepted-formed (engine_of i.state i.table.now) (opens c.args.own c.args.written) tt c.self.invariant.in_range (sym c.in_ok-open.ensures.refusal)))

pub invariant_of-self-2 : goal.invariant_of-self-2
invariant_of-self-2 c =
    let i = c.self.inside in
    let h = c.open.ensures in
    kept-anew (engine_of i.state i.table.now) (opens c.args.own c.args.written) tt h.state h.table (omega arith) c.self.invariant c.renew.ensures
