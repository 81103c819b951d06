use Rattle.std.proofs.Common.{◌∙◌, arith}
use Rattle.refusals.proofs.RefusalLaws.{some-number}
use Rattle.engine.specs.Calls.{commit}
use Rattle.replies.specs.Records.{engine_of}
use Rattle.replies.proofs.CachedLaws.{committed-formed}
use Rattle.serving.proofs.KeepingLaws.{kept-refused}
use Rattle.serving.proofs.keeper.Keeper.commit.Goals as goal

pub invariant_of-self : goal.invariant_of-self
invariant_of-self c =
    let i = c.self.inside in
    let h = c.commit_cached.ensures in
    kept-refused (engine_of i.state i.table.now) commit tt h.state h.table (omega arith) c.self.invariant (λ z. some-number _ (c.in_err-added.ensures.refusal ∙ z))

pub renew-requires : goal.renew-requires
renew-requires c =
    let i = c.self.inside in
    let h = c.commit_cached.ensures in
    committed-formed (engine_of i.state i.table.now) h.state h.table c.self.invariant.in_range c.self.invariant.cached.form
