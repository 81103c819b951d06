use Rattle.std.proofs.Common.{◌≡◌, sym, ◌∙◌, ap, true, length, arith}
use Rattle.state.specs.Formed.{Formed}
use Rattle.state.specs.WellFormed.{well_formed}
use Rattle.state.proofs.FormedLaws.{formed}
use Rattle.state.proofs.Walkable.{readable}
use Rattle.base.proofs.PutLaws.{puts_then, puts_as}
use Rattle.engine.specs.Engine.{Engine}
use Rattle.replies.specs.Records.{engine_of}
use Rattle.replies.proofs.RecordLaws.{listing-refused, listing-shown}
use Rattle.serving.proofs.keeper.Keeper.list.Goals as goal

pub returns-then-not-self : goal.returns-then-not-self
returns-then-not-self c =
    rw (← c.self.view_is) (puts_as (listing-refused (engine_of c.self.inside.state c.self.inside.table.now) (sym c.self.invariant.cached.form ∙ c.if-not-self.true)) (omega arith) (rw c.number.ensures at c.put_refused.ensures))

pub new-chain-requires : goal.new-chain-requires
new-chain-requires c = readable _ _ (formed _ _ (sym c.self.invariant.cached.form ∙ c.if-not-self.false))

pub list_chain-next-requires : goal.list_chain-next-requires
list_chain-next-requires c =
    let i = c.self.inside in
    let fits : Formed i.state i.table.now = formed _ _ (sym c.self.invariant.cached.form ∙ c.if-not-self.false) in
    let size = ap (λ (e : Engine). length e.table) c.self.view_is in
    rw c.new-chain.ensures.settings (omega (arith, fits.long, c.requires, size))

pub put_ok-requires : goal.put_ok-requires
put_ok-requires c =
    let i = c.self.inside in
    let fits : Formed i.state i.table.now = formed _ _ (sym c.self.invariant.cached.form ∙ c.if-not-self.false) in
    let size = ap (λ (e : Engine). length e.table) c.self.view_is in
    let listed = rw (c.new-chain.ensures.table, c.new-chain.ensures.settings, c.new-chain.ensures.blocks) at c.list_chain-next.ensures in
    omega (arith, fits.long, c.requires, size, listed.past, listed.room, c.list_chain-next.auto.out)

pub returns : goal.returns
returns c =
    let i = c.self.inside in
    let shown : well_formed i.state i.table.now ≡ true = sym c.self.invariant.cached.form ∙ c.if-not-self.false in
    let fits : Formed i.state i.table.now = formed _ _ shown in
    let listed = rw (c.new-chain.ensures.table, c.new-chain.ensures.settings, c.new-chain.ensures.blocks) at c.list_chain-next.ensures in
    rw (← c.self.view_is) (puts_as (listing-shown (engine_of i.state i.table.now) shown) (omega (arith, fits.long)) (puts_then listed c.put_ok.ensures))
