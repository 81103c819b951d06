use Rattle.std.proofs.Common.{sym, ◌∙◌, arith}
use Rattle.owned.proofs.TogetherTestLaws.{place-below}
use Rattle.extents.proofs.TogetherLaws.{top_fits}
use Rattle.owned.proofs.together.is_place_together.Goals as goal

pub goes_on-requires : goal.goes_on-requires
goes_on-requires c =
    let a = c.args in
    let d = top_fits a.chain.settings.now a.chain.table.now a.chain.blocks c.mark-block.result a.chain.told (omega arith) (omega arith) in
    record { member = c.requires.0; row = omega (arith, a.chain.told.long, c.block_round-last.ensures) }

pub returns : goal.returns
returns c =
    let a = c.args in
    place-below a.chain.table.now a.chain.blocks a.author.0 a.round c.mark-block.result c.block_round-last.result (sym c.held.ensures ∙ c.if-not-held.false) c.mark-block.ensures (omega arith) (omega arith) c.block_round-last.ensures (omega arith) (rw c.round.view_is at c.goes_on.ensures)
