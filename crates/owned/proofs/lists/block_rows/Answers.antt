use Rattle.std.proofs.Common.{refl}
use Rattle.spans.specs.Listed.{blocks_refusal, blocks_list}
use Rattle.hosting.proofs.SettledLaws.{listed}
use Rattle.owned.proofs.lists.block_rows.Goals as goal

pub returns : goal.returns
unfolding blocks_refusal blocks_list
returns c = let s = c.in-Some.ensures in
    let x = rw (c.view.ensures.state, c.view.ensures.table, s.1) at c.blocks_together.ensures in
    listed _ _ _ _ _ refl s.0 x.refusal x.value refl x.list
