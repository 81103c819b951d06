use Rattle.std.proofs.Common.{arith}
use Rattle.blocks.proofs.SeenLaws.{seen_none}
use Rattle.blocks.proofs.making.commit_blocks.Goals as goal

pub add_blocks-requires : goal.add_blocks-requires
add_blocks-requires c = let p = c.requires in
    record {
      few = p.few;
      above = p.anchors.above;
      listed = omega (arith, p.anchors.listed);
      history = record { row = omega (arith, p.anchors.row); round = p.round; seen = seen_none 1025 _ (omega arith) };
    }
