use Rattle.std.proofs.Common.{arith}
use Rattle.spans.proofs.SpanLaws.{count-none, count-next}
use Rattle.spans.proofs.together.count_span.Goals as goal

pub loop-i-init : goal.loop-i-init
loop-i-init c = let a = c.args.chain in
    record { so_far = omega arith; count = count-none a.settings.now a.table.now _ c.args.known; most = omega arith }

pub loop-i-preserved : goal.loop-i-preserved
loop-i-preserved c = let a = c.args.chain in
    let x = c.loop-i in
    record {
      so_far = omega arith;
      count = omega (arith, count-next a.settings.now a.table.now a.blocks c.args.known x.i (omega (arith, c.requires.within)), x.invariant.count, c.count-count.ensures.count);
      most = omega (arith, x.invariant.most, c.count-count.ensures.most);
    }
