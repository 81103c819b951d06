use Rattle.std.proofs.Common.{◌≡◌, refl, sym, ◌∙◌, ◌+◌, ◌-◌, ◌<◌, arith}
use Rattle.chain_committees.specs.ChainInTable.{AfterBlocks}
use Rattle.chain_committees.specs.Told.{blocks_in}
use Rattle.chain_committees.proofs.ChainInTableLaws.{after_bounded}
use Rattle.blocks.specs.Blocks.{count_after}
use Rattle.owned.proofs.MakingLaws.{count-first, count-still}
use Rattle.owned.proofs.RenewalLaws.{block-count, block-inside, block-low, after-block, after-none, committee-then, kept-more}
use Rattle.owned.proofs.renewal.Added.renew_blocks.Goals.{then-author-lt16, else-author-lt16}
use Rattle.owned.proofs.renewal.Added.renew_blocks.Goals as goal

pub loop-q-init : goal.loop-q-init
loop-q-init c = let p = c.requires in
    let a = c.args.self.now in
    rw c.last.view_is (record { from = omega arith; to = p.low; count = sym (count-first a.leaders.now a.last a.earlier); after = p.after; cached = p.cached; size = refl })

pub apply_block-requires : goal.apply_block-requires
apply_block-requires c = let p = c.requires in
    let a = c.args.self.now in
    let x = c.loop-q in
    let i = x.invariant in
    let led = c.if-author-lt16.true in
    let high : x.q < a.top = omega (arith, p.high) in
    record {
      rows = record { long = a.chain.told.long; round = a.chain.told.ceiling };
      start = led;
      from = block-low a x.q x.count i.from high i.count led;
      to = omega (arith, p.inside);
      inside = block-inside a x.q x.count i.from high i.count led;
      total = (after_bounded a.chain.words a.chain.told i.after).total;
    }

pub loop-q-preserved : goal.loop-q-preserved
loop-q-preserved c = let p = c.requires in
    let a = c.args.self.now in
    let s = a.chain.settings.now in
    let x = c.loop-q in
    let i = x.invariant in
    let h : x.q < a.top = omega (arith, p.high) in
    let z : s.lookback + (x.q + 1) + 1 ≡ s.lookback + x.q + 2 = omega arith in
    let z' : s.lookback + (x.q + 1) + 2 ≡ s.lookback + x.q + 2 + 1 = omega arith in
    let done : (c.if-author-lt16.count ≡ count_after a.leaders.now a.last (x.q + 1 - a.last) a.earlier) × AfterBlocks s a.chain.table.now a.chain.blocks (x.q + 1) c.if-author-lt16.count c.if-author-lt16.weights =
    elim c.if-author-lt16.branch [
      | then-author-lt16 w ↦ (
        w.count-is ∙ block-count a x.q x.count i.from h i.count w.if-author-lt16.true,
        rw (w.count-is, w.weights-is) (after-block a x.q x.count i.from h i.count w.if-author-lt16.true w.apply_block.ensures i.after),
      )
      | else-author-lt16 w ↦ (
        w.count-is ∙ count-still a.leaders.now a.last x.q x.count a.earlier i.from (omega (arith, w.if-author-lt16.false)) i.count,
        rw (w.count-is, w.weights-is) (after-none a i.after),
      )
    ] in
    let e = committee-then a (x.q + 1) c.if-author-lt16.count (omega (arith, i.from)) (omega arith) done.0 done.1 in
    record {
      from = omega (arith, i.from);
      to = omega arith;
      count = done.0;
      after = done.1;
      cached = rw (z', c.keep.ensures.1, z) (kept-more s (blocks_in a.chain) c.if-author-lt16.weights (omega (arith, i.size, p.room, p.inside)) c.keep.ensures.0 (rw z at e) i.cached);
      size = c.keep.auto.kept ∙ i.size;
    }
