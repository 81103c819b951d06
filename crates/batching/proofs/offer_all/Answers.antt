use Rattle.std.proofs.Common.{refl, arith}
use Rattle.batching.proofs.TurnLaws.{ready-first, place-low, trying-none, trying_more, trying-all}
use Rattle.batching.proofs.offer_all.Goals as goal

pub loop-place-init : goal.loop-place-init
loop-place-init c = record {
  order = c.in_order-order.ensures;
  ready = ready-first c.requires.formed c.requires.set_in_range refl;
  trying = trying-none _ _ _ _;
}

pub offset_bounds-row-place : goal.offset_bounds-row-place
offset_bounds-row-place c = let l = place-low _ c.loop-place.invariant.order c.loop-place.place-index (omega arith) in omega arith

pub bounds-row-place : goal.bounds-row-place
bounds-row-place c = place-low _ c.loop-place.invariant.order c.loop-place.place-index (omega arith)

pub offset_bounds-answers-place : goal.offset_bounds-answers-place
offset_bounds-answers-place c = let l = place-low _ c.loop-place.invariant.order c.loop-place.place-index (omega arith) in omega (arith, c.loop-place.invariant.trying.size)

pub bounds-answers-place : goal.bounds-answers-place
bounds-answers-place c = let l = place-low _ c.loop-place.invariant.order c.loop-place.place-index (omega arith) in omega (arith, c.loop-place.invariant.trying.size)

pub loop-place-preserved : goal.loop-place-preserved
loop-place-preserved c = record {
  order = c.loop-place.invariant.order;
  ready = c.offer.ensures.ready;
  trying = trying_more _ _ _ c.loop-place.invariant.order (omega arith) (omega arith) c.offer.ensures.answer c.offer.ensures.table c.loop-place.invariant.trying;
}

pub returns : goal.returns
returns c = trying-all _ _ _ c.loop-place.invariant.order (omega arith) (omega arith) c.loop-place.invariant.trying
