use Rattle.std.proofs.Common.{inl, inr, arith}
use Rattle.batching.proofs.TurnLaws.{place-low, trying-none, trying_more, trying-all}
use Rattle.owned.proofs.BatchLaws.{done_refused, done_taken}
use Rattle.owned.proofs.batches.batch.Goals as goal

pub returns-then-row-gt64-clause-done : goal.returns-then-row-gt64-clause-done
returns-then-row-gt64-clause-done c = done_refused _ _ _ c.requires _ _ (elim c.then-row-gt64.either [ inl x ↦ inl x | inr x ↦ inr x.1 ])

pub loop-place-init : goal.loop-place-init
loop-place-init c = record { order = c.in_order-order.ensures; owned = c.requires; trying = trying-none _ _ _ _ }

pub offset_bounds-row-place : goal.offset_bounds-row-place
offset_bounds-row-place c = let l = place-low _ c.loop-place.invariant.order c.loop-place.place-index (omega arith) in omega arith

pub bounds-row-place : goal.bounds-row-place
bounds-row-place c = place-low _ c.loop-place.invariant.order c.loop-place.place-index (omega arith)

pub offer-requires : goal.offer-requires
offer-requires c = c.loop-place.invariant.owned

pub offset_bounds-answers-place : goal.offset_bounds-answers-place
offset_bounds-answers-place c = let l = place-low _ c.loop-place.invariant.order c.loop-place.place-index (omega arith) in omega (arith, c.loop-place.invariant.trying.size)

pub bounds-answers-place : goal.bounds-answers-place
bounds-answers-place c = let l = place-low _ c.loop-place.invariant.order c.loop-place.place-index (omega arith) in omega (arith, c.loop-place.invariant.trying.size)

pub loop-place-preserved : goal.loop-place-preserved
loop-place-preserved c = record {
  order = c.loop-place.invariant.order;
  owned = c.offer.ensures.owned;
  trying = trying_more _ _ _ c.loop-place.invariant.order (omega arith) (omega arith) c.offer.ensures.answer c.offer.ensures.table c.loop-place.invariant.trying;
}

pub returns-clause-done : goal.returns-clause-done
returns-clause-done c = done_taken _ _ _ c.requires _ _ (omega arith) (omega arith) (trying-all _ _ _ c.loop-place.invariant.order (omega arith) (omega arith) c.loop-place.invariant.trying)

pub returns-clause-owned : goal.returns-clause-owned
returns-clause-owned c = c.loop-place.invariant.owned
