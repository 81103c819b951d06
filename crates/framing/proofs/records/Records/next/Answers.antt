use Rattle.std.proofs.Common.{refl, arith}
use Rattle.framing.proofs.AtHandLaws.{tail_all, step_skips, step_record, step_unreadable, step-waits, step_shortens, skipped-after, tells_after}
use Rattle.framing.proofs.records.Records.next.Goals as goal

pub loop-init : goal.loop-init
loop-init c = record { same = λ over more. refl; taken = 0; rest = refl; fewer = omega arith }

pub returns-in-Record : goal.returns-in-Record
returns-in-Record c = rw (← c.self.view_is) (tells_after c.loop.invariant (step_record _ _ c.next_step-step.ensures.step _ (tail_all c.next_step-step.result.next c.loop.self-inside.hand.now) c.in-Record.is))

pub returns-in-Unreadable : goal.returns-in-Unreadable
returns-in-Unreadable c = rw (← c.self.view_is) (tells_after c.loop.invariant (step_unreadable _ _ c.next_step-step.ensures.step _ (tail_all c.next_step-step.result.next c.loop.self-inside.hand.now) c.in-Unreadable.is))

pub returns-in-Nothing : goal.returns-in-Nothing
returns-in-Nothing c = rw (← c.self.view_is) (tells_after c.loop.invariant (step-waits _ _ c.next_step-step.ensures.step _ (tail_all c.next_step-step.result.next c.loop.self-inside.hand.now) (omega arith)))

pub loop-smaller : goal.loop-smaller
loop-smaller c = step_shortens (record { hand = c.loop.self-inside.hand.now; skipping = c.loop.self-inside.skipping }) _ c.next_step-step.ensures.step (λ z. omega arith)

pub loop-preserved : goal.loop-preserved
loop-preserved c = skipped-after c.loop.invariant (step_skips _ _ c.next_step-step.ensures.step _ (tail_all c.next_step-step.result.next c.loop.self-inside.hand.now) c.in-Nothing.is)
