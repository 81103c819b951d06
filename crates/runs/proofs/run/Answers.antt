use Rattle.std.proofs.Common.{◌<◌, take, length, arith, []}
use Rattle.std.proofs.lemmas.List.{take_all}
use Rattle.nonforking.specs.Statement.{engine_after}
use Rattle.runs.specs.Runs.{after_run, newest}
use Rattle.runs.proofs.RunLaws.{after_more, stand_more, run_told, never_fork, same_committees}
use Rattle.runs.proofs.run.Goals as goal

pub loop-entry-init : goal.loop-entry-init
loop-entry-init c at h = h

pub loop-entry-preserved : goal.loop-entry-preserved
loop-entry-preserved c at h =
    let item = c.entry-item.result in
    let within : c.loop-entry.entry-index < length c.args.entries.now = omega arith in
    let who = rw (← c.entry-item.is) at (c.requires c.loop-entry.entry-index item within) in
    let rest = after_more at c.args.entries.now c.loop-entry.entry-index item within in
    let stand = stand_more c.loop-entry.engines (after_run at (take c.loop-entry.entry-index c.args.entries.now)) item c.make.new.engine c.index-engines-entry.result (c.loop-entry.invariant at h) (omega (arith, who)) c.make.ensures in
    rw (rest, ← c.entry-item.is) stand

pub returns-clause-run : goal.returns-clause-run
returns-clause-run c at h = rw (take_all c.loop-entry.entry-index c.args.entries.now (omega arith)) at (c.loop-entry.invariant at h)

pub returns-clause-chains : goal.returns-clause-chains
returns-clause-chains c X s r =
    let told = rw (take_all c.loop-entry.entry-index c.args.entries.now (omega arith)) at (c.loop-entry.invariant (engine_after X []) s) in
    never_fork X (newest c.args.entries.now []) c.loop-entry.engines r (rw (run_told X c.args.entries.now []) at told)

pub returns-clause-committees : goal.returns-clause-committees
returns-clause-committees c X s r =
    let told = rw (take_all c.loop-entry.entry-index c.args.entries.now (omega arith)) at (c.loop-entry.invariant (engine_after X []) s) in
    same_committees X (newest c.args.entries.now []) c.loop-entry.engines r (rw (run_told X c.args.entries.now []) at told)
