use Rattle.std.proofs.Common.{◌<◌, take, length, get_or, arith, []}
use Rattle.std.proofs.lemmas.List.{take_all}
use Rattle.library.specs.Hosts.{words_after}
use Rattle.host.specs.Runs.{after_run, newest}
use Rattle.host.proofs.RunsLaws.{after_more, stand_more, run_told, never_fork, same_committees}
use Rattle.host.proofs.OwnedRunsLaws.{owned_more, put_back}
use Rattle.host.specs.declared.runs.Entry.{Entry}
use Rattle.host.specs.declared.runs.LibraryCall.TheVariants.{Host}
use Rattle.host.specs.declared.runs.HostCall.TheVariants.{Advance}
use Rattle.host.proofs.owned_runs.run.Goals as goal

-- what a goal writes for no entry: the first variant
abbrev first : Entry
first = record { who = 0; call = Host Advance }

pub loop-entry-init : goal.loop-entry-init
loop-entry-init c = (c.requires.owned, λ at h. h)

pub make-requires-clause-owned : goal.make-requires-clause-owned
make-requires-clause-owned c =
    let within : c.loop-entry.entry-index < length c.args.entries.now = omega arith in
    let who = c.requires.members c.loop-entry.entry-index first within in
    rw c.deref_mut.ensures.value (c.loop-entry.invariant.0 (get_or c.args.entries.now c.loop-entry.entry-index first).who c.index-hosts-entry.result c.index-kept-entry.result (omega (arith, who)))

pub loop-entry-preserved : goal.loop-entry-preserved
loop-entry-preserved c =
    let within : c.loop-entry.entry-index < length c.args.entries.now = omega arith in
    let who = c.requires.members c.loop-entry.entry-index first within in (
      owned_more _ _ _ _ _ c.loop-entry.invariant.0 (omega (arith, who)) (omega (arith, who, c.requires.lengths)) (put_back c.make.new.words (get_or c.loop-entry.kept (get_or c.args.entries.now c.loop-entry.entry-index first).who c.index-kept-entry.result).words.len c.make.new.kept _ (omega (arith, c.make.auto.kept, c.deref_mut.ensures.len)) c.make.ensures.owned),
      λ at h.
          let rest = after_more at c.args.entries.now c.loop-entry.entry-index first within in
          let stand = stand_more c.loop-entry.hosts (after_run at (take c.loop-entry.entry-index c.args.entries.now)) (get_or c.args.entries.now c.loop-entry.entry-index first) c.make.new.words c.index-hosts-entry.result (c.loop-entry.invariant.1 at h) (omega (arith, who)) c.make.ensures.words in
          rw rest stand,
    )

pub returns-clause-owned : goal.returns-clause-owned
returns-clause-owned c = c.loop-entry.invariant.0

pub returns-clause-run : goal.returns-clause-run
returns-clause-run c at h = rw (take_all c.loop-entry.entry-index c.args.entries.now (omega arith)) at (c.loop-entry.invariant.1 at h)

pub returns-clause-chains : goal.returns-clause-chains
returns-clause-chains c X s t r =
    let told = rw (take_all c.loop-entry.entry-index c.args.entries.now (omega arith)) at (c.loop-entry.invariant.1 (words_after X []) s) in
    never_fork X (newest c.args.entries.now []) c.loop-entry.hosts t r (rw (run_told X c.args.entries.now []) at told)

pub returns-clause-committees : goal.returns-clause-committees
returns-clause-committees c X s t r =
    let told = rw (take_all c.loop-entry.entry-index c.args.entries.now (omega arith)) at (c.loop-entry.invariant.1 (words_after X []) s) in
    same_committees X (newest c.args.entries.now []) c.loop-entry.hosts t r (rw (run_told X c.args.entries.now []) at told)
