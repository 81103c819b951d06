use Rattle.std.proofs.Common.{◌<◌, length, sym, arith, []}
use Rattle.std.proofs.lemmas.List.{take_all}
use Rattle.library.specs.Hosts.{words_after}
use Rattle.replaying.specs.Runs.{newest}
use Rattle.replaying.proofs.RunsLaws.{owned_more, run_more, run_told, never_fork, same_committees}
use Rattle.replaying.proofs.making.run.Goals as goal

pub returns-clause-run : goal.returns-clause-run
returns-clause-run c at h = rw (take_all c.loop-i.i c.args.entries.now (omega arith)) at ((c.loop-i.invariant.1 at h).0)

pub returns-clause-chains : goal.returns-clause-chains
returns-clause-chains c X s t r =
    let told = rw (take_all c.loop-i.i c.args.entries.now (omega arith)) at ((c.loop-i.invariant.1 (words_after X []) s).0) in
    never_fork X (newest c.args.entries.now []) c.loop-i.keepers t r (rw (run_told X c.args.entries.now []) at told)

pub returns-clause-committees : goal.returns-clause-committees
returns-clause-committees c X s t r =
    let told = rw (take_all c.loop-i.i c.args.entries.now (omega arith)) at ((c.loop-i.invariant.1 (words_after X []) s).0) in
    same_committees X (newest c.args.entries.now []) c.loop-i.keepers t r (rw (run_told X c.args.entries.now []) at told)

pub loop-i-preserved : goal.loop-i-preserved
loop-i-preserved c =
    let e = c.index-entries-i.result in
    let i = c.loop-i.i in
    let l = c.args.entries.now in
    let w : e.who < length c.loop-i.keepers = omega (arith, rw (sym c.index-entries-i.is) at (c.requires.members i e c.loop-i-test.true), c.loop-i.auto.keepers) in
    let k : i < length c.loop-i.answers = omega (arith, c.loop-i-test.true, c.requires.lengths, c.loop-i.auto.answers) in (
      owned_more c.loop-i.keepers e.who c.make.new.keeper c.loop-i.invariant.0 w c.make.ensures.owned,
      λ at h.
          let s = c.loop-i.invariant.1 at h in
          run_more at l i e c.loop-i.keepers c.make.new.keeper c.index-keepers-entry.result c.loop-i.answers c.make.result c.loop-i-test.true c.index-entries-i.is w k s.0 s.1 c.make.ensures.words c.make.ensures.answer,
    )
