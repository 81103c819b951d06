use Rattle.std.proofs.Common.{sym, drop, length, arith}
use Rattle.replaying.proofs.ReplayLaws.{same_room, replays}
use Rattle.replaying.proofs.replay.Goals as goal

pub returns-clause-made : goal.returns-clause-made
returns-clause-made c =
    let before = c.deref_mut.result.now in
    let l = c.deref.result.now in
    let h = c.in_ok-keepers.ensures in
    let words = rw (sym c.deref.ensures.value) at c.in_ok-entries.ensures.words in
    let by = rw (sym c.deref.ensures.value) at c.in_ok-entries.ensures.members in
    let whole = rw (sym c.deref.ensures.value) at c.in_ok-entries.ensures.whole in
    let typed = rw (sym c.deref.ensures.value) at c.in_ok-entries.ensures.typed in
    let stand = rw (sym c.deref_mut.ensures.value) at h.words in
    let count = rw (sym c.deref_mut.ensures.value) at h.members in
    rw (
      same_room c.in_ok-keepers.keepers.len c.run.new.keepers (drop (length c.run.new.keepers) c.in_ok-keepers.keepers.items) (omega (arith, c.run.auto.keepers, c.deref_mut.ensures.len, c.in_ok-keepers.keepers.ok.0)),
      same_room c.in_ok-answers.answers.len c.run.new.answers (drop (length c.run.new.answers) c.in_ok-answers.answers.items) (omega (arith, c.run.auto.answers, c.deref_mut-2.ensures.len, c.in_ok-answers.answers.ok.0)),
    )
    (c.in_ok-head.head, l, replays c.args.words.now c.in_ok-head.rest.now c.in_ok-head.head l before c.run.new.keepers c.run.new.answers c.in_ok-head.ensures.words c.in_ok-head.ensures.sheet words by whole count c.run.auto.keepers h.accepted stand typed c.run.ensures.run c.run.ensures.answers c.run.ensures.chains c.run.ensures.committees)
