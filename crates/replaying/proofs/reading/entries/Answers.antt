use Rattle.std.proofs.Common.{◌<◌}
use Rattle.library.specs.Calls.{Typed}
use Rattle.replaying.specs.declared.calls.Entry.{Entry}
use Rattle.replaying.specs.Told.{told}
use Rattle.replaying.specs.Lists.{CallWhole}
use Rattle.replaying.proofs.ListLaws.{entries_more, all_more}
use Rattle.replaying.proofs.reading.entries.Goals as goal

pub loop-rest-preserved : goal.loop-rest-preserved
loop-rest-preserved c =
    let h = c.loop-rest.invariant in
    let l = c.loop-rest.all.items in
    let one = c.in_ok-one.one in
    let o = c.in_ok-one.ensures in
    rw c.in_ok-push.ensures.pushed (entries_more c.args.words.now l one c.loop-rest.rest.now c.in_ok-one.behind.now h.0 o.words, all_more (λ (e : Entry). e.who < c.args.members) l one h.1 o.member, all_more (λ (e : Entry). Typed (told e.call)) l one h.2 o.typed, all_more (λ (e : Entry). CallWhole e.call) l one h.3 o.whole)
