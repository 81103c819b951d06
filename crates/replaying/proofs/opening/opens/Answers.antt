use Rattle.replaying.specs.Opened.{opened, Opens}
use Rattle.replaying.proofs.RunsLaws.{open_more, below_more}
use Rattle.replaying.proofs.opening.opens.Goals as goal

pub loop-own-preserved : goal.loop-own-preserved
loop-own-preserved c =
    let h = c.loop-own.invariant in
    let o = c.in_ok-opened.ensures in
    let m = open_more c.loop-own.all.items c.push.new.all.items (opened c.args.head.now) c.loop-own.own c.in_ok-opened.field-0 c.in_ok-push.ensures.pushed h.0 h.1 h.3 o.words o.owned in
    (m.0, m.1, below_more (Opens c.args.head.now) c.loop-own.own h.2 o.accepted, m.2)
