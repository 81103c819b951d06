use Rattle.std.proofs.Common.{refl, ◌∙◌, ◌+◌, arith}
use Rattle.base.proofs.PutLaws.{puts_then, puts_none, puts_as}
use Rattle.spans.proofs.SpanLaws.{held-none, held-next, count-next, span-room}
use Rattle.spans.proofs.together.put_span.Goals as goal

pub loop-i-init : goal.loop-i-init
loop-i-init c = let a = c.args.chain in
    record { so_far = omega arith; kept = refl; puts = puts_none (held-none a.settings.now a.table.now _ c.args.known) }

pub put-to-requires : goal.put-to-requires
put-to-requires c = let a = c.args.chain in
    let x = c.loop-i.invariant in
    record {
      before = omega (arith, c.requires.within);
      together = c.requires.together;
      start = c.starts-starts.ensures.told (c.args.known + c.loop-i.i) (omega arith) (omega arith);
      room = omega (arith, span-room a.settings.now a.table.now a.blocks c.args.known c.args.number c.loop-i.i (omega arith) c.requires.within, c.requires.room, x.kept, x.puts.past, x.puts.room);
    }

pub loop-i-preserved : goal.loop-i-preserved
loop-i-preserved c = let a = c.args.chain in
    let x = c.loop-i.invariant in
    let h = c.requires.within in
    record {
      so_far = omega arith;
      kept = c.put-to.auto.list ∙ x.kept;
      puts =
          puts_as (held-next a.settings.now a.table.now a.blocks c.args.known c.loop-i.i (omega arith))
          (omega (arith, count-next a.settings.now a.table.now a.blocks c.args.known c.loop-i.i (omega arith)))
          (puts_then x.puts c.put-to.ensures);
    }
