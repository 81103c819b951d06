use Rattle.std.proofs.Common.{sym, subst, [], ◌∷◌, ◌++◌, take, drop, take-add, take-append-drop, arith}
use Rattle.framing.proofs.AtHandLaws.{tail_all}
use Rattle.stream.specs.Talk.{went, write_failed}
use Rattle.stream.specs.Peer.{Writes, no_write, then_write}
use Rattle.stream.proofs.peer.hand_out.Goals as goal

pub loop-at-init : goal.loop-at-init
loop-at-init g c = record { steps = []; writes = no_write; talked = g.met.P.Peer.silent c.args.peer.now; within = omega arith }

pub loop-at-preserved : goal.loop-at-preserved
loop-at-preserved g c =
    let i = c.loop-at.invariant in
    let at = c.loop-at.at in
    let n = c.in-Ok.n in
    let part = take n (drop at c.args.bytes.now) in
    record {
      steps = i.steps ++ went part ∷ [];
      writes = subst (Writes (i.steps ++ went part ∷ [])) (sym (take-add at n c.args.bytes.now)) (then_write i.writes part);
      talked = g.met.P.Peer.joined _ _ _ i.steps (went part ∷ []) i.talked (rw (tail_all at c.args.bytes.now) at c.in-Ok.ensures.talks);
      within = omega (arith, c.in-Ok.ensures.count, i.within);
    }

pub returns-in-Err : goal.returns-in-Err
returns-in-Err g c =
    let i = c.loop-at.invariant in
    record {
      steps = i.steps;
      part = take c.loop-at.at c.args.bytes.now;
      writes = i.writes;
      rest = drop c.loop-at.at c.args.bytes.now;
      parts = take-append-drop c.loop-at.at c.args.bytes.now;
      all = λ e. cc;
      talked = g.met.P.Peer.joined _ _ _ i.steps (write_failed c.in-Err.why ∷ []) i.talked c.in-Err.ensures.talks;
    }
