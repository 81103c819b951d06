use Rattle.std.proofs.Common.{refl, sym}
use Rattle.words.specs.Bodies.{body_in}
use Rattle.engine.specs.Calls.{propose}
use Rattle.hosting.proofs.HandedLaws.{propose-handed}
use Rattle.hosting.proofs.SettledLaws.{fits-over}
use Rattle.state.proofs.FormedLaws.{formed}
use Rattle.owned.proofs.OwnedLaws.{owned_put}
use Rattle.owned.proofs.calls.propose.Goals as goal

pub put_state-requires : goal.put_state-requires
put_state-requires c = let s = c.in-Some.ensures in
    let b = c.in-Some-body.ensures in
    let x = rw (s.1, b.1) at c.in_ok-propose_cached.ensures in
    fits-over _ c.args.table.now (propose (body_in c.args.body.now 0)) s.0 ((propose-handed _).is_in_range b.0) (sym x.refusal) x.state

pub words-words-requires : goal.words-words-requires
words-words-requires c = rw c.in-Some.ensures.1 (formed _ _ (sym c.requires.cached.form))

pub returns-clause-owned : goal.returns-clause-owned
returns-clause-owned c = let s = c.in-Some.ensures in
    let b = c.in-Some-body.ensures in
    let x = rw (s.1, b.1) at c.in_ok-propose_cached.ensures in
    rw c.put_state.ensures (owned_put _ _ _ c.requires (propose (body_in c.args.body.now 0)) (rw b.0 at (propose-handed c.args.body.now)) refl refl (sym x.refusal) x.state refl)
