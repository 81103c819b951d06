use Rattle.std.proofs.Common.{refl, sym}
use Rattle.engine.specs.Calls.{advance}
use Rattle.hosting.proofs.HandedLaws.{advance-handed}
use Rattle.hosting.proofs.SettledLaws.{fits-over}
use Rattle.state.proofs.FormedLaws.{formed}
use Rattle.owned.proofs.OwnedLaws.{owned_put}
use Rattle.owned.proofs.calls.advance.Goals as goal

pub put_state-requires : goal.put_state-requires
put_state-requires c = let s = c.in-Some.ensures in
    let x = rw s.1 at c.in_ok-advance_cached.ensures in
    fits-over _ c.args.table.now advance s.0 tt (sym x.refusal) x.state

pub words-words-requires : goal.words-words-requires
words-words-requires c = rw c.in-Some.ensures.1 (formed _ _ (sym c.requires.cached.form))

pub returns-clause-owned : goal.returns-clause-owned
returns-clause-owned c = let s = c.in-Some.ensures in
    let x = rw s.1 at c.in_ok-advance_cached.ensures in
    rw c.put_state.ensures (owned_put _ _ _ c.requires advance advance-handed refl refl (sym x.refusal) x.state refl)
