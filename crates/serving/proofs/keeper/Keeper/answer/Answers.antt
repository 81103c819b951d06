use Rattle.std.proofs.Common.{refl, arith}
use Rattle.engine.specs.Calls.{opens, propose, endorse, certify, accept, advance, aside, listing}
use Rattle.replies.specs.Records.{engine_of}
use Rattle.replies.proofs.RecordLaws.{member-answered, commit-answered, call-answered}
use Rattle.serving.proofs.KeepingLaws.{kept-after, kept-answered}
use Rattle.serving.proofs.keeper.Keeper.answer.Goals as goal

pub invariant_of-self-in-Propose : goal.invariant_of-self-in-Propose
invariant_of-self-in-Propose c =
    let i = c.self.inside in
    let h = c.propose_cached.ensures in
    kept-after (engine_of i.state i.table.now) (propose c.in-Propose.body) (omega arith) refl c.self.invariant h.state refl refl

pub returns-in-Propose-clause-answered : goal.returns-in-Propose-clause-answered
returns-in-Propose-clause-answered c =
    let i = c.self.inside in
    let h = c.propose_cached.ensures in
    rw (c.in-Propose.is, ← c.self.view_is) (kept-answered (engine_of i.state i.table.now) (propose c.in-Propose.body) refl _ h.refusal h.state refl c.put_answer-in-Propose.ensures)

pub invariant_of-self-in-Endorse : goal.invariant_of-self-in-Endorse
invariant_of-self-in-Endorse c =
    let i = c.self.inside in
    let h = c.endorse_cached.ensures in
    kept-after (engine_of i.state i.table.now) (endorse c.in-Endorse.proposal) (omega arith) refl c.self.invariant refl h.table (omega arith)

pub returns-in-Endorse-clause-answered : goal.returns-in-Endorse-clause-answered
returns-in-Endorse-clause-answered c =
    let i = c.self.inside in
    let h = c.endorse_cached.ensures in
    rw (c.in-Endorse.is, ← c.self.view_is) (kept-answered (engine_of i.state i.table.now) (endorse c.in-Endorse.proposal) refl _ h.refusal refl h.table c.put_answer-in-Endorse.ensures)

pub invariant_of-self-in-Certify : goal.invariant_of-self-in-Certify
invariant_of-self-in-Certify c =
    let i = c.self.inside in
    let h = c.certify_cached.ensures in
    kept-after (engine_of i.state i.table.now) (certify c.in-Certify.endorsers) (omega arith) refl c.self.invariant refl h.table (omega arith)

pub returns-in-Certify-clause-answered : goal.returns-in-Certify-clause-answered
returns-in-Certify-clause-answered c =
    let i = c.self.inside in
    let h = c.certify_cached.ensures in
    rw (c.in-Certify.is, ← c.self.view_is) (kept-answered (engine_of i.state i.table.now) (certify c.in-Certify.endorsers) refl _ h.refusal refl h.table c.put_answer-in-Certify.ensures)

pub invariant_of-self-in-Accept : goal.invariant_of-self-in-Accept
invariant_of-self-in-Accept c =
    let i = c.self.inside in
    let h = c.accept_cached.ensures in
    kept-after (engine_of i.state i.table.now) (accept c.in-Accept.certificate) (omega arith, omega arith) refl c.self.invariant refl h.table (omega arith)

pub returns-in-Accept-clause-answered : goal.returns-in-Accept-clause-answered
returns-in-Accept-clause-answered c =
    let i = c.self.inside in
    let h = c.accept_cached.ensures in
    rw (c.in-Accept.is, ← c.self.view_is) (kept-answered (engine_of i.state i.table.now) (accept c.in-Accept.certificate) refl _ h.refusal refl h.table c.put_answer-in-Accept.ensures)

pub invariant_of-self-in-Advance : goal.invariant_of-self-in-Advance
invariant_of-self-in-Advance c =
    let i = c.self.inside in
    let h = c.advance_cached.ensures in
    kept-after (engine_of i.state i.table.now) advance tt refl c.self.invariant h.state refl refl

pub returns-in-Advance-clause-answered : goal.returns-in-Advance-clause-answered
returns-in-Advance-clause-answered c =
    let i = c.self.inside in
    let h = c.advance_cached.ensures in
    rw (c.in-Advance.is, ← c.self.view_is) (kept-answered (engine_of i.state i.table.now) advance refl _ h.refusal h.state refl c.put_answer-in-Advance.ensures)

pub returns-in-Open-clause-answered : goal.returns-in-Open-clause-answered
returns-in-Open-clause-answered c = rw (c.in-Open.is, ← c.self.view_is) (member-answered (opens c.in-Open.own c.in-Open.sheet) refl _ c.open.ensures.refusal c.open.ensures.engine c.put_answer.ensures)

pub returns-in-Commit-clause-answered : goal.returns-in-Commit-clause-answered
returns-in-Commit-clause-answered c = rw (c.in-Commit.is, ← c.self.view_is) (commit-answered _ c.commit.ensures.refusal c.commit.ensures.value c.commit.ensures.engine c.put_committed.ensures)

pub returns-in-Chain-clause-answered : goal.returns-in-Chain-clause-answered
returns-in-Chain-clause-answered c = rw (c.in-Chain.is, ← c.self.view_is) (call-answered (aside listing) refl (omega arith) c.list.ensures)
