use Rattle.std.proofs.Common.{◌≡◌, sym}
use Rattle.hosting.specs.HostCalls.{comes_to, opens}
use Rattle.replaying.proofs.OpenedLaws.{resumes}
use Rattle.replaying.proofs.opening.open_owned.Goals as goal

pub returns-clause-owned : goal.returns-clause-owned
returns-clause-owned c =
    let a = c.args in
    let d = c.in_ok-open.ensures in
    let z : (comes_to a.state.now a.table.now (opens a.own a.head.now.sheet a.head.now.rights)).refusal ≡ 0 = sym d.its_answer in
    c.resume.ensures.owned (c.resume.ensures.answer.1 (rw (d.its_state, d.its_table) (resumes a.state.now a.table.now a.kept.now a.own a.head.now.sheet a.head.now.rights z c.requires)))
