use Rattle.std.proofs.Common.{sym, arith}
use Rattle.state.proofs.FormedLaws.{formed}
use Rattle.owned.proofs.RenewalLaws.{caches-take}
use Rattle.owned.proofs.resuming.resume.Goals as goal

pub keep_all-requires-clause-formed : goal.keep_all-requires-clause-formed
keep_all-requires-clause-formed c = formed _ _ (c.is_whole.ensures.0 c.if-not-is_whole.false).formed

pub returns-clause-owned : goal.returns-clause-owned
returns-clause-owned c z =
    let s = c.in-Some.ensures in
    let x = c.is_whole.ensures.0 c.if-not-is_whole.false in
    record {
      reads = s.0;
      cached = rw (← s.1) (record { form = sym x.formed; committees = λ w. caches-take _ _ _ (omega arith) c.keep_all.ensures.committees });
      rooted = rw (← s.1) x.rooted;
      proposal = rw (← s.1) x.proposal;
      together = rw (← s.1) x.together;
    }
