use Rattle.std.proofs.Common.{◌≤◌, refl, arith}
use Rattle.base.proofs.PutLaws.{puts-more}
use Rattle.listing.proofs.LineLaws.{decimal-small, decimal-more, decimal_fits}
use Rattle.listing.proofs.lines.+put_number.Goals as goal

pub returns-then-number-lt10 : goal.returns-then-number-lt10
returns-then-number-lt10 t c = rw (decimal-small c.args.number c.if-number-lt10.true) (record { bytes = refl; past = refl; room = omega arith })

pub returns : goal.returns
returns t c =
    let h : 10 ≤ c.args.number = omega arith in
    rw (decimal-more c.args.number h) (puts-more _ c.put_number-next.ensures 10 (rw (← decimal-more c.args.number h) (decimal_fits c.args.number (omega arith))))
