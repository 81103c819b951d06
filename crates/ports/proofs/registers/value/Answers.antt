use Rattle.ports.proofs.ReadLaws.{interrupt_shown, status_shown}
use Rattle.ports.proofs.registers.value.Goals as goal

pub returns-in-2 : goal.returns-in-2
returns-in-2 c S blocks h = interrupt_shown S c.args.table.now blocks c.args.port h c.in-2.is c.interrupt.ensures

pub returns-in-5 : goal.returns-in-5
returns-in-5 c S blocks h = status_shown S c.args.table.now blocks c.args.port h c.in-5.is c.status.ensures
