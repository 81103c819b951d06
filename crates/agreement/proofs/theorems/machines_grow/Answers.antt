use Rattle.agreement.proofs.MachineAgreement as laws
use Rattle.agreement.proofs.theorems.machines_grow.Goals as goal

pub returns : goal.returns
returns g c = λ start Y a x m l h. laws.machines_grow g.M.AnyMachines.machine start Y a x m l h
