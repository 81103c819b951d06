use Rattle.open.specs.Open.{closed_state}
use Rattle.open.proofs.OpenLaws.{equal_settings_open}
use Rattle.open.proofs.theorems.equal_settings_open.Goals as goal

pub returns-clause-refusal : goal.returns-clause-refusal
returns-clause-refusal c = (λ t own a b e r. (equal_settings_open closed_state t own a b e r).0)

pub returns-clause-state : goal.returns-clause-state
returns-clause-state c = (λ s t own a b e r. (equal_settings_open s t own a b e r).1)

pub returns-clause-table : goal.returns-clause-table
returns-clause-table c = (λ t own a b e r. (equal_settings_open closed_state t own a b e r).2)
