use Rattle.std.proofs.Common.{rules}
use Rattle.base.proofs.FromFn.{tab_from_fn}
use Rattle.terms.specs.Sheets.{weight_at}
use Rattle.terms.proofs.sheet.weights.Goals as goal

pub returns : goal.returns
returns c = tab_from_fn (λ k. record { 0 = weight_at c.args.sheet.now k }) _ _ (record { 0 = 0 }) (λ k y q e. search rules) 16 c.from_fn.ensures.items
