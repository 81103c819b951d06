use Rattle.std.proofs.Common.{rules, ◌+◌}
use Rattle.base.proofs.FromFn.{tab_from_fn}
use Rattle.terms.specs.declared.sheet.Setting.TheVariants.{Blank}
use Rattle.words.specs.Sheets.{setting_in}
use Rattle.words.proofs.sheets.weights_in.Goals as goal

pub returns : goal.returns
returns c = let w = c.args.words.now in tab_from_fn (λ i. setting_in w (3 + i)) _ _ Blank (λ k y q e. search rules) 16 c.from_fn.ensures.items
