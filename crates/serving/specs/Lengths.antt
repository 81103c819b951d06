-- The words of the runner's table.
use Rattle.std.specs.Prelude.{ℕ}
use Rattle.serving.specs.declared.lengths.TheConstants.{TABLE}

abbrev pub table_length : ℕ
table_length = TABLE
