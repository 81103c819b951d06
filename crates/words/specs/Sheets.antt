-- A sheet as words: twenty settings of two words each (0 blank or 1 written, value), in the order lookback, ceiling, allowance, sixteen weights, margin.
use Rattle.std.specs.Prelude.{Bool, if◌then◌else◌, ◌&&◌, List, ℕ, ◌+◌, ◌*◌, length, ◌==◌, nat_le}
use Rattle.base.specs.Folds.{all_to, tab}
use Rattle.terms.specs.declared.sheet.Setting.{Setting}
use Rattle.terms.specs.declared.sheet.Setting.TheVariants.{Blank, Written}
use Rattle.terms.specs.declared.sheet.Rights.{Rights}
use Rattle.terms.specs.declared.sheet.Sheet.{Sheet}
use Rattle.words.specs.Lengths.{sheet_length}
use Rattle.words.specs.Words.{word}

unfoldable pub sheet_reads : List ℕ → Bool
sheet_reads w = nat_le sheet_length (length w) && all_to (λ k. nat_le (word w (k * 2)) 1) 20

-- setting k; the value of a blank is not looked at
unfoldable pub setting_in : List ℕ → ℕ → Setting
setting_in w k = if word w (k * 2) == 0 then Blank else Written (word w (k * 2 + 1))

-- and the rights beside it
unfoldable pub sheet_in : List ℕ → Rights → Sheet
sheet_in w R = record {
  lookback = setting_in w 0;
  ceiling = setting_in w 1;
  allowance = setting_in w 2;
  weights = tab (λ i. setting_in w (3 + i)) 16;
  margin = setting_in w 19;
  rights = R;
}
