-- Settings, as fields hold them.
use Rattle.std.specs.Prelude.{List, [], ◌∷◌, ℕ, zero, suc, Option, None, Some}
use Rattle.std.specs.Option.{option_map}
use Rattle.terms.specs.declared.sheet.Setting.{Setting}
use Rattle.terms.specs.declared.sheet.Setting.TheVariants.{Blank, Written}
use Rattle.records.specs.Fields.{next_by}
use Rattle.records.specs.Numbers.{number_in}

-- an empty field is blank
abbrev pub setting_in : List ℕ → Option Setting
setting_in [] = Some Blank
setting_in (b ∷ f) = option_map Written (number_in (b ∷ f))

-- the first n fields, as settings
unfoldable pub weights_in : ℕ → List (List ℕ) → Option (List Setting)
weights_in zero fs = Some []
weights_in (suc n) fs = next_by setting_in fs (λ x fs. option_map (λ l. x ∷ l) (weights_in n fs))

-- a last field that may be absent
abbrev pub last_setting : List (List ℕ) → Option Setting
last_setting [] = Some Blank
last_setting (f ∷ []) = setting_in f
last_setting (f ∷ g ∷ fs) = None
