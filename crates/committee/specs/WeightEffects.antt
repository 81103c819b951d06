-- What a transaction does to one weight, in numbers alone.
use Rattle.std.specs.Prelude.{Bool, if◌then◌else◌, ℕ, ◌+◌, ◌-◌, ◌*◌, ◌/◌, ◌%◌, nat_lt}

-- 0 a bond's, 1 an unbond's, 2 none: that of a transaction that is not there, of a number that is no member's, and of an entry
unfoldable pub effect_of : Bool → ℕ → ℕ → ℕ
effect_of there kind number =
    if there then (if nat_lt 15 number then 2 else if nat_lt 2 kind then 2 else kind)
    else 2

-- the weight x after an effect
abbrev pub weight_after : ℕ → ℕ → ℕ → ℕ
weight_after e amount x = x * (1 - e % 2) + amount * ((2 - e) / 2)
