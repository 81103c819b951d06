-- A member's view, the views of all members, and the log of what they signed.
use Rattle.std.specs.Prelude.{◌≡◌, Bool, true, ℕ, Option}
use mathlib.Core.List.{List, Memᴰ}
use Rattle.agreement.specs.Rules.{Chain, Rules}

-- a member's state as the rules see it
pub record View (R : Rules) : Type 0 where
  pub round : ℕ
  -- its proposal for that round, if any
  pub proposal : Option R.P
  -- the certificates that it holds, by author and round
  pub dag : ℕ → ℕ → Option R.P
  -- the places that it endorsed, by author and round
  pub endorsed : ℕ → ℕ → Bool
  pub chain : Chain R.P

-- the member knows the round, and can work out its committee
abbrev pub Knows : {R : Rules} → View R → ℕ → Type 0
Knows {R} s r = R.known s.chain r ≡ true

-- the views of the members; those of faulty members mean nothing
abbrev pub World : Rules → Type 0
World R = ℕ → View R

-- what each member proposed or endorsed so far; no member keeps this
abbrev pub Log : Rules → Type 0
Log R = ℕ → List R.P

-- p is in the list
abbrev pub Among : {A : Type 0} → A → List A → Type 0
Among p l = Memᴰ p l
