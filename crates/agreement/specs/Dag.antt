-- The certificates of a view, which are a graph by the authors that they name: places, histories and closure.
use Rattle.std.specs.Prelude.{◌≡◌, Bool, true, false, ℕ, suc, ◌<◌, Option, Some, None}
use Rattle.agreement.specs.Rules.{Rules}
use Rattle.agreement.specs.View.{View}

-- is a certificate there?
abbrev pub is_held : {P : Type 0} → Option P → Bool
is_held None = false
is_held (Some q) = true

-- does this certificate, if any, name a? If so it votes for a's certificate of the round before
abbrev pub vote : (R : Rules) → ℕ → Option R.P → Bool
vote R a None = false
vote R a (Some q) = R.names q a

module _ {R : Rules} (s : View R) where
  open R use {size, P, author, round, names}

  -- the certificate is held at its place
  abbrev pub Held : P → Type 0
  Held p = s.dag (author p) (round p) ≡ Some p

  -- every certificate is held at its own place, and is a member's
  pub record Placed : Type 0 where
    pub place : {a r : ℕ} {p : P} → s.dag a r ≡ Some p → (author p ≡ a) × (round p ≡ r)
    pub member : {a r : ℕ} {p : P} → s.dag a r ≡ Some p → a < size

  -- q is in the history of p
  pub data Reach : P → P → Type 0 where
    here : {p : P} → Reach p p
    back : {p q t : P} (m a : ℕ) → round p ≡ suc m → names p a ≡ true → s.dag a m ≡ Some q
        → Reach q t → Reach p t

  -- whoever p names is held one round earlier
  abbrev pub Closed : P → Type 0
  Closed p = (m a : ℕ) → round p ≡ suc m → names p a ≡ true → (q : P) × (s.dag a m ≡ Some q)
