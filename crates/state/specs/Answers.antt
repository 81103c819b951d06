-- What a call leaves, by the number of the first check that refuses it, 0 for none.
use Rattle.std.specs.Prelude.{if◌then◌else◌, ℕ, ◌==◌}

-- the new where it is accepted, the old where it is refused
unfoldable pub if_accepted : {A : Type 0} → ℕ → A → A → A
if_accepted n new old = if n == 0 then new else old
