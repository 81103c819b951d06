-- The value of a call: what an accepted one gives, and none of a refused one; and the refusals of calls that list.
use Rattle.std.proofs.Common.{◌≡◌, refl, ◌≢◌, eq-eqb, ne_eqb}
use Rattle.engine.specs.Calls.{Call}
use Rattle.engine.specs.Engine.{Engine, refusal_for}
use Rattle.engine.specs.Values.{nothing, accepted_value, value_of}

module _ (e : Engine) where
  module _ (c : Call) where
    pub value-accepted : refusal_for e c ≡ 0 → value_of e c ≡ accepted_value e c
    unfolding value_of
    value-accepted a = rw (eq-eqb (refusal_for e c) 0 a) refl

    pub value-refused : refusal_for e c ≢ 0 → value_of e c ≡ nothing
    unfolding value_of
    value-refused n = rw (ne_eqb (refusal_for e c) 0 n) refl

  open e use {state, table}
  -- ---- the calls that list are refused as their crates have it
