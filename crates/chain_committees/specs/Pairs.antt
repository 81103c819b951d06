-- The committees of a round and of the one before it.
use Rattle.std.specs.Prelude.{◌≡◌, ℕ, ◌-◌}
use Rattle.agreement.specs.Rules.{Chain}
use Rattle.terms.specs.Proposals.{Content}
use Rattle.terms.specs.declared.sheet.Settings.{Settings}
use Rattle.committee.specs.Committees.{committee_of}
use Rattle.committee.specs.declared.committees.Committees.{Committees}

pub record PairOf (S : Settings) (c : Chain Content) (r : ℕ) (p : Committees) : Type 0 where
  pub before : p.before.weights ≡ committee_of S c (r - 1)
  pub at : p.at.weights ≡ committee_of S c r
  pub margin_before : p.before.margin ≡ S.margin
  pub margin_at : p.at.margin ≡ S.margin
