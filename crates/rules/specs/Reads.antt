-- The reads: their checks, and what they give.
use Rattle.std.specs.Prelude.{not, if◌then◌else◌, ◌||◌, List, [], ◌∷◌, ℕ, suc, length, ◌==◌, nat_lt, Option, Some, None}
use Rattle.base.specs.Checks.{Checks}
use Rattle.agreement.specs.Weights.{total}
use Rattle.agreement.specs.Rules.{Block, Chain}
use Rattle.agreement.specs.Dag.{is_held}
use Rattle.agreement.specs.Prefixes.{block_numbered}
use Rattle.terms.specs.Transactions.{amount_in_range}
use Rattle.terms.specs.Proposals.{Content}
use Rattle.terms.specs.declared.sheet.Settings.{Settings}
use Rattle.committee.specs.Committees.{committee_of}
use Rattle.committee.specs.Shares.{share_of}
use Rattle.committee.specs.Leaders.{members}
use Rattle.committee.specs.declared.effects.Effect.{Effect}
use Rattle.committee.specs.BondEffects.{bond_effect}
use Rattle.rules.specs.Tests.{MemberView, bad_round, committee_in, unknown}
use Rattle.terms.specs.declared.sheet.Weight.{Weight}

-- the number of the block that holds the certificate of a place, 0 for none
unfoldable pub block_number : Chain Content → ℕ → ℕ → ℕ
block_number [] a r = 0
block_number (b ∷ c) a r = if is_held (b.holds a r) then suc (length c) else block_number c a r

-- the round of a block that is there
abbrev pub round_of : Option (Block Content) → ℕ
round_of None = 0
round_of (Some b) = b.round

module _ (S : Settings) where
  -- committee: 5, 8
  abbrev pub reading_committee : MemberView S → ℕ → Checks
  reading_committee s r = (bad_round S r, 5) ∷ (unknown S s r, 8) ∷ []

  -- sixteen weights, 0 for a non-member
  abbrev pub committee_read : MemberView S → ℕ → List Weight
  committee_read s r = committee_of S s.chain r

  -- share: 4, 5, 8, 9
  abbrev pub reading_share : MemberView S → ℕ → ℕ → Checks
  reading_share s m r = (nat_lt 15 m, 4) ∷ (bad_round S r, 5) ∷ (unknown S s r, 8)
      ∷ (not (members (committee_in S s r) m), 9) ∷ []

  -- the thousandths
  abbrev pub share_read : MemberView S → ℕ → ℕ → ℕ
  share_read s m r = share_of (committee_in S s r m) (total 16 (committee_in S s r))

  -- bond effect: 4, 5, 6 the amount, 8, 30 an empty committee
  abbrev pub reading_effect : MemberView S → ℕ → ℕ → ℕ → Checks
  reading_effect s m r a = (nat_lt 15 m, 4) ∷ (bad_round S r, 5) ∷ (not (amount_in_range a), 6)
      ∷ (unknown S s r, 8) ∷ (total 16 (committee_in S s r) == 0, 30) ∷ []

  -- all sixteen shares of that committee before and after member m bonds a, and the largest difference
  abbrev pub effect_read : MemberView S → ℕ → ℕ → ℕ → Effect
  effect_read s m r a = bond_effect m a (committee_read s r)

  -- certificate: 4, 5, 23 none there
  abbrev pub reading_certificate : MemberView S → ℕ → ℕ → Checks
  reading_certificate s m r =
      (nat_lt 15 m, 4) ∷ (bad_round S r, 5) ∷ (not (is_held (s.dag m r)), 23) ∷ []

  -- block by number from 1: 23
  abbrev pub reading_block : MemberView S → ℕ → Checks
  reading_block s k = (k == 0 || nat_lt (length s.chain) k, 23) ∷ []

  -- its round
  abbrev pub block_read : MemberView S → ℕ → ℕ
  block_read s k = round_of (block_numbered s.chain k)
