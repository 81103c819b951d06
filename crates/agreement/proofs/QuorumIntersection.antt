-- Quorums of one committee meet in a correct member, and votes above the bound meet every quorum.
use Rattle.std.proofs.Common.{◌≡◌, Bool, true, ℕ, ◌<◌, arith}
use Rattle.agreement.specs.Weights.{total}
use Rattle.agreement.specs.Rules.{Rules}
use Rattle.agreement.specs.Laws.{Lawful}
use Rattle.agreement.specs.Quorum.{Common, Quorum, Outweighs, Tolerant}
use Rattle.agreement.proofs.WeightLaws.{weigh-split, total_pos, everyone, meet}

module _ (R : Rules) where
  open R use {size}

  -- a quorum with a member has a positive total
  pub quorum_pos : {w : ℕ → ℕ} {S : ℕ → Bool} {i : ℕ} → Quorum R w S → S i ≡ true → 0 < total size w
  quorum_pos {w} {S} {i} q h = total_pos size w (q.inside i h) (q.weighs i h)

module _ {R : Rules} (Y : Lawful R) where
  open R use {size}
  open Y use {bound_law}

  -- two quorums share a correct member
  pub quorums_meet : {w : ℕ → ℕ} {S T C : ℕ → Bool} → Tolerant R C w → 0 < total size w → Quorum R w S → Quorum R w T → Common size S T C
  quorums_meet {w} {S} {T} {C} t h p q = meet size w S T C (omega (arith, weigh-split size w C, bound_law w h))

  -- a quorum has a correct member
  pub quorum-correct : {w : ℕ → ℕ} {S C : ℕ → Bool} → Tolerant R C w → 0 < total size w → Quorum R w S → Common size S S C
  quorum-correct t h q = quorums_meet t h q q

module _ (R : Rules) where
  open R use {size}

  -- votes above the bound meet every quorum
  pub voters-meet : {w : ℕ → ℕ} {S T : ℕ → Bool} → Quorum R w S → Outweighs R w T → Common size S T everyone
  voters-meet {w} {S} {T} q h = meet size w S T everyone (omega arith)
