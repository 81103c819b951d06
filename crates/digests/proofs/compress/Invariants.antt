use Rattle.std.proofs.Common.{◌≡◌, ℕ, ◌<◌, length, slice_index, ◌*◌}
use Rattle.sha2.specs.Sha256.{IsRoundsAt, word_at}
use Rattle.digests.proofs.compress.Given as goal

abbrev pub invariant-load : goal.invariant-load
invariant-load l = (length l.w ≡ 16) × ((k : ℕ) → k < l.i → slice_index l.w k ≡ word_at l.block (4 * k))

abbrev pub invariant-schedule : goal.invariant-schedule
invariant-schedule l = IsRoundsAt l.block l.state l.w l.v (16 * l.turn)
