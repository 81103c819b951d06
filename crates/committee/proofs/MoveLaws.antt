-- How far a bond moves a share: at most 1 plus the whole part of 1,000 k / (n + k).
use Rattle.std.proofs.Common.{ℕ, ◌+◌, ◌*◌, ◌/◌, ◌≤◌, ◌<◌, arith, mul-le-mul_left}
use Rattle.base.proofs.Words.{dec_lt, lt-div-mul-add}
use Rattle.committee.specs.Shares.{share_of, apart, Near}
use Rattle.committee.proofs.ShareLaws.{share-near, share_le}

module _ (n k w w' s s' d : ℕ) (a : Near (1000 * w) n s) (b : Near (1000 * w') (n + k) s') (top : 1000 * k < d * (n + k) + (n + k)) where
  -- a share rises by no more: what a member gains is at most k
  rises : w' ≤ w + k → s' ≤ s + (1 + d)
  rises h = go (dec_lt (s + (1 + d)) s')
    where
      go : Dec (s + (1 + d) < s') → s' ≤ s + (1 + d)
      go (yes l) = let p = mul-le-mul_left (n + k) l in absurd (omega (arith, a.below, b.above))
      go (no l) = omega arith

  -- and falls by no more: no weight falls, and no share is above a thousand
  falls : w ≤ w' → s ≤ 1000 → s ≤ s' + (1 + d)
  falls h t = go (dec_lt (s' + (1 + d)) s)
    where
      go : Dec (s' + (1 + d) < s) → s ≤ s' + (1 + d)
      go (yes l) = let p = mul-le-mul_left (n + k) l in let q = mul-le-mul_left k t in absurd (omega (arith, a.above, b.below))
      go (no l) = omega arith

pub moves : (n k w w' : ℕ) → 0 < n → w ≤ n → w ≤ w' → w' ≤ w + k → apart (share_of w n) (share_of w' (n + k)) ≤ 1 + 1000 * k / (n + k)
moves n k w w' h l from to =
    let a = share-near w n h in
    let b = share-near w' (n + k) (omega arith) in
    let some : 0 < n + k = omega arith in
    let t : 1000 * k < 1000 * k / (n + k) * (n + k) + (n + k) = lt-div-mul-add some in
    let r = rises n k w w' (share_of w n) (share_of w' (n + k)) (1000 * k / (n + k)) a b t to in
    let f = falls n k w w' (share_of w n) (share_of w' (n + k)) (1000 * k / (n + k)) a b t from (share_le w n h l) in
    omega arith
