-- Shares: weights in thousandths of a total, to the nearest, an exact half to the even neighbour.
use Rattle.std.specs.Prelude.{if◌then◌else◌, ℕ, ◌+◌, ◌-◌, ◌*◌, ◌^◌, ◌/◌, ◌%◌, ◌<◌, ◌≤◌, nat_lt}

-- the even one of q and q + 1
unfoldable pub even_neighbour : ℕ → ℕ
even_neighbour q = q + q % 2

-- a division by n that gave the whole part q and the rest r: a rest below half of n is dropped, one above it makes one more, an exact half gives the even neighbour
unfoldable pub rounded : ℕ → ℕ → ℕ → ℕ
rounded q r n = if nat_lt (2 * r) n then q else if nat_lt n (2 * r) then q + 1 else even_neighbour q

-- a / n to the nearest whole number
unfoldable pub nearest : ℕ → ℕ → ℕ
nearest a n = rounded (a / n) (a % n) n

-- the share of weight w in the total n, in thousandths
unfoldable pub share_of : ℕ → ℕ → ℕ
share_of w n = nearest (1000 * w) n

-- how far two numbers are apart
abbrev pub apart : ℕ → ℕ → ℕ
apart a b = (a - b) + (b - a)

-- twice the distance from s to a / n is at most 1, put without a fraction
pub record Near (a n s : ℕ) : Type 0 where
  pub above : 2 * (n * s) ≤ 2 * a + n
  pub below : 2 * a ≤ 2 * (n * s) + n

-- a division by n gave q, at most a thousand, and left r
pub record Division (q r n : ℕ) : Type 0 where
  pub whole : q ≤ 1000
  pub rest : r < n
  pub bounded : n ≤ 2 ^ 50

-- x is a part of the total n, which is not 0
pub record PartOf (x n : ℕ) : Type 0 where
  pub some : 0 < n
  pub part : x ≤ n
  pub bounded : n ≤ 2 ^ 50
