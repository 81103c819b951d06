-- What the searches over keys and over blocks have found.
use Rattle.std.proofs.Common.{◌≡◌, List, ℕ, ◌+◌, ◌*◌, ◌<◌, ◌≤◌, arith, get_or}
use Rattle.std.specs.Prelude.{Option, Some, None, MatchOption, unwrap_or}
use Rattle.chain_committees.specs.Links.{Marked, Links}
use Rattle.ports.specs.Next.{key_place, KeyFound, BlockFound}

-- the first number from a to e for which P holds, if there is one
abbrev pub Search : (ℕ → Type 0) → ℕ → ℕ → Option ℕ → Type 0
Search P a e r = MatchOption r ((i : ℕ) → a ≤ i → i < e → P i → ⊥) (λ v. (a ≤ v) × (v < e) × P v × ((i : ℕ) → a ≤ i → i < v → P i → ⊥))

-- of the keys
pub key_found : (t : List ℕ) (n k a q : ℕ) (r : Option ℕ) → q ≤ n * 16 + 16 → Search (λ i. Marked t k (key_place a i)) q (n * 16 + 16) r → KeyFound t n k a q (unwrap_or r (n * 16 + 16))
key_found t n k a q (Some v) h s = record { from = s.0; to = omega (arith, s.1); here = λ l. s.2; skipped = s.3 }
key_found t n k a q None h s = record { from = h; to = omega arith; here = λ l. absurd (omega arith); skipped = s }

above : (h e p : ℕ) → (h < e → ⊥) → p < e → p < h
above h e p f l = omega arith

-- of the blocks, by their heads
pub block_found : (t head next : List ℕ) (n blocks k : ℕ) (a e : ℕ) (r : Option ℕ) → blocks < 512 → k ≤ blocks → a ≡ k + 1 → e ≡ blocks + 1 → Search (λ j. get_or head j 0 < n * 16 + 16) a e r → Links t 16 (n * 16 + 16) head next
    → BlockFound t n blocks k (unwrap_or r e)
block_found t head next n blocks k a e (Some v) few h from to s x =
    let f = x.heads v (omega (arith, s.1)) in
    record {
      from = omega (arith, s.0);
      to = omega (arith, s.1);
      here = λ l. (get_or head v 0, f.from, s.2, f.here s.2);
      skipped = λ j p u w c d m. (x.heads j (omega (arith, s.1))).skipped p c (above _ _ p (s.3 j (omega arith) w) d) m;
    }
block_found t head next n blocks k a e None few h from to s x =
    record {
      from = omega arith;
      to = omega arith;
      here = λ l. absurd (omega arith);
      skipped = λ j p u w c d m. (x.heads j (omega arith)).skipped p c (above _ _ p (s j (omega arith) (omega arith)) d) m;
    }
