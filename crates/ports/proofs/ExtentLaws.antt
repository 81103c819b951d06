-- What is found between the rounds of a block holds of all rounds: it has certificates in no other.
use Rattle.std.proofs.Common.{◌≡◌, refl, List, ℕ, ◌+◌, ◌*◌, ◌/◌, ◌%◌, ◌<◌, ◌≤◌, arith, Option, Some, None}
use Rattle.std.specs.Prelude.{unwrap_or}
use Rattle.base.proofs.Words.{dec_lt}
use Rattle.chain_committees.specs.Links.{Marked}
use Rattle.extents.specs.Together.{InRound, Below, Above}
use Rattle.ports.specs.Next.{key_place, KeyFound}
use Rattle.ports.specs.ByRows.{NoneMarked, Alone, RowsTell}
use Rattle.ports.specs.declared.rows.ByRows.{ByRows}
use Rattle.ports.specs.declared.rows.ByRows.TheVariants.{Nothing, Line, Untold}
use Rattle.ports.proofs.FoundLaws.{Search}

module _ {t : List ℕ} {k : ℕ} where
  -- a place of a block is in a round that has some of it
  in_round : (p q : ℕ) → p / 16 ≡ q → Marked t k p → InRound t k q
  in_round p q e m = record { author = p % 16; held = rw (← e) m.held; mark = rw (← e) m.mark }

  -- e is behind the row of the last one
  module _ {n top : ℕ} (above : Above n t k top) {e : ℕ} (room : top * 16 + 16 ≤ e) (within : e ≤ n * 16 + 16) where
    -- no place from there on has any
    behind : (i : ℕ) → e ≤ i → i < n * 16 + 16 → Marked t k i → ⊥
    behind i b c m = let h = above (i / 16) (omega arith) (omega arith) (in_round i (i / 16) refl m) in omega arith

    none_above : (a : ℕ) → NoneMarked t k a e → NoneMarked t k a (n * 16 + 16)
    none_above a f i b c m = go (dec_lt i e)
      where
        go : Dec (i < e) → ⊥
        go (yes l) = f i b l m
        go (no l) = behind i (omega arith) c m

    pub told_above : (a : ℕ) (r : ByRows) → RowsTell t k a e r → RowsTell t k a (n * 16 + 16) r
    told_above a Nothing f = none_above a f
    told_above a (Line p) x = record { from = x.from; to = omega (arith, x.to); marked = x.marked; others = x.others }
    told_above a Untold x = tt

    -- the first key of those before it, or none
    pub key_above : (a q : ℕ) (r : Option ℕ) → q ≤ n * 16 + 16 → Search (λ i. Marked t k (key_place a i)) q e r → KeyFound t n k a q (unwrap_or r (n * 16 + 16))
    key_above a q (Some v) h s = record { from = s.0; to = omega (arith, s.1); here = λ _. s.2; skipped = s.3 }
    key_above a q None h s = record {
      from = h;
      to = omega arith;
      here = λ z. absurd (omega arith);
      skipped = λ i b c m. go i b c m (dec_lt i e);
    }
      where
        -- a row is before it or behind it
        go : (i : ℕ) → q ≤ i → i < n * 16 + 16 → Marked t k (key_place a i) → Dec (i < e) → ⊥
        go i b c m (yes d) = s i b d m
        go i b c m (no d) = let h = above (i / 16) (omega arith) (omega arith) (in_round (key_place a i) (i / 16) (omega arith) m) in omega arith

  -- b is not above the row of the first one
  module _ {n low : ℕ} (below : Below n t k low) {b : ℕ} (from : 16 ≤ b) (room : b ≤ low * 16 + 16) where
    -- no place before it has any
    before : (i : ℕ) → 16 ≤ i → i < b → i < n * 16 + 16 → Marked t k i → ⊥
    before i a l c m = let h = below (i / 16) (omega arith) (omega arith) (in_round i (i / 16) refl m) in omega arith

    none_below : NoneMarked t k b (n * 16 + 16) → NoneMarked t k 16 (n * 16 + 16)
    none_below f i a c m = go (dec_lt i b)
      where
        go : Dec (i < b) → ⊥
        go (yes l) = before i a l c m
        go (no l) = f i (omega arith) c m

    others_below : (p : ℕ) → Alone t k b (n * 16 + 16) p → (i : ℕ) → 16 ≤ i → i < p / 16 * 16 + 16 → Marked t k i → i ≡ p
    others_below p x i a c m = go (dec_lt i b)
      where
        go : Dec (i < b) → i ≡ p
        go (yes l) = absurd (before i a l (omega (arith, x.to)) m)
        go (no l) = x.others i (omega arith) c m

    pub told_below : (r : ByRows) → RowsTell t k b (n * 16 + 16) r → RowsTell t k 16 (n * 16 + 16) r
    told_below Nothing f = none_below f
    told_below (Line p) x = record { from = omega (arith, x.from); to = x.to; marked = x.marked; others = others_below p x }
    told_below Untold x = tt

    -- the first key from there on is the first one of all
    pub key_below : (a v : ℕ) → KeyFound t n k a b v → KeyFound t n k a 16 v
    key_below a v f = record { from = omega (arith, f.from); to = f.to; here = f.here; skipped = λ i l c m. go i l c m (dec_lt i b) }
      where
        go : (i : ℕ) → 16 ≤ i → i < v → Marked t k (key_place a i) → Dec (i < b) → ⊥
        go i l c m (yes d) = let h = below (i / 16) (omega arith) (omega (arith, f.to)) (in_round (key_place a i) (i / 16) (omega arith) m) in omega arith
        go i l c m (no d) = f.skipped i (omega arith) c m
