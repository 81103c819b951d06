-- The words of a block, by what a walk down its anchor's history gives.
use Rattle.std.proofs.Common.{◌≡◌, refl, sym, ap, ◌∙◌, Bool, true, false, not, ◌&&◌, List, ℕ, ◌+◌, ◌-◌, ◌<◌, ◌≤◌, arith, eqb, length}
use Rattle.base.specs.Sets.{only}
use Rattle.store.specs.Table.{mark_at}
use Rattle.blocks.specs.History.{in_history}
use Rattle.prospects.specs.Reaching.{is_reached, WentDown}
use Rattle.base.specs.Puts.{Puts}
use Rattle.prospects.specs.Entries.{rows_entries, in_sets, RowsFit}
use Rattle.prospects.specs.Ready.{anchor_words, BlockReady, BlockListed}
use Rattle.prospects.specs.declared.entries.Anchor.{Anchor}
use Rattle.prospects.proofs.RowLaws.{rows_same, rows-from}
use Rattle.prospects.specs.Prospects.{is_new}

module _ (b : Bool) (t v : List ℕ) (x : Anchor) (r low : ℕ) (v' fresh' : List ℕ) (w : WentDown b t v (only x.author.0) r low v' fresh') where
  abbrev new : ℕ → ℕ → Bool
  new = is_new t (is_reached b t v) x.author.0 r

  -- where the walk has ended nothing is new
  none-new : (i q : ℕ) → 0 < q → q ≤ low → new i q ≡ false
  none-new i q from to = go (in_history t r (only x.author.0) i q) refl
    where
      go : (c : Bool) → in_history t r (only x.author.0) i q ≡ c → (c && (not (is_reached b t v i q) && eqb (mark_at t i q) 0)) ≡ false
      go true h = rw (w.old q i from to h) refl
      go false h = refl

  -- the rows above it are the block's
  fresh-words : rows_entries (in_sets fresh') x.block x.author.0 low (r - low) ≡ anchor_words b t v x r
  fresh-words =
      let d = w.down in
      let e : low + (r - low) ≡ r = omega arith in
      rows_same (in_sets fresh') new x.block x.author.0 low (r - low) (λ i q h l u. w.new q i l (omega arith))
      ∙ sym (rw e at (rows-from new x.block x.author.0 low (r - low) (λ i q h l u. none-new i q l u)))

-- ---- what a block asks and gives

module _ {b : Bool} {t v : List ℕ} {x : Anchor} {r : ℕ} {list : List ℕ} {at low : ℕ} {v' fresh' : List ℕ} where
  pub rows_fit : {fresh : List ℕ} → WentDown b t v (only x.author.0) r low v' fresh' → BlockReady b t v fresh x r list at → RowsFit list at fresh' x.block low r x.author.0
  rows_fit w p =
      let e = ap (λ (l : List ℕ). length l) (fresh-words b t v x r low v' fresh' w) in
      record { start = p.author; upward = w.down; rounds = p.walk.round; room = omega (arith, e, p.room) }

  pub block_listed : {list' : List ℕ} {next : ℕ} → WentDown b t v (only x.author.0) r low v' fresh'
      → Puts list list' at next (rows_entries (in_sets fresh') x.block x.author.0 low (r - low)) (length (rows_entries (in_sets fresh') x.block x.author.0 low (r - low))) → BlockListed b t v x r list list' at next v' fresh'
  block_listed w p = record { long = w.long; rounds = w.rounds; words = rw (fresh-words b t v x r low v' fresh' w) at p; reaches = w.reaches }
