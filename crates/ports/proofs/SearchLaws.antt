-- What the search for the next line has found is the next line.
use Rattle.std.proofs.Common.{◌≡◌, refl, sym, ap, ◌∙◌, Bool, true, false, List, [], ◌∷◌, ◌++◌, append_assoc, append-nil, ℕ, zero, suc, ◌+◌, ◌-◌, ◌*◌, ◌/◌, ◌%◌, ◌<◌, ◌≤◌, arith, add-one, length, drop, ne_eqb, Some, None}
use Rattle.base.proofs.Words.{dec_lt, drop-append-add}
use Rattle.terms.specs.declared.sheet.Settings.{Settings}
use Rattle.store.specs.Table.{held_at, mark_at, block_round}
use Rattle.committee.specs.Chain.{holds_at, chain_of}
use Rattle.committee.proofs.ChainLaws.{holds-other, holds-absent}
use Rattle.chain_committees.specs.BlockChanges.{start_at}
use Rattle.chain_committees.specs.Links.{Marked}
use Rattle.ports.specs.Cursors.{Lines, lines_after}
use Rattle.ports.specs.Places.{lines_of, line_at}
use Rattle.ports.specs.Next.{first_place, lines_from, lines_beyond, key_member, key_place, key_of, KeyFound, BlockFound, LinePlace, NextInBlock}
use Rattle.ports.proofs.Keys.{key_lines, keys-skip}
use Rattle.ports.proofs.PlaceLaws.{line_in, key_line}
use Rattle.ports.proofs.LineLaws.{key-place, line-present, places_of, start_after, lines_none}
use Rattle.ports.proofs.OnceLaws.{by_place, InBlock, later_keys, later_blocks, chain-later, after-place}

-- ---- keys

module _ (t : List ℕ) (n k a : ℕ) where
  abbrev keyed : ℕ → ℕ → Lines
  keyed = key_lines (key_line t k a) (key_place a)

  place-member : (q : ℕ) → key_place a q % 16 ≡ key_member a q
  place-member q = omega arith

  place-round : (q : ℕ) → key_place a q / 16 ≡ q / 16
  place-round q = omega arith

  key-some : (q : ℕ) → Marked t k (key_place a q) → key_line t k a q ≡ Some (line_at t (key_member a q) (q / 16))
  key-some q x = line-present t n k a (key_member a q) (q / 16) (rw (place-member q, place-round q) at x.held) (rw (place-member q, place-round q) at x.mark)

  key-none : (q : ℕ) → (Marked t k (key_place a q) → ⊥) → key_line t k a q ≡ None
  key-none q f = go (held_at t (key_member a q) (q / 16)) refl
    where
      go : (b : Bool) → held_at t (key_member a q) (q / 16) ≡ b → line_in k (block_round t k) (holds_at t k (key_member a q) (q / 16)) ≡ None
      go true h = ap (line_in k (block_round t k)) (holds-other t k (key_member a q) (q / 16) (λ e. f (record { held = rw (place-member q, place-round q) h; mark = rw (place-member q, place-round q) e })))
      go false h = ap (line_in k (block_round t k)) (holds-absent t k (key_member a q) (q / 16) h)

  keyed-none : (q : ℕ) → keyed q 0 ≡ []
  unfolding key_lines
  keyed-none q = refl

  keyed-one : (q d : ℕ) (w : List ℕ) → key_line t k a q ≡ Some w → keyed q (suc d) ≡ (key_place a q, w) ∷ keyed (suc q) d
  unfolding key_lines
  keyed-one q d w e = rw e refl

  -- a key that was found has the first line, and where none was found there is no line
  module _ (q v : ℕ) (x : KeyFound t n k a q v) where
    skip : keyed q (16 + n * 16 - q) ≡ keyed v (16 + n * 16 - v)
    skip =
        let d : q + (v - q) ≡ v = omega (arith, x.from) in
        let e : 16 + n * 16 - q - (v - q) ≡ 16 + n * 16 - v = omega (arith, x.from, x.to) in
        keys-skip (key_line t k a) (key_place a) q (16 + n * 16 - q) (v - q) (omega (arith, x.to)) (λ i l. key-none (q + i) (x.skipped (q + i) (omega arith) (omega arith)))
        ∙ rw (d, e) refl

    pub found-key : v < n * 16 + 16 → keyed q (16 + n * 16 - q) ≡ (key_place a v, line_at t (key_member a v) (v / 16)) ∷ keyed (suc v) (16 + n * 16 - suc v)
    found-key l =
        let d : 16 + n * 16 - v ≡ suc (16 + n * 16 - suc v) = omega arith in
        skip ∙ rw d (keyed-one v (16 + n * 16 - suc v) (line_at t (key_member a v) (v / 16)) (key-some v (x.here l)))

    pub no_key : n * 16 + 16 ≤ v → keyed q (16 + n * 16 - q) ≡ []
    no_key l = let d : 16 + n * 16 - v ≡ 0 = omega arith in skip ∙ rw d (keyed-none v)

-- ---- blocks

module _ (S : Settings) (t : List ℕ) where
  abbrev ceiling : ℕ
  ceiling = S.ceiling

  -- a block without certificates has no line
  empty_block : (k : ℕ) → ((p : ℕ) → 16 ≤ p → p < ceiling * 16 + 16 → Marked t (suc k) p → ⊥) → places_of S t k ≡ []
  empty_block k f =
      let a = start_after S t k in
      let z : 16 + ceiling * 16 - 16 ≡ ceiling * 16 = omega arith in
      rw z at (no_key t ceiling (suc k) a 16 (ceiling * 16 + 16) (record { from = omega arith; to = omega arith; here = λ l. absurd (omega arith); skipped = λ i u v m. f (key_place a i) (omega arith) (omega arith) m }) (omega arith))

  later-zero : (k : ℕ) → later_blocks S t k 0 ≡ []
  unfolding later_blocks
  later-zero k = refl

  later_more : (k d : ℕ) → later_blocks S t k (suc d) ≡ later_blocks S t k d ++ places_of S t (k + d)
  unfolding later_blocks
  later_more k d = refl

  later-none : (k d : ℕ) → ((j : ℕ) → k ≤ j → j < k + d → places_of S t j ≡ []) → later_blocks S t k d ≡ []
  later-none k zero f = later-zero k
  later-none k (suc d) f = later_more k d ∙ rw (later-none k d (λ j l u. f j l (omega arith)), f (k + d) (omega arith) (omega arith)) refl

  later-both : (k d e : ℕ) → later_blocks S t k (d + e) ≡ later_blocks S t k d ++ later_blocks S t (k + d) e
  later-both k d zero = let z : d + 0 ≡ d = omega arith in rw (z, later-zero (k + d)) (sym (append-nil (later_blocks S t k d)))
  later-both k d (suc e) =
      let z : d + suc e ≡ suc (d + e) = omega arith in
      let y : k + (d + e) ≡ k + d + e = omega arith in
      ap (later_blocks S t k) z ∙ later_more k (d + e) ∙ rw (later-both k d e, y, later_more (k + d) e) (append_assoc (later_blocks S t k d) (later_blocks S t (k + d) e) (places_of S t (k + d + e)))

  later-one : (k : ℕ) → later_blocks S t k 1 ≡ places_of S t k
  later-one k = let z : k + 0 ≡ k = omega arith in later_more k 0 ∙ rw (later-zero k, z) refl

  module _ (blocks k v : ℕ) (l : k ≤ blocks) (x : BlockFound t ceiling blocks k v) where
    pub no_block : blocks < v → later_blocks S t k (blocks - k) ≡ []
    no_block h = later-none k (blocks - k) (λ j u w. empty_block j (λ p a b m. x.skipped (suc j) p (omega arith) (omega arith) a b m))

    pub found-block : v ≤ blocks → later_blocks S t k (blocks - k) ≡ places_of S t (v - 1) ++ later_blocks S t v (blocks - v)
    found-block h =
        let d = v - 1 - k in
        let i : blocks - k ≡ d + (1 + (blocks - v)) = omega (arith, x.from) in
        let j : k + d ≡ v - 1 = omega (arith, x.from) in
        let y : v - 1 + 1 ≡ v = omega (arith, x.from) in
        let e : later_blocks S t k d ≡ [] = later-none k d (λ j u w. empty_block j (λ p a b m. x.skipped (suc j) p (omega arith) (omega (arith, x.from)) a b m)) in
        ap (later_blocks S t k) i ∙ later-both k d (1 + (blocks - v)) ∙ rw (e, j) (later-both (v - 1) 1 (blocks - v) ∙ rw (later-one (v - 1), y) refl)

  -- ---- the lines after a place's

  abbrev chain : ℕ → Lines
  chain k = lines_of S (chain_of ceiling t k)

  pub beyond-later : (blocks k : ℕ) → k ≤ blocks → lines_beyond S t blocks k ≡ later_blocks S t k (blocks - k)
  unfolding lines_beyond
  beyond-later blocks k l =
      let z : k + (blocks - k) ≡ blocks = omega arith in
      let e : chain blocks ≡ chain k ++ later_blocks S t k (blocks - k) = ap chain (sym z) ∙ chain-later S t k (blocks - k) in
      let y : length (chain k) + 0 ≡ length (chain k) = omega arith in
      ap (drop (length (chain k))) e ∙ ap (λ (i : ℕ). drop i (chain k ++ later_blocks S t k (blocks - k))) (sym y) ∙ drop-append-add (chain k) (later_blocks S t k (blocks - k)) 0

  pub from_start : (blocks : ℕ) → lines_from S t blocks 0 ≡ lines_beyond S t blocks 0
  unfolding lines_from lines_beyond
  from_start blocks = rw (lines_none S t) refl

  pub from_place : (blocks p : ℕ) → LinePlace t ceiling blocks p → let k = mark_at t (p % 16) (p / 16) in lines_from S t blocks p ≡ later_keys t ceiling k (start_after S t (k - 1)) p ++ lines_beyond S t blocks k
  unfolding lines_from
  from_place blocks p x =
      let k = mark_at t (p % 16) (p / 16) in
      let z : suc (k - 1) ≡ k = omega (arith, x.mark_from) in
      let y : suc (k - 1) + (blocks - k) ≡ blocks = omega (arith, x.mark_from, x.mark_to) in
      let b : InBlock t ceiling (suc (k - 1)) (p % 16) (p / 16) = record { from = omega (arith, x.from); to = omega (arith, x.to); held = x.held; mark = sym z } in
      let e = after-place S t (k - 1) (blocks - k) p b in
      rw (ne_eqb p 0 (λ q. absurd (omega (arith, x.from))), beyond-later blocks k x.mark_to) (ap (λ (i : ℕ). lines_after (chain i) p) (sym y) ∙ e ∙ rw z refl)

  -- where rows start, as the code has it
  start-after : (k : ℕ) → start_after S t k ≡ start_at S t k
  unfolding start_at
  start-after k = rw (add-one k) refl

  module _ (blocks p : ℕ) (x : LinePlace t ceiling blocks p) where
    abbrev mark : ℕ
    mark = mark_at t (p % 16) (p / 16)

    abbrev start : ℕ
    start = start_at S t (mark - 1)

    from-keys : lines_from S t blocks p ≡ later_keys t ceiling mark start p ++ lines_beyond S t blocks mark
    from-keys = rw (← start-after (mark - 1)) (from_place blocks p x)

    -- a key that was found after p's, or none
    pub next_key_in : (v : ℕ) → KeyFound t ceiling mark start (key_of start (p % 16) (p / 16) + 1) v → v < ceiling * 16 + 16 → NextInBlock S t blocks p (Some (key_place start v))
    unfolding NextInBlock
    next_key_in v f l =
        let z : key_of start (p % 16) (p / 16) + 1 ≡ suc (key_of start (p % 16) (p / 16)) = omega arith in
        let e = found-key t ceiling mark start (suc (key_of start (p % 16) (p / 16))) v (rw z at f) l in
        sym (ap first_place (from-keys ∙ ap (λ (y : Lines). y ++ lines_beyond S t blocks mark) e))

    pub no_key_in : (v : ℕ) → KeyFound t ceiling mark start (key_of start (p % 16) (p / 16) + 1) v → ceiling * 16 + 16 ≤ v → NextInBlock S t blocks p None
    unfolding NextInBlock
    no_key_in v f l =
        let z : key_of start (p % 16) (p / 16) + 1 ≡ suc (key_of start (p % 16) (p / 16)) = omega arith in
        let e = no_key t ceiling mark start (suc (key_of start (p % 16) (p / 16))) v (rw z at f) l in
        from-keys ∙ ap (λ (y : Lines). y ++ lines_beyond S t blocks mark) e

  module _ (blocks k v : ℕ) (l : k ≤ blocks) (x : BlockFound t ceiling blocks k v) where
    pub none_beyond : blocks < v → None ≡ first_place (lines_beyond S t blocks k)
    none_beyond h = sym (ap first_place (beyond-later blocks k l ∙ no_block blocks k v l x h))

    -- a block that was found has a first key
    pub first_beyond : v ≤ blocks → (q : ℕ) → KeyFound t ceiling v (start_at S t (v - 1)) 16 q → Some (key_place (start_at S t (v - 1)) q) ≡ first_place (lines_beyond S t blocks k)
    first_beyond h q f =
        let a = start_at S t (v - 1) in
        let z : suc (v - 1) ≡ v = omega (arith, x.from) in
        let y : 16 + ceiling * 16 - 16 ≡ ceiling * 16 = omega arith in
        let m = x.here h in
        let e : places_of S t (v - 1) ≡ (key_place a q, line_at t (key_member a q) (q / 16)) ∷ keyed t ceiling v a (suc q) (16 + ceiling * 16 - suc q) =
        rw (start-after (v - 1), z) (rw y at (found-key t ceiling v a 16 q f (inside m))) in
        sym (ap first_place (beyond-later blocks k l ∙ found-block blocks k v l x h ∙ ap (λ (y : Lines). y ++ later_blocks S t v (blocks - v)) e))
      where
        inside : (p : ℕ) × (16 ≤ p) × (p < ceiling * 16 + 16) × Marked t v p → q < ceiling * 16 + 16
        inside m = go (dec_lt q (ceiling * 16 + 16))
          where
            a : ℕ
            a = start_at S t (v - 1)

            p : ℕ
            p = m.0

            go : Dec (q < ceiling * 16 + 16) → q < ceiling * 16 + 16
            go (yes d) = d
            go (no d) =
                let i = key_of a (p % 16) (p / 16) in
                let e : key_place a i ≡ p = key-place a (p % 16) (p / 16) (omega arith) ∙ by_place p in
                absurd (f.skipped i (omega (arith, m.1)) (omega (arith, m.2)) (rw e m.3))

  -- so where the block after the first k has one
  pub first_next : (blocks k : ℕ) → k < blocks → (q : ℕ) → KeyFound t ceiling (k + 1) (start_at S t k) 16 q → q < ceiling * 16 + 16 → Some (key_place (start_at S t k) q) ≡ first_place (lines_beyond S t blocks k)
  first_next blocks k h q f l =
      let z : k + 1 - 1 ≡ k = omega arith in
      let x : BlockFound t ceiling blocks k (k + 1) = record {
        from = omega arith;
        to = omega arith;
        here = λ _. (key_place (start_at S t k) q, omega (arith, f.from), omega arith, f.here l);
        skipped = λ j p u v. absurd (omega arith);
      } in
      rw z at (first_beyond blocks k (k + 1) (omega arith) x (omega arith) q (rw z f))
