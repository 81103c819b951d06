-- What rows tell of a next line, by the keys of any start.
use Rattle.std.proofs.Common.{◌≡◌, refl, sym, ap, ◌∙◌, List, ℕ, ◌+◌, ◌-◌, ◌*◌, ◌/◌, ◌%◌, ◌<◌, ◌≤◌, arith, Some, None}
use Rattle.std.proofs.lemmas.Bool.{false≢true}
use Rattle.base.proofs.Words.{dec_lt}
use Rattle.base.proofs.UnionLaws.{in_none}
use Rattle.terms.specs.declared.sheet.Settings.{Settings}
use Rattle.store.specs.Table.{held_set, held_at, mark_at}
use Rattle.chain_committees.specs.BlockChanges.{start_at}
use Rattle.chain_committees.specs.Links.{Marked}
use Rattle.ports.specs.Next.{first_place, lines_from, lines_beyond, key_place, key_of, KeyFound, BlockFound, LinePlace, NextInBlock}
use Rattle.ports.specs.ByRows.{NoneMarked, Alone}
use Rattle.ports.proofs.LineLaws.{key-place, key_apart}
use Rattle.ports.proofs.OnceLaws.{by_place}
use Rattle.ports.proofs.SearchLaws.{next_key_in, no_key_in, none_beyond, first_beyond}

place-key : (a p : ℕ) → key_place a (key_of a (p % 16) (p / 16)) ≡ p
place-key a p = key-place a (p % 16) (p / 16) (omega arith) ∙ by_place p

-- a place has one key
key_one : (a p i : ℕ) → key_place a i ≡ p → i ≡ key_of a (p % 16) (p / 16)
key_one a p i e = key_apart a i (key_of a (p % 16) (p / 16)) (e ∙ sym (place-key a p))

module _ (t : List ℕ) where
  -- a row without a held certificate
  pub empty_row : (k r : ℕ) → held_set t r ≡ 0 → NoneMarked t k (r * 16) (r * 16 + 16)
  unfolding held_at
  empty_row k r h i a b m =
      let q : i / 16 ≡ r = omega arith in
      false≢true (sym (in_none (i % 16)) ∙ (rw (q, h) at m.held))

  module _ (n k a : ℕ) where
    -- the place found is that of the first key, whatever the start
    pub key_alone : (r p : ℕ) → Alone t k (r * 16) (n * 16 + 16) p → KeyFound t n k a (r * 16) (key_of a (p % 16) (p / 16))
    key_alone r p x = record {
      from = omega (arith, x.from);
      to = omega (arith, x.to);
      here = λ l. rw (place-key a p) x.marked;
      skipped = λ i b l m. let e = key_one a p i (x.others (key_place a i) (omega arith) (omega arith) m) in absurd (omega arith);
    }

    pub key_nowhere : (r : ℕ) → r ≤ n + 1 → NoneMarked t k (r * 16) (n * 16 + 16) → KeyFound t n k a (r * 16) (n * 16 + 16)
    key_nowhere r l f = record {
      from = omega arith;
      to = omega arith;
      here = λ h. absurd (omega arith);
      skipped = λ i b c m. f (key_place a i) (omega arith) (omega arith) m;
    }

    -- no key of a place's row comes after its own, where it is alone there
    pub row_passed : (p q v : ℕ) → Marked t k p → Alone t k (p / 16 * 16) (p / 16 * 16 + 16) q → KeyFound t n k a ((p / 16 + 1) * 16) v → KeyFound t n k a (key_of a (p % 16) (p / 16) + 1) v
    row_passed p q v h x f = record {
      from = omega (arith, f.from);
      to = f.to;
      here = f.here;
      skipped = λ i b c m. go i b c m (dec_lt i ((p / 16 + 1) * 16));
    }
      where
        same : p ≡ q
        same = x.others p (omega arith) (omega (arith, x.from, x.to)) h

        go : (i : ℕ) → key_of a (p % 16) (p / 16) + 1 ≤ i → i < v → Marked t k (key_place a i) → Dec (i < (p / 16 + 1) * 16) → ⊥
        go i b c m (yes l) =
            let e = key_one a p i (x.others (key_place a i) (omega arith) (omega (arith, x.from, x.to)) m ∙ sym same) in
            omega arith
        go i b c m (no l) = f.skipped i (omega arith) c m

module _ (S : Settings) (t : List ℕ) (blocks : ℕ) where
  abbrev ceiling : ℕ
  ceiling = S.ceiling

  -- after the newest block there is no line
  pub none_later : (k : ℕ) → k ≡ blocks → None ≡ first_place (lines_beyond S t blocks k)
  none_later k e = none_beyond S t blocks k (k + 1) (omega arith) (record { from = omega arith; to = omega arith; here = λ l. absurd (omega arith); skipped = λ j p u w. absurd (omega arith) }) (omega arith)

  -- the next block begins with the one that its first row has
  pub begins : (k p : ℕ) → k < blocks → Alone t (k + 1) 16 (ceiling * 16 + 16) p → Some p ≡ first_place (lines_beyond S t blocks k)
  begins k p l x =
      let a = start_at S t (k + 1 - 1) in
      let b : BlockFound t ceiling blocks k (k + 1) = record { from = omega arith; to = omega arith; here = λ h. (p, x.from, x.to, x.marked); skipped = λ j i u w. absurd (omega arith) } in
      ap Some (sym (place-key a p)) ∙ first_beyond S t blocks k (k + 1) (omega arith) b (omega arith) (key_of a (p % 16) (p / 16)) (key_alone t ceiling (k + 1) a 1 p x)

  module _ (p q : ℕ) (x : LinePlace t ceiling blocks p) (y : Alone t (mark_at t (p % 16) (p / 16)) (p / 16 * 16) (p / 16 * 16 + 16) q) where
    abbrev mark : ℕ
    mark = mark_at t (p % 16) (p / 16)

    abbrev start : ℕ
    start = start_at S t (mark - 1)

    own : Marked t mark p
    own = record { held = x.held; mark = refl }

    -- where p is alone in its row, the next one is that of a later row
    pub next_alone : (v : ℕ) → Alone t mark ((p / 16 + 1) * 16) (ceiling * 16 + 16) v → Some v ≡ first_place (lines_from S t blocks p)
    unfolding NextInBlock
    next_alone v z =
        ap Some (sym (place-key start v))
        ∙ next_key_in S t blocks p x (key_of start (v % 16) (v / 16)) (row_passed t ceiling mark start p q (key_of start (v % 16) (v / 16)) own y (key_alone t ceiling mark start (p / 16 + 1) v z)) (omega (arith, z.to))

    -- or, where no later row has one, that of a later block
    pub row_last : NoneMarked t mark ((p / 16 + 1) * 16) (ceiling * 16 + 16) → lines_from S t blocks p ≡ lines_beyond S t blocks mark
    unfolding NextInBlock
    row_last f = no_key_in S t blocks p x (ceiling * 16 + 16) (row_passed t ceiling mark start p q (ceiling * 16 + 16) own y (key_nowhere t ceiling mark start (p / 16 + 1) (omega (arith, x.to)) f)) (omega arith)
