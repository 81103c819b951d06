-- Laws of sheets: what settings in range give, and that opening sees only the filled settings.
use Rattle.std.proofs.Common.{◌≡◌, refl, ap, false, ◌||◌, List, ℕ, ◌≤◌, ◌<◌, ltb, set, length, get_or-set_same, get_or-set_other, ltb-false}
use Rattle.base.proofs.Bools.{neither}
use Rattle.base.specs.Folds.{any_to, tab}
use Rattle.base.proofs.TestLaws.{any_false}
use Rattle.terms.specs.declared.sheet.Setting.TheVariants.{Written}
use Rattle.terms.specs.declared.sheet.Weight.{Weight}
use Rattle.terms.specs.declared.sheet.Rights.{Rights}
use Rattle.terms.specs.declared.sheet.Sheet.{Sheet}
use Rattle.terms.specs.declared.sheet.Settings.{Settings}
use Rattle.terms.specs.Sheets.{starting_weights, filled}
use Rattle.terms.specs.Ranges.{weight, weight_in, not_within, out_of_range, SettingsFit}

inside : (x a b : ℕ) → not_within x a b ≡ false → (a ≤ x) × (x ≤ b)
unfolding not_within
inside x a b h = let p = neither (ltb x a) (ltb b x) h in (ltb-false x a p.0, ltb-false b x p.1)

pub settings-fit : (S : Settings) → out_of_range S ≡ false → SettingsFit S
unfolding out_of_range
settings-fit S h =
    let w = any_to (λ i. not_within (weight_in S.weights i) 0 1000000) 16 in
    let d = not_within S.margin 3 5 in
    let p = neither (not_within S.lookback 1 1000) (not_within S.ceiling 3 1024 || (not_within S.allowance 0 4 || (w || d))) h in
    let q = neither (not_within S.ceiling 3 1024) (not_within S.allowance 0 4 || (w || d)) p.1 in
    let r = neither (not_within S.allowance 0 4) (w || d) q.1 in
    let s = neither w d r.1 in
    let l = inside S.lookback 1 1000 p.0 in
    let c = inside S.ceiling 3 1024 q.0 in
    let m = inside S.margin 3 5 s.1 in
    record {
      lookback_from = l.0;
      lookback_to = l.1;
      ceiling_from = c.0;
      ceiling_to = c.1;
      allowance_to = (inside S.allowance 0 4 r.0).1;
      weight_to = λ i k. (inside (weight_in S.weights i) 0 1000000 (any_false (λ j. not_within (weight_in S.weights j) 0 1000000) 16 i k s.0)).1;
      margin_from = m.0;
      margin_to = m.1;
    }

-- the filled weights, member by member
pub filled-weights : (s : Sheet) → (filled s).weights ≡ starting_weights s.weights
unfolding filled
filled-weights s = refl

-- the sheet with every setting written, and the rights beside them
unfoldable pub written : Settings → Rights → Sheet
written S R =
    record {
      lookback = Written S.lookback;
      ceiling = Written S.ceiling;
      allowance = Written S.allowance;
      weights = tab (λ i. Written (weight_in S.weights i)) 16;
      margin = Written S.margin;
      rights = R;
    }

-- ---- a weight set, the others as they were

pub weight_same : (w : List Weight) (m v : ℕ) → m < length w → weight_in (set w m (weight v)) m ≡ v
weight_same w m v h = ap (λ (x : Weight). x.0) (get_or-set_same w m (weight v) (weight 0) h)

pub weight_other : (w : List Weight) (m i v : ℕ) → (i ≡ m → ⊥) → weight_in (set w m (weight v)) i ≡ weight_in w i
weight_other w m i v n = ap (λ (x : Weight). x.0) (get_or-set_other w m i (weight v) (weight 0) n)
