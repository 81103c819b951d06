-- The rule of the table of places, for every entry together: one test that is computed, and the law that makes it the rule.
use Rattle.std.proofs.Common.{◌≡◌, refl, ◌∙◌, Bool, true, ℕ, ◌+◌, ◌*◌, ◌/◌, ◌%◌, ◌<◌, arith, eqb, length, get_or, eqb-true}
use Rattle.base.specs.Folds.{sum_to}
use Rattle.base.specs.Sets.{mem}
use Rattle.committee.specs.Positions.{count_below, member_below, place_in}
use Rattle.committee.specs.declared.positions.TheConstants.{PLACES}
use Rattle.committee.proofs.Table.{every, at}

-- x is what the rule says of entry i: of the position i % 8 of the set i / 8
is_entry : ℕ → ℕ → Bool
is_entry i x = eqb x (place_in (i / 8) (i % 8))

-- the test, computed
test : every is_entry 0 PLACES ≡ true
unfolding is_entry place_in member_below count_below sum_to mem
test = refl

size : length PLACES ≡ 2048
size = refl

-- the rule, at each entry
pub place_rule : (s p : ℕ) → s < 256 → p < 8 → get_or PLACES (s * 8 + p) 0 ≡ place_in s p
unfolding is_entry
place_rule s p h l =
    let e : (s * 8 + p) / 8 ≡ s = omega arith in
    let f : (s * 8 + p) % 8 ≡ p = omega arith in
    let n = size in
    let t = at is_entry PLACES test (s * 8 + p) (omega arith) in
    eqb-true (get_or PLACES (s * 8 + p) 0) (place_in ((s * 8 + p) / 8) ((s * 8 + p) % 8)) t ∙ rw (e, f) refl
