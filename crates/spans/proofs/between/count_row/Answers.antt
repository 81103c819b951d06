use Rattle.std.proofs.Common.{◌≡◌, sym, ◌∙◌, ◌+◌, ◌*◌, ◌/◌, arith}
use Rattle.base.proofs.SumLaws.{sum_more}
use Rattle.base.proofs.Ranges.{sum_none}
use Rattle.spans.proofs.RowLaws.{held_count, row_length}
use Rattle.spans.proofs.between.count_row.Goals as goal

pub loop-i-init : goal.loop-i-init
loop-i-init c = let a = c.args in
    record { so_far = omega arith; count = sym (sum_none (λ i. held_count a.table.now a.block (a.place / 16 * 16 + i))); most = omega arith }

pub loop-i-preserved : goal.loop-i-preserved
loop-i-preserved c = let a = c.args in
    let x = c.loop-i in
    record {
      so_far = omega arith;
      count = omega (arith, sum_more (λ i. held_count a.table.now a.block (a.place / 16 * 16 + i)) x.i, x.invariant.count, c.count_place-count.ensures.count);
      most = omega (arith, x.invariant.most, c.count_place-count.ensures.most);
    }

pub returns-clause-count : goal.returns-clause-count
returns-clause-count c = let a = c.args in
    let x = c.loop-i in
    let i : x.i ≡ 16 = omega arith in
    λ m. (rw i at x.invariant.count) ∙ sym (row_length a.table.now a.block m (a.place / 16))
