use Rattle.std.proofs.Common.{◌≤◌, ◌++◌, ◌∷◌, [], length, length-append, arith}
use Rattle.replaying.specs.Lists.{RecordWhole}
use Rattle.replaying.proofs.ListLaws.{rows_more, all_more}
use Rattle.replaying.proofs.reading.records.Goals as goal

pub loop-rest-preserved : goal.loop-rest-preserved
loop-rest-preserved c =
    let h = c.loop-rest.invariant in
    let one = c.in_ok-one.one in
    let all : length (c.loop-rest.row.items ++ one ∷ []) ≤ c.args.count = omega (arith, length-append c.loop-rest.row.items (one ∷ []), c.loop-rest-test.true, c.len.ensures, c.loop-rest.row.ok.0) in
    rw c.in_ok-push.ensures.pushed (all, rows_more c.args.words.now c.loop-rest.row.items one c.loop-rest.rest.now c.in_ok-one.behind.now h.1 c.in_ok-one.ensures.words, all_more RecordWhole c.loop-rest.row.items one h.2 c.in_ok-one.ensures.whole)
