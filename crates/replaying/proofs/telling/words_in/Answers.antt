use Rattle.std.proofs.Common.{arith}
use Rattle.replaying.proofs.ByteLaws.{words_more, fit_more}
use Rattle.replaying.proofs.UnmadeLaws.{no_words}
use Rattle.replaying.proofs.telling.words_in.Goals as goal

pub loop-four-preserved : goal.loop-four-preserved
loop-four-preserved c =
    let p = c.in-Some.ensures.cases in
    let h = c.loop-four.invariant in
    rw c.in_ok-push.ensures.pushed (
      words_more c.args.bytes.now c.loop-four.words.items c.loop-four.rest.now c.in-Some.four.now c.in-Some.behind.now c.from_le_bytes.result (λ i. omega (arith, c.type_inv.bytes i)) h.0 (omega (arith, p.2)) p.0 p.1 c.from_le_bytes.ensures,
      fit_more c.loop-four.words.items c.from_le_bytes.result h.1 (omega (arith, c.from_le_bytes.type_inv)),
    )

pub returns-in_default-rest-clause-none : goal.returns-in_default-rest-clause-none
returns-in_default-rest-clause-none c = no_words c.args.bytes.now c.loop-four.words.items c.loop-four.rest.now c.loop-four.invariant.0 (omega (arith, c.in_default.ensures.cases)) (omega (arith, c.in_default-rest.len_at_least))
