use Rattle.std.proofs.Common.{◌*◌}
use Rattle.base.proofs.PutLaws.{Putting}
use Rattle.committee.specs.Chain.{chain_of}
use Rattle.words.specs.Lengths.{held_length}
use Rattle.spans.specs.Spans.{words_of, count_after, held_after}
use Rattle.spans.proofs.together.put_span.Given as goal

abbrev pub invariant-loop-i : goal.invariant-loop-i
invariant-loop-i l = let s = l.chain.settings.now in
    let t = l.chain.table.now in
    let c = chain_of s.ceiling t l.chain.blocks in
    Putting l.initial.list l.list 0 l.to (words_of (held_after s c t l.known l.i)) (held_length * count_after s c l.known l.i) l.number l.i
