use Rattle.std.proofs.Common.{◌≡◌, ◌*◌}
use Rattle.base.proofs.PutLaws.{Putting}
use Rattle.committee.specs.Chain.{chain_of}
use Rattle.words.specs.Lengths.{held_length}
use Rattle.spans.specs.Spans.{words_of, count_after, held_after}
use Rattle.spans.proofs.put_span.Given as goal

abbrev pub invariant-loop-i : goal.invariant-loop-i
invariant-loop-i l = let w = l.initial.walk.chain in
    let s = w.settings.now in
    let t = w.table.now in
    let c = chain_of s.ceiling t w.blocks in
    (l.walk.chain ≡ w)
    × Putting l.initial.list l.list 0 l.to (words_of (held_after s c t l.known l.i)) (held_length * count_after s c l.known l.i) l.number l.i
