use Rattle.std.proofs.Common.{◌≡◌, ap, arith}
use Rattle.terms.specs.Proposals.{slot_of}
use Rattle.terms.proofs.ProposalLaws.{transactions_tab}
use Rattle.base.proofs.PutLaws.{puts_then, puts_as}
use Rattle.listing.specs.Lines.{triples_fields}
use Rattle.listing.proofs.LineLaws.{triples_next}
use Rattle.listing.proofs.lines.put_triples.Goals as goal

pub loop-k-preserved : goal.loop-k-preserved
unfolding slot_of
loop-k-preserved c = let l = c.loop-k in puts_as (triples_next (slot_of c.args.body) l.k) (omega arith) (puts_then l.invariant c.put_triple-next.ensures)

pub returns : goal.returns
returns c = let b = c.args.body in
    let e : c.loop-k.k ≡ b.count = omega arith in
    puts_as (ap triples_fields (transactions_tab b)) (omega arith) (rw e at c.loop-k.invariant)
