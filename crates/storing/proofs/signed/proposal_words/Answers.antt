use Rattle.std.proofs.Common.{◌∙◌, ap, refl, List, ℕ, replicate}
use Rattle.std.proofs.Math.Seq.{paste}
use Rattle.words.specs.Bodies.{body_words}
use Rattle.storing.proofs.SignedLaws.{proposal_put}
use Rattle.storing.proofs.signed.proposal_words.Goals as goal

pub returns : goal.returns
returns c =
    c.put_body.ensures ∙ ap (λ (v : List ℕ). paste v 2 (body_words c.args.proposal.body) 14) (rw c.round.view_is at c.put.ensures) ∙ proposal_put c.args.proposal (replicate 16 0) refl
