use Rattle.stream.proofs.Known.{adds_part, adds_whole, leaves_whole}
use Rattle.stream.proofs.tied.Tied.run.Goals as goal

pub returns-clause-whole : goal.returns-clause-whole
returns-clause-whole g c = λ ok. adds_whole _ _ _ _ (λ p. g.R.Read.remaining p.input) (λ p. g.W.Write.contents p.output) (λ p q l h. h) c.run.ensures (c.told.ensures.only ok)

pub returns-clause-state : goal.returns-clause-state
returns-clause-state g c = λ ok. leaves_whole _ _ _ _ (λ p. g.R.Read.remaining p.input) (λ p. g.W.Write.contents p.output) (λ p q l h. h) c.run.ensures (c.told.ensures.only ok)

pub returns-clause-part : goal.returns-clause-part
returns-clause-part g c = adds_part _ _ _ _ (λ p. g.R.Read.remaining p.input) (λ p. g.W.Write.contents p.output) (λ p q l h. h) c.run.ensures
