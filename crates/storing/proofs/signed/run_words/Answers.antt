use Rattle.std.proofs.Common.{◌∙◌, ap, refl, [], ◌∷◌, List, ℕ, ◌/◌, ◌%◌, replicate}
use Rattle.std.proofs.Math.Seq.{paste}
use Rattle.words.specs.Words.{word}
use Rattle.storing.proofs.SignedLaws.{settings_put}
use Rattle.storing.proofs.signed.run_words.Goals as goal

pub returns : goal.returns
returns c =
    let e = c.put-2.ensures in
    let z : List ℕ = replicate 22 0 in
    rw (c.low_half.ensures, c.high_half.ensures) at e
    ∙ ap (λ (v : List ℕ). paste v 19 (word c.args.state.now 37 ∷ c.args.run % 4294967296 ∷ c.args.run / 4294967296 ∷ []) 3) c.put.ensures
    ∙ settings_put c.args.state.now (replicate 22 0) (c.args.run % 4294967296) (c.args.run / 4294967296) c.requires refl
