-- A bond's effect as thirty-three words: sixteen shares before, sixteen after, the largest difference.
use Rattle.std.specs.Prelude.{List, [], ◌∷◌, ◌++◌, ℕ}
use Rattle.committee.specs.declared.effects.Effect.{Effect}
use Rattle.words.specs.Words.{sixteen}

unfoldable pub effect_words : Effect → List ℕ
effect_words x = sixteen x.before ++ sixteen x.after ++ (x.largest ∷ [])
