-- What the claims of the words of a bond's effect speak of (hosting::theorems), whatever words are lent: sixteen shares before, sixteen after, and the largest difference.
use Rattle.std.specs.Prelude.{true, List, ℕ, ◌+◌}
use Rattle.terms.specs.declared.Member.{Member}
use Rattle.terms.specs.declared.Round.{Round}
use Rattle.committee.specs.Shares.{apart}
use Rattle.engine.specs.Calls.{effect, aside}
use Rattle.words.specs.declared.places.TheConstants.{EFFECT_AFTER}
use Rattle.words.specs.Words.{word}
use Rattle.hosting.specs.Calls.{Result, result_of}

-- what comes of a read of a bond's effect
abbrev pub effect_result : List ℕ → List ℕ → List ℕ → Member → Round → ℕ → Result
effect_result w t o m r a = result_of w t o true (aside (effect m r a))

-- how far the share of member i moves
abbrev pub moved_in : List ℕ → ℕ → ℕ
moved_in o i = apart (word o i) (word o (EFFECT_AFTER + i))
