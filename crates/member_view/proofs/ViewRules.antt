-- What the tests of a view go by, named for their functions.
use Rattle.rules.proofs.TestLaws.{round-fits, above-first}
use Rattle.state.proofs.CachedLaws.{cached-both}
use Rattle.state.proofs.FormedLaws.{body-fits}
use Rattle.state.proofs.ViewLaws.{held-dag, endorsed-at, held-proposal}
use Rattle.member_view.proofs.PreviousLaws.{lacks-by}

pub ruleset held = held-dag

pub ruleset endorsed = endorsed-at

pub ruleset proposing = held-proposal

pub ruleset cached = cached-both

pub ruleset form_fits = (round-fits, body-fits)

pub ruleset lacking = (lacks-by, above-first)
