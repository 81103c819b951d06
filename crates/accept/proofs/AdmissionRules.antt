-- What the checks of an accept and its cache go by, named for their functions.
use Rattle.state.proofs.CachedLaws.{cached-far}
use Rattle.state.proofs.FormedLaws.{formed}
use Rattle.state.proofs.ViewLaws.{same-dag}
use Rattle.state.proofs.Walkable.{readable}

pub ruleset cached_far = cached-far

pub ruleset same = same-dag

pub ruleset cached = (formed, readable)
