-- The places that calls speak of: what a proposal of a fitting form has, and what can be stored.
use Rattle.std.proofs.Common.{◌≡◌, true, List, ℕ, ◌<◌, arith}
use Rattle.terms.specs.declared.Proposal.{Proposal}
use Rattle.terms.specs.Proposals.{content_with, content_of}
use Rattle.store.specs.Table.{Within}
use Rattle.state.specs.declared.State.{State}
use Rattle.state.specs.Formed.{Formed}
use Rattle.state.proofs.WriteLaws.{Storable}
use Rattle.state.proofs.PreservedLaws.{storable}
use Rattle.state.specs.SharedChecks.{FormFits}
use Rattle.state.specs.States.{is_proposing, own_body}

module _ (s : State) (t : List ℕ) where
  pub fits-within : (p : Proposal) → Formed s t → FormFits s p → Within t p.author.0 p.round
  fits-within p f q = let h = f.long in let l = q.to in record { member = q.author; row = omega arith }

  pub own-within : Formed s t → Within t s.own.0 s.round
  own-within f = let h = f.long in let l = f.numbers.round_to in record { member = f.numbers.own; row = omega arith }

-- a proposal that passed the checks of its form has a place
pub placed : (s : State) (t : List ℕ) (p : Proposal) → Formed s t → FormFits s p → p.body.previous < 65536 → Storable s.settings.ceiling (content_of p)
placed s t p f k small = storable s.settings.ceiling s.settings.allowance p.author.0 p.round p.body k.author k.from k.to f.settings.allowance_to k.body small

-- and so has one's own
pub own-placed : (s : State) (t : List ℕ) → Formed s t → is_proposing s ≡ true → (own_body s).previous < 65536 → Storable s.settings.ceiling (content_with s.own.0 s.round (own_body s))
own-placed s t f e small =
    storable s.settings.ceiling s.settings.allowance s.own.0 s.round (own_body s) f.numbers.own f.numbers.round_from f.numbers.round_to f.settings.allowance_to (f.proposal e) small
