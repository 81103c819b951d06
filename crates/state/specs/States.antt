-- The states that accepted calls leave, field by field.
use Rattle.std.specs.Prelude.{Bool, ◌+◌, Option, Some, None, is_some, unwrap_or}
use Rattle.terms.specs.declared.Body.{Body}
use Rattle.terms.specs.declared.Member.{Member}
use Rattle.terms.specs.declared.Round.{Round}
use Rattle.terms.specs.Proposals.{bare_body}
use Rattle.terms.specs.declared.sheet.Rights.{Rights}
use Rattle.terms.specs.declared.sheet.Settings.{Settings}
use Rattle.state.specs.declared.State.{State}

-- another round, another proposal or none
abbrev pub with_round : State → Round → Option Body → State
with_round s r o = record s { round = r; proposal = o }

-- propose: the proposal is kept
abbrev pub proposed : State → Body → State
proposed s b = with_round s s.round (Some b)

-- advance: next round, proposal dropped
abbrev pub advanced : State → State
advanced s = with_round s (s.round + 1) None

-- open: round 1 and nothing else, beside the rights
abbrev pub fresh : Member → Settings → Rights → State
fresh own S R = record {
  own = own;
  settings = S;
  round = 1;
  proposal = None;
  blocks = 0;
  rights = R;
}

-- no proposal
abbrev pub no_body : Body
no_body = bare_body 0

-- is there a proposal?
abbrev pub is_proposing : State → Bool
is_proposing s = is_some s.proposal

-- its body, a bare one where there is none
abbrev pub own_body : State → Body
own_body s = unwrap_or s.proposal no_body
