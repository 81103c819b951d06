-- The view that a state and its table show: what the rules speak of.
use Rattle.std.specs.Prelude.{Bool, if◌then◌else◌, ◌&&◌, List, ℕ, Option, None}
use Rattle.std.specs.Option.{option_map}
use Rattle.terms.specs.Proposals.{Content, content_with}
use Rattle.store.specs.Table.{endorsed_at, certificate_at}
use Rattle.committee.specs.Chain.{is_round, chain_of}
use Rattle.rules.specs.Tests.{MemberView}
use Rattle.state.specs.declared.State.{State}

-- the certificates of a table with n rounds, by author and round; what lies beyond is no part of the state
unfoldable pub dag_of : ℕ → List ℕ → ℕ → ℕ → Option Content
dag_of n t a r = if is_round n r then certificate_at t a r else None

-- the endorsed places
unfoldable pub endorsed_of : ℕ → List ℕ → ℕ → ℕ → Bool
endorsed_of n t a r = is_round n r && endorsed_at t a r

-- the proposal for the present round, if any: author and round are one's own
unfoldable pub own_proposal : State → Option Content
own_proposal s = option_map (content_with s.own.0 s.round) s.proposal

abbrev pub view : (s : State) → List ℕ → MemberView s.settings
view s t =
    record {
      round = s.round;
      proposal = own_proposal s;
      dag = dag_of s.settings.ceiling t;
      endorsed = endorsed_of s.settings.ceiling t;
      chain = chain_of s.settings.ceiling t s.blocks;
    }
