-- The engine is an implementation of the rules.
use Rattle.std.proofs.Common.{◌≡◌, ap, subst, ℕ, ◌<◌, arith, Some}
use Rattle.terms.specs.Proposals.{Content}
use Rattle.terms.specs.declared.sheet.Settings.{Settings}
use Rattle.rules.specs.Tests.{MemberView}
use Rattle.rules.specs.Signatures.{Endorses, endorses, Proposes, proposes}
use Rattle.rules.proofs.AcceptedMoves.{SetsFit}
use Rattle.rules.proofs.RoundLaws.{IsRound}
use Rattle.rules.proofs.Implementations.{Follows, Implementation}
use Rattle.state.proofs.FormedLaws.{formed}
use Rattle.state.proofs.ViewLaws.{in_dag}
use Rattle.draw.proofs.PassedLaws.{drawn-small}
use Rattle.engine.specs.Calls.{Call, propose, endorse, draw, InRange}
use Rattle.engine.specs.Engine.{Engine, refusal_for, after}
use Rattle.engine.specs.Steps.{view_at, ruled}
use Rattle.engine.specs.Sequences.{NoOpen}
use Rattle.engine.specs.Reached.{Good}
use Rattle.engine.proofs.AfterLaws.{refused-same}
use Rattle.engine.proofs.RuledLaws.{accepted-ruled, accepted-view, good_after}

-- what is handed in: any values of their types; an accepted open, which starts another state, is none of the calls
abbrev pub Handed : ℕ → Engine → Call → Type 0
Handed k e c = InRange c × NoOpen e c

-- the set that a propose or an endorse names
module _ (S : Settings) (k : ℕ) (e : Engine) (s : MemberView S) where
  proposed-fits : (c : Call) → InRange c → (p : Content) → Proposes S k s (ruled e c) p → p.previous < 65536
  proposed-fits (propose b) r p (proposes x l) = r
  proposed-fits (draw v) r p (proposes x l) = drawn-small e.state e.table v r
  proposed-fits c r p x = elim x [ ]

  endorsed-fits : (c : Call) → InRange c → (p : Content) → Endorses (ruled e c) p → p.previous < 65536
  endorsed-fits (endorse q) r p (endorses x) = r
  endorsed-fits c r p x = elim x [ ]

  pub sets-fit : (c : Call) → InRange c → SetsFit S k s (ruled e c)
  sets-fit c r = record { proposed = proposed-fits c r; endorsed = endorsed-fits c r }

module _ (S : Settings) (k : ℕ) (e : Engine) (g : Good S k e) where
  -- what the table shows of a round up to the ceiling
  pub held-rounds : (a r : ℕ) (p : Content) → (view_at S e).dag a r ≡ Some p → IsRound S p.round
  held-rounds a r p h =
      let i = in_dag e.state.settings.ceiling e.table a r p h in
      subst (λ (T : Settings). IsRound T p.round) g.settings (omega (arith, i.from, i.round), omega (arith, i.to, i.round))

  pub follows : (c : Call) → Handed k e c → refusal_for e c ≡ 0 → Follows S k (view_at S e) (ruled e c) (view_at S (after e c))
  follows c h a =
      record {
        started = (formed e.state e.table g.formed).numbers.round_from;
        fits = sets-fit S k e (view_at S e) c h.0;
        accepted = accepted-ruled g c a;
        becomes = accepted-view g c h.0 h.1 a;
      }

abbrev pub implementation : (S : Settings) → Implementation S
implementation S =
    record {
      State = Engine;
      Call = Call;
      view = view_at S;
      ruled = ruled;
      answer = λ k e c. refusal_for e c;
      after = λ k e c. after e c;
      Handed = Handed;
      Good = Good S;
      good_after = λ k e c h g. good_after g c h.0 h.1;
      held-rounds = held-rounds S;
      refused = λ k e c g n. ap (view_at S) (refused-same e c n);
      follows = λ k e c g. follows S k e g c;
    }
