-- Certify on a state and its table: the number that refuses, and the table. The certificate is held, with its endorsers.
use Rattle.std.specs.Prelude.{List, ℕ}
use Rattle.terms.specs.Proposals.{content_with}
use Rattle.store.specs.Writes.{put_certificate}
use Rattle.rules.specs.Calls as rules
use Rattle.state.specs.declared.State.{State}
use Rattle.state.specs.Refusals.{refusal_of}
use Rattle.state.specs.Answers.{if_accepted}
use Rattle.state.specs.States.{own_body}

module _ (s : State) (t : List ℕ) where
  unfoldable pub certify_refusal : ℕ → ℕ
  certify_refusal e = refusal_of s t (rules.certify e)

  unfoldable pub certify_table : ℕ → List ℕ
  certify_table e =
      if_accepted (certify_refusal e)
      (put_certificate t (content_with s.own.0 s.round (own_body s)) e) t
