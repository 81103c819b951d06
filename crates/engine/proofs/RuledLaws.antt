-- On a well-formed state the number that refuses a call is the rules' number for the view, and what a call leaves is what the rules leave.
use Rattle.std.proofs.Common.{◌≡◌, refl, sym, ap, ◌∙◌, subst, subst₂, true, ◌⊎◌, inl, inr, ◌≢◌, ℕ}
use Rattle.agreement.specs.Moves.{after_accept}
use Rattle.base.specs.Checks.{refusal}
use Rattle.base.proofs.CheckLaws.{passes-all}
use Rattle.terms.specs.declared.Member.{Member}
use Rattle.terms.specs.declared.Proposal.{Proposal}
use Rattle.terms.specs.declared.Certificate.{Certificate}
use Rattle.terms.specs.Proposals.{content_of}
use Rattle.terms.specs.declared.sheet.Settings.{Settings}
use Rattle.rules.specs.Tests.{MemberView}
use Rattle.rules.specs.Calls as rules
use Rattle.rules.specs.Calls.{ruled_refusal, result}
use Rattle.rules.proofs.CallLaws.{ruled-refusal, after_read, result-refused, result-accepted}
use Rattle.state.specs.View.{view}
use Rattle.state.specs.WellFormed.{well_formed}
use Rattle.state.proofs.RefusalLaws.{refusal-formed}
use Rattle.propose.specs.Propose.{propose_refusal}
use Rattle.endorse.specs.Endorse.{endorse_refusal}
use Rattle.certify.specs.Certify.{certify_refusal}
use Rattle.accept.specs.Accept.{accept_refusal}
use Rattle.advance.specs.Advance.{advance_refusal}
use Rattle.commit.specs.Commit.{commit_refusal}
use Rattle.draw.specs.Draw.{draw_refusal}
use Rattle.engine.specs.Calls.{Call, opens, certify, accept, advance, commit, enqueue, port, aside, InRange}
use Rattle.engine.specs.Engine.{Engine, refusal_for, after}
use Rattle.engine.specs.Steps.{view_at, ruled, SetInRange, Step, refused, opened, moved}
use Rattle.engine.specs.Sequences.{NoOpen}
use Rattle.engine.specs.Reached.{Good}
use Rattle.engine.proofs.StepLaws.{every_step}

-- the rules refuse no read, and a read leaves the view
module _ (S : Settings) (k : ℕ) (s : MemberView S) where
  read-passes : ruled_refusal S k s rules.read ≡ 0
  read-passes = ruled-refusal S k s rules.read ∙ passes-all

  read-leaves : result S k s rules.read ≡ s
  read-leaves = result-accepted S k s rules.read read-passes ∙ after_read S k s

module _ (e : Engine) (w : well_formed e.state e.table ≡ true) where
  open e use {state, table}

  -- the rules refuse the call with the same number, or have it for a read
  abbrev Ruling : Call → Type 0
  Ruling c = (refusal_for e c ≡ ruled_refusal state.settings state.own.0 (view state table) (ruled e c)) ⊎ (ruled e c ≡ rules.read)

  by-rules : (c : rules.Call) → refusal (rules.checks state.settings state.own.0 (view state table) c) ≡ ruled_refusal state.settings state.own.0 (view state table) c
  by-rules c = sym (ruled-refusal state.settings state.own.0 (view state table) c)

  ruling : (c : Call) → Ruling c
  unfolding propose_refusal endorse_refusal certify_refusal accept_refusal advance_refusal commit_refusal draw_refusal
  ruling (opens own sheet) = inr refl
  ruling advance = inl (refusal-formed state table rules.advance w ∙ by-rules rules.advance)
  ruling commit = inl (refusal-formed state table rules.commit w ∙ by-rules rules.commit)
  ruling (enqueue g x) = inr refl
  ruling (port x) = inr refl
  ruling (aside x) = inr refl
  ruling c = inl (refusal-formed state table (ruled e c) w ∙ by-rules (ruled e c))

  -- the rules let an accepted call pass
  accepted-passes : (c : Call) → refusal_for e c ≡ 0 → ruled_refusal state.settings state.own.0 (view state table) (ruled e c) ≡ 0
  accepted-passes c a = go (ruling c)
    where
      go : Ruling c → ruled_refusal state.settings state.own.0 (view state table) (ruled e c) ≡ 0
      go (inl h) = sym h ∙ a
      go (inr h) = rw h (read-passes state.settings state.own.0 (view state table))

  -- by the rules too a refused call leaves the view
  refused-leaves : (c : Call) → refusal_for e c ≢ 0 → result state.settings state.own.0 (view state table) (ruled e c) ≡ view state table
  refused-leaves c n = go (ruling c)
    where
      go : Ruling c → result state.settings state.own.0 (view state table) (ruled e c) ≡ view state table
      go (inl h) = result-refused state.settings state.own.0 (view state table) (ruled e c) (rw h at n)
      go (inr h) = rw h (read-leaves state.settings state.own.0 (view state table))

-- the number that refuses a call on a well-formed engine is the rules'; a call that the rules have for a read is refused with a number of its own
pub refused_as_ruled : (e : Engine) → well_formed e.state e.table ≡ true → (c : Call)
    → (refusal_for e c ≡ ruled_refusal e.state.settings e.state.own.0 (view_at e.state.settings e) (ruled e c)) ⊎ (ruled e c ≡ rules.read)
refused_as_ruled e w c = ruling e w c

-- a well-formed engine, by its own settings and number
own-good : (e : Engine) → well_formed e.state e.table ≡ true → SetInRange e → Good e.state.settings e.state.own.0 e
own-good e w s = record { own = refl; settings = refl; formed = w; small = s }

-- ---- engines with the settings S and the own number k

module _ {S : Settings} {k : ℕ} {e : Engine} (g : Good S k e) where
  -- what holds of the state's own settings and number holds of S and k
  as_given : (P : Settings → ℕ → Type 0) → P e.state.settings e.state.own.0 → P S k
  as_given P = subst₂ P g.settings g.own

  -- the number that refuses a call is the rules'; a call that the rules have for a read is refused with a number of its own
  pub refusal-ruled : (c : Call) → (refusal_for e c ≡ ruled_refusal S k (view_at S e) (ruled e c)) ⊎ (ruled e c ≡ rules.read)
  refusal-ruled c = as_given (λ T i. (refusal_for e c ≡ ruled_refusal T i (view_at T e) (ruled e c)) ⊎ (ruled e c ≡ rules.read)) (ruling e g.formed c)

  -- the rules let an accepted call pass
  pub accepted-ruled : (c : Call) → refusal_for e c ≡ 0 → ruled_refusal S k (view_at S e) (ruled e c) ≡ 0
  accepted-ruled c a = as_given (λ T i. ruled_refusal T i (view_at T e) (ruled e c) ≡ 0) (accepted-passes e g.formed c a)

  module _ (c : Call) (r : InRange c) (o : NoOpen e c) where
    -- an accepted call leaves what the rules say
    pub accepted-view : refusal_for e c ≡ 0 → view_at S (after e c) ≡ rules.after S k (view_at S e) (ruled e c)
    accepted-view a = as_given (λ T i. view_at T (after e c) ≡ rules.after T i (view_at T e) (ruled e c)) (go (every_step e g.small c r))
      where
        go : Step e c → view_at e.state.settings (after e c) ≡ rules.after e.state.settings e.state.own.0 (view_at e.state.settings e) (ruled e c)
        go (refused n h) = absurd (n a)
        go (opened own sheet q b f) = absurd (o own sheet q b)
        go (moved b w n) = n.shows

    -- and what every state of a run is stays so
    pub good_after : Good S k (after e c)
    good_after = go (every_step e g.small c r)
      where
        go : Step e c → Good S k (after e c)
        go (refused n h) = subst (Good S k) (sym h) g
        go (opened own sheet q b f) = absurd (o own sheet q b)
        go (moved b w n) = record { own = ap (λ (m : Member). m.0) n.same_own ∙ g.own; settings = n.same_settings ∙ g.settings; formed = n.formed; small = n.set_in_range }

    -- any call is the rules' call on the view
    pub view-after : view_at S (after e c) ≡ result S k (view_at S e) (ruled e c)
    view-after = go (every_step e g.small c r)
      where
        go : Step e c → view_at S (after e c) ≡ result S k (view_at S e) (ruled e c)
        go (refused n h) =
            ap (view_at S) h
            ∙ as_given (λ T i. view_at T e ≡ result T i (view_at T e) (ruled e c)) (sym (refused-leaves e g.formed c n))
        go (opened own sheet q b f) = absurd (o own sheet q b)
        go (moved b w n) = accepted-view b ∙ sym (result-accepted S k (view_at S e) (ruled e c) (accepted-ruled c b))

-- the same of a well-formed engine, by its own settings and number
pub leaves_as_ruled : (e : Engine) → well_formed e.state e.table ≡ true → SetInRange e → (c : Call) → InRange c → NoOpen e c
    → view_at e.state.settings (after e c) ≡ result e.state.settings e.state.own.0 (view_at e.state.settings e) (ruled e c)
leaves_as_ruled e w s c r o = view-after (own-good e w s) c r o

-- whatever endorsers a certificate is stored with, the same is shown afterwards
module _ (e : Engine) (w : well_formed e.state e.table ≡ true) (s : SetInRange e) where
  pub certified_alike : (d f : ℕ) → InRange (certify d) → InRange (certify f) → refusal_for e (certify d) ≡ 0 → refusal_for e (certify f) ≡ 0
      → view_at e.state.settings (after e (certify d)) ≡ view_at e.state.settings (after e (certify f))
  unfolding rules.after
  certified_alike d f i j a b =
      let g = own-good e w s in
      accepted-view g (certify d) i (λ own sheet q. absurd (cc q)) a ∙ sym (accepted-view g (certify f) j (λ own sheet q. absurd (cc q)) b)

  pub accepted_alike : (c d : Certificate) → c.proposal ≡ d.proposal → InRange (accept c) → InRange (accept d) → refusal_for e (accept c) ≡ 0 → refusal_for e (accept d) ≡ 0
      → view_at e.state.settings (after e (accept c)) ≡ view_at e.state.settings (after e (accept d))
  unfolding rules.after
  accepted_alike c d q i j a b =
      let g = own-good e w s in
      accepted-view g (accept c) i (λ own sheet q. absurd (cc q)) a
      ∙ ap (λ (p : Proposal). after_accept (view_at e.state.settings e) (content_of p)) q
      ∙ sym (accepted-view g (accept d) j (λ own sheet q. absurd (cc q)) b)
