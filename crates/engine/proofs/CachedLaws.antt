-- What is cached beside an engine's state after a call: whether the state is well formed, as the answer tells it, and the committees, where the call leaves settings and chain.
use Rattle.std.proofs.Common.{◌≡◌, refl, sym, ap, ◌∙◌, subst₂, Bool, true, false, List, ◌≢◌, ℕ, arith, Option, Some, None}
use Rattle.base.proofs.Words.{false≢true}
use Rattle.agreement.specs.Rules.{Chain}
use Rattle.terms.specs.Proposals.{Content}
use Rattle.terms.specs.declared.sheet.Settings.{Settings}
use Rattle.chain_committees.specs.Caches.{Caches}
use Rattle.rules.specs.Tests.{MemberView}
use Rattle.rules.specs.Calls as rules
use Rattle.state.specs.WellFormed.{well_formed}
use Rattle.state.specs.Cached.{Cached}
use Rattle.state.specs.Answers.{if_accepted}
use Rattle.state.proofs.AnswerLaws.{if_accepted-new, if_accepted-old}
use Rattle.engine.specs.Calls.{Call, commit, InRange}
use Rattle.engine.specs.Engine.{Engine, refusal_for, after}
use Rattle.engine.specs.Steps.{view_at, ruled, Step, refused, opened, moved, SetInRange}
use Rattle.engine.proofs.AfterLaws.{refused-same}
use Rattle.engine.proofs.StepLaws.{every_step}

-- a call of the rules that leaves the chain: any but commit, and but read, which an open stands for
abbrev pub leaves_chain : rules.Call → Bool
leaves_chain rules.commit = false
leaves_chain rules.read = false
leaves_chain c = true

module _ (S : Settings) (k : ℕ) (s : MemberView S) where
  chain_left : (c : rules.Call) → leaves_chain c ≡ true → (rules.after S k s c).chain ≡ s.chain
  unfolding rules.after
  chain_left (rules.certify d) h = go s.proposal
    where
      go : (o : Option Content) → (rules.certified S s o).chain ≡ s.chain
      go None = refl
      go (Some p) = refl
  chain_left rules.commit h = absurd (false≢true h)
  chain_left rules.read h = absurd (false≢true h)
  chain_left c h = refl

module _ (e : Engine) (low : SetInRange e) where
  module _ (c : Call) (i : InRange c) where
    -- an accepted call leaves a well-formed state, a refused one the state as it was
    pub formed-after : {b : Bool} → b ≡ well_formed e.state e.table → if_accepted (refusal_for e c) true b ≡ well_formed (after e c).state (after e c).table
    formed-after {b} w = go (every_step e low c i)
      where
        go : Step e c → if_accepted (refusal_for e c) true b ≡ well_formed (after e c).state (after e c).table
        go (refused n h) = rw (if_accepted-old (refusal_for e c) true b n, h) w
        go (opened own sheet q a f) = rw (if_accepted-new (refusal_for e c) true b a) (sym f.formed)
        go (moved a p n) = rw (if_accepted-new (refusal_for e c) true b a) (sym n.formed)

    -- where the chain is left, the committees are those that were cached
    pub cached-after : leaves_chain (ruled e c) ≡ true → {b : Bool} {cache : List ℕ} → Cached e.state e.table b cache
        → Cached (after e c).state (after e c).table (if_accepted (refusal_for e c) true b) cache
    cached-after l {b} {cache} k = go (every_step e low c i)
      where
        go : Step e c → Cached (after e c).state (after e c).table (if_accepted (refusal_for e c) true b) cache
        go (refused n h) = rw (if_accepted-old (refusal_for e c) true b n, h) k
        go (opened own sheet q a f) = absurd (false≢true (sym (ap (λ (z : Call). leaves_chain (ruled e z)) q) ∙ l))
        go (moved a w n) =
            let S = e.state.settings in
            let same = ap (λ (v : MemberView S). v.chain) n.shows ∙ chain_left S e.state.own.0 (view_at S e) (ruled e c) l in
            record {
              form = formed-after k.form;
              committees = λ _. subst₂ (λ (T : Settings) (x : Chain Content). Caches T x cache) (sym n.same_settings) (sym same) (k.committees w);
            }

  -- a commit leaves a well-formed state so, and one that is not is not changed
  pub formed-commit : well_formed (after e commit).state (after e commit).table ≡ well_formed e.state e.table
  formed-commit = go (every_step e low commit tt)
    where
      go : Step e commit → well_formed (after e commit).state (after e commit).table ≡ well_formed e.state e.table
      go (refused n h) = ap (λ (x : Engine). well_formed x.state x.table) h
      go (opened own sheet q a f) = let z : ◌≡◌ {A = ℕ} 0 1 = cc in absurd (omega arith)
      go (moved a w n) = n.formed ∙ sym w

-- a refused call changes nothing
pub cached-refused : (e : Engine) (c : Call) → refusal_for e c ≢ 0 → {b : Bool} {cache : List ℕ} → Cached e.state e.table b cache → Cached (after e c).state (after e c).table b cache
cached-refused e c n k = rw (refused-same e c n) k
