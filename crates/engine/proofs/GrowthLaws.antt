-- A call that is no accepted open leaves the chain, or adds newer blocks to it.
use Rattle.std.proofs.Common.{◌≡◌, refl, ap, ◌∙◌, List, [], ◌∷◌, ◌++◌, ℕ, ◌-◌, Option, Some, None}
use Rattle.agreement.specs.Rules.{Chain, Rules}
use Rattle.agreement.specs.View.{View}
use Rattle.agreement.specs.Commits.{anchor_at, block_of, blocks_of, committed}
use Rattle.terms.specs.Proposals.{Content}
use Rattle.terms.specs.declared.sheet.Settings.{Settings}
use Rattle.committee.specs.Chain.{chain_of}
use Rattle.rules.specs.Tests.{MemberView}
use Rattle.rules.specs.Calls as rules
use Rattle.engine.specs.Calls.{Call, InRange}
use Rattle.engine.specs.Engine.{Engine, after}
use Rattle.engine.specs.Steps.{view_at, ruled, Step, refused, opened, moved, SetInRange}
use Rattle.engine.specs.Sequences.{NoOpen}
use Rattle.engine.proofs.StepLaws.{every_step}

-- d is c with newer blocks, or none
abbrev pub Newer : {P : Type 0} → Chain P → Chain P → Type 0
Newer {P} c d = (newer : Chain P) × (d ≡ newer ++ c)

blocks-newer : {R : Rules} (s : View R) (l : List R.P) → Newer s.chain (blocks_of s l)
unfolding blocks_of
blocks-newer s [] = ([], refl)
blocks-newer {R} s (x ∷ l) = let m = blocks-newer s l in (block_of s x (blocks_of s l) ∷ m.0, ap (λ (d : Chain R.P). block_of s x (blocks_of s l) ∷ d) m.1)

module _ (S : Settings) (k : ℕ) (s : MemberView S) where
  committed-newer : (x : Content) → Newer s.chain (committed s x)
  unfolding committed
  committed-newer x = blocks-newer s _

  ruled-newer : (c : rules.Call) → Newer s.chain (rules.after S k s c).chain
  unfolding rules.after
  ruled-newer (rules.certify d) = go s.proposal
    where
      go : (o : Option Content) → Newer s.chain (rules.certified S s o).chain
      go None = ([], refl)
      go (Some p) = ([], refl)
  ruled-newer rules.commit = go (anchor_at s (s.round - 1))
    where
      go : (o : Option Content) → Newer s.chain (rules.added S s o)
      go None = ([], refl)
      go (Some x) = committed-newer x
  ruled-newer c = ([], refl)

-- the chain of an engine
abbrev pub chain_in : Engine → Chain Content
chain_in e = chain_of e.state.settings.ceiling e.table e.state.blocks

pub chain-newer : (e : Engine) → SetInRange e → (c : Call) → InRange c → NoOpen e c → Newer (chain_in e) (chain_in (after e c))
chain-newer e low c i o = go (every_step e low c i)
  where
    go : Step e c → Newer (chain_in e) (chain_in (after e c))
    go (refused n h) = ([], ap chain_in h)
    go (opened own sheet q a f) = absurd (o own sheet q a)
    go (moved a w n) =
        let S = e.state.settings in
        let m = ruled-newer S e.state.own.0 (view_at S e) (ruled e c) in
        (m.0, ap (λ (v : MemberView S). v.chain) n.shows ∙ m.1)
