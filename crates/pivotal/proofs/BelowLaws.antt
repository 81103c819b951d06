-- Every block holds certificates of rounds up to its own, in every engine that calls lead to.
use Rattle.std.proofs.Common.{◌≡◌, sym, ap, ◌∙◌, subst, Bool, true, not, cond, ◌&&◌, true≢false, List, [], ◌∷◌, ℕ, ◌-◌, suc, ◌<◌, ◌≤◌, arith, Option, Some, None}
use Rattle.base.proofs.Words.{dec_lt}
use Rattle.agreement.specs.Rules.{Chain, last, Rules}
use Rattle.agreement.specs.View.{View}
use Rattle.agreement.specs.Dag.{is_held}
use Rattle.agreement.specs.Commits.{in_chain, anchor_at, block_of, blocks_of, taken, committed}
use Rattle.agreement.proofs.HistoryLaws.{history-above}
use Rattle.terms.specs.Proposals.{Content}
use Rattle.terms.specs.declared.Member.{Member}
use Rattle.terms.specs.declared.sheet.Sheet.{Sheet}
use Rattle.terms.specs.declared.sheet.Settings.{Settings}
use Rattle.rules.specs.Tests.{MemberView}
use Rattle.rules.specs.Calls as rules
use Rattle.committee.specs.Chain.{chain_of}
use Rattle.engine.specs.Calls.{Call, InRange}
use Rattle.engine.specs.Engine.{Engine, after}
use Rattle.engine.specs.Steps.{FreshlyOpened, Step, refused, opened, moved, view_at, ruled}
use Rattle.engine.specs.Reached.{Reached, Intact}
use Rattle.engine.proofs.ReachedLaws.{opened-fresh, always}
use Rattle.engine.proofs.StepLaws.{every_step}

abbrev pub Below : {P : Type 0} → Chain P → Type 0
Below [] = Unit {0}
Below (b ∷ c) = ((a r : ℕ) → is_held (b.holds a r) ≡ true → r ≤ b.round) × Below c

-- ---- a commit

module _ {R : Rules} (s : View R) where
  open R use {P, round}

  block-below : (x : P) (c : Chain P) (a r : ℕ) → is_held ((block_of s x c).holds a r) ≡ true → r ≤ (block_of s x c).round
  unfolding block_of
  block-below x c a r h = go (dec_lt (round x) r)
    where
      go : Dec (round x < r) → r ≤ round x
      go (yes l) = absurd (true≢false (sym h ∙ ap (λ (b : Bool). is_held (cond (b && not (in_chain c a r)) (s.dag a r) None)) (history-above s x r a l)))
      go (no n) = omega arith

  blocks-below : (l : List P) → Below s.chain → Below (blocks_of s l)
  unfolding blocks_of
  blocks-below [] b = b
  blocks-below (x ∷ l) b = (block-below x (blocks_of s l), blocks-below l b)

  committed-below : (x : P) → Below s.chain → Below (committed s x)
  unfolding committed
  committed-below x b = blocks-below (x ∷ taken s (round x - suc (last s.chain)) x) b

-- ---- a call

module _ (S : Settings) (k : ℕ) (s : MemberView S) (b : Below s.chain) where
  certified-below : (o : Option Content) → Below (rules.certified S s o).chain
  certified-below None = b
  certified-below (Some p) = b

  added-below : (o : Option Content) → Below (rules.added S s o)
  added-below None = b
  added-below (Some x) = committed-below s x b

  after-below : (c : rules.Call) → Below (rules.after S k s c).chain
  unfolding rules.after
  after-below (rules.certify e) = certified-below s.proposal
  after-below rules.commit = added-below (anchor_at s (s.round - 1))
  after-below c = b

-- ---- every engine

-- the chain of an engine
abbrev pub chain_in : Engine → Chain Content
chain_in e = chain_of e.state.settings.ceiling e.table e.state.blocks

chain_by : (S : Settings) (x : Engine) (v : MemberView S) → view_at S x ≡ v → Below v.chain → Below (chain_in x)
chain_by S x v e b = subst Below (sym (ap (λ (v : MemberView S). v.chain) e)) b

fresh-below : {own : Member} {sheet : Sheet} {e x : Engine} → FreshlyOpened own sheet e x → Below (chain_in x)
fresh-below f = chain_by _ _ _ f.shows tt

call_below : (e : Engine) → Intact e → (c : Call) → InRange c → Below (chain_in e) → Below (chain_in (after e c))
call_below e r c i b = go (every_step e r.good.small c i)
  where
    go : Step e c → Below (chain_in (after e c))
    go (refused n h) = subst (λ (x : Engine). Below (chain_in x)) (sym h) b
    go (opened own sheet q a f) = fresh-below f
    go (moved a w n) = chain_by _ _ _ n.shows (after-below e.state.settings e.state.own.0 (view_at e.state.settings e) b (ruled e c))

pub reached-below : {e : Engine} → Reached e → Below (chain_in e)
reached-below = always (λ e. Below (chain_in e)) (λ x. fresh-below (opened-fresh x.before x.own x.sheet x.accepted)) call_below
