-- An accepted commit is the commit of the rules: the view that its state and table show.
use Rattle.std.proofs.Common.{◌≡◌, refl, sym, ap₂, ◌∙◌, Bool, true, false, cond, List, ℕ, ◌-◌, ◌<◌, ◌≤◌, arith, ltb, get_or, lt-ltb, Option, Some, None}
use Rattle.base.proofs.Bools.{cond_same}
use Rattle.base.specs.Sets.{contains}
use Rattle.base.proofs.SetLaws.{in_member}
use Rattle.agreement.specs.Commits.{anchor_at, committed}
use Rattle.terms.specs.Proposals.{Content}
use Rattle.store.specs.Table.{used_length, held_set, content_at}
use Rattle.store.proofs.TableLaws.{held_in, content-author, content-round, certificate-present, certificate-absent}
use Rattle.store.proofs.MarkLaws.{OnlyMarks, certificate-marked, endorsed-marked}
use Rattle.committee.specs.Chain.{chain_of}
use Rattle.chain_committees.specs.BlockChanges.{last_round}
use Rattle.chain_committees.proofs.ChainLaws.{last-chain}
use Rattle.blocks.specs.Blocks.{commit_table, commit_count}
use Rattle.blocks.proofs.CommitLaws.{commit-stage}
use Rattle.commit.proofs.Anchors.{anchor_in, anchor_in_lem, Ready}
use Rattle.commit.proofs.Chains.{chain_in, commit-chain}
use Rattle.rules.specs.Tests.{MemberView}
use Rattle.rules.specs.Calls.{after}
use Rattle.rules.proofs.CallLaws.{after-commit}
use Rattle.state.specs.declared.State.{State}
use Rattle.state.specs.View.{dag_of, endorsed_of, view}
use Rattle.state.proofs.ViewLaws.{dag-at, dag-same, endorsed-same, proposal-same}
use Rattle.commit.specs.Commit.{with_blocks, commit_refusal, blocks_then, committed_table}
use Rattle.votes.specs.Checks.{leaders_for}
use Rattle.votes.proofs.AnchorLaws.{leader_on, anchor-on, leaders-on, leaders-length}
use Rattle.commit.proofs.CheckLaws.{accepted}
use Rattle.commit.proofs.ShownLaws.{shows, marks-fit, chain-shown}
use Rattle.rules.specs.Calls as rules

-- the anchor of a round is the certificate of the leader that the list has
leader-anchor : (s : State) (t : List ℕ) (q : ℕ) → 0 < q → q ≤ s.settings.ceiling → get_or (leaders_for s t) q 0 ≡ leader_on s t q
    → anchor_at (view s t) q ≡ anchor_in (view s t) (leaders_for s t) q
leader-anchor s t q from to e = anchor-on s t q from to ∙ go (contains (held_set t q) a) refl ∙ sym (anchor_in_lem (view s t) (leaders_for s t) q a e)
  where
    a : ℕ
    a = leader_on s t q

    go : (b : Bool) → contains (held_set t q) a ≡ b → ◌≡◌ {A = Option Content} (cond b (Some (content_at t a q)) None) (cond (ltb a 16) ((view s t).dag a q) None)
    go true h = rw (lt-ltb a 16 (in_member (held_set t q) a h)) (sym (dag-at s.settings.ceiling t a q from to ∙ certificate-present t a q (held_in t a q ∙ h)))
    go false h = rw (dag-at s.settings.ceiling t a q from to, certificate-absent t a q (held_in t a q ∙ h)) (sym (cond_same (ltb a 16) None))

-- the state after an accepted commit
abbrev pub committed_state : State → List ℕ → State
committed_state s t = with_blocks s (blocks_then s t)

module _ (s : State) (t : List ℕ) (ok : commit_refusal s t ≡ 0) where
  abbrev n : ℕ
  n = s.settings.ceiling

  abbrev r : ℕ
  r = s.round

  abbrev m : ℕ
  m = last_round t s.blocks

  abbrev v : MemberView s.settings
  v = view s t

  abbrev a : ℕ
  a = leader_on s t (r - 1)

  -- the anchor
  abbrev x : Content
  x = content_at t a (r - 1)

  pub anchor-held : anchor_at v (r - 1) ≡ Some x
  anchor-held =
      let y = accepted s t ok in
      anchor-on s t (r - 1) (omega (arith, y.timely.from)) (omega (arith, y.formed.numbers.round_to)) ∙ rw y.led refl

  ready : Ready v n s.blocks (leaders_for s t) t x
  ready =
      let y = accepted s t ok in
      let f = y.formed in
      let w = y.timely in
      let to = f.numbers.round_to in
      let top = f.settings.ceiling_to in
      let e = last-chain n t s.blocks in
      let i = content-round t a (r - 1) in
      let at : (q : ℕ) → m < q → q < r → get_or (leaders_for s t) q 0 ≡ leader_on s t q = λ q h l. leaders-on s t q h l (omega arith) in
      record {
        shows = shows s t;
        few = rw e w.few;
        held =
            ap₂ (dag_of n t) (content-author t a (r - 1)) i
            ∙ dag-at n t a (r - 1) (omega (arith, w.from)) (omega arith)
            ∙ certificate-present t a (r - 1) (held_in t a (r - 1) ∙ y.led);
        above = rw (e, i) w.above;
        inside = rw i (omega arith);
        leads = rw (content-author t a (r - 1), i) (at (r - 1) w.above (omega (arith, w.from)));
        led = λ q h l. leader-anchor s t q (omega arith) (omega arith) (at q (omega arith) (omega arith));
        leaders = rw (i, leaders-length s t (leaders_for s t) refl) (omega arith);
        table = f.long;
      }

  -- only marks and block rounds change, in the rows of the state
  pub only-marks : OnlyMarks (used_length n) t (committed_table s t)
  unfolding committed_table
  only-marks =
      let y = accepted s t ok in
      let w = y.timely in
      let to = y.formed.numbers.round_to in
      let o = (commit-stage m (r - 1) s.blocks (leaders_for s t) t w.few w.above).only in
      record { size = o.size; words = o.words; beyond = λ j h. o.beyond j (omega arith) }

  -- so certificates and endorsed places stay
  pub dag-kept : dag_of n (committed_table s t) ≡ dag_of n t
  dag-kept = dag-same n t (committed_table s t) (certificate-marked only-marks)

  pub endorsed-kept : endorsed_of n (committed_table s t) ≡ endorsed_of n t
  endorsed-kept = endorsed-same n t (committed_table s t) (endorsed-marked only-marks)

  chain-then : chain_of n (committed_table s t) (blocks_then s t) ≡ committed v x
  unfolding committed_table blocks_then
  chain-then =
      let l = leaders_for s t in
      chain-shown s t (committed_table s t) dag-kept (blocks_then s t)
      ∙ ap₂ (λ (p q : ℕ). chain_in v (commit_table p q s.blocks l t) (commit_count p q s.blocks l t)) (sym (last-chain n t s.blocks)) (sym (content-round t a (r - 1)))
      ∙ commit-chain ready (marks-fit s t (accepted s t ok).formed) (chain-shown s t t refl s.blocks)

  -- the view that the state and the table show then is the rules' next view
  pub view-commit : view (committed_state s t) (committed_table s t) ≡ after s.settings s.own.0 v rules.commit
  view-commit =
      let e = proposal-same s (committed_state s t) refl refl refl in
      (λ i. record { round = r; proposal = e i; dag = dag-kept i; endorsed = endorsed-kept i; chain = chain-then i }) ∙ sym (after-commit s.settings s.own.0 v x anchor-held)
