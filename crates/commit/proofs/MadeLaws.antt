-- What an accepted commit relies on and leaves.
use Rattle.std.proofs.Common.{◌≡◌, refl, sym, ap, ◌∙◌, true, List, ℕ, ◌-◌, ◌<◌, ◌≤◌, arith, length, get_or}
use Rattle.base.specs.Checks.{refusal}
use Rattle.chain_committees.specs.BlockChanges.{last_round}
use Rattle.blocks.specs.Blocks.{commit_table, commit_count}
use Rattle.blocks.specs.WalkReady.{CommitReady, CommitMade}
use Rattle.blocks.proofs.CommitLaws.{commit-stage}
use Rattle.base.proofs.SetLaws.{in_member}
use Rattle.state.specs.Formed.{Formed}
use Rattle.votes.proofs.CheckLaws.{Timely, voted, led_on}
use Rattle.state.proofs.AnswerLaws.{if_accepted-new}
use Rattle.rules.specs.Calls as rules
use Rattle.rules.specs.Tests.{MemberView}
use Rattle.state.specs.declared.State.{State}
use Rattle.state.specs.WellFormed.{well_formed}
use Rattle.state.specs.View.{view}
use Rattle.votes.specs.Checks.{vote_checks, leaders_for}
use Rattle.votes.proofs.AnchorLaws.{leaders-length}
use Rattle.commit.specs.Commit.{with_blocks, commit_refusal, blocks_then, committed_table, ruled_view, commit_state, commit_table_after, RulesGive}
use Rattle.commit.proofs.CheckLaws.{refusal-by, accepted}
use Rattle.commit.proofs.CommitLaws.{view-commit}
use Rattle.commit.proofs.PreservedLaws.{count-commit}

module _ (s : State) (t : List ℕ) where
  -- the anchor has an author
  led-low : Formed s t → Timely s t → refusal (vote_checks s t) ≡ 0 → (l : List ℕ) → l ≡ leaders_for s t → get_or l (s.round - 1) 0 < 16
  led-low f w v l e = rw (led_on s t f w.from l e w.above) (in_member _ _ (voted s t f w.from v))

  -- blocks are only added
  blocks_more : Timely s t → (m : ℕ) → m ≡ last_round t s.blocks → (l : List ℕ) → s.blocks ≤ commit_count m (s.round - 1) s.blocks l t
  blocks_more w m i l = (commit-stage m (s.round - 1) s.blocks l t (rw i w.few) (rw i w.above)).more

  module _ (ok : commit_refusal s t ≡ 0) where
    pub ready : (l : List ℕ) → l ≡ leaders_for s t → (m : ℕ) → m ≡ last_round t s.blocks → CommitReady t l m (s.round - 1) s.blocks
    ready l i m q =
        let a = accepted s t ok in
        let f = a.formed in
        let w = a.timely in
        let n = leaders-length s t l i in
        let k : s.round ≤ 1024 = omega (arith, f.numbers.round_to, f.settings.ceiling_to) in
        record {
          few = omega (arith, w.few);
          round = omega arith;
          anchors = record { above = omega (arith, w.above); row = omega (arith, f.long); listed = omega arith; member = led-low f w a.voted l i };
        }

    more : (l : List ℕ) → (m : ℕ) → m ≡ last_round t s.blocks → (k : ℕ) → k ≡ commit_count m (s.round - 1) s.blocks l t → s.blocks ≤ k
    more l m q k j = rw j (blocks_more (accepted s t ok).timely m q l)

  module _ (l : List ℕ) (i : l ≡ leaders_for s t) (m : ℕ) (q : m ≡ last_round t s.blocks) where
    count : (k : ℕ) → k ≡ commit_count m (s.round - 1) s.blocks l t → k ≡ blocks_then s t
    unfolding blocks_then
    count k j = j ∙ rw (i, q) refl

    table : (u : List ℕ) → u ≡ commit_table m (s.round - 1) s.blocks l t → u ≡ committed_table s t
    unfolding committed_table
    table u j = j ∙ rw (i, q) refl

  module _ (ok : commit_refusal s t ≡ 0) where
    ruled : (k : ℕ) (u : List ℕ) → k ≡ blocks_then s t → s.blocks ≤ k → u ≡ committed_table s t → RulesGive s t (k - s.blocks) (with_blocks s k) u
    ruled k u j h i =
        let n = count-commit s t ok in
        let e : length (ruled_view s t).chain ≡ blocks_then s t = ap (λ (v : MemberView s.settings). length v.chain) (sym (view-commit s t ok)) ∙ n.1 in
        rw (j, i) (record { its_state = refl; its_view = view-commit s t ok; its_value = rw (n.0, e) (omega arith); its_blocks = omega arith })

    blocks-grown : s.blocks ≤ blocks_then s t
    unfolding blocks_then
    blocks-grown = blocks_more (accepted s t ok).timely (last_round t s.blocks) refl (leaders_for s t)

    -- the state and the table after it
    pub state-then : commit_state s t ≡ with_blocks s (blocks_then s t)
    unfolding commit_state
    state-then = if_accepted-new (commit_refusal s t) (with_blocks s (blocks_then s t)) s ok

    pub table-then : commit_table_after s t ≡ committed_table s t
    unfolding commit_table_after
    table-then = if_accepted-new (commit_refusal s t) (committed_table s t) t ok

    -- are those of the rules' commit
    pub rules_give : RulesGive s t (blocks_then s t - s.blocks) (commit_state s t) (commit_table_after s t)
    rules_give = rw (state-then, table-then) (ruled (blocks_then s t) (committed_table s t) refl blocks-grown refl)

-- what the checks let pass, at the view that they looked at, which is that of the state and its table
pub record Passed (s : State) (t l : List ℕ) : Type 0 where
  pub accepted : commit_refusal s t ≡ 0
  pub leaders : l ≡ leaders_for s t

pub passed : {s x : State} {t u l : List ℕ} → (x ≡ s) × (u ≡ t) × (well_formed s t ≡ true) → 0 ≡ refusal (rules.checks x.settings x.own.0 (view x u) rules.commit) → l ≡ leaders_for x u → Passed s t l
passed {s} {x} {t} {u} k z i = record { accepted = refusal-by s t k.2 ∙ sym (rw (k.0, k.1) at z); leaders = rw (k.0, k.1) at i }

-- what is so when its blocks are made: k blocks, and the table u
pub record Made (s : State) (t : List ℕ) (k : ℕ) (u : List ℕ) : Type 0 where
  pub more : s.blocks ≤ k
  pub added : k - s.blocks ≡ blocks_then s t - s.blocks
  pub state : with_blocks s k ≡ commit_state s t
  pub table : u ≡ commit_table_after s t
  pub ruled : RulesGive s t (k - s.blocks) (with_blocks s k) u

pub made : {s : State} {t l : List ℕ} {m k : ℕ} {u l' : List ℕ} → Passed s t l → m ≡ last_round t s.blocks → CommitMade l m (s.round - 1) s.blocks t k u l' → Made s t k u
made {s} {t} {l} {m} {k} {u} p q x =
    let ok = p.accepted in
    let n = count s t l p.leaders m q k x.count in
    let v = table s t l p.leaders m q u x.table in
    let h = more s t ok l m q k x.count in
    record { more = h; added = ap (λ (j : ℕ). j - s.blocks) n; state = ap (with_blocks s) n ∙ sym (state-then s t ok); table = v ∙ sym (table-then s t ok); ruled = ruled s t ok k u n h v }
