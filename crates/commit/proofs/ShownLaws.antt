-- What a state and its table show, as the theory's commit wants it.
use Rattle.std.proofs.Common.{◌≡◌, refl, sym, ap, ap₂, ◌∙◌, Bool, true, false, cond, List, ◌∷◌, ℕ, zero, suc, ◌≤◌, arith, eqb, Option, Some, None}
use Rattle.base.proofs.Bools.{cond_same}
use Rattle.base.specs.Sets.{contains}
use Rattle.agreement.specs.Dag.{is_held}
use Rattle.agreement.proofs.DagLaws.{held_by}
use Rattle.agreement.specs.Marks.{MarksFit}
use Rattle.terms.specs.Proposals.{Content}
use Rattle.store.specs.Table.{mark_at, certificate_at}
use Rattle.store.proofs.TableLaws.{content-previous}
use Rattle.scan.proofs.ScanLaws.{rows-held}
use Rattle.committee.specs.Chain.{is_round, holds_at, chain_of}
use Rattle.committee.proofs.ChainLaws.{holds_at_lem, block-by, chain-none, chain_more}
use Rattle.rules.specs.Tests.{MemberView}
use Rattle.commit.proofs.Histories.{Shows}
use Rattle.commit.proofs.Chains.{rounds-none, rounds-more, rounds-length, marks_in, marks_in_lem, chain_in}
use Rattle.state.specs.declared.State.{State}
use Rattle.state.specs.View.{dag_of, view}
use Rattle.state.proofs.ViewLaws.{InDag, dag-place, in_dag, held-dag}
use Rattle.state.specs.Formed.{Formed}
use Rattle.agreement.specs.Marks as marks

module _ (s : State) (t : List ℕ) where
  abbrev n : ℕ
  n = s.settings.ceiling

  abbrev v : MemberView s.settings
  v = view s t

  inside : (a r : ℕ) → is_held (v.dag a r) ≡ true → (q : Content) × InDag n t a r q
  inside a r h = let q = held_by (v.dag a r) h in (q.0, in_dag n t a r q.0 q.1)

  -- certificates are at their places, and name whom the records name
  pub shows : Shows v n t
  shows =
      record {
        sixteen = refl;
        placed = record { place = λ {a} {r} {p} h. let d = in_dag n t a r p h in (d.author, d.round); member = λ {a} {r} {p} h. (in_dag n t a r p h).member };
        inside = λ a r h. let d = (inside a r h).1 in (d.from, d.to);
        held = λ a r from to. sym (held-dag n t a r from to);
        naming = λ a r i q h. ap (λ (p : Content). contains p.previous i) (in_dag n t a r q h).content ∙ ap (λ (z : ℕ). contains z i) (content-previous t a r);
      }

  -- every mark of a held certificate names a block
  pub marks-fit : Formed s t → MarksFit v (marks_in v t) s.blocks
  marks-fit f =
      record {
        range = λ a q. rw (marks_in_lem v t a q) (range a q (is_held (v.dag a q)) refl);
        only_held = λ a q h. marks_in_lem v t a q ∙ ap (λ (b : Bool). cond b (mark_at t a q) 0) h;
      }
    where
      range : (a q : ℕ) (b : Bool) → is_held (v.dag a q) ≡ b → cond b (mark_at t a q) 0 ≤ s.blocks
      range a q true e = let d = (inside a q e).1 in ((rows-held t s.settings.allowance s.blocks n f.rows q d.from d.to).records a d.held).mark
      range a q false e = omega arith

  -- ---- the chain that marks and block rounds tell

  module _ (u : List ℕ) (e : dag_of n u ≡ v.dag) where
    block-shown : (k a r : ℕ) → cond (is_round n r) (holds_at u k a r) None ≡ cond (eqb (marks_in v u a r) k) (v.dag a r) None
    block-shown k a r =
        rw (holds_at_lem u k a r) (go (is_round n r) (certificate_at u a r))
        ∙ ap (λ (o : Option Content). cond (eqb (cond (is_held o) (mark_at u a r) 0) k) o None) (sym (dag-place n u a r) ∙ ap (λ (d : ℕ → ℕ → Option Content). d a r) e)
        ∙ ap (λ (z : ℕ). cond (eqb z k) (v.dag a r) None) (sym (marks_in_lem v u a r))
      where
        go : (b : Bool) (o : Option Content) → cond b (cond (eqb (mark_at u a r) k) o None) None ≡ cond (eqb (cond (is_held (cond b o None)) (mark_at u a r) 0) k) (cond b o None) None
        go false o = sym (cond_same (eqb 0 k) None)
        go true None = cond_same (eqb (mark_at u a r) k) None ∙ sym (cond_same (eqb 0 k) None)
        go true (Some q) = refl

    -- is the one that the table shows
    pub chain-shown : (k : ℕ) → chain_of n u k ≡ chain_in v u k
    unfolding marks.marked_chain
    chain-shown zero = rw (rounds-none u) (chain-none n u)
    chain-shown (suc k) =
        rw (rounds-more u k, rounds-length u k)
        (chain_more n u k ∙ ap₂ ◌∷◌ (block-by n u (suc k) _ refl (block-shown (suc k))) (chain-shown k))
