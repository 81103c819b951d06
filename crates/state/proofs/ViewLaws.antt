-- What the view holds, by what the table says.
use Rattle.std.proofs.Common.{◌≡◌, refl, sym, ap, ◌∙◌, Bool, true, false, not, cond, ◌&&◌, true≢false, List, ℕ, ◌-◌, ◌<◌, ◌≤◌, arith, Option, Some, None, is_some, unwrap_or, option_map}
use Rattle.base.proofs.Words.{fun_ext, and-true, not-not, false≢true}
use Rattle.base.specs.Folds.{any_to}
use Rattle.base.proofs.TestLaws.{any_same}
use Rattle.base.specs.Sets.{contains, is_subset}
use Rattle.base.proofs.UnionLaws.{subset_in}
use Rattle.agreement.specs.Dag.{is_held, vote}
use Rattle.terms.specs.Proposals.{Content, content_with, same_proposal}
use Rattle.store.specs.Table.{held_set, held_at, endorsed_at, previous_at, content_at, certificate_at}
use Rattle.store.proofs.TableLaws.{held_in, held-member, certificate-present, certificate-absent, held-certificate, content-author, content-round, content-previous}
use Rattle.terms.specs.declared.sheet.Settings.{Settings}
use Rattle.committee.specs.Chain.{is_round}
use Rattle.committee.proofs.ChainLaws.{is-round, round-parts}
use Rattle.committee.specs.Instance.{rules}
use Rattle.rules.specs.Tests.{is_same, missing}
use Rattle.state.specs.declared.State.{State}
use Rattle.terms.specs.declared.Body.{Body}
use Rattle.state.specs.States.{no_body, is_proposing, own_body}
use Rattle.state.specs.View.{dag_of, endorsed_of, own_proposal, view}

-- the certificate p of the view, at the place of author a and round r
pub record InDag (n : ℕ) (t : List ℕ) (a r : ℕ) (p : Content) : Type 0 where
  pub author : p.author ≡ a
  pub round : p.round ≡ r
  pub member : a < 16
  pub from : 0 < r
  pub to : r ≤ n
  pub held : held_at t a r ≡ true
  pub content : p ≡ content_at t a r

module _ (n : ℕ) (t : List ℕ) (a r : ℕ) where
  pub dag-place : dag_of n t a r ≡ cond (is_round n r) (certificate_at t a r) None
  unfolding dag_of
  dag-place = refl

  pub in_dag : (p : Content) → dag_of n t a r ≡ Some p → InDag n t a r p
  unfolding dag_of
  in_dag p = go (is_round n r) refl
    where
      go : (b : Bool) → is_round n r ≡ b → ◌≡◌ {A = Option Content} (cond b (certificate_at t a r) None) (Some p) → InDag n t a r p
      go false e h = let z : ◌≡◌ {A = ℕ} 0 1 = cc in absurd (omega arith)
      go true e h =
          let q = round-parts n r e in
          let c = held-certificate t a r p h in
          record {
            author = rw c.1 (content-author t a r);
            round = rw c.1 (content-round t a r);
            member = held-member t a r c.0;
            from = q.0;
            to = q.1;
            held = c.0;
            content = c.1;
          }

  module _ (from : 0 < r) (to : r ≤ n) where
    pub dag-at : dag_of n t a r ≡ certificate_at t a r
    unfolding dag_of
    dag-at = rw (is-round n r from to) refl

    pub endorsed-at : endorsed_of n t a r ≡ endorsed_at t a r
    unfolding endorsed_of
    endorsed-at = rw (is-round n r from to) refl

    -- what is asked of the certificate of a place, if it is held: f of it, false of none
    by_record : (f : Option Content → Bool) (g : Bool) → f None ≡ false → f (Some (content_at t a r)) ≡ g → f (dag_of n t a r) ≡ (held_at t a r && g)
    by_record f g e h = ap f dag-at ∙ go (held_at t a r) refl
      where
        go : (b : Bool) → held_at t a r ≡ b → f (certificate_at t a r) ≡ (b && g)
        go true k = ap f (certificate-present t a r k) ∙ h
        go false k = ap f (certificate-absent t a r k) ∙ e

    pub held-dag : is_held (dag_of n t a r) ≡ held_at t a r
    held-dag = by_record is_held true refl refl ∙ and-true (held_at t a r)

    -- the same certificate is held there
    pub same-dag : (p : Content) → is_same p (dag_of n t a r) ≡ (held_at t a r && same_proposal p (content_at t a r))
    same-dag p = by_record (is_same p) (same_proposal p (content_at t a r)) refl refl

    -- the certificate there names b
    pub vote-dag : (S : Settings) (b : ℕ) → vote (rules S) b (dag_of n t a r) ≡ (held_at t a r && contains (previous_at t a r) b)
    vote-dag S b = by_record (vote (rules S) b) (contains (previous_at t a r) b) refl (rw (content-previous t a r) refl)

-- ---- tables that say the same

module _ (n : ℕ) (t u : List ℕ) where
  pub dag-same : ((a r : ℕ) → certificate_at u a r ≡ certificate_at t a r) → dag_of n u ≡ dag_of n t
  unfolding dag_of
  dag-same e = fun_ext (λ a. fun_ext (λ r. ap (λ (o : Option Content). cond (is_round n r) o None) (e a r)))

  pub endorsed-same : ((a r : ℕ) → endorsed_at u a r ≡ endorsed_at t a r) → endorsed_of n u ≡ endorsed_of n t
  unfolding endorsed_of
  endorsed-same e = fun_ext (λ a. fun_ext (λ r. ap (λ (z : Bool). is_round n r && z) (e a r)))

-- ---- the proposal

-- states that differ elsewhere have the same one
pub proposal-same : (s u : State) → u.own ≡ s.own → u.round ≡ s.round → u.proposal ≡ s.proposal → own_proposal u ≡ own_proposal s
unfolding own_proposal
proposal-same s u o r p = λ i. option_map (content_with (o i).0 (r i)) (p i)

module _ (s : State) where
  pub proposal-none : is_proposing s ≡ false → own_proposal s ≡ None
  unfolding own_proposal
  proposal-none = go s.proposal
    where
      go : (o : Option Body) → is_some o ≡ false → option_map (content_with s.own.0 s.round) o ≡ None
      go None e = refl
      go (Some b) e = absurd (true≢false e)

  pub proposal-some : is_proposing s ≡ true → own_proposal s ≡ Some (content_with s.own.0 s.round (own_body s))
  unfolding own_proposal
  proposal-some = go s.proposal
    where
      go : (o : Option Body) → is_some o ≡ true → option_map (content_with s.own.0 s.round) o ≡ Some (content_with s.own.0 s.round (unwrap_or o no_body))
      go None e = absurd (false≢true e)
      go (Some b) e = refl

  pub held-proposal : is_held (own_proposal s) ≡ is_proposing s
  held-proposal = go (is_proposing s) refl
    where
      go : (b : Bool) → is_proposing s ≡ b → is_held (own_proposal s) ≡ b
      go true e = ap is_held (proposal-some e)
      go false e = ap is_held (proposal-none e)

-- ---- named previous certificates

-- a named previous certificate is not held: one of a 16-bit set is not among those held one round earlier
pub missing-held : (s : State) (t : List ℕ) (p : Content) → p.previous < 65536 → 1 < p.round → p.round ≤ s.settings.ceiling
    → missing s.settings (view s t) p ≡ not (is_subset p.previous (held_set t (p.round - 1)))
unfolding missing
missing-held s t p small from to =
    let n = s.settings.ceiling in
    let q = p.round - 1 in
    let f : ℕ → Bool = λ i. contains p.previous i && not (is_held (dag_of n t i q)) in
    let g : ℕ → Bool = λ i. contains p.previous i && not (contains (held_set t q) i) in
    any_same f g 16 (λ i h. rw (held-dag n t i q (omega arith) (omega arith), held_in t i q) refl) ∙ sym (rw (subset_in p.previous (held_set t q) small) (not-not (any_to g 16)))
