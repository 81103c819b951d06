-- An engine that has just opened holds nothing: its advance passed earlier, and is refused with 28 now.
use Rattle.std.proofs.Common.{◌≡◌, refl, sym, ◌∙◌, subst, false, [], ℕ, ◌+◌, ◌<◌, arith, leb, ltb, le-leb, lt-ltb, ltb-true}
use Rattle.base.proofs.Words.{or-true, not-false, lt-leb}
use Rattle.base.specs.Checks.{refusal}
use Rattle.base.specs.Folds.{any_to, sum_to}
use Rattle.base.proofs.Bools.{cond_same}
use Rattle.base.proofs.CheckLaws.{refuses, passes, passes-all}
use Rattle.base.proofs.TestLaws.{any_true}
use Rattle.agreement.specs.Weights.{weigh, total}
use Rattle.agreement.proofs.WeightLaws.{total_pos}
use Rattle.terms.specs.declared.sheet.Settings.{Settings}
use Rattle.terms.specs.Sheets.{filled}
use Rattle.terms.specs.Ranges.{weightless, weight_in, SettingsFit}
use Rattle.committee.specs.Committees.{committee_by, bonded_from, committee_of, known_by, MarginFits, quorum_weight, outsider, short, quorum}
use Rattle.committee.proofs.CommitteeLaws.{margin_fits, bound-low}
use Rattle.rules.specs.Tests.{MemberView, unknown}
use Rattle.rules.specs.Calls.{advancing, fresh_view}
use Rattle.rules.specs.Calls as rules
use Rattle.state.specs.Formed.{Formed}
use Rattle.state.specs.View.{view}
use Rattle.state.proofs.FormedLaws.{formed}
use Rattle.state.proofs.RefusalLaws.{refusal-formed}
use Rattle.advance.specs.Advance.{advance_refusal}
use Rattle.engine.specs.Calls.{advance}
use Rattle.engine.specs.Engine.{Engine, refusal_for}
use Rattle.engine.specs.Steps.{view_at, FreshlyOpened}
use Rattle.engine.specs.Sequences.{Opening, after_opening}
use Rattle.engine.proofs.ReachedLaws.{opened-fresh}
use Rattle.earlier.specs.Earlier.{earlier_advancing, earlier_refusal}

-- nobody is no quorum of a committee that weighs something

asks : {d : ℕ} → MarginFits d → (n : ℕ) → 0 < n → 0 < quorum_weight d n
unfolding quorum_weight
asks f n h = omega (arith, bound-low f n)

none-weighs : (w : ℕ → ℕ) → weigh 16 w (λ i. false) ≡ 0
unfolding sum_to
none-weighs w = refl

nobody : {d : ℕ} → MarginFits d → (w : ℕ → ℕ) → 0 < total 16 w → quorum d w (λ i. false) ≡ false
unfolding quorum short
nobody {d} f w h = rw (none-weighs w, lt-ltb 0 (quorum_weight d (total 16 w)) (asks f (total 16 w) h), or-true (outsider w (λ i. false))) refl

module _ (S : Settings) (fits : SettingsFit S) (some : weightless S ≡ false) where
  weighs : 0 < total 16 (weight_in S.weights)
  unfolding weightless
  weighs =
      let x = any_true (λ i. ltb 0 (weight_in S.weights i)) 16 (not-false (any_to (λ i. ltb 0 (weight_in S.weights i)) 16) some) in
      total_pos 16 (weight_in S.weights) x.1 (ltb-true 0 _ x.2)

  -- its committee is the starting one, which is known
  is_known : unknown S (fresh_view S) 1 ≡ false
  unfolding unknown known_by
  is_known = rw (le-leb 1 (S.lookback + (0 + 2)) (omega arith)) refl

  starting : committee_of S [] 1 ≡ S.weights
  unfolding committee_of committee_by bonded_from
  starting = cond_same (leb 1 S.lookback) S.weights

  now-refused : refusal (advancing S (fresh_view S)) ≡ 28
  now-refused = passes 18 _ (lt-leb S.ceiling 1 (omega (arith, fits.ceiling_from))) ∙ passes 8 _ is_known ∙ refuses 28 _ (rw (starting, nobody (margin_fits fits) (weight_in S.weights) weighs) refl)

  then-passed : refusal (earlier_advancing S (fresh_view S)) ≡ 0
  then-passed = passes 18 _ (lt-leb S.ceiling 1 (omega (arith, fits.ceiling_from))) ∙ passes-all

module _ (x : Opening) where
  abbrev engine : Engine
  engine = after_opening x

  fresh : FreshlyOpened x.own x.sheet x.before engine
  fresh = opened-fresh x.before x.own x.sheet x.accepted

  -- what is so of the fresh view is so of the engine
  of-view : (P : (S : Settings) → MemberView S → Type 0) → P (filled x.sheet) (fresh_view (filled x.sheet)) → P engine.state.settings (view engine.state engine.table)
  of-view P h =
      let b = subst (P (filled x.sheet)) (sym fresh.shows) h in
      subst (λ (S : Settings). P S (view_at S engine)) (sym fresh.its_settings) b

  whole : Formed engine.state engine.table
  whole = formed engine.state engine.table fresh.formed

  fits : SettingsFit (filled x.sheet)
  fits = subst SettingsFit fresh.its_settings whole.settings

  weighty : weightless (filled x.sheet) ≡ false
  weighty = subst (λ (S : Settings). weightless S ≡ false) fresh.its_settings whole.weighty

  pub thin_refused : refusal_for (after_opening x) advance ≡ 28
  unfolding advance_refusal
  thin_refused = refusal-formed _ _ rules.advance fresh.formed ∙ of-view (λ S s. refusal (advancing S s) ≡ 28) (now-refused (filled x.sheet) fits weighty)

  pub thin_allowed_earlier : earlier_refusal (after_opening x) advance ≡ 0
  thin_allowed_earlier = passes 1 _ (rw fresh.formed refl) ∙ of-view (λ S s. refusal (earlier_advancing S s) ≡ 0) (then-passed (filled x.sheet) fits weighty)
