-- The premises can be met under the margins 4 and 5: the run of specs/Margins is one.
use Rattle.std.proofs.Common.{◌≡◌, refl, sym, ◌∙◌, subst, true, false, [], ℕ, ◌≤◌, arith, replicate, ltb, ltb-true, le-ltb}
use Rattle.base.proofs.Words.{ℕ_discrete}
use Rattle.base.specs.Checks.{refusal}
use Rattle.base.proofs.CheckLaws.{passes, passes-all}
use Rattle.base.specs.Folds.{tab, any_to, all_to, sum_to}
use Rattle.base.specs.Sets.{mem, contains, insert, is_empty}
use Rattle.agreement.specs.Weights.{total}
use Rattle.agreement.specs.Places.{is_place, put, mark}
use Rattle.agreement.specs.Histories.{level, in_history}
use Rattle.agreement.specs.Commits.{in_chain, anchor_at, block_of, blocks_of, taken, committed}
use Rattle.agreement.specs.Entries.{states}
use Rattle.agreement.specs.Listing.{listing}
use Rattle.terms.specs.Proposals.{slot_of, transactions_of, bad_transactions, all_in_range, bad_previous_set, same_proposal, same_transactions}
use Rattle.terms.specs.Transactions.{bond_in_range, same_transaction}
use Rattle.terms.specs.Sheets.{blank_weight, weight_at, filled}
use Rattle.terms.specs.Ranges.{not_within, out_of_range, weightless, weight_in}
use Rattle.committee.specs.Changes.{changes, changes_of, row, rows}
use Rattle.committee.specs.Committees.{committee_by, leader_by, step_from, bonded_from, committee_of, start_of, ordered, known_by, bound_of, quorum_weight, outsider, short, quorum}
use Rattle.committee.specs.Positions.{count_below, member_below}
use Rattle.committee.specs.Leaders.{member_at, leader_of}
use Rattle.rules.specs.Tests.{committee_in, bad_round, signers_of, above, unknown, missing, unvoted}
use Rattle.rules.specs.Calls.{ruled_refusal, after, result}
use Rattle.rules.proofs.Runs.{Group, state_after, view_after, chain_after}
use Rattle.rules.proofs.RunTestLaws.{run-found}
use Rattle.rules.proofs.RunTests.{is_made, is_signed, is_bounded, is_fair, is_run}
use Rattle.open.specs.Open.{closed_state, open_refusal}
use Rattle.nonforking.specs.Statement.{Members, engine_after, engine_behaviour}
use Rattle.nonforking.proofs.Implemented.{sets-fit}
use Rattle.nonforking.proofs.Converses.{Shown, beside_engines, on_their_views, shown, by-view, run-back}
use Rattle.nonforking.proofs.PlainTests.{is_plain, are_plain, is_in_range, plain-found}
use Rattle.nonforking.proofs.Answers.{are_answered, answered-found}
use Rattle.witnesses.specs.Margins.{sheet, settings, round4, calls, made, Met}

sheet-filled : (m : ℕ) → filled (sheet m) ≡ settings m
unfolding filled tab weight_at blank_weight
sheet-filled m = refl

settings-fit : (m : ℕ) → not_within m 3 5 ≡ false → out_of_range (settings m) ≡ false
unfolding out_of_range not_within any_to
settings-fit m h = h

sheet-accepted : (m : ℕ) → out_of_range (settings m) ≡ false → (k : ℕ) → ltb k 3 ≡ true → open_refusal (replicate 1360 0) (record { 0 = k }) (filled (sheet m)) ≡ 0
unfolding open_refusal weightless any_to
sheet-accepted m fit k h =
    let i = ltb-true k 3 h in
    rw (sheet-filled m) (passes 4 _ (le-ltb 15 k (omega arith)) ∙ passes 2 _ fit ∙ passes 3 _ refl ∙ passes 1 _ refl ∙ passes-all)

module _ (m : ℕ) (fit : out_of_range (settings m) ≡ false) where
  -- each on a table of zeros that is just long enough
  abbrev members : Members engine_behaviour
  members =
      record {
        correct = λ i. ltb i 3;
        before = λ i. record { state = closed_state; table = replicate 1360 0 };
        sheet = λ i. sheet m;
        accepted = sheet-accepted m fit;
        settings = settings m;
        equal = λ k c. sheet-filled m;
      }

  -- ---- the proof: all is computed on the views of the rules

  -- the members' views, after the same calls
  abbrev views : Group (settings m) (beside_engines (settings m))
  views = on_their_views members fit

  record Computed : Type 0 where
    plain : are_plain calls ≡ true
    run : is_run views (λ k s c. is_plain c) calls ≡ true
    answers : are_answered members fit round4 ≡ true
    listed_by_0 : listing (ordered (settings m)) (chain_after views calls 0) ≡ made
    listed_by_1 : listing (ordered (settings m)) (chain_after views calls 1) ≡ made
    listed_by_2 : listing (ordered (settings m)) (chain_after views calls 2) ≡ []
    total_before : total 16 (committee_in (settings m) (view_after views calls 1) 3) ≡ 8
    total_after : total 16 (committee_in (settings m) (view_after views calls 1) 4) ≡ 13
    short_before : quorum m (committee_in (settings m) (view_after views calls 1) 1) (contains 3) ≡ false
    enough_after : quorum m (committee_in (settings m) (view_after views calls 1) 4) (contains 3) ≡ true

  met : Computed → (X : Members engine_behaviour) × Met m X
  met computed =
      let plain = plain-found members calls computed.plain in
      let at : (i : ℕ) → ltb i 3 ≡ true → Shown (settings m) i (engine_after members calls i) (state_after views calls i) = shown members fit calls plain in (
        members,
        record {
          correct = λ i. refl;
          opened = λ i. refl;
          filled_so = refl;
          premises = run-back members fit calls plain (run-found views (λ k s c. is_plain c) (λ k s c h. sets-fit (settings m) k s.0 s.1 c (is_in_range c h)) calls computed.run);
          answers = answered-found members fit round4 computed.plain computed.answers;
          listed_by_0 = by-view members fit (λ S x. listing (ordered S) x ≡ made) (at 0 refl) computed.listed_by_0;
          listed_by_1 = by-view members fit (λ S x. listing (ordered S) x ≡ made) (at 1 refl) computed.listed_by_1;
          listed_by_2 = by-view members fit (λ S x. listing (ordered S) x ≡ []) (at 2 refl) computed.listed_by_2;
          total_before = by-view members fit (λ S x. total 16 (weight_in (committee_of S x 3)) ≡ 8) (at 1 refl) computed.total_before;
          total_after = by-view members fit (λ S x. total 16 (weight_in (committee_of S x 4)) ≡ 13) (at 1 refl) computed.total_after;
          short_before = by-view members fit (λ S x. quorum m (weight_in (committee_of S x 1)) (contains 3) ≡ false) (at 1 refl) computed.short_before;
          enough_after = by-view members fit (λ S x. quorum m (weight_in (committee_of S x 4)) (contains 3) ≡ true) (at 1 refl) computed.enough_after;
        },
      )

margin_fits_4 : not_within 4 3 5 ≡ false
unfolding not_within
margin_fits_4 = refl

margin_fits_5 : not_within 5 3 5 ≡ false
unfolding not_within
margin_fits_5 = refl

computed_4 : Computed 4 (settings-fit 4 margin_fits_4)
unfolding transactions_of slot_of tab states result ruled_refusal after put mark is_place refusal bad_transactions
    all_in_range bond_in_range bad_previous_set is_empty unknown known_by committee_of committee_by leader_by
    step_from bonded_from start_of ordered rows row changes_of changes above missing quorum outsider short
    quorum_weight bound_of any_to sum_to contains mem insert signers_of bad_round same_proposal same_transactions
    same_transaction unvoted anchor_at leader_of member_at member_below count_below in_chain block_of blocks_of
    taken committed level in_history listing is_made is_signed is_bounded is_fair is_run all_to
computed_4 =
    record {
      plain = refl;
      run = refl;
      answers = refl;
      listed_by_0 = refl;
      listed_by_1 = refl;
      listed_by_2 = refl;
      total_before = refl;
      total_after = refl;
      short_before = refl;
      enough_after = refl;
    }

computed_5 : Computed 5 (settings-fit 5 margin_fits_5)
unfolding transactions_of slot_of tab states result ruled_refusal after put mark is_place refusal bad_transactions
    all_in_range bond_in_range bad_previous_set is_empty unknown known_by committee_of committee_by leader_by
    step_from bonded_from start_of ordered rows row changes_of changes above missing quorum outsider short
    quorum_weight bound_of any_to sum_to contains mem insert signers_of bad_round same_proposal same_transactions
    same_transaction unvoted anchor_at leader_of member_at member_below count_below in_chain block_of blocks_of
    taken committed level in_history listing is_made is_signed is_bounded is_fair is_run all_to
computed_5 =
    record {
      plain = refl;
      run = refl;
      answers = refl;
      listed_by_0 = refl;
      listed_by_1 = refl;
      listed_by_2 = refl;
      total_before = refl;
      total_after = refl;
      short_before = refl;
      enough_after = refl;
    }

pub met_by_margins : (m : ℕ) → 4 ≤ m → m ≤ 5 → (X : Members engine_behaviour) × Met m X
met_by_margins m a b = go (ℕ_discrete m 4)
  where
    go : Dec (m ≡ 4) → (X : Members engine_behaviour) × Met m X
    go (yes e) = subst (λ (n : ℕ). (X : Members engine_behaviour) × Met n X) (sym e) (met 4 (settings-fit 4 margin_fits_4) computed_4)
    go (no n) =
        let e : m ≡ 5 = omega arith in
        subst (λ (n : ℕ). (X : Members engine_behaviour) × Met n X) (sym e) (met 5 (settings-fit 5 margin_fits_5) computed_5)
