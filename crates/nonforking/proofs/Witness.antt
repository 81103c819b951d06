-- The premises can be met: the run of specs/Witness is one.
use Rattle.std.proofs.Common.{◌≡◌, refl, ◌∙◌, true, false, [], ℕ, arith, replicate, ltb, ltb-true, le-ltb}
use Rattle.base.specs.Checks.{refusal}
use Rattle.base.proofs.CheckLaws.{passes, passes-all}
use Rattle.base.specs.Folds.{tab, any_to, all_to, sum_to}
use Rattle.base.specs.Sets.{mem, contains, insert, is_empty}
use Rattle.agreement.specs.Places.{is_place, put, mark}
use Rattle.agreement.specs.Histories.{level, in_history}
use Rattle.agreement.specs.Commits.{in_chain, anchor_at, block_of, blocks_of, taken, committed}
use Rattle.agreement.specs.Entries.{states}
use Rattle.agreement.specs.Listing.{listing}
use Rattle.terms.specs.Proposals.{slot_of, transactions_of, bad_transactions, all_in_range, bad_previous_set, same_proposal, same_transactions}
use Rattle.terms.specs.Transactions.{bond_in_range, same_transaction}
use Rattle.terms.specs.Sheets.{blank_weight, weight_at, filled}
use Rattle.terms.specs.Ranges.{not_within, out_of_range, weightless, weight_in}
use Rattle.committee.specs.Changes.{changes, changes_of, row, rows}
use Rattle.committee.specs.Committees.{committee_by, leader_by, step_from, bonded_from, committee_of, start_of, ordered, known_by, bound_of, quorum_weight, outsider, short, quorum}
use Rattle.committee.specs.Positions.{count_below, member_below}
use Rattle.committee.specs.Leaders.{member_at, leader_of}
use Rattle.rules.specs.Tests.{committee_in, bad_round, signers_of, above, unknown, missing, unvoted}
use Rattle.rules.specs.Calls.{ruled_refusal, after, result}
use Rattle.rules.proofs.Runs.{Group, state_after, view_after, chain_after}
use Rattle.rules.proofs.RunTestLaws.{run-found}
use Rattle.rules.proofs.RunTests.{is_made, is_signed, is_bounded, is_fair, is_run}
use Rattle.open.specs.Open.{closed_state, open_refusal}
use Rattle.nonforking.specs.Statement.{Members, engine_after, engine_behaviour}
use Rattle.nonforking.proofs.Implemented.{sets-fit}
use Rattle.nonforking.proofs.Converses.{Shown, beside_engines, on_their_views, shown, by-view, run-back}
use Rattle.nonforking.proofs.PlainTests.{is_plain, are_plain, is_in_range, plain-found}
use Rattle.nonforking.proofs.Answers.{are_answered, answered-found}
use Rattle.nonforking.specs.Witness.{sheet, settings, round4, calls, made, Met}

pub sheet-filled : filled sheet ≡ settings
unfolding filled tab weight_at blank_weight
sheet-filled = refl

pub sheet-accepted : (k : ℕ) → ltb k 3 ≡ true → open_refusal (replicate 1360 0) (record { 0 = k }) (filled sheet) ≡ 0
unfolding open_refusal out_of_range not_within weightless any_to
sheet-accepted k h =
    let i = ltb-true k 3 h in
    rw sheet-filled (passes 4 _ (le-ltb 15 k (omega arith)) ∙ passes 2 _ refl ∙ passes 3 _ refl ∙ passes 1 _ refl ∙ passes-all)

-- each on a table of zeros that is just long enough
abbrev members : Members engine_behaviour
members =
    record {
      correct = λ i. ltb i 3;
      before = λ i. record { state = closed_state; table = replicate 1360 0 };
      sheet = λ i. sheet;
      accepted = sheet-accepted;
      settings = settings;
      equal = λ k c. sheet-filled;
    }

-- ---- the proof: all is computed on the views of the rules

pub settings-fit : out_of_range settings ≡ false
unfolding out_of_range not_within any_to
settings-fit = refl

-- the members' views, after the same calls
abbrev views : Group settings (beside_engines settings)
views = on_their_views members settings-fit

record Computed : Type 0 where
  plain : are_plain calls ≡ true
  run : is_run views (λ k s c. is_plain c) calls ≡ true
  answers : are_answered members settings-fit round4 ≡ true
  listed_by_0 : listing (ordered settings) (chain_after views calls 0) ≡ made
  listed_by_1 : listing (ordered settings) (chain_after views calls 1) ≡ made
  listed_by_2 : listing (ordered settings) (chain_after views calls 2) ≡ []
  weight_before : committee_in settings (view_after views calls 1) 3 0 ≡ 3
  weight_after : committee_in settings (view_after views calls 1) 4 0 ≡ 8
  short_before : quorum settings.margin (committee_in settings (view_after views calls 1) 1) (contains 9) ≡ false
  enough_after : quorum settings.margin (committee_in settings (view_after views calls 1) 4) (contains 9) ≡ true

computed : Computed
unfolding transactions_of slot_of tab states result ruled_refusal after put mark is_place refusal bad_transactions
    all_in_range bond_in_range bad_previous_set is_empty unknown known_by committee_of committee_by leader_by
    step_from bonded_from start_of ordered rows row changes_of changes above missing quorum outsider short
    quorum_weight bound_of any_to sum_to contains mem insert signers_of bad_round same_proposal same_transactions
    same_transaction unvoted anchor_at leader_of member_at member_below count_below in_chain block_of blocks_of
    taken committed level in_history listing is_made is_signed is_bounded is_fair is_run all_to
computed =
    record {
      plain = refl;
      run = refl;
      answers = refl;
      listed_by_0 = refl;
      listed_by_1 = refl;
      listed_by_2 = refl;
      weight_before = refl;
      weight_after = refl;
      short_before = refl;
      enough_after = refl;
    }

pub premises_can_be_met : (X : Members engine_behaviour) × Met X
premises_can_be_met =
    let plain = plain-found members calls computed.plain in
    let at : (i : ℕ) → ltb i 3 ≡ true → Shown settings i (engine_after members calls i) (state_after views calls i) = shown members settings-fit calls plain in (
      members,
      record {
        correct = λ i. refl;
        opened = λ i. refl;
        premises = run-back members settings-fit calls plain (run-found views (λ k s c. is_plain c) (λ k s c h. sets-fit settings k s.0 s.1 c (is_in_range c h)) calls computed.run);
        answers = answered-found members settings-fit round4 computed.plain computed.answers;
        listed_by_0 = by-view members settings-fit (λ S x. listing (ordered S) x ≡ made) (at 0 refl) computed.listed_by_0;
        listed_by_1 = by-view members settings-fit (λ S x. listing (ordered S) x ≡ made) (at 1 refl) computed.listed_by_1;
        listed_by_2 = by-view members settings-fit (λ S x. listing (ordered S) x ≡ []) (at 2 refl) computed.listed_by_2;
        weight_before = by-view members settings-fit (λ S x. weight_in (committee_of S x 3) 0 ≡ 3) (at 1 refl) computed.weight_before;
        weight_after = by-view members settings-fit (λ S x. weight_in (committee_of S x 4) 0 ≡ 8) (at 1 refl) computed.weight_after;
        short_before = by-view members settings-fit (λ S x. quorum settings.margin (weight_in (committee_of S x 1)) (contains 9) ≡ false) (at 1 refl) computed.short_before;
        enough_after = by-view members settings-fit (λ S x. quorum settings.margin (weight_in (committee_of S x 4)) (contains 9) ≡ true) (at 1 refl) computed.enough_after;
      },
    )
