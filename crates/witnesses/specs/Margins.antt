-- The premises of chains_never_fork can be met under the margins 4 and 5: a run of engines in which members 0, 1 and 2 are correct and 3 is faulty.
-- Members 0, 1 and 3 sign three rounds and members 0 and 1 make a block, whose bond changes the committee of round 4. There 0 and 1 alone sign: they were no quorum of the starting committee.
use Rattle.std.specs.Prelude.{◌≡◌, false, true, List, [], ◌∷◌, ℕ, nat_lt, replicate}
use Rattle.base.specs.Sets.{contains}
use Rattle.agreement.specs.Weights.{total}
use Rattle.terms.specs.declared.Transaction.TheVariants.{Bond}
use Rattle.terms.specs.declared.Body.{Body}
use Rattle.terms.specs.Proposals.{Content}
use Rattle.terms.specs.declared.sheet.Setting.TheVariants.{Blank, Written}
use Rattle.terms.specs.declared.sheet.Sheet.{Sheet}
use Rattle.terms.specs.declared.sheet.Settings.{Settings}
use Rattle.terms.specs.Ranges.{weight}
use Rattle.committee.specs.Committees.{quorum}
use Rattle.engine.specs.Calls.{propose, endorse, certify, advance, commit}
use Rattle.nonforking.specs.Statement.{listed, weights, Members, Entry, engine_after, Run, engine_behaviour}
use Rattle.nonforking.specs.Witness.{Answered, entries, AreAnswered, by, refused, with, bond, at, of, listed_at}

-- lookback 1, ceiling 4, weight 3 for members 0 and 1, margin m, and nothing else written: members 2 and 3 have weight 1
abbrev pub sheet : ℕ → Sheet
sheet m = record {
  lookback = Written 1;
  ceiling = Written 4;
  allowance = Blank;
  weights = Written 3 ∷ Written 3 ∷ replicate 14 Blank;
  margin = Written m;
  rights = record { 0 = 0 };
}

abbrev pub settings : ℕ → Settings
settings m = record {
  lookback = 1;
  ceiling = 4;
  allowance = 4;
  weights = weight 3 ∷ weight 3 ∷ weight 1 ∷ weight 1 ∷ replicate 12 (weight 0);
  margin = m;
}

-- ---- the calls, newest first

-- in round r member 0 proposes one body, and 1 and 3 another; all three sign all, and 0 and 1 hold the three certificates. Without the signature of 3 they are short
abbrev pub signed : ℕ → Body → Body → List Answered → List Answered
signed r first other l =
    by 1 (of 3 r other 3) ∷ by 0 (of 3 r other 3) ∷ by 1 (of 0 r first 10)
    ∷ by 0 (of 1 r other 9) ∷ by 1 (certify 9) ∷ by 0 (certify 10) ∷ refused 13 0 (certify 2)
    ∷ by 1 (endorse (at 3 r other)) ∷ by 0 (endorse (at 3 r other)) ∷ by 0 (endorse (at 1 r other))
    ∷ by 1 (endorse (at 0 r first)) ∷ by 1 (propose other) ∷ by 0 (propose first)
    ∷ l

abbrev pub round1 : List Answered
round1 = signed 1 bond (with 0) []

abbrev pub round2 : List Answered
round2 = signed 2 (with 11) (with 11) (by 1 advance ∷ by 0 advance ∷ round1)

abbrev pub round3 : List Answered
round3 = by 1 commit ∷ by 0 commit ∷ signed 3 (with 11) (with 11) (by 1 advance
    ∷ by 0 advance ∷ round2)

-- members 0 and 1 alone sign
abbrev pub round4 : List Answered
round4 =
    by 1 (of 0 4 (with 11) 2) ∷ by 0 (certify 2) ∷ by 1 (endorse (at 0 4 (with 11)))
    ∷ by 0 (propose (with 11)) ∷ by 1 advance ∷ by 0 advance
    ∷ round3

abbrev pub calls : List Entry
calls = entries round4

-- the block that members 0 and 1 list
abbrev pub made : List (ℕ × List Content)
made = (
  2,
  listed_at 1 1 0 [] ∷ listed_at 3 1 0 [] ∷ listed_at 0 1 0 (Bond (record { 0 = 0 }) 5
      ∷ []) ∷ listed_at 1 2 11 [] ∷ [],
) ∷ []

-- what is so of these members and calls
pub record Met (m : ℕ) (X : Members engine_behaviour) : Type 0 where
  pub correct : (i : ℕ) → X.correct i ≡ nat_lt i 3
  pub opened : (i : ℕ) → X.sheet i ≡ sheet m
  pub filled_so : X.settings ≡ settings m
  pub premises : Run X calls
  -- each entry is answered with the number that stands at it
  pub answers : AreAnswered X round4
  pub listed_by_0 : listed (engine_after X calls 0) ≡ made
  pub listed_by_1 : listed (engine_after X calls 1) ≡ made
  pub listed_by_2 : listed (engine_after X calls 2) ≡ []
  -- the bond is out in round 3 and in from round 4
  pub total_before : total 16 (weights (engine_after X calls 1) 3) ≡ 8
  pub total_after : total 16 (weights (engine_after X calls 1) 4) ≡ 13
  -- members 0 and 1 are no quorum of the starting committee, and are one of the changed committee
  pub short_before : quorum m (weights (engine_after X calls 1) 1) (contains 3) ≡ false
  pub enough_after : quorum m (weights (engine_after X calls 1) 4) (contains 3) ≡ true
