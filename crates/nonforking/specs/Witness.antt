-- The premises can be met: a run of engines in which members 0, 1 and 2 are correct and 3 is faulty.
-- Members 0 and 1 make a block, whose bond changes a committee, and then a certificate whose signers are a quorum of that committee and were none of the starting one; member 2 has no block.
-- Reads and refused calls are among the entries.
use Rattle.std.specs.Prelude.{◌≡◌, true, false, List, [], ◌∷◌, ℕ, nat_lt, replicate}
use Rattle.base.specs.Sets.{contains}
use Rattle.terms.specs.declared.Transaction.{Transaction}
use Rattle.terms.specs.declared.Transaction.TheVariants.{Bond}
use Rattle.terms.specs.declared.Body.{Body}
use Rattle.terms.specs.declared.Proposal.{Proposal}
use Rattle.terms.specs.Proposals.{Content}
use Rattle.terms.specs.Transactions.{no_transaction}
use Rattle.terms.specs.declared.sheet.Setting.TheVariants.{Blank, Written}
use Rattle.terms.specs.declared.sheet.Sheet.{Sheet}
use Rattle.terms.specs.declared.sheet.Settings.{Settings}
use Rattle.terms.specs.Ranges.{weight}
use Rattle.committee.specs.Committees.{quorum}
use Rattle.engine.specs.Calls.{Call, opens, propose, endorse, certify, accept, advance, commit, aside, committee, share, certificate, block}
use Rattle.engine.specs.Engine.{refusal_for}
use Rattle.nonforking.specs.Statement.{listed, weights, Members, Entry, engine_after, Run, engine_behaviour}

-- lookback 1, ceiling 4, weight 3 for members 0 and 1, and nothing else written: members 2 and 3 have weight 1
abbrev pub sheet : Sheet
sheet = record {
  lookback = Written 1;
  ceiling = Written 4;
  allowance = Blank;
  weights = Written 3 ∷ Written 3 ∷ replicate 14 Blank;
  margin = Blank;
  rights = record { 0 = 0 };
}

abbrev pub settings : Settings
settings = record {
  lookback = 1;
  ceiling = 4;
  allowance = 4;
  weights = weight 3 ∷ weight 3 ∷ weight 1 ∷ weight 1 ∷ replicate 12 (weight 0);
  margin = 3;
}

-- an entry, and the number that answers it: 0 where it is accepted
pub record Answered : Type 0 where
  pub entry : Entry
  pub answer : ℕ

abbrev pub entries : List Answered → List Entry
entries [] = []
entries (x ∷ l) = x.entry ∷ entries l

-- each entry is answered with its number
abbrev pub AreAnswered : Members engine_behaviour → List Answered → Type 0
AreAnswered X [] = Unit {0}
AreAnswered X (x ∷ l) =
    (refusal_for (engine_after X (entries l) x.entry.who) x.entry.call ≡ x.answer) × AreAnswered X l

-- an accepted call of member i
abbrev pub by : ℕ → Call → Answered
by i c = record { entry = record { who = i; call = c }; answer = 0 }

-- one that is refused with n
abbrev pub refused : ℕ → ℕ → Call → Answered
refused n i c = record { entry = record { who = i; call = c }; answer = n }

abbrev pub with : ℕ → Body
with previous = record { previous = previous; count = 0; slots = replicate 4 no_transaction }

-- one bond, to member 0
abbrev pub bond : Body
bond = record { previous = 0; count = 1; slots = replicate 4 (Bond (record { 0 = 0 }) 5) }

abbrev pub at : ℕ → ℕ → Body → Proposal
at a r b = record { author = record { 0 = a }; round = r; body = b }

abbrev pub of : ℕ → ℕ → Body → ℕ → Call
of a r b endorsers = accept (record { proposal = at a r b; endorsers = endorsers })

-- ---- the calls, newest first

-- members 0 and 1 sign each other's proposals and one of 3; a third signature is that of 3, which no entry backs
abbrev pub round1 : List Answered
round1 =
    by 1 (of 3 1 (with 0) 3) ∷ by 0 (of 3 1 (with 0) 3) ∷ by 1 (of 0 1 bond 10)
    ∷ by 0 (of 1 1 (with 0) 9) ∷ by 1 (certify 9) ∷ by 0 (certify 10)
    ∷ by 1 (endorse (at 3 1 (with 0))) ∷ by 0 (endorse (at 3 1 (with 0)))
    ∷ by 0 (endorse (at 1 1 (with 0)))
    ∷ by 1 (endorse (at 0 1 bond)) ∷ by 1 (propose (with 0)) ∷ by 0 (propose bond)
    ∷ []

-- another proposal at a held place, which only a faulty author can have, and a held certificate again, with other endorsers
abbrev pub twice : List Answered
twice = refused 17 0 (of 3 1 bond 3) ∷ refused 16 1 (of 0 1 bond 14) ∷ round1

-- member 2 only accepts, and stays in round 2
abbrev pub follower : List Answered
follower = by 2 advance ∷ by 2 (of 1 1 (with 0) 9) ∷ by 2 (of 0 1 bond 10) ∷ twice

-- in rounds 2 and 3 members 0 and 1 alone sign
abbrev pub round2 : List Answered
round2 =
    by 1 (of 0 2 (with 11) 2) ∷ by 0 (of 1 2 (with 11) 1) ∷ by 1 (certify 1)
    ∷ by 0 (certify 2) ∷ by 0 (endorse (at 1 2 (with 11))) ∷ by 1 (endorse (at 0 2 (with 11)))
    ∷ by 1 (propose (with 11)) ∷ by 0 (propose (with 11)) ∷ by 1 advance
    ∷ by 0 advance
    ∷ follower

-- the second commit of member 0 has nothing to add
abbrev pub round3 : List Answered
round3 =
    refused 20 0 commit ∷ by 1 commit ∷ by 0 commit
    ∷ by 1 (of 0 3 (with 3) 2) ∷ by 0 (of 1 3 (with 3) 1) ∷ by 1 (certify 1)
    ∷ by 0 (certify 2) ∷ by 0 (endorse (at 1 3 (with 3))) ∷ by 1 (endorse (at 0 3 (with 3)))
    ∷ by 1 (propose (with 3)) ∷ by 0 (propose (with 3)) ∷ by 1 advance
    ∷ by 0 advance
    ∷ round2

-- the four reads, and an open that is refused; member 2 has no block and does not know round 4
abbrev pub reading : List Answered
reading =
    by 0 (aside (committee 4))
    ∷ by 0 (aside (share (record { 0 = 2 }) 4))
    ∷ by 0 (aside (certificate (record { 0 = 3 }) 1)) ∷ by 1 (aside (block 1))
    ∷ refused 8 2 (aside (committee 4)) ∷ refused 23 2 (aside (block 1))
    ∷ refused 4 1 (opens (record { 0 = 16 }) sheet)
    ∷ round3

-- the committee of round 4 is the one that the bond changed: total 13, quorum 9; members 0 and 3, weighing 8 and 1, sign
abbrev pub round4 : List Answered
round4 = by 1 (of 0 4 (with 3) 8) ∷ by 0 (certify 8) ∷ by 0 (propose (with 3))
    ∷ by 0 advance ∷ reading

abbrev pub calls : List Entry
calls = entries round4

-- the certificate of an author and a round, as it is listed
abbrev pub listed_at : ℕ → ℕ → ℕ → List Transaction → Content
listed_at a r previous l = record { author = a; round = r; previous = previous; transactions = l }

-- the block that members 0 and 1 list
abbrev pub made : List (ℕ × List Content)
made = (
  2,
  listed_at 1 1 0 [] ∷ listed_at 3 1 0 [] ∷ listed_at 0 1 0 (Bond (record { 0 = 0 }) 5
      ∷ []) ∷ listed_at 1 2 11 [] ∷ [],
) ∷ []

-- what is so of these members and calls
pub record Met (X : Members engine_behaviour) : Type 0 where
  pub correct : (i : ℕ) → X.correct i ≡ nat_lt i 3
  pub opened : (i : ℕ) → X.sheet i ≡ sheet
  pub premises : Run X calls
  -- each entry is answered with the number that stands at it
  pub answers : AreAnswered X round4
  pub listed_by_0 : listed (engine_after X calls 0) ≡ made
  pub listed_by_1 : listed (engine_after X calls 1) ≡ made
  pub listed_by_2 : listed (engine_after X calls 2) ≡ []
  -- the bond is out in round 3 and in from round 4
  pub weight_before : weights (engine_after X calls 1) 3 0 ≡ 3
  pub weight_after : weights (engine_after X calls 1) 4 0 ≡ 8
  -- the signers of the certificate of round 4 are no quorum of the starting committee, and are one of the changed committee
  pub short_before : quorum settings.margin (weights (engine_after X calls 1) 1) (contains 9)
      ≡ false
  pub enough_after : quorum settings.margin (weights (engine_after X calls 1) 4) (contains 9) ≡ true
