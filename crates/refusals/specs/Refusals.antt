-- The numbers of refusals.
use Rattle.std.specs.Prelude.{ℕ, ◌+◌, ◌*◌, Result, Ok, Err}
use Rattle.refusals.specs.declared.Refusal.{Refusal}
use Rattle.refusals.specs.declared.Refusal.TheVariants.{Malformed, SettingRange, NoWeight, MemberRange, RoundRange, TransactionsRange, PreviousEmpty, CommitteeUnknown, Outside, PlaceTaken, PreviousMissing}
use Rattle.refusals.specs.declared.Refusal.TheVariants.{PreviousQuorum, SignersShort, SignedTwice, NoProposal, SameHeld, OtherHeld, AtCeiling, NoCommitRound, BlockMade, NoAnchor, VotesShort}
use Rattle.refusals.specs.declared.Refusal.TheVariants.{NoneThere, Unreadable, LengthRange, GuestRange, QueueFull, ThinRound, NoRight, EmptyCommittee, OffsetRange}

-- the number of a refusal
abbrev pub number_of : Refusal → ℕ
number_of Malformed = 1
number_of SettingRange = 2
number_of NoWeight = 3
number_of MemberRange = 4
number_of RoundRange = 5
number_of TransactionsRange = 6
number_of PreviousEmpty = 7
number_of CommitteeUnknown = 8
number_of Outside = 9
number_of PlaceTaken = 10
number_of PreviousMissing = 11
number_of PreviousQuorum = 12
number_of SignersShort = 13
number_of SignedTwice = 14
number_of NoProposal = 15
number_of SameHeld = 16
number_of OtherHeld = 17
number_of AtCeiling = 18
number_of NoCommitRound = 19
number_of BlockMade = 20
number_of NoAnchor = 21
number_of VotesShort = 22
number_of NoneThere = 23
number_of Unreadable = 24
number_of LengthRange = 25
number_of GuestRange = 26
number_of QueueFull = 27
number_of ThinRound = 28
number_of NoRight = 29
number_of EmptyCommittee = 30
number_of OffsetRange = 31

-- of an answer: 0 where the call is accepted
abbrev pub refusal_in : {A : Type 0} → Result A Refusal → ℕ
refusal_in (Ok _) = 0
refusal_in (Err e) = number_of e

-- the value of an answer; none, 0, where the call is refused
abbrev pub value_in : Result ℕ Refusal → ℕ
value_in (Ok n) = n
value_in (Err e) = 0

-- a packed answer: the value in the low 32 bits, the refusal's number in the high ones
abbrev pub packed_in : Result ℕ Refusal → ℕ
packed_in r = value_in r + refusal_in r * 4294967296
