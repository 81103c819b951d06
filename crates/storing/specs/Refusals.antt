-- The numbers of what is not stored or loaded; no call has one of them.
use Rattle.std.specs.Prelude.{ℕ, Result, Ok, Err}
use Rattle.storing.specs.declared.refusal.StoringRefusal.{StoringRefusal}
use Rattle.storing.specs.declared.refusal.StoringRefusal.TheVariants.{Unreadable, NoRoom, OtherMark, OtherFormat, Torn, OtherMember, OtherRun}

abbrev pub number_of : StoringRefusal → ℕ
number_of Unreadable = 101
number_of NoRoom = 102
number_of OtherMark = 103
number_of OtherFormat = 104
number_of Torn = 105
number_of OtherMember = 106
number_of OtherRun = 107

-- of an answer: 0 where it is done
abbrev pub refusal_in : {A : Type 0} → Result A StoringRefusal → ℕ
refusal_in (Ok _) = 0
refusal_in (Err e) = number_of e
