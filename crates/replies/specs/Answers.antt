-- The line of an answer.
use Rattle.std.specs.Prelude.{List, ℕ, Result, Ok, Err}
use Rattle.refusals.specs.declared.Refusal.{Refusal}
use Rattle.refusals.specs.Refusals.{number_of}
use Rattle.listing.specs.Lines.{ok_line, count_line, refused_line}

-- of open, propose, endorse, certify, accept, advance
abbrev pub answer_line : Result Unit Refusal → List ℕ
answer_line (Ok x) = ok_line
answer_line (Err e) = refused_line (number_of e)

-- of commit
abbrev pub committed_line : Result ℕ Refusal → List ℕ
committed_line (Ok n) = count_line n
committed_line (Err e) = refused_line (number_of e)
