-- The engine's call that a record asks for.
use Rattle.std.specs.Prelude.{List, ℕ, Option}
use Rattle.std.specs.Option.{option_map, option_and_then}
use Rattle.engine.specs.Calls.{Call, opens, propose, endorse, certify, accept, advance, commit, aside, listing}
use Rattle.records.specs.declared.Record.{Record}
use Rattle.records.specs.declared.Record.TheVariants.{Open, Propose, Endorse, Certify, Accept, Advance, Commit, Chain}
use Rattle.records.specs.Records.{record_in}

abbrev pub call_of : Record → Call
call_of (Open own sheet) = opens own sheet
call_of (Propose b) = propose b
call_of (Endorse p) = endorse p
call_of (Certify e) = certify e
call_of (Accept c) = accept c
call_of Advance = advance
call_of Commit = commit
call_of Chain = aside listing

-- the call that a record of these bytes asks for, none where it is unreadable
abbrev pub call_in : Option (List ℕ) → Option Call
call_in b = option_map call_of (option_and_then record_in b)
