-- Lengths in words of what a host lends, in one place.
use Rattle.std.specs.Prelude.{ℕ}
use Rattle.words.specs.declared.bodies.lengths.TheConstants.{STATE, TRANSACTION, BODY, PROPOSAL, CERTIFICATE, HELD, SHEET, COMMITTEE, EFFECT}

abbrev pub state_length : ℕ
state_length = STATE

abbrev pub transaction_length : ℕ
transaction_length = TRANSACTION

abbrev pub body_length : ℕ
body_length = BODY

abbrev pub proposal_length : ℕ
proposal_length = PROPOSAL

abbrev pub certificate_length : ℕ
certificate_length = CERTIFICATE

-- of a held certificate as it is read
abbrev pub held_length : ℕ
held_length = HELD

abbrev pub sheet_length : ℕ
sheet_length = SHEET

abbrev pub committee_length : ℕ
committee_length = COMMITTEE

-- of a bond's effect: sixteen shares before, sixteen after, the largest difference
abbrev pub effect_length : ℕ
effect_length = EFFECT
