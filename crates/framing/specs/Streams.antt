-- Records in a stream of bytes: each runs to the next CRLF or to the end of input.
use Rattle.std.specs.Prelude.{Bool, true, false, if◌then◌else◌, ◌&&◌, ◌||◌, List, [], ◌∷◌, map, ℕ, length, ◌==◌, nat_le}
use Rattle.std.specs.Prelude.{Option, None, Some}
use Rattle.framing.specs.declared.TheConstants.{LONGEST, LONGEST_ENDED}

-- a record's bytes without its CRLF, and whether it has one
pub record StreamRecord : Type 0 where
  pub bytes : List ℕ
  pub ended : Bool

-- the bytes of a CRLF
abbrev pub is_end : ℕ → ℕ → Bool
is_end x y = x == 13 && y == 10

-- one byte more at the head of the first record
abbrev pub longer : ℕ → List StreamRecord → List StreamRecord
longer x [] = []
longer x (r ∷ rs) = record { bytes = x ∷ r.bytes; ended = r.ended } ∷ rs

-- the records of a stream; no bytes left is no record
unfoldable pub records_of : List ℕ → List StreamRecord
records_of [] = []
records_of (x ∷ []) = record { bytes = x ∷ []; ended = false } ∷ []
records_of (x ∷ y ∷ s) =
    if is_end x y then record { bytes = []; ended = true } ∷ records_of s
    else longer x (records_of (y ∷ s))

-- the bytes of a record that has its CRLF and is at most 1,024 bytes with it; none is an unreadable record
unfoldable pub fitting : StreamRecord → Option (List ℕ)
fitting r = if r.ended && nat_le (length r.bytes) LONGEST then Some r.bytes else None

-- what a stream asks to be read, record by record
unfoldable pub readables : List ℕ → List (Option (List ℕ))
readables s = map fitting (records_of s)

-- a record is to be answered once it has ended or is too long, and any is where the input is over
abbrev pub is_due : Bool → StreamRecord → Bool
is_due over r = r.ended || (nat_le LONGEST_ENDED (length r.bytes) || over)

-- those of these records that are to be answered
unfoldable pub due_of : Bool → List StreamRecord → List (Option (List ℕ))
due_of over [] = []
due_of over (r ∷ rs) = if is_due over r then fitting r ∷ due_of over rs else due_of over rs

-- those of a stream, of which these bytes came so far, or which is over with them
unfoldable pub due : Bool → List ℕ → List (Option (List ℕ))
due over s = due_of over (records_of s)

-- the bytes before the first CRLF, or all where there is none
unfoldable pub until_end : List ℕ → List ℕ
until_end [] = []
until_end (x ∷ []) = x ∷ []
until_end (x ∷ y ∷ s) = if is_end x y then [] else x ∷ until_end (y ∷ s)

-- there is a CRLF
unfoldable pub has_end : List ℕ → Bool
has_end [] = false
has_end (x ∷ []) = false
has_end (x ∷ y ∷ s) = if is_end x y then true else has_end (y ∷ s)

-- the bytes after the first CRLF, none where there is none
unfoldable pub after_end : List ℕ → List ℕ
after_end [] = []
after_end (x ∷ []) = []
after_end (x ∷ y ∷ s) = if is_end x y then s else after_end (y ∷ s)
