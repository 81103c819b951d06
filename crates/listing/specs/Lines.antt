-- The bytes of answers and of the lines of a listing.
use Rattle.std.specs.Prelude.{if◌then◌else◌, List, [], ◌∷◌, ◌++◌, ℕ, zero, suc, ◌+◌, ◌/◌, ◌%◌, nat_lt, codes}
use Rattle.terms.specs.declared.Transaction.{Transaction}
use Rattle.terms.specs.declared.Transaction.TheVariants.{Bond, Unbond, Entry}
use Rattle.terms.specs.declared.letters.TheConstants.{BOND, UNBOND, ENTRY}
use Rattle.terms.specs.Transactions.{number_of, amount_of}

-- the digits of n, from 48, the digit 0, on; k is at least as many as there are beside the last
unfoldable pub digits_to : ℕ → ℕ → List ℕ
digits_to zero n = (48 + n) ∷ []
digits_to (suc k) n =
    if nat_lt n 10 then (48 + n) ∷ []
    else digits_to k (n / 10) ++ ((48 + n % 10) ∷ [])

-- a number in decimal, without leading zeros
unfoldable pub decimal : ℕ → List ℕ
decimal n = digits_to n n

-- a further field of a line that is a number
abbrev pub number_field : ℕ → List ℕ
number_field n = codes "," ++ decimal n

abbrev pub crlf : List ℕ
crlf = codes "\r\n"

-- ok
abbrev pub ok_line : List ℕ
ok_line = codes "ok" ++ crlf

-- ok and a count
abbrev pub count_line : ℕ → List ℕ
count_line n = codes "ok" ++ number_field n ++ crlf

-- refused and its number
abbrev pub refused_line : ℕ → List ℕ
refused_line n = codes "refused" ++ number_field n ++ crlf

-- the letter of a transaction's kind: B, U or E
abbrev pub letter_of : Transaction → ℕ
letter_of (Bond m a) = BOND
letter_of (Unbond m) = UNBOND
letter_of (Entry n) = ENTRY

-- a triple as further fields: kind, number, amount
abbrev pub triple_fields : Transaction → List ℕ
triple_fields x = codes "," ++ (letter_of x ∷ []) ++ number_field (number_of x)
    ++ number_field (amount_of x)

unfoldable pub triples_fields : List Transaction → List ℕ
triples_fields [] = []
triples_fields (x ∷ l) = triple_fields x ++ triples_fields l

-- the line of a certificate: block, block round, certificate round, author, triples
abbrev pub listing_line : ℕ → ℕ → ℕ → ℕ → List Transaction → List ℕ
listing_line block block_round round author l =
    decimal block ++ number_field block_round ++ number_field round ++ number_field author
    ++ triples_fields l ++ crlf
