-- A body as fourteen words: previous set, count, four transactions of three words each (kind, number, amount); and a transaction by itself.
use Rattle.std.specs.Prelude.{Bool, true, if◌then◌else◌, ◌&&◌, ◌||◌, List, [], ◌∷◌, ◌++◌, ℕ, zero, suc, ◌+◌, ◌*◌, length, ◌==◌, nat_le, nat_lt}
use Rattle.base.specs.Folds.{all_to, tab}
use Rattle.terms.specs.declared.Transaction.{Transaction}
use Rattle.terms.specs.declared.Body.{Body}
use Rattle.terms.specs.Transactions.{kind_of, number_of, amount_of, read_transaction, no_transaction}
use Rattle.terms.specs.Proposals.{slot_of}
use Rattle.words.specs.declared.places.TheConstants.{BODY_COUNT, BODY_TRANSACTIONS}
use Rattle.words.specs.Lengths.{transaction_length, body_length}
use Rattle.words.specs.Words.{word}

-- ---- can it be read?

-- three words are a transaction: kind 0 bond, 1 unbond, 2 entry, and only a bond has an amount
unfoldable pub is_triple : ℕ → ℕ → Bool
is_triple kind amount = kind == 0 || (nat_le kind 2 && amount == 0)

-- transaction k of the body from word a on; what lies beyond the count is not looked at
unfoldable pub triple_reads : List ℕ → ℕ → ℕ → Bool
triple_reads w a k =
    if nat_lt k (word w (a + BODY_COUNT))
    then is_triple (word w (a + BODY_TRANSACTIONS + k * transaction_length))
    (word w (a + BODY_TRANSACTIONS + k * transaction_length + 2))
    else true

-- the previous set is a set of members, and so for each of four transactions
unfoldable pub body_reads : List ℕ → ℕ → Bool
body_reads w a = nat_lt (word w a) 65536 && all_to (triple_reads w a) 4

-- a body by itself
unfoldable pub lone_body_reads : List ℕ → Bool
lone_body_reads w = nat_le body_length (length w) && body_reads w 0

-- a transaction by itself
unfoldable pub lone_triple_reads : List ℕ → Bool
lone_triple_reads w = nat_le transaction_length (length w) && is_triple (word w 0) (word w 2)

-- ---- what it gives

-- what lies beyond the count is not looked at
unfoldable pub slot_in : List ℕ → ℕ → ℕ → Transaction
slot_in w a k =
    if nat_lt k (word w (a + BODY_COUNT))
    then read_transaction (word w (a + BODY_TRANSACTIONS + k * transaction_length))
    (word w (a + BODY_TRANSACTIONS + k * transaction_length + 1))
    (word w (a + BODY_TRANSACTIONS + k * transaction_length + 2))
    else no_transaction

abbrev pub slots_in : List ℕ → ℕ → List Transaction
slots_in w a = tab (slot_in w a) 4

unfoldable pub body_in : List ℕ → ℕ → Body
body_in w a = record { previous = word w a; count = word w (a + BODY_COUNT); slots = slots_in w a }

-- a transaction by itself
unfoldable pub triple_in : List ℕ → Transaction
triple_in w = read_transaction (word w 0) (word w 1) (word w 2)

-- ---- its words

-- transaction k, none beyond the count
unfoldable pub used_of : Body → ℕ → Transaction
used_of b k = if nat_lt k b.count then slot_of b k else no_transaction

-- the three words of a transaction; those of none are zeros
abbrev pub triple_words : Transaction → List ℕ
triple_words x = kind_of x ∷ number_of x ∷ amount_of x ∷ []

-- the words of the first n transactions
unfoldable pub used_words : Body → ℕ → List ℕ
used_words b zero = []
used_words b (suc n) = used_words b n ++ triple_words (used_of b n)

unfoldable pub body_words : Body → List ℕ
body_words b = (b.previous ∷ b.count ∷ []) ++ used_words b 4
