-- What the store's writes leave in the table.
use Rattle.std.specs.Prelude.{ℕ, ◌+◌, ◌*◌, List, ◌++◌, length, set, drop, replicate}
use Rattle.std.proofs.Math.Seq.{paste}
use Rattle.base.specs.Sets.{insert, remove}
use Rattle.terms.specs.declared.Transaction.{Transaction}
use Rattle.terms.specs.Transactions.{kind_of, number_of, amount_of}
use Rattle.terms.specs.Proposals.{Content}
use Rattle.store.specs.declared.places.TheConstants.{ROW_ENDORSED, ROW_BLOCK, RECORD_PREVIOUS, RECORD_COUNT, RECORD_BLOCK, RECORD_ENDORSERS}
use Rattle.store.specs.Table.{record_length, row_start, record_start, transaction_start, used_length, held_set, endorsed_set, nth_of}

-- the three words of transaction k
unfoldable pub put_transaction : List ℕ → ℕ → Transaction → List ℕ
put_transaction w k x =
    set (set (set w (transaction_start k) (kind_of x)) (transaction_start k + 1) (number_of x))
    (transaction_start k + 2) (amount_of x)

-- the record of a certificate of at most four transactions with the endorsers d, in no block
unfoldable pub record_of : Content → ℕ → List ℕ
record_of p d =
    put_transaction
    (put_transaction
    (put_transaction
    (put_transaction
    (set (set (set (replicate record_length 0) RECORD_PREVIOUS p.previous) RECORD_COUNT
    (length p.transactions)) RECORD_ENDORSERS d) 0 (nth_of p 0)) 1 (nth_of p 1))
    2
    (nth_of p 2))
    3
    (nth_of p 3)

-- the record w at the place, which is held from then on
unfoldable pub put_record : List ℕ → ℕ → ℕ → List ℕ → List ℕ
put_record t m r w =
    set (paste t (record_start m r) w record_length) (row_start r) (insert (held_set t r) m)

-- a certificate put at its place with its endorsers, in no block
unfoldable pub put_certificate : List ℕ → Content → ℕ → List ℕ
put_certificate t p d = put_record t p.author p.round (record_of p d)

unfoldable pub set_endorsed : List ℕ → ℕ → ℕ → List ℕ
set_endorsed t m r = set t (row_start r + ROW_ENDORSED) (insert (endorsed_set t r) m)

unfoldable pub clear_endorsed : List ℕ → ℕ → ℕ → List ℕ
clear_endorsed t m r = set t (row_start r + ROW_ENDORSED) (remove (endorsed_set t r) m)

-- the authors whose certificates of round r are held
unfoldable pub set_held : List ℕ → ℕ → ℕ → List ℕ
set_held t r x = set t (row_start r) x

-- the certificate of m and round r is held no more: its words stay, and mean nothing
unfoldable pub clear_held : List ℕ → ℕ → ℕ → List ℕ
clear_held t m r = set_held t r (remove (held_set t r) m)

-- the certificate of m and round r in block b
unfoldable pub set_mark : List ℕ → ℕ → ℕ → ℕ → List ℕ
set_mark t m r b = set t (record_start m r + RECORD_BLOCK) b

-- block k of round r
unfoldable pub set_block : List ℕ → ℕ → ℕ → List ℕ
set_block t k r = set t (row_start k + ROW_BLOCK) r

-- the part that a state of ceiling n uses, cleared
unfoldable pub clear_used : List ℕ → ℕ → List ℕ
clear_used t n = replicate (used_length n) 0 ++ drop (used_length n) t
