-- To load: what bytes tell, what refuses them, and the words afterwards.
use Rattle.std.specs.Prelude.{Bool, if◌then◌else◌, ◌||◌, List, [], ◌∷◌, ℕ, ◌+◌, ◌*◌, length, take, drop, not, nat_lt, ◌==◌}
use Rattle.std.specs.Str.{bytes_eq}
use Rattle.std.proofs.Math.Seq.{paste}
use Rattle.sha2.specs.Sha256.{sha256}
use Rattle.base.specs.Checks.{Checks, refusal}
use Rattle.store.specs.Table.{used_length}
use Rattle.words.specs.Lengths.{state_length}
use Rattle.words.specs.States.{state_reads}
use Rattle.words.specs.declared.places.TheConstants.{STATE_OWN, STATE_CEILING}
use Rattle.storing.specs.declared.stored.TheConstants.{MARK, FORMAT, HEAD_MARK, HEAD_FORMAT, HEAD_RUN_LOW, HEAD_RUN_HIGH}
use Rattle.storing.specs.Bytes.{word_in, words_in}
use Rattle.storing.specs.Stored.{head_length, covered_length, stored_length}

-- ---- what the bytes b tell

abbrev pub own_in : List ℕ → ℕ
own_in b = word_in b (head_length + STATE_OWN)

abbrev pub ceiling_in : List ℕ → ℕ
ceiling_in b = word_in b (head_length + STATE_CEILING)

abbrev pub run_in : List ℕ → ℕ
run_in b = word_in b HEAD_RUN_LOW + word_in b HEAD_RUN_HIGH * 4294967296

-- the words of the state, and those of the table
abbrev pub state_words_in : List ℕ → List ℕ
state_words_in b = words_in b head_length state_length

abbrev pub table_words_in : List ℕ → List ℕ
table_words_in b = words_in b (head_length + state_length) (used_length (ceiling_in b))

-- the digest is that of the n bytes before it
unfoldable pub digest_fits : List ℕ → ℕ → Bool
digest_fits b n = bytes_eq (sha256 (take n b)) (drop n b)

-- ---- loading them, as the member own of the run, into n words of a state and m words of a table

-- shorter than any stored form, another mark, another format; not as long as its ceiling says, a digest that is not theirs; of another member, of another run; a state that cannot be read, no room
abbrev pub load_checks : List ℕ → ℕ → ℕ → ℕ → ℕ → Checks
load_checks b own run n m =
    (nat_lt (length b) (stored_length 0), 105)
    ∷ (not (word_in b HEAD_MARK == MARK), 103)
    ∷ (not (word_in b HEAD_FORMAT == FORMAT), 104)
    ∷ (not (length b == stored_length (ceiling_in b)), 105)
    ∷ (not (digest_fits b (4 * covered_length (ceiling_in b))), 105)
    ∷ (not (own_in b == own), 106)
    ∷ (not (run_in b == run), 107)
    ∷ (not (state_reads (state_words_in b)), 101)
    ∷ (nat_lt n state_length || nat_lt m (used_length (ceiling_in b)), 102)
    ∷ []

-- the number that refuses, 0 for none
unfoldable pub load_refusal : List ℕ → ℕ → ℕ → ℕ → ℕ → ℕ
load_refusal b own run n m = refusal (load_checks b own run n m)

-- the state's words w afterwards, and the table t: what lies beyond stays
unfoldable pub loaded_state : List ℕ → ℕ → ℕ → List ℕ → List ℕ → List ℕ
loaded_state b own run w t =
    if load_refusal b own run (length w) (length t) == 0
    then paste w 0 (state_words_in b) state_length
    else w

unfoldable pub loaded_table : List ℕ → ℕ → ℕ → List ℕ → List ℕ → List ℕ
loaded_table b own run w t =
    if load_refusal b own run (length w) (length t) == 0
    then paste t 0 (table_words_in b) (used_length (ceiling_in b))
    else t
