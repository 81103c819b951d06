-- A stored member: a head, the words of its state, the words of its table that it uses, and a digest over all of these.
use Rattle.std.specs.Prelude.{List, [], ◌∷◌, ◌++◌, ℕ, ◌+◌, ◌*◌, ◌/◌, ◌%◌, take}
use Rattle.sha2.specs.Sha256.{sha256}
use Rattle.store.specs.Table.{used_length}
use Rattle.words.specs.Lengths.{state_length}
use Rattle.words.specs.Words.{word}
use Rattle.words.specs.declared.places.TheConstants.{STATE_CEILING}
use Rattle.storing.specs.declared.stored.TheConstants.{MARK, FORMAT, HEAD, DIGEST}
use Rattle.storing.specs.Bytes.{bytes_of}

-- ---- lengths: of the head in words, of the digest in bytes

abbrev pub head_length : ℕ
head_length = HEAD

abbrev pub digest_length : ℕ
digest_length = DIGEST

-- how many words stand before the digest, of a ceiling c
abbrev pub covered_length : ℕ → ℕ
covered_length c = head_length + state_length + used_length c

-- how many bytes are stored
abbrev pub stored_length : ℕ → ℕ
stored_length c = 4 * covered_length c + digest_length

-- ---- what is stored

-- mark, format, the run's number: its low half, then its high one
abbrev pub head_words : ℕ → List ℕ
head_words run = MARK ∷ FORMAT ∷ run % 4294967296 ∷ run / 4294967296 ∷ []

-- the ceiling that a state's words tell
abbrev pub ceiling_of : List ℕ → ℕ
ceiling_of w = word w STATE_CEILING

-- the words before the digest: of the run's number, the state's words w, the table t
unfoldable pub covered_words : ℕ → List ℕ → List ℕ → List ℕ
covered_words run w t =
    head_words run ++ take state_length w ++ take (used_length (ceiling_of w)) t

-- the bytes that are stored
unfoldable pub stored : ℕ → List ℕ → List ℕ → List ℕ
stored run w t =
    bytes_of (covered_words run w t) ++ sha256 (bytes_of (covered_words run w t))
