-- The bytes that a member signs of a proposal, of an endorsement and of a certificate.
use Rattle.std.specs.Prelude.{if◌then◌else◌, Bool, List, [], ◌∷◌, ◌++◌, ℕ, ◌+◌, ◌*◌, ◌/◌, ◌%◌, length, not, nat_lt, ◌==◌}
use Rattle.std.proofs.Math.Seq.{paste}
use Rattle.sha2.specs.Sha256.{sha256}
use Rattle.base.specs.Checks.{Checks, refusal}
use Rattle.base.specs.Parts.{part}
use Rattle.terms.specs.declared.Proposal.{Proposal}
use Rattle.words.specs.Bodies.{body_words}
use Rattle.words.specs.Lengths.{state_length, proposal_length, certificate_length}
use Rattle.words.specs.Proposals.{proposal_reads, proposal_in, certificate_reads, certificate_in}
use Rattle.words.specs.Words.{word}
use Rattle.words.specs.declared.places.TheConstants.{STATE_LOOKBACK, STATE_MARGIN}
use Rattle.storing.specs.declared.signed.TheConstants.{SETTINGS, MESSAGE_HEAD}
use Rattle.storing.specs.Bytes.{bytes_of}

-- ---- the run: its settings and its number

-- the filled settings that a state's words w tell: words 1 to 19, and the margin
abbrev pub settings_words : List ℕ → List ℕ
settings_words w = part w STATE_LOOKBACK SETTINGS ++ word w STATE_MARGIN ∷ []

-- the 88 bytes of its settings and its number, the low half first
unfoldable pub run_bytes : List ℕ → ℕ → List ℕ
run_bytes w run = bytes_of (settings_words w ++ run % 4294967296 ∷ run / 4294967296 ∷ [])

-- what tells a run from every other: a digest over its settings and its number, the low half first
unfoldable pub run_digest : List ℕ → ℕ → List ℕ
run_digest w run =
    sha256 (bytes_of (settings_words w ++ run % 4294967296 ∷ run / 4294967296 ∷ []))

-- ---- messages

-- the sixteen words of a proposal: those of transactions beyond their number are 0
unfoldable pub proposal_words : Proposal → List ℕ
proposal_words p = (p.author.0 ∷ p.round ∷ []) ++ body_words p.body

-- the mark, the run and the words
unfoldable pub message : ℕ → List ℕ → ℕ → List ℕ → List ℕ
message mark w run x = bytes_of (mark ∷ []) ++ run_digest w run ++ bytes_of x

-- how many bytes are signed, of so many words
abbrev pub message_length : ℕ → ℕ
message_length n = 4 * (MESSAGE_HEAD + n)

-- ---- asked for with a state's words w, the words x of a proposal or of a certificate, and n bytes to write to

-- fewer words than a state has, words that tell no proposal or certificate, no room; what the state's words say is not asked
abbrev pub message_checks : List ℕ → Bool → ℕ → ℕ → Checks
message_checks w reads needed n =
    (nat_lt (length w) state_length, 101)
    ∷ (not reads, 101)
    ∷ (nat_lt n (message_length needed), 102)
    ∷ []

-- of a proposal, or of an endorsement of it
unfoldable pub proposal_message_refusal : List ℕ → List ℕ → ℕ → ℕ
proposal_message_refusal w x n =
    refusal (message_checks w (proposal_reads x) proposal_length n)

unfoldable pub certificate_message_refusal : List ℕ → List ℕ → ℕ → ℕ
certificate_message_refusal w x n =
    refusal (message_checks w (certificate_reads x) certificate_length n)

-- the bytes of a proposal that words x tell
unfoldable pub proposal_message : ℕ → List ℕ → ℕ → List ℕ → List ℕ
proposal_message mark w run x = message mark w run (proposal_words (proposal_in x))

-- those of a certificate have its endorsers behind them
unfoldable pub certificate_message : ℕ → List ℕ → ℕ → List ℕ → List ℕ
certificate_message mark w run x =
    message mark w run
    (proposal_words (certificate_in x).proposal ++ (certificate_in x).endorsers ∷ [])

-- the bytes b afterwards: the rest of them stays
unfoldable pub proposal_message_over : ℕ → List ℕ → ℕ → List ℕ → List ℕ → List ℕ
proposal_message_over mark w run x b =
    if proposal_message_refusal w x (length b) == 0
    then paste b 0 (proposal_message mark w run x) (message_length proposal_length)
    else b

unfoldable pub certificate_message_over : ℕ → List ℕ → ℕ → List ℕ → List ℕ → List ℕ
certificate_message_over mark w run x b =
    if certificate_message_refusal w x (length b) == 0
    then paste b 0 (certificate_message mark w run x) (message_length certificate_length)
    else b
