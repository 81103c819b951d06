-- What the claims of a host's accepted batch speak of (batching::theorems): what accept would have answered to a record at its turn.
use Rattle.std.specs.Prelude.{◌≡◌, List, [], ◌∷◌, ◌++◌, ℕ, get_or}
use Rattle.words.specs.Proposals.{certificate_reads, certificate_in}
use Rattle.words.specs.States.{state_in}
use Rattle.engine.specs.Calls.{accept}
use Rattle.hosting.specs.Calls.{result_of}
use Rattle.batch.specs.Turns.{leaves}
use Rattle.batch.specs.Batch.{turns_of, table_after}
use Rattle.batching.specs.declared.rows.CertificateRecord.{CertificateRecord}
use Rattle.batching.specs.Rows.{no_record, record_words, row_of}
use Rattle.batching.specs.Batched.{batch_result}

-- what forgelilac_accept answers to a record's words, on the state's words w and the table t
abbrev pub accept_answer : List ℕ → List ℕ → CertificateRecord → ℕ
accept_answer w t e =
    (result_of w t [] (certificate_reads (record_words e))
    (accept (certificate_in (record_words e)))).refusal

module _ (w t : List ℕ) (row : List CertificateRecord) (answers : List ℕ) where
  abbrev pub record_of : ℕ → CertificateRecord
  record_of q = get_or row q no_record

  -- the table that the turns of l leave
  abbrev pub left_by : List ℕ → List ℕ
  left_by l = leaves (table_after (state_in w) (row_of row)) l t

  -- place q has its turn after those of former, and gets what accept answers on the table that they left
  pub record AtItsTurn (q : ℕ) : Type 0 where
    pub former : List ℕ
    pub latter : List ℕ
    pub turn : turns_of (row_of row) ≡ former ++ (q ∷ latter)
    pub answer : get_or (batch_result w t row answers).out q 0
        ≡ accept_answer w (left_by former) (record_of q)
