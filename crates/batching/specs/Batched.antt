-- A host's batch: the complete answer, and what the stretches that it lends hold afterwards, refusals included.
use Rattle.std.specs.Prelude.{if◌then◌else◌, List, ℕ, length}
use Rattle.batch.specs.Batch.{batch_refusal, batch_table, batch_answers}
use Rattle.words.specs.States.{state_reads, state_in}
use Rattle.hosting.specs.Calls.{Result, refused}
use Rattle.batching.specs.declared.rows.CertificateRecord.{CertificateRecord}
use Rattle.batching.specs.Rows.{row_of}

module _ (w t : List ℕ) (row : List CertificateRecord) (answers : List ℕ) where
  -- on a state whose words can be read
  abbrev pub answered : Result
  answered =
      record {
        refusal = batch_refusal (state_in w) t (length row) (length answers);
        value = 0;
        state = w;
        table = batch_table (state_in w) t (row_of row) answers;
        out = batch_answers (state_in w) t (row_of row) answers;
      }

  unfoldable pub batch_result : Result
  batch_result = if state_reads w then answered else refused w t answers 1
