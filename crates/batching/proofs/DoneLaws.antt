-- A batch comes to what is defined: the answer, the table and every word of the answers, refusals included.
use Rattle.std.proofs.Common.{◌≡◌, refl, sym, ◌∙◌, true, false, List, ◌≢◌, ℕ, length}
use Rattle.words.specs.States.{state_reads, state_in}
use Rattle.batch.specs.Batch.{batch_refusal}
use Rattle.batch.proofs.BatchLaws.{batch-refused, batch-table, batch-answers}
use Rattle.hosting.specs.Calls.{plain, Done}
use Rattle.batching.specs.declared.rows.CertificateRecord.{CertificateRecord}
use Rattle.batching.specs.Rows.{row_of}
use Rattle.batching.specs.TakenTurns.{AllTaken}
use Rattle.batching.specs.Batched.{batch_result}

module _ (w t : List ℕ) (row : List CertificateRecord) (answers : List ℕ) where
  -- the state's words mean none
  pub done_unread : state_reads w ≡ false → Done plain (batch_result w t row answers) 1 w t answers
  unfolding batch_result
  done_unread x = rw x (record { its_answer = refl; its_state = refl; its_table = refl; its_out = refl })

  module _ (reads : state_reads w ≡ true) where
    -- refused: nothing is tried
    pub done_refused : {n : ℕ} → n ≡ batch_refusal (state_in w) t (length row) (length answers) → n ≢ 0 → Done plain (batch_result w t row answers) n w t answers
    unfolding batch_result
    done_refused e d =
        let k = batch-refused (state_in w) t (row_of row) answers (λ z. d (e ∙ z)) in
        rw reads (record { its_answer = e; its_state = refl; its_table = sym k.0; its_out = sym k.1 })

    -- accepted: all turns are taken
    pub done_taken : {u out : List ℕ} → batch_refusal (state_in w) t (length row) (length answers) ≡ 0 → AllTaken (state_in w) t row answers u out → Done plain (batch_result w t row answers) 0 w u out
    unfolding batch_result
    done_taken a x =
        rw reads (record {
          its_answer = sym a;
          its_state = refl;
          its_table = x.table ∙ sym (batch-table (state_in w) t (row_of row) answers a);
          its_out = x.answers ∙ sym (batch-answers (state_in w) t (row_of row) answers a);
        })
