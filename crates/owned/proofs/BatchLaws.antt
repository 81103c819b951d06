-- Laws of the owner's batch: what a turn leaves, and which batch is refused.
use Rattle.std.proofs.Common.{◌≡◌, refl, sym, ap, Bool, true, false, cond, ◌||◌, List, [], ◌∷◌, ◌⊎◌, inl, inr, ℕ, ◌<◌, ◌≤◌, arith, ltb, length, lt-ltb, le-ltb}
use Rattle.base.proofs.Words.{or-true}
use Rattle.base.specs.Checks.{refusal}
use Rattle.state.specs.WellFormed.{well_formed}
use Rattle.engine.specs.Calls.{accept}
use Rattle.words.specs.States.{state_reads, state_in}
use Rattle.words.specs.Proposals.{certificate_reads, certificate_in}
use Rattle.batch.specs.Batch.{batch_refusal}
use Rattle.hosting.specs.Calls.{plain, Done, Result}
use Rattle.hosting.specs.HostCalls as hosts
use Rattle.hosting.specs.HostCalls.{comes_to}
use Rattle.batching.specs.declared.rows.CertificateRecord.{CertificateRecord}
use Rattle.batching.specs.Rows.{record_words, certificate_of}
use Rattle.batching.specs.TakenTurns.{number_of, table_of, AllTaken}
use Rattle.batching.specs.Batched.{batch_result}
use Rattle.batching.proofs.DoneLaws as done
use Rattle.owned.specs.Owned.{Owned}
use Rattle.hosting.proofs.Answered.{result_read, result_unread}

-- ---- one turn

module _ (w t : List ℕ) (reads : state_reads w ≡ true) (e : CertificateRecord) where
  abbrev offered : Result
  offered = comes_to w t (hosts.accept (record_words e))

  pub record Turned : Type 0 where
    pub answer : offered.refusal ≡ number_of (state_in w) t (certificate_of e)
    pub table : offered.table ≡ table_of (state_in w) t (certificate_of e)

  pub turned : Turned
  unfolding certificate_of
  turned = go (certificate_reads (record_words e)) refl
    where
      go : (b : Bool) → certificate_reads (record_words e) ≡ b → Turned
      go true h =
          let c = accept (certificate_in (record_words e)) in
          let r = result_read w t [] true c (rw reads refl) in
          record { answer = rw h (ap (λ (x : Result). x.refusal) r); table = rw h (ap (λ (x : Result). x.table) r) }
      go false h =
          let c = accept (certificate_in (record_words e)) in
          let r = result_unread w t [] false c (rw reads refl) in
          record { answer = rw h (ap (λ (x : Result). x.refusal) r); table = rw h (ap (λ (x : Result). x.table) r) }

-- ---- what is done

module _ (w t k : List ℕ) (h : Owned w t k) (row : List CertificateRecord) (answers : List ℕ) where
  -- an owned state is well formed
  formed : well_formed (state_in w) t ≡ true
  formed = sym h.cached.form

  number : batch_refusal (state_in w) t (length row) (length answers) ≡ cond (ltb 64 (length row) || ltb (length answers) (length row)) 25 0
  unfolding batch_refusal refusal
  number = rw formed (go (ltb 64 (length row) || ltb (length answers) (length row)))
    where
      go : (b : Bool) → refusal ((false, 1) ∷ (b, 25) ∷ []) ≡ cond b 25 0
      go true = refl
      go false = refl

  -- refused: nothing is tried
  pub done_refused : (64 < length row) ⊎ (length answers < length row) → Done plain (batch_result w t row answers) 25 w t answers
  done_refused x = done.done_refused w t row answers h.reads (sym (rw (some x) at number)) (λ z. omega arith)
    where
      some : (64 < length row) ⊎ (length answers < length row) → (ltb 64 (length row) || ltb (length answers) (length row)) ≡ true
      some (inl y) = rw (lt-ltb 64 (length row) y) refl
      some (inr y) = rw (lt-ltb (length answers) (length row) y) (or-true (ltb 64 (length row)))

  pub done_taken : {u out : List ℕ} → length row ≤ 64 → length row ≤ length answers → AllTaken (state_in w) t row answers u out → Done plain (batch_result w t row answers) 0 w u out
  done_taken few room x = done.done_taken w t row answers h.reads (rw (le-ltb 64 (length row) few, le-ltb (length answers) (length row) room) at number) x
