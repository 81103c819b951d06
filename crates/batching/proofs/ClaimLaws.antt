-- The claims of a host's accepted batch.
use Rattle.std.proofs.Common.{◌≡◌, refl, sym, ap, ◌∙◌, Bool, true, false, cond, ◌&&◌, List, [], ℕ, ◌+◌, ◌<◌, arith, length, get_or, Option, Some, None}
use Rattle.base.specs.Options.{if_there}
use Rattle.base.specs.Folds.{tab}
use Rattle.base.proofs.FoldLaws.{length-tab, get_d_tab}
use Rattle.base.proofs.PasteLaws.{paste-inside}
use Rattle.terms.specs.declared.Certificate.{Certificate}
use Rattle.store.specs.Table.{held_at}
use Rattle.state.specs.declared.State.{State}
use Rattle.accept.specs.Accept.{accept_refusal}
use Rattle.words.specs.States.{state_reads, state_in}
use Rattle.words.specs.Proposals.{certificate_reads, certificate_in}
use Rattle.words.proofs.ReadingLaws.{state-read}
use Rattle.engine.specs.Calls.{accept}
use Rattle.hosting.specs.Calls.{Result, engine_in, refused, answered, result_of}
use Rattle.hosting.proofs.CallLaws.{no_out}
use Rattle.batch.specs.Turns.{Key}
use Rattle.batch.proofs.OrderLaws.{each_has_one_turn}
use Rattle.batch.proofs.AnswerLaws.{turn-parts, answer-once}
use Rattle.batch.specs.Batch.{batch_refusal, number_on, table_after, tried_table, answer_at}
use Rattle.batch.proofs.BatchLaws.{batch-passed, batch-table, batch-answers}
use Rattle.batch.proofs.AgainLaws.{eleven_again_or_seventeen}
use Rattle.batching.specs.declared.rows.CertificateRecord.{CertificateRecord}
use Rattle.batching.specs.Rows.{no_record, record_words, certificate_of, row_of}
use Rattle.batching.proofs.RecordLaws.{row_reads}
use Rattle.batching.specs.Batched as batched
use Rattle.batching.specs.Batched.{batch_result}
use Rattle.batching.specs.Claims.{accept_answer, left_by, record_of, AtItsTurn}

-- what accept answers to a record: 1 where its words cannot be read
accept-answer : (w t : List ℕ) → state_reads w ≡ true → (e : CertificateRecord) → accept_answer w t e ≡ if_there (certificate_of e) 1 (accept_refusal (state_in w) t)
unfolding result_of certificate_of
accept-answer w t r e = ap (λ (z : Bool). (cond (z && certificate_reads (record_words e)) of-engine unread).refusal) (no_out r) ∙ go (certificate_reads (record_words e))
  where
    of-engine : Result
    of-engine = answered w t [] (engine_in w t) (accept (certificate_in (record_words e)))

    unread : Result
    unread = refused w t [] 1

    go : (b : Bool) → (cond b of-engine unread).refusal ≡ if_there (cond b (Some (certificate_in (record_words e))) None) 1 (accept_refusal (state_in w) t)
    go true = refl
    go false = refl

module _ (w t : List ℕ) (row : List CertificateRecord) (answers : List ℕ) (a : (batch_result w t row answers).refusal ≡ 0) where
  abbrev s : State
  s = state_in w

  abbrev n : ℕ
  n = length row

  can_read : state_reads w ≡ true
  unfolding batch_result
  can_read = go (state_reads w) a
    where
      go : (b : Bool) → (cond b (batched.answered w t row answers) (refused w t answers 1)).refusal ≡ 0 → b ≡ true
      go true h = refl
      go false h = absurd (omega arith)

  accepted : batch_refusal s t n (length answers) ≡ 0
  unfolding batch_result
  accepted = rw can_read at a

  -- the table and the answers that it left
  table-left : (batch_result w t row answers).table ≡ tried_table s (row_of row) t
  unfolding batch_result
  table-left = rw can_read (batch-table s t (row_of row) answers accepted)

  answer-left : (q : ℕ) → q < n → get_or (batch_result w t row answers).out q 0 ≡ answer_at s (row_of row) t q
  unfolding batch_result
  answer-left q h =
      let f = answer_at s (row_of row) t in
      let p = batch-passed s t n (length answers) accepted in
      let z : 0 + q ≡ q = omega arith in
      rw (can_read, batch-answers s t (row_of row) answers accepted) (rw z at (paste-inside answers 0 (tab f n) n (omega (arith, p.2)) (length-tab f n) q h) ∙ get_d_tab f n q 0 h)

  at-its-turn : (q : ℕ) → q < n → AtItsTurn w t row answers q
  at-its-turn q h =
      let one = each_has_one_turn (λ p. ((row_of row).at p).key) n in
      let p = turn-parts one q h in
      record {
        former = p.former;
        latter = p.latter;
        turn = p.whole;
        answer = answer-left q h ∙ answer-once one p.former q p.latter p.whole (table_after s (row_of row)) (number_on s (row_of row)) t ∙ sym (accept-answer w (left_by w t row answers p.former) can_read (record_of w t row answers q));
      }

-- the claims, of every accepted batch
pub answered_as_accept : (w t : List ℕ) (row : List CertificateRecord) (answers : List ℕ) → (batch_result w t row answers).refusal ≡ 0 → (q : ℕ) → q < length row → AtItsTurn w t row answers q
answered_as_accept w t row answers a q h = at-its-turn w t row answers a q h

pub offered_again : (w t : List ℕ) (row : List CertificateRecord) (answers : List ℕ) → (batch_result w t row answers).refusal ≡ 0 → (q : ℕ) → q < length row → get_or (batch_result w t row answers).out q 0 ≡ 11 → let u = (batch_result w t row answers).table in let e = get_or row q no_record in accept_answer w u e ≡ cond (held_at u e.author e.round) 17 11
offered_again w t row answers a q h e = rw (table-left w t row answers a) (go (certificate_of d) refl)
  where
    d : CertificateRecord
    d = get_or row q no_record

    left : List ℕ
    left = tried_table (state_in w) (row_of row) t

    reads : state_reads w ≡ true
    reads = can_read w t row answers a

    go : (o : Option Certificate) → certificate_of d ≡ o → accept_answer w left d ≡ cond (held_at left d.author d.round) 17 11
    go None x =
        let y = at-its-turn w t row answers a q h in
        let z = sym e ∙ y.answer ∙ accept-answer w (left_by w t row answers y.former) reads d ∙ ap (λ (o : Option Certificate). if_there o 1 (accept_refusal (state_in w) (left_by w t row answers y.former))) x in
        absurd (omega arith)
    go (Some c) x =
        let r = row_reads row in
        let y = eleven_again_or_seventeen (state_in w) t (row_of row) (length answers) r (state-read w reads).set (accepted w t row answers a) q c h x (sym (answer-left w t row answers a q h) ∙ e) in
        accept-answer w left reads d ∙ ap (λ (o : Option Certificate). if_there o 1 (accept_refusal (state_in w) left)) x ∙ y.number ∙ ap (λ (k : Key). cond (held_at left k.author k.round) 17 11) (sym (r.keyed q c x))
