-- What the certificate read shows is the held certificate as accept takes it: a host can pass it on as it is.
use Rattle.std.proofs.Common.{◌≡◌, refl, sym, ap, ◌∙◌, true, List, [], ◌∷◌, ◌++◌, ℕ, zero, suc, ◌+◌, ◌<◌, ◌≤◌, arith, length, length-append, leb, ltb, lt-ltb, le-leb, leb-true}
use Rattle.base.proofs.Words.{paste, length-paste}
use Rattle.base.proofs.Bools.{both}
use Rattle.base.proofs.PasteLaws.{paste-inside}
use Rattle.base.specs.Folds.{tab}
use Rattle.base.proofs.FoldLaws.{tab-same}
use Rattle.base.proofs.TestLaws.{all_hold}
use Rattle.terms.specs.declared.Member.{Member}
use Rattle.terms.specs.declared.Round.{Round}
use Rattle.terms.specs.declared.Transaction.{Transaction}
use Rattle.terms.specs.declared.Body.{Body}
use Rattle.terms.specs.declared.Proposal.{Proposal}
use Rattle.terms.specs.declared.Certificate.{Certificate}
use Rattle.terms.specs.Proposals.{slot_of, transactions_of, content_of}
use Rattle.terms.proofs.ProposalLaws.{slot-tab}
use Rattle.terms.specs.Bodies.{body_of}
use Rattle.store.specs.Table.{content_at, endorsers_at, mark_at, proposal_of}
use Rattle.store.proofs.TableLaws.{content-previous, previous_lt, endorsers_lt}
use Rattle.store.proofs.RecordLaws.{proposal-few, proposal-content}
use Rattle.reads.specs.declared.Held.{Held}
use Rattle.reads.specs.Reads.{certificate_refusal}
use Rattle.reads.specs.Held.{certificate_read}
use Rattle.reads.proofs.CertificateReadLaws.{certificate-passed, held-told}
use Rattle.engine.specs.Calls.{aside, certificate}
use Rattle.engine.proofs.ValueLaws.{value-accepted}
use Rattle.words.specs.Lengths.{proposal_length, certificate_length, held_length}
use Rattle.words.specs.Words.{word}
use Rattle.words.specs.Bodies.{triple_reads, body_reads, slot_in, body_in, used_of, used_words, body_words}
use Rattle.words.specs.Proposals.{proposal_reads, proposal_in, certificate_reads, certificate_in, held_words}
use Rattle.words.specs.States.{state_reads, state_in}
use Rattle.words.proofs.BodyLaws.{length-body}
use Rattle.words.proofs.SameLaws.{Agree, body_same, body-reads-same}
use Rattle.words.specs.TidyStates.{tidy_body}
use Rattle.words.proofs.BackLaws.{used_back, triple-reads, either}
use Rattle.hosting.specs.Calls.{engine_in, result_of}
use Rattle.hosting.specs.Held.{PassesOn}
use Rattle.hosting.proofs.CallLaws.{accepted-call}

module _ (p : Proposal) (d k : ℕ) where
  length-held : length (held_words p d k) ≡ held_length
  unfolding held_words
  length-held =
      let head = p.author.0 ∷ p.round ∷ [] in
      length-append (head ++ body_words p.body) (d ∷ k ∷ [])
      ∙ ap (λ (n : ℕ). n + 2) (length-append head (body_words p.body) ∙ ap (λ (n : ℕ). 2 + n) (length-body p.body))

  body_back : body_in (held_words p d k) 2 ≡ tidy_body p.body
  unfolding body_in slot_in held_words body_words used_words tab tidy_body
  body_back = let b = p.body in rw (used_back b 0, used_back b 1, used_back b 2, used_back b 3) refl

  words_back : (word (held_words p d k) 0 ≡ p.author.0) × ((word (held_words p d k) 1 ≡ p.round) × ((word (held_words p d k) 2 ≡ p.body.previous) × (word (held_words p d k) proposal_length ≡ d)))
  unfolding held_words body_words used_words
  words_back = (refl, (refl, (refl, refl)))

  triple-read : (j : ℕ) → j < 4 → triple_reads (held_words p d k) 2 j ≡ true
  unfolding triple_reads held_words body_words used_words
  triple-read zero h = either (ltb 0 p.body.count) (triple-reads (used_of p.body 0))
  triple-read (suc zero) h = either (ltb 1 p.body.count) (triple-reads (used_of p.body 1))
  triple-read (suc (suc zero)) h = either (ltb 2 p.body.count) (triple-reads (used_of p.body 2))
  triple-read (suc (suc (suc zero))) h = either (ltb 3 p.body.count) (triple-reads (used_of p.body 3))
  triple-read (suc (suc (suc (suc j)))) h = absurd (omega arith)

  body-read : p.body.previous < 65536 → body_reads (held_words p d k) 2 ≡ true
  unfolding body_reads
  body-read h = rw (words_back.1.1.0, lt-ltb p.body.previous 65536 h) (all_hold (triple_reads (held_words p d k) 2) 4 triple-read)

  module _ (o : List ℕ) (l : held_length ≤ length o) where
    agree : Agree held_length (paste o 0 (held_words p d k) held_length) (held_words p d k)
    agree j h = let e : 0 + j ≡ j = omega arith in rw e at (paste-inside o 0 (held_words p d k) held_length l length-held j h)

    -- it can be read as a certificate
    held_reads : p.body.previous < 65536 → d < 65536 → certificate_reads (paste o 0 (held_words p d k) held_length) ≡ true
    unfolding certificate_reads proposal_reads
    held_reads h f =
        let u = paste o 0 (held_words p d k) held_length in
        let m = length-held in
        let n = length-paste o 0 (held_words p d k) held_length l (omega arith) in
        rw (
          le-leb certificate_length (length u) (omega arith),
          le-leb proposal_length (length u) (omega arith),
          agree proposal_length (omega arith) ∙ words_back.1.1.1,
          lt-ltb d 65536 f,
          body-reads-same held_length u (held_words p d k) agree 2 (omega arith),
          body-read h,
        )
        refl

    -- and gives the proposal, as its words tell it, and the endorsers
    held_gives : ◌≡◌ {A = Certificate} (certificate_in (paste o 0 (held_words p d k) held_length)) (record { proposal = record { author = p.author; round = p.round; body = tidy_body p.body }; endorsers = d })
    unfolding certificate_in proposal_in
    held_gives =
        rw (
          agree 0 (omega arith) ∙ words_back.0,
          agree 1 (omega arith) ∙ words_back.1.0,
          agree proposal_length (omega arith) ∙ words_back.1.1.1,
          body_same held_length (paste o 0 (held_words p d k) held_length) (held_words p d k) agree 2 (omega arith),
          body_back,
        )
        refl

-- the transactions of a body are those of its used slots
tidy-transactions : (b : Body) → b.count ≤ 4 → transactions_of (tidy_body b) ≡ transactions_of b
unfolding transactions_of tidy_body used_of
tidy-transactions b few =
    tab-same (slot_of (tidy_body b)) (slot_of b) b.count
    (λ k h. slot-tab b.previous b.count (used_of b) k (omega arith) ∙ rw (lt-ltb k b.count h) refl)

tidy-content : (p : Proposal) → p.body.count ≤ 4 → content_of (record { author = p.author; round = p.round; body = tidy_body p.body }) ≡ content_of p
unfolding tidy_body
tidy-content p few = ap (λ (l : List Transaction). record { author = p.author.0; round = p.round; previous = p.body.previous; transactions = l }) (tidy-transactions p.body few)

shown-passes : (t : List ℕ) (a r k : ℕ) (o : List ℕ) → held_length ≤ length o → PassesOn t a r (paste o 0 (held_words (proposal_of (content_at t a r)) (endorsers_at t a r) k) held_length)
unfolding proposal_of body_of
shown-passes t a r k o l =
    let p = proposal_of (content_at t a r) in
    let d = endorsers_at t a r in
    let g = held_gives p d k o l in
    record {
      reads = held_reads p d k o l (rw (content-previous t a r) (previous_lt t a r)) (endorsers_lt t a r);
      proposal = rw g (tidy-content p (proposal-few t a r refl) ∙ proposal-content t a r refl);
      endorsers = rw g refl;
    }

-- what an accepted read writes
pub passes_on : (w t o : List ℕ) (m : Member) (r : Round) → (result_of w t o true (aside (certificate m r))).refusal ≡ 0 → PassesOn t m.0 r (result_of w t o true (aside (certificate m r))).out
unfolding certificate_refusal certificate_read
passes_on w t o m r z =
    let a = accepted-call w t o true (aside (certificate m r)) z in
    let k = certificate-passed (state_in w) t m.0 r a.accepted in
    let told = sym (held-told (state_in w) t m.0 r k.well k.from k.to k.held refl refl refl) in
    rw (a.its_out, value-accepted (engine_in w t) (aside (certificate m r)) a.accepted, ap (λ (h : Held). paste o 0 (held_words h.proposal h.endorsers h.block) held_length) told)
    (shown-passes t m.0 r (mark_at t m.0 r) o (leb-true held_length (length o) (both (state_reads w) (leb held_length (length o)) a.serving).1))
