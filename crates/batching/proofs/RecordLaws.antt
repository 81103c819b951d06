-- Laws of a record's words: put piece by piece, and what they give of a row.
use Rattle.std.proofs.Common.{◌≡◌, refl, sym, ap, ◌∙◌, Bool, true, false, cond, List, [], ◌∷◌, ◌++◌, ℕ, ◌+◌, arith, length, get_or, length-append, Some, None}
use Rattle.std.proofs.lemmas.Option.{same_Some, none-some}
use Rattle.base.proofs.Words.{paste}
use Rattle.base.proofs.PasteLaws.{paste-whole}
use Rattle.words.proofs.PasteLaws.{paste-append}
use Rattle.terms.specs.declared.Certificate.{Certificate}
use Rattle.words.specs.Proposals.{proposal_in, certificate_reads, certificate_in}
use Rattle.engine.specs.Calls.{accept, InRange}
use Rattle.hosting.proofs.HandedLaws.{accept-handed}
use Rattle.batch.specs.Batch.{key_of}
use Rattle.batch.specs.Again.{RowReads}
use Rattle.batching.specs.declared.rows.CertificateRecord.{CertificateRecord}
use Rattle.batching.specs.Rows.{record_words, certificate_of, no_record, offer_of, row_of}

pub length_record : (e : CertificateRecord) → length e.body ≡ 14 → length (record_words e) ≡ 17
unfolding record_words
length_record e h = length-append ((e.author ∷ e.round ∷ []) ++ e.body) (e.endorsers ∷ []) ∙ ap (λ (z : ℕ). z + 1) (length-append (e.author ∷ e.round ∷ []) e.body ∙ ap (λ (z : ℕ). 2 + z) h)

-- the pieces of a record's words, one after the other
pub record_put : (e : CertificateRecord) (t : List ℕ) → length e.body ≡ 14 → length t ≡ 17
    → paste (paste (paste t 0 (e.author ∷ e.round ∷ []) 2) 2 e.body (length e.body)) 16 (e.endorsers ∷ []) 1 ≡ record_words e
unfolding record_words
record_put e t h n =
    let head = e.author ∷ e.round ∷ [] in
    rw h (ap (λ (z : List ℕ). paste z 16 (e.endorsers ∷ []) 1) (paste-append t 0 head e.body 2 14 refl (omega arith))
    ∙ paste-append t 0 (head ++ e.body) (e.endorsers ∷ []) 16 1 (length-append head e.body ∙ ap (λ (z : ℕ). 2 + z) h) (omega arith)
    ∙ paste-whole t (head ++ e.body ++ (e.endorsers ∷ [])) 17 n (length_record e h))

-- what a record offers is the certificate of its words, which can be read
pub offered-by : (e : CertificateRecord) (c : Certificate) → certificate_of e ≡ Some c → (certificate_reads (record_words e) ≡ true) × (c ≡ certificate_in (record_words e))
unfolding certificate_of
offered-by e c h = go (certificate_reads (record_words e)) h
  where
    go : (b : Bool) → cond b (Some (certificate_in (record_words e))) None ≡ Some c → (b ≡ true) × (c ≡ certificate_in (record_words e))
    go true x = (refl, sym (same_Some (certificate_in (record_words e)) c x))
    go false x = absurd (none-some c x)

-- its key is that of the certificate
record_key : (e : CertificateRecord) → (offer_of e).key ≡ key_of (certificate_in (record_words e))
unfolding certificate_in proposal_in record_words
record_key e = refl

-- a row of records is one whose certificates are tried by their own round and author
pub row_reads : (l : List CertificateRecord) → RowReads (row_of l)
row_reads l =
    record {
      keyed = λ p c h. let o = offered-by (get_or l p no_record) c h in record_key (get_or l p no_record) ∙ ap key_of (sym o.1);
      previous = λ p c h. (sets (get_or l p no_record) c h).0;
      endorsers = λ p c h. (sets (get_or l p no_record) c h).1;
    }
  where
    sets : (e : CertificateRecord) (c : Certificate) → certificate_of e ≡ Some c → InRange (accept c)
    sets e c h = let o = offered-by e c h in rw o.1 ((accept-handed (record_words e)).is_in_range o.0)
