-- A row of certificate records: the words of each, and what it offers.
use Rattle.std.specs.Prelude.{if◌then◌else◌, List, [], ◌∷◌, ◌++◌, ℕ, length, get_or, Option, Some, None}
use Rattle.terms.specs.declared.Certificate.{Certificate}
use Rattle.words.specs.Proposals.{certificate_reads, certificate_in}
use Rattle.batch.specs.Batch.{Offer, Row}
use Rattle.batching.specs.declared.rows.CertificateRecord.{CertificateRecord}

-- the seventeen words of a certificate, in their order
unfoldable pub record_words : CertificateRecord → List ℕ
record_words e = (e.author ∷ e.round ∷ []) ++ e.body ++ (e.endorsers ∷ [])

-- the certificate that they give, none where they cannot be read
unfoldable pub certificate_of : CertificateRecord → Option Certificate
certificate_of e =
    if certificate_reads (record_words e) then Some (certificate_in (record_words e))
    else None

-- what stands there in a row that is too short
abbrev pub no_record : CertificateRecord
no_record = record { author = 0; round = 0; body = []; endorsers = 0 }

-- tried by its words for round and author, whatever they are
abbrev pub offer_of : CertificateRecord → Offer
offer_of e = record {
  key = record { round = e.round; author = e.author };
  certificate = certificate_of e;
}

abbrev pub row_of : List CertificateRecord → Row
row_of l = record { count = length l; at = λ p. offer_of (get_or l p no_record) }
