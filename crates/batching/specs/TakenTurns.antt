-- A turn of a batch: what it needs, what it answers and the table that it leaves; and what all turns leave.
use Rattle.std.specs.Prelude.{◌≡◌, true, List, ℕ, ◌<◌, length, Option}
use Rattle.std.proofs.Math.Seq.{paste}
use Rattle.base.specs.Options.{if_there}
use Rattle.base.specs.Folds.{tab}
use Rattle.terms.specs.declared.Certificate.{Certificate}
use Rattle.state.specs.declared.State.{State}
use Rattle.state.specs.States.{own_body}
use Rattle.state.specs.WellFormed.{well_formed}
use Rattle.state.specs.Cached.{CachesFor}
use Rattle.accept.specs.Accept.{accept_refusal, accept_table}
use Rattle.batch.specs.Batch.{tried_table, answer_at}
use Rattle.batching.specs.declared.rows.CertificateRecord.{CertificateRecord}
use Rattle.batching.specs.Rows.{row_of}

-- a turn can be taken, with these committees cached
pub record Ready (s : State) (t cache : List ℕ) : Type 0 where
  pub formed : well_formed s t ≡ true
  pub set_in_range : (own_body s).previous < 65536
  pub caches : CachesFor s t cache

module _ (s : State) (t : List ℕ) where
  -- what accept answers to a certificate, 1 where there is none to be read, and the table that it leaves
  abbrev pub number_of : Option Certificate → ℕ
  number_of o = if_there o 1 (accept_refusal s t)

  abbrev pub table_of : Option Certificate → List ℕ
  table_of o = if_there o t (accept_table s t)

  -- all turns of a row have left the table u, and of the answers o the answers p: each at its place, the rest as it was
  pub record AllTaken (row : List CertificateRecord) (o u p : List ℕ) : Type 0 where
    pub table : u ≡ tried_table s (row_of row) t
    pub answers : p ≡ paste o 0 (tab (answer_at s (row_of row) t) (length row)) (length row)
