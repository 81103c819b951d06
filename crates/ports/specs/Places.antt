-- The lines of a chain, each with the place of its certificate: 16 r + m for member m and round r.
use Rattle.std.specs.Prelude.{List, [], ◌∷◌, ◌++◌, ℕ, ◌+◌, ◌*◌, ◌/◌, ◌%◌, ◌≤◌, length}
use Rattle.agreement.specs.Rules.{Chain}
use Rattle.terms.specs.Proposals.{Content}
use Rattle.store.specs.Table.{Within, Row, mark_at, block_round, content_at}
use Rattle.terms.specs.declared.sheet.Settings.{Settings}
use Rattle.committee.specs.Committees.{ordered}
use Rattle.listing.specs.Lines.{listing_line}
use Rattle.ports.specs.Cursors.{Lines}

-- those of certificates of block k, of round b, in order
unfoldable pub content_places : ℕ → ℕ → List Content → Lines
content_places k b [] = []
content_places k b (p ∷ l) =
    (p.round * 16 + p.author, listing_line k b p.round p.author p.transactions)
    ∷ content_places k b l

-- those of a chain, block by block from 1
unfoldable pub lines_of : Settings → Chain Content → Lines
lines_of S [] = []
lines_of S (b ∷ c) = lines_of S c ++ content_places (length c + 1) b.round (ordered S b c)

-- the line of the certificate at a place, by its mark
unfoldable pub line_at : List ℕ → ℕ → ℕ → List ℕ
line_at t m r =
    listing_line (mark_at t m r) (block_round t (mark_at t m r)) r m (content_at t m r).transactions

-- a place whose record and whose block's round are in the table
pub record HasLine (t : List ℕ) (p : ℕ) : Type 0 where
  pub within : Within t (p % 16) (p / 16)
  pub block : Row t (mark_at t (p % 16) (p / 16))

-- and room for its line
pub record LineRoom (t : List ℕ) (p : ℕ) (out : List ℕ) : Type 0 where
  pub has : HasLine t p
  pub room : 141 ≤ length out
