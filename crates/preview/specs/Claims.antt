-- What is claimed of a preview: it is refused with commit's number, or its entries are exactly what the chain after that commit has beyond the chain before; and there is always room for them.
use Rattle.std.specs.Prelude.{◌≡◌, List, [], ◌∷◌, ◌++◌, ℕ, suc}
use Rattle.agreement.specs.Rules.{Chain}
use Rattle.agreement.specs.Listing.{listing}
use Rattle.terms.specs.Proposals.{Content}
use Rattle.terms.specs.declared.sheet.Settings.{Settings}
use Rattle.committee.specs.Committees.{ordered}
use Rattle.preview.specs.Entries.{Entry, entries_of}

-- the entries of listed blocks, which come after the first k
unfoldable pub listed_entries : ℕ → List (ℕ × List Content) → List Entry
listed_entries k [] = []
listed_entries k (x ∷ l) = entries_of (suc k) x.1 ++ listed_entries (suc k) l

-- the chain d lists what c, which has k blocks, lists, and then blocks with these entries
pub record ListsBeyond (S : Settings) (k : ℕ) (c d : Chain Content) (entries : List Entry) : Type 0
  where
    pub more : List (ℕ × List Content)
    pub lists : listing (ordered S) d ≡ listing (ordered S) c ++ more
    pub told : listed_entries k more ≡ entries
