-- The order inside a block by keys: 16 for each round, and in it the place of a member from the first one on.
use Rattle.std.specs.Prelude.{List, [], ◌++◌, ℕ, zero, suc, ◌+◌, ◌/◌, ◌%◌}
use Rattle.agreement.specs.Rules.{Block}
use Rattle.terms.specs.Proposals.{Content}
use Rattle.committee.specs.Changes.{at_most_one}

-- the certificates of the n keys from 16 on, as they rise: the key 16 * r + i has the certificate of round r by member a + i, with 0 after 15
unfoldable pub by_keys : Block Content → ℕ → ℕ → List Content
by_keys b a zero = []
by_keys b a (suc n) = by_keys b a n ++ at_most_one (b.holds ((n + 16 + a) % 16) ((n + 16) / 16))
