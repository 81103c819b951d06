-- What a block of a chain holds, by its number.
use Rattle.std.specs.Prelude.{if◌then◌else◌, List, [], ◌∷◌, ℕ, suc, ◌==◌, length}
use Rattle.agreement.specs.Rules.{Chain}
use Rattle.agreement.specs.Prefixes.{block_numbered}
use Rattle.terms.specs.Proposals.{Content}
use Rattle.terms.specs.declared.sheet.Settings.{Settings}
use Rattle.committee.specs.Committees.{ordered}
use Rattle.rules.specs.Reads.{round_of}

-- the certificates of block k of a chain, the oldest being block 1, in the block's order; none where there is no such block
unfoldable pub contents_of : Settings → Chain Content → ℕ → List Content
contents_of S [] k = []
contents_of S (b ∷ c) k = if k == suc (length c) then ordered S b c else contents_of S c k

-- block k of a chain, with its round and what it holds
abbrev pub numbered_contents : Settings → Chain Content → ℕ → ℕ × List Content
numbered_contents S c k = (round_of (block_numbered c k), contents_of S c k)
