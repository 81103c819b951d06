-- The chain that is told: its blocks, as the rules speak of them.
use Rattle.agreement.specs.Rules.{Chain as Blocks}
use Rattle.terms.specs.Proposals.{Content}
use Rattle.committee.specs.Chain.{chain_of}
use Rattle.chain_committees.specs.declared.chain.Chain.{Chain}

abbrev pub blocks_in : Chain → Blocks Content
blocks_in c = chain_of c.settings.now.ceiling c.table.now c.blocks
