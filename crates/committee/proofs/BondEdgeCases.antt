-- The table of bonds by numbers holds.
use Rattle.std.proofs.Common.{◌≡◌, refl, true}
use Rattle.base.specs.Folds.{fold_to, sum_to, tab}
use Rattle.committee.specs.Shares.{even_neighbour, rounded, nearest, share_of}
use Rattle.committee.specs.Edges.{agree}
use Rattle.committee.specs.BondEffects.{shares_of, largest_to, bond_effect}
use Rattle.committee.specs.BondEdges.{sole, alike, heavy, before, after, cases}

pub bond_edges : agree cases ≡ true
unfolding agree cases sole alike heavy before after bond_effect shares_of largest_to share_of nearest rounded even_neighbour fold_to sum_to tab
bond_edges = refl
