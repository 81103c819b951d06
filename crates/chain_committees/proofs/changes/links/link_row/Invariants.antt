use Rattle.std.proofs.Common.{◌≡◌, ℕ, ◌+◌, ◌*◌}
use Rattle.chain_committees.specs.Links.{Links}
use Rattle.chain_committees.proofs.changes.links.link_row.Given as goal

-- the last i places of the row are linked
abbrev pub invariant-loop-i : goal.invariant-loop-i
invariant-loop-i l = let end = l.round * 16 + 16 in (a e : ℕ) → a + l.i ≡ end → Links l.table end e l.initial.head l.initial.next → Links l.table a e l.head l.next
