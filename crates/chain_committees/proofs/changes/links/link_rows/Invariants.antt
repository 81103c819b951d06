use Rattle.std.proofs.Common.{◌≡◌, ℕ, ◌+◌, ◌*◌}
use Rattle.chain_committees.specs.Links.{Links}
use Rattle.chain_committees.proofs.changes.links.link_rows.Given as goal

-- the last i rows are linked
abbrev pub invariant-loop-i : goal.invariant-loop-i
invariant-loop-i l = (a : ℕ) → a + l.i * 16 ≡ l.fn.ceiling * 16 + 16 → Links l.table a (l.fn.ceiling * 16 + 16) l.head l.next
