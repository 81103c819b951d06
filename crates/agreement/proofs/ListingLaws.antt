-- Laws of chains as they are listed: oldest block first, each with its round and its certificates in order.
use Rattle.std.proofs.Common.{sym, ap, ◌∙◌, List, [], ◌∷◌, ◌++◌, append_assoc, append-nil, ◌⊎◌, inl, inr, ℕ}
use Rattle.agreement.specs.Rules.{Block, Chain}
use Rattle.agreement.specs.Prefixes.{◌≼◌, same, grown, Comparable}
use Rattle.agreement.specs.Listing.{listing, Lists}

module _ {P : Type 0} (order : Block P → Chain P → List P) where
  pub lists-prefix : {c d : Chain P} → c ≼ d → Lists order c d
  unfolding listing
  lists-prefix {c} same = ([], sym (append-nil (listing order c)))
  lists-prefix {c} (grown b {d = d} l h) =
      let x = lists-prefix h in
      let top : List (ℕ × List P) = (b.round, order b d) ∷ [] in
      (x.0 ++ top, ap (λ (z : List (ℕ × List P)). z ++ top) x.1 ∙ append_assoc (listing order c) x.0 top)

  pub lists-comparable : {c d : Chain P} → Comparable c d → Lists order c d ⊎ Lists order d c
  lists-comparable (inl h) = inl (lists-prefix h)
  lists-comparable (inr h) = inr (lists-prefix h)
