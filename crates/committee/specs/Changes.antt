-- What transactions, certificates and blocks do to the sixteen weights of a committee.
use Rattle.std.specs.Prelude.{List, [], ◌∷◌, ◌++◌, if◌then◌else◌, ℕ, zero, suc, ◌+◌, ◌%◌, set, nat_lt, Option, Some, None}
use Rattle.agreement.specs.Rules.{Block}
use Rattle.terms.specs.declared.Transaction.{Transaction}
use Rattle.terms.specs.declared.Transaction.TheVariants.{Bond, Unbond, Entry}
use Rattle.terms.specs.Proposals.{Content}
use Rattle.terms.specs.declared.sheet.Weight.{Weight}
use Rattle.terms.specs.Ranges.{weight, weight_in}

-- bond adds, joining if there was no weight; unbond removes; an entry does nothing, and neither does a number that is no member's
abbrev pub change : Transaction → List Weight → List Weight
change (Bond m a) w = if nat_lt m.0 16 then set w m.0 (weight (weight_in w m.0 + a)) else w
change (Unbond m) w = if nat_lt m.0 16 then set w m.0 (weight 0) else w
change (Entry n) w = w

-- transactions in order
unfoldable pub changes : List Transaction → List Weight → List Weight
changes [] w = w
changes (x ∷ l) w = changes l (change x w)

-- certificates in order
unfoldable pub changes_of : List Content → List Weight → List Weight
changes_of [] w = w
changes_of (p ∷ l) w = changes_of l (changes p.transactions w)

abbrev pub at_most_one : Option Content → List Content
at_most_one None = []
at_most_one (Some p) = p ∷ []

-- the certificates of round r by n members: numbers rise from that of a, with 0 after 15
unfoldable pub row : Block Content → ℕ → ℕ → ℕ → List Content
row b a r zero = []
row b a r (suc n) = row b a r n ++ at_most_one (b.holds ((a + n) % 16) r)

-- those of the rounds 1 to n, by round
unfoldable pub rows : Block Content → ℕ → ℕ → List Content
rows b a zero = []
rows b a (suc n) = rows b a n ++ row b a (suc n) 16
