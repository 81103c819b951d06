-- What holds of several members' hosts, over the words that each keeps.
use Rattle.std.proofs.Common.{◌≡◌, sym, ◌∙◌, subst, true, List, ◌∷◌, ◌++◌, ℕ}
use Rattle.agreement.specs.Rules.{Block, Chain}
use Rattle.terms.specs.Proposals.{Content}
use Rattle.rules.specs.AnchorStarts.{StartsWithAnchor}
use Rattle.engine.specs.Engine.{Engine}
use Rattle.nonforking.specs.Statement.{Run, chain}
use Rattle.earlier.specs.Earlier.{MembersRefuseMore}
use Rattle.kept.specs.Runs as kept
use Rattle.kept.proofs.RunLaws.{starts_with_anchor_then, was_allowed_earlier_then}
use Rattle.library.specs.Lists.{engine_of}
use Rattle.library.specs.Hosts.{AllTyped, Entry, Hosts, asked, calls_in, members, words_after}
use Rattle.library.proofs.HostLaws.{host-gives}
use Rattle.wordclaims.specs.Members.{AllowedThen}

-- each block of each correct member's words starts with the author of its anchor
pub starts_with_anchor : (X : Hosts) (l : List Entry) → AllTyped l → Run (members X) (calls_in X l) → (i : ℕ) → X.correct i ≡ true
    → (newer : Chain Content) (b : Block Content) (c : Chain Content) → chain (engine_of (words_after X l i)) ≡ newer ++ (b ∷ c) → StartsWithAnchor X.settings (chain (engine_of (words_after X l i))) b c
starts_with_anchor X l t r i k =
    subst (λ (e : Engine). (newer : Chain Content) (b : Block Content) (c : Chain Content) → chain e ≡ newer ++ (b ∷ c) → StartsWithAnchor X.settings (chain e) b c) (sym (host-gives X l t i k).gives)
    (starts_with_anchor_then (members X) (asked l) r i k)

-- what is asked now was allowed before, and led to the engines that the words give
pub was_allowed_earlier : (R : MembersRefuseMore) (X : Hosts) (l : List Entry) → AllTyped l → Run (members X) (calls_in X l) → AllowedThen R X l
was_allowed_earlier R X l t r =
    let k : kept.AllowedThen R (members X) (asked l) = was_allowed_earlier_then R (members X) (asked l) r in
    record { allowed = k.allowed; gives = λ i c. record { can_read = (host-gives X l t i c).can_read; gives = (host-gives X l t i c).gives ∙ sym (k.engines i) } }
