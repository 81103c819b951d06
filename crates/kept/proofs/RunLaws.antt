-- Laws of runs of requests: each member's engine is the one after the calls that they count as.
use Rattle.std.proofs.Common.{◌≡◌, sym, ◌∙◌, subst, ◌∷◌, ◌++◌, ℕ}
use Rattle.base.proofs.Words.{fun_ext}
use Rattle.agreement.specs.Rules.{Block, Chain}
use Rattle.terms.specs.Proposals.{Content}
use Rattle.rules.specs.AnchorStarts.{StartsWithAnchor}
use Rattle.engine.specs.Engine.{Engine}
use Rattle.nonforking.specs.Statement.{chain, engine_after, engine_behaviour, Members, Run, Entry, Agreed}
use Rattle.nonforking.proofs.AnchorStarts.{starts_with_anchor}
use Rattle.submissions.proofs.RequestLaws.{chains_never_fork_with_guests}
use Rattle.earlier.specs.Earlier.{earlier_behaviour, MembersRefuseMore}
use Rattle.earlier.proofs.RefusingLaws.{same_engines}
use Rattle.earlier.proofs.EarlierLaws.{was_allowed_earlier, agreement_carries_over}
use Rattle.kept.specs.Runs.{counted, AllowedThen}
use Rattle.std.specs.Prelude.{List, true}
use Rattle.agreement.specs.Entries as entries
use Rattle.submissions.specs.Requests.{Request, engine_asked, ChainsNeverForkWithGuests}

-- what holds of the engines after every run holds of those after every list of requests that counts as a run
pub carries_to_requests : (X : Members engine_behaviour) (Q : (ℕ → Engine) → Type 0) → ((l : List Entry) → Run X l → Q (engine_after X l)) → (l : List (entries.Entry Request)) → Run X (counted X l) → Q (engine_asked X l)
carries_to_requests X Q f l r = subst Q (fun_ext (λ i. sym ((chains_never_fork_with_guests X l r).engines i))) (f (counted X l) r)

-- the order inside a block starts with the author of its anchor, for each block of each correct member
pub starts_with_anchor_then : (X : Members engine_behaviour) (l : List (entries.Entry Request)) → Run X (counted X l) → (i : ℕ) → X.correct i ≡ true
    → (newer : Chain Content) (b : Block Content) (c : Chain Content) → chain (engine_asked X l i) ≡ newer ++ (b ∷ c) → StartsWithAnchor X.settings (chain (engine_asked X l i)) b c
starts_with_anchor_then X l r i k =
    carries_to_requests X
    (λ (es : ℕ → Engine). (newer : Chain Content) (b : Block Content) (c : Chain Content) → chain (es i) ≡ newer ++ (b ∷ c) → StartsWithAnchor X.settings (chain (es i)) b c)
    (λ m q. starts_with_anchor X m q i k) l r

-- what members ask now, the refused calls left out, was allowed before
pub was_allowed_earlier_then : (R : MembersRefuseMore) (X : Members engine_behaviour) (l : List (entries.Entry Request)) → Run X (counted X l) → AllowedThen R X l
was_allowed_earlier_then R X l r =
    record { allowed = was_allowed_earlier R X (counted X l) r; engines = λ i. same_engines engine_behaviour earlier_behaviour R X (counted X l) i ∙ sym ((chains_never_fork_with_guests X l r).engines i) }

-- if members never parted by the rules of then, they do not now, batches and guests' requests among what they ask
pub agreement_carries_over_then : ((X : Members earlier_behaviour) (l : List Entry) → Run X l → Agreed X l) → ChainsNeverForkWithGuests
agreement_carries_over_then h X l r = record { agreed = agreement_carries_over h X (counted X l) r; engines = (chains_never_fork_with_guests X l r).engines }
