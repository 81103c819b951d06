-- The claims over words follow from those over engines.
use Rattle.std.proofs.Common.{◌≡◌, refl, sym, ◌∙◌, subst, true, List, ℕ, ◌≤◌, length, le-leb}
use Rattle.terms.specs.Proposals.{Content}
use Rattle.state.specs.declared.State.{State}
use Rattle.reads.specs.Reads.{certificate_refusal}
use Rattle.engine.specs.Calls.{certificate, aside, commit}
use Rattle.engine.specs.Engine.{Engine, refusal_for}
use Rattle.words.specs.Lengths.{held_length}
use Rattle.words.specs.States.{state_reads, state_in}
use Rattle.hosting.specs.Calls.{engine_in, result_of}
use Rattle.hosting.proofs.HeldLaws.{passes_on}
use Rattle.nonforking.specs.Stored.{Holds, Shows}
use Rattle.kept.proofs.KeptLaws.{stored_shown_then}
use Rattle.balance.proofs.BalanceLaws.{weights_add_up}
use Rattle.pivotal.proofs.PivotLaws.{commits_hang_on_pivots}
use Rattle.library.specs.Calls.{LibraryCall}
use Rattle.library.specs.Lists.{engine_of, requests_in, Opening, after_opening, engine_opened, AllTyped}
use Rattle.library.proofs.ListLaws.{words_give_engines, opening-gives}
use Rattle.library.proofs.ReachLaws.{words_reach, engine-opening}
use Rattle.wordclaims.specs.Claims.{left_after, TookSince, PassesOn}
use Rattle.wordclaims.proofs.WordLaws.{asked_in_range}
use Rattle.wordclaims.proofs.StoredLaws.{took_stored}
use Rattle.wordclaims.proofs.StaysLaws.{stored_held}
use Rattle.balance.specs.Balance.{AddsUp}
use Rattle.pivotal.specs.Pivotal.{HangsOnPivots}

-- weights add up in all words
pub weights_add_up_over_words : (x : Opening) (l : List LibraryCall) → AllTyped l → AddsUp (engine_of (left_after x l))
weights_add_up_over_words x l i = weights_add_up (engine_of (left_after x l)) (words_reach x l i)

-- and where a commit would be accepted, it hangs on its pivots
pub commits_hang_over_words : (x : Opening) (l : List LibraryCall) → AllTyped l → refusal_for (engine_of (left_after x l)) commit ≡ 0 → HangsOnPivots (engine_of (left_after x l))
commits_hang_over_words x l i = commits_hang_on_pivots (engine_of (left_after x l)) (words_reach x l i)

-- the engine refuses the read as its checks do
read-refusal : (s : State) (t : List ℕ) (m r : ℕ) → refusal_for (record { state = s; table = t }) (aside (certificate (record { 0 = m }) r)) ≡ certificate_refusal s t m r
unfolding certificate_refusal
read-refusal s t m r = refl

-- a read that the engine shows is accepted over words
read-accepted : (w t o : List ℕ) (p : Content) (d : ℕ) → state_reads w ≡ true → held_length ≤ length o → Shows (engine_in w t) p.author p.round p d
    → (result_of w t o true (aside (certificate (record { 0 = p.author }) p.round))).refusal ≡ 0
unfolding result_of
read-accepted w t o p d r m s = rw (r, le-leb held_length (length o) m) (read-refusal (state_in w) t p.author p.round ∙ s.accepted)

-- what an accepted certify or accept took, alone, for a guest or in a batch, can be passed on ever after with the endorsers that it was taken with, until the next accepted open
pub stored_passes_on : (x : Opening) (l : List LibraryCall) → AllTyped l → (p : Content) (d : ℕ) → TookSince (after_opening x) l p d → (o : List ℕ) → held_length ≤ length o → PassesOn (left_after x l) p d o
stored_passes_on x l i p d k o m =
    let v = left_after x l in
    let g = words_give_engines x l i in
    let t = took_stored (after_opening x) (engine_opened x) (opening-gives x) p d l i k in
    let s : Shows (engine_of v) p.author p.round p d =
    subst (λ (e : Engine). Shows e p.author p.round p d) (sym g.gives) (stored_shown_then (engine-opening x) (requests_in l) (asked_in_range (engine_opened x) l i) p d t) in
    let h : Holds v.table p.author p.round p d = stored_held x l i p d k in
    let a = read-accepted v.state v.table o p d g.can_read m s in
    let u = passes_on v.state v.table o (record { 0 = p.author }) p.round a in
    record { accepted = a; can_read = u.reads; proposal = u.proposal ∙ h.proposal; endorsers = u.endorsers ∙ h.endorsers }
