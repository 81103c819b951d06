-- Laws of lists of calls on several members' words.
use Rattle.std.proofs.Common.{◌≡◌, ◌<◌, ◌+◌, ℕ, Bool, true, false, eqb, List, [], ◌∷◌, ◌++◌, take, get_or, set, length, refl, sym, ap, ◌∙◌, cond, ◌⊎◌, eqb-true}
use Rattle.std.proofs.lemmas.List.{take_more, get_or-set_other, length-set}
use Rattle.std.proofs.lemmas.Grind.{get_or-set_at}
use Rattle.base.proofs.Words.{eqb-false}
use Rattle.agreement.specs.Entries.{states}
use Rattle.nonforking.specs.Statement.{Prefix, Knows, weights, Run}
use Rattle.library.specs.Lists as library
use Rattle.library.specs.Lists.{engine_of, after_call}
use Rattle.library.specs.Hosts as hosts
use Rattle.library.specs.Hosts.{Hosts, AllTyped, members, calls_in, words_after}
use Rattle.library.proofs.HostLaws.{chains_never_fork_over_words}
use Rattle.host.specs.declared.runs.Words.{Words}
use Rattle.host.specs.declared.runs.Entry.{Entry}
use Rattle.host.specs.Told.{told}
use Rattle.host.specs.Runs.{words_of, Stand, stepped, after_run, newest, NeverFork, SameCommittees}

after_last : (at : ℕ → library.Words) (l : List Entry) (e : Entry) → after_run at (l ++ e ∷ []) ≡ stepped (after_run at l) e
after_last at [] e = refl
after_last at (x ∷ l) e = after_last (stepped at x) l e

-- one entry more
pub after_more : (at : ℕ → library.Words) (l : List Entry) (i : ℕ) (d : Entry) → i < length l → after_run at (take (i + 1) l) ≡ stepped (after_run at (take i l)) (get_or l i d)
after_more at l i d h = ap (after_run at) (take_more l i d h) ∙ after_last at (take i l) (get_or l i d)

-- one member's words after its call
pub stand_more : (es : List Words) (at : ℕ → library.Words) (e : Entry) (x d : Words) → Stand es at → e.who < length es → words_of x ≡ after_call (words_of (get_or es e.who d)) (told e.call) → Stand (set es e.who x) (stepped at e)
stand_more es at e x d s w h k d' l = go (eqb k e.who) refl
  where
    go : (b : Bool) → eqb k e.who ≡ b → words_of (get_or (set es e.who x) k d') ≡ cond b (after_call (at k) (told e.call)) (at k)
    go true q =
        let p = eqb-true k e.who q in
        rw p (ap words_of (get_or-set_at es e.who e.who x d' refl w) ∙ h ∙ ap (λ m. after_call m (told e.call)) (s e.who d w))
    go false q = ap words_of (get_or-set_other es e.who k x d' (eqb-false k e.who q)) ∙ s k d' (rw (sym (length-set es e.who x)) l)

-- a run is what the claim makes of its entries
pub run_told : (X : Hosts) (es : List Entry) (l : List hosts.Entry) → after_run (words_after X l) es ≡ words_after X (newest es l)
unfolding states
run_told X [] l = refl
run_told X (e ∷ es) l = run_told X es (record { who = e.who; call = told e.call } ∷ l)

pub never_fork : (X : Hosts) (l : List hosts.Entry) (es : List Words) → AllTyped l → Run (members X) (calls_in X l) → Stand es (words_after X l) → NeverFork X es
never_fork X l es t r s i j d li lj ci cj = rw (s i d li, s j d lj) ((chains_never_fork_over_words X l t r).chains i j ci cj)

pub same_committees : (X : Hosts) (l : List hosts.Entry) (es : List Words) → AllTyped l → Run (members X) (calls_in X l) → Stand es (words_after X l) → SameCommittees X es
same_committees X l es t r s i j q d li lj ci cj = rw (s i d li, s j d lj) ((chains_never_fork_over_words X l t r).committees i j q ci cj)
