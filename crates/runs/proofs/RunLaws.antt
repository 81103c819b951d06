use Rattle.std.proofs.Common.{◌≡◌, ◌<◌, ◌+◌, ℕ, Bool, true, false, eqb, List, [], ◌∷◌, ◌++◌, take, get_or, set, length, refl, sym, ap, ◌∙◌, cond, subst₂, ◌⊎◌, eqb-true}
use Rattle.std.proofs.lemmas.List.{take_more, get_or-set_other, length-set}
use Rattle.std.proofs.lemmas.Grind.{get_or-set_at}
use Rattle.base.proofs.Words.{eqb-false}
use Rattle.runs.specs.declared.Engine.{Engine}
use Rattle.runs.specs.declared.Entry.{Entry}
use Rattle.engine.specs.Engine as engine
use Rattle.engine.specs.Engine.{after}
use Rattle.runs.specs.Calls.{told}
use Rattle.agreement.specs.Entries.{states}
use Rattle.nonforking.specs.Statement as statement
use Rattle.nonforking.specs.Statement.{Members, Prefix, Knows, weights, engine_after, Run, engine_behaviour}
use Rattle.nonforking.proofs.Theorem.{chains_never_fork}
use Rattle.runs.specs.Runs.{engine_of, Stand, stepped, after_run, newest, NeverFork, SameCommittees}

after_last : (at : ℕ → engine.Engine) (l : List Entry) (e : Entry) → after_run at (l ++ e ∷ []) ≡ stepped (after_run at l) e
after_last at [] e = refl
after_last at (x ∷ l) e = after_last (stepped at x) l e

-- one entry more
pub after_more : (at : ℕ → engine.Engine) (l : List Entry) (i : ℕ) (d : Entry) → i < length l → after_run at (take (i + 1) l) ≡ stepped (after_run at (take i l)) (get_or l i d)
after_more at l i d h = ap (after_run at) (take_more l i d h) ∙ after_last at (take i l) (get_or l i d)

-- one engine after its call
pub stand_more : (es : List Engine) (at : ℕ → engine.Engine) (e : Entry) (x d : Engine) → Stand es at → e.who < length es → engine_of x ≡ after (engine_of (get_or es e.who d)) (told e.call) → Stand (set es e.who x) (stepped at e)
stand_more es at e x d s w h k d' l = go (eqb k e.who) refl
  where
    go : (b : Bool) → eqb k e.who ≡ b → engine_of (get_or (set es e.who x) k d') ≡ cond b (after (at k) (told e.call)) (at k)
    go true q =
        let p = eqb-true k e.who q in
        rw p (ap engine_of (get_or-set_at es e.who e.who x d' refl w) ∙ h ∙ ap (λ m. after m (told e.call)) (s e.who d w))
    go false q = ap engine_of (get_or-set_other es e.who k x d' (eqb-false k e.who q)) ∙ s k d' (rw (sym (length-set es e.who x)) l)

-- a run is what the statement makes of its entries
pub run_told : (X : Members engine_behaviour) (es : List Entry) (l : List statement.Entry) → after_run (engine_after X l) es ≡ engine_after X (newest es l)
unfolding states
run_told X [] l = refl
run_told X (e ∷ es) l = run_told X es (record { who = e.who; call = told e.call } ∷ l)

pub never_fork : (X : Members engine_behaviour) (l : List statement.Entry) (es : List Engine) → Run X l → Stand es (engine_after X l) → NeverFork X es
never_fork X l es r s i j d li lj ci cj =
    subst₂ (λ (a b : engine.Engine). Prefix a b ⊎ Prefix b a) (sym (s i d li)) (sym (s j d lj)) ((chains_never_fork X l r).chains i j ci cj)

pub same_committees : (X : Members engine_behaviour) (l : List statement.Entry) (es : List Engine) → Run X l → Stand es (engine_after X l) → SameCommittees X es
same_committees X l es r s i j q d li lj ci cj =
    subst₂ (λ (a b : engine.Engine). Knows a q → Knows b q → (m : ℕ) → weights a q m ≡ weights b q m) (sym (s i d li)) (sym (s j d lj)) ((chains_never_fork X l r).committees i j q ci cj)
