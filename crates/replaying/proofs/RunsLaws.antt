-- Laws of lists of calls on several members' words.
use Rattle.std.proofs.Common.{◌≡◌, ◌<◌, ◌≤◌, ◌+◌, inl, inr, arith, length-append, ℕ, Bool, true, false, eqb, List, [], ◌∷◌, ◌++◌, take, get_or, set, length, refl, sym, ap, ap₂, ◌∙◌, cond, ◌⊎◌, eqb-true}
use Rattle.std.proofs.lemmas.Bool.{cases_lt}
use Rattle.std.proofs.Math.Seq.{get_or-append_seam}
use Rattle.std.proofs.lemmas.List.{take_more, take_more_set, get_or-set_other, length-set, get_or_append_left}
use Rattle.std.proofs.lemmas.Grind.{get_or-set_at}
use Rattle.base.proofs.Words.{eqb-false}
use Rattle.agreement.specs.Entries.{states}
use Rattle.nonforking.specs.Statement.{Run}
use Rattle.library.specs.Lists as library
use Rattle.library.specs.Lists.{engine_of, after_call}
use Rattle.library.specs.Hosts as hosts
use Rattle.library.specs.Hosts.{Hosts, AllTyped, members, calls_in, words_after}
use Rattle.library.proofs.HostLaws.{chains_never_fork_over_words}
use Rattle.replaying.specs.declared.calls.Keeper.{Keeper}
use Rattle.replaying.specs.declared.calls.Entry.{Entry}
use Rattle.replaying.specs.Told.{told, comes_of, answer_of}
use Rattle.replaying.specs.Runs.{words_of, OwnedWords, AllOwned, Stand, stepped, after_run, answer_to, answers_of, newest, NeverFork, SameCommittees}

after_last : (at : ℕ → library.Words) (l : List Entry) (e : Entry) → after_run at (l ++ e ∷ []) ≡ stepped (after_run at l) e
after_last at [] e = refl
after_last at (x ∷ l) e = after_last (stepped at x) l e

-- one entry more
pub after_more : (at : ℕ → library.Words) (l : List Entry) (i : ℕ) (d : Entry) → i < length l → after_run at (take (i + 1) l) ≡ stepped (after_run at (take i l)) (get_or l i d)
after_more at l i d h = ap (after_run at) (take_more l i d h) ∙ after_last at (take i l) (get_or l i d)

-- one member's words after its call
pub stand_more : (es : List Keeper) (at : ℕ → library.Words) (e : Entry) (x d : Keeper) → Stand es at → e.who < length es → words_of x ≡ after_call (words_of (get_or es e.who d)) (told e.call) → Stand (set es e.who x) (stepped at e)
stand_more es at e x d s w h k d' l = go (eqb k e.who) refl
  where
    go : (b : Bool) → eqb k e.who ≡ b → words_of (get_or (set es e.who x) k d') ≡ cond b (after_call (at k) (told e.call)) (at k)
    go true q =
        let p = eqb-true k e.who q in
        rw p (ap words_of (get_or-set_at es e.who e.who x d' refl w) ∙ h ∙ ap (λ m. after_call m (told e.call)) (s e.who d w))
    go false q = ap words_of (get_or-set_other es e.who k x d' (eqb-false k e.who q)) ∙ s k d' (rw (sym (length-set es e.who x)) l)

answers_last : (at : ℕ → library.Words) (l : List Entry) (e : Entry) → answers_of at (l ++ e ∷ []) ≡ answers_of at l ++ answer_to (after_run at l) e ∷ []
answers_last at [] e = refl
answers_last at (x ∷ l) e = ap (λ m. answer_to at x ∷ m) (answers_last (stepped at x) l e)

-- and its answer
pub answers_more : (at : ℕ → library.Words) (l : List Entry) (i : ℕ) (d : Entry) → i < length l → answers_of at (take (i + 1) l) ≡ answers_of at (take i l) ++ answer_to (after_run at (take i l)) (get_or l i d) ∷ []
answers_more at l i d h = ap (answers_of at) (take_more l i d h) ∙ answers_last at (take i l) (get_or l i d)

-- one call more, its words and its answer
pub run_more : (at : ℕ → library.Words) (l : List Entry) (i : ℕ) (e : Entry) (es : List Keeper) (x d : Keeper) (answers : List ℕ) (r : ℕ)
    → i < length l → e ≡ get_or l i e → e.who < length es → i < length answers
    → Stand es (after_run at (take i l)) → take i answers ≡ answers_of at (take i l)
    → words_of x ≡ after_call (words_of (get_or es e.who d)) (told e.call)
    → r ≡ answer_of e.call (comes_of (words_of (get_or es e.who d)) (told e.call))
    → Stand (set es e.who x) (after_run at (take (i + 1) l)) × (take (i + 1) (set answers i r) ≡ answers_of at (take (i + 1) l))
run_more at l i e es x d answers r h q w k s a hw hr =
    let m = rw (sym q) at (after_more at l i e h) in
    let n = rw (sym q) at (answers_more at l i e h) in
    let v = rw (s e.who d w) at hr in
    (rw m (stand_more es (after_run at (take i l)) e x d s w hw), take_more_set answers i r k ∙ ap₂ (λ (y : List ℕ) (z : ℕ). y ++ z ∷ []) a v ∙ sym n)

-- one member's words and kept committees after its call
pub owned_more : (es : List Keeper) (w : ℕ) (x : Keeper) → AllOwned es → w < length es → OwnedWords x → AllOwned (set es w x)
owned_more es w x s l h i d k = go (eqb i w) refl
  where
    go : (b : Bool) → eqb i w ≡ b → OwnedWords (get_or (set es w x) i d)
    go true q =
        let p = eqb-true i w q in
        rw (p, get_or-set_at es w w x d refl l) h
    go false q =
        let n = eqb-false i w q in
        rw (get_or-set_other es w i x d n) (s i d (rw (sym (length-set es w x)) k))

-- one member more
pub stand_push : (l : List Keeper) (at : ℕ → library.Words) (x : Keeper) → Stand l at → words_of x ≡ at (length l) → Stand (l ++ x ∷ []) at
stand_push l at x s w k d h = go (cases_lt k (length l))
  where
    go : (k < length l) ⊎ (length l ≤ k) → words_of (get_or (l ++ x ∷ []) k d) ≡ at k
    go (inl a) = rw (get_or_append_left l (x ∷ []) d k a) (s k d a)
    go (inr a) =
        let e : k ≡ length l = omega (arith, h, length-append l (x ∷ [])) in
        rw (e, get_or-append_seam l x [] d) w

pub owned_push : (l : List Keeper) (x : Keeper) → AllOwned l → OwnedWords x → AllOwned (l ++ x ∷ [])
owned_push l x s w k d h = go (cases_lt k (length l))
  where
    go : (k < length l) ⊎ (length l ≤ k) → OwnedWords (get_or (l ++ x ∷ []) k d)
    go (inl a) = rw (get_or_append_left l (x ∷ []) d k a) (s k d a)
    go (inr a) =
        let e : k ≡ length l = omega (arith, h, length-append l (x ∷ [])) in
        rw (e, get_or-append_seam l x [] d) w

-- members opened one after another
pub open_more : (l m : List Keeper) (at : ℕ → library.Words) (n : ℕ) (x : Keeper) → m ≡ l ++ x ∷ [] → length l ≡ n → Stand l at → AllOwned l → words_of x ≡ at n → OwnedWords x → (length m ≡ n + 1) × Stand m at × AllOwned m
open_more l m at n x e h s o w p =
    rw e (omega (arith, h, length-append l (x ∷ [])), stand_push l at x s (rw h w), owned_push l x o p)

pub below_more : (P : ℕ → Type 0) (n : ℕ) → ((k : ℕ) → k < n → P k) → P n → (k : ℕ) → k < n + 1 → P k
below_more P n h p k w = go (cases_lt k n)
  where
    go : (k < n) ⊎ (n ≤ k) → P k
    go (inl a) = h k a
    go (inr a) = let e : k ≡ n = omega (arith, w) in rw e p

-- a run is what the claim makes of its entries
pub run_told : (X : Hosts) (es : List Entry) (l : List hosts.Entry) → after_run (words_after X l) es ≡ words_after X (newest es l)
unfolding states
run_told X [] l = refl
run_told X (e ∷ es) l = run_told X es (record { who = e.who; call = told e.call } ∷ l)

pub never_fork : (X : Hosts) (l : List hosts.Entry) (es : List Keeper) → AllTyped l → Run (members X) (calls_in X l) → Stand es (words_after X l) → NeverFork X es
never_fork X l es t r s i j d li lj ci cj = rw (s i d li, s j d lj) ((chains_never_fork_over_words X l t r).chains i j ci cj)

pub same_committees : (X : Hosts) (l : List hosts.Entry) (es : List Keeper) → AllTyped l → Run (members X) (calls_in X l) → Stand es (words_after X l) → SameCommittees X es
same_committees X l es t r s i j q d li lj ci cj = rw (s i d li, s j d lj) ((chains_never_fork_over_words X l t r).committees i j q ci cj)
