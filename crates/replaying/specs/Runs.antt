-- Members' words in memory, and what a list of calls makes of them and answers.
use Rattle.std.specs.Prelude.{◌≡◌, ◌<◌, ◌⊎◌, true, List, [], ◌∷◌, ℕ, if◌then◌else◌, ◌==◌, length, slice_index_or}
use Rattle.nonforking.specs.Statement.{Prefix, Knows, weights}
use Rattle.library.specs.Lists as library
use Rattle.library.specs.Lists.{engine_of, after_call}
use Rattle.library.specs.Hosts as hosts
use Rattle.library.specs.Hosts.{Hosts}
use Rattle.owned.specs.Owned.{Owned}
use Rattle.replaying.specs.declared.calls.Entry.{Entry}
use Rattle.replaying.specs.declared.calls.Keeper.{Keeper}
use Rattle.replaying.specs.Told.{told, comes_of, answer_of}

abbrev pub words_of : Keeper → library.Words
words_of x = record { state = x.state.items; table = x.table.items }

-- a member's words and kept committees
abbrev pub OwnedWords : Keeper → Type 0
OwnedWords x = Owned x.state.items x.table.items x.kept.items

abbrev pub AllOwned : List Keeper → Type 0
AllOwned l = (i : ℕ) (d : Keeper) → i < length l → OwnedWords (slice_index_or l i d)

-- the members' words are those that at says of each
abbrev pub Stand : List Keeper → (ℕ → library.Words) → Type 0
Stand l at = (k : ℕ) (d : Keeper) → k < length l → words_of (slice_index_or l k d) ≡ at k

-- after a call of one member's host
abbrev pub stepped : (ℕ → library.Words) → Entry → ℕ → library.Words
stepped at e k = if k == e.who then after_call (at k) (told e.call) else at k

abbrev pub after_run : (ℕ → library.Words) → List Entry → ℕ → library.Words
after_run at [] = at
after_run at (e ∷ l) = after_run (stepped at e) l

-- what each call is answered
abbrev pub answer_to : (ℕ → library.Words) → Entry → ℕ
answer_to at e = answer_of e.call (comes_of (at e.who) (told e.call))

abbrev pub answers_of : (ℕ → library.Words) → List Entry → List ℕ
answers_of at [] = []
answers_of at (e ∷ l) = answer_to at e ∷ answers_of (stepped at e) l

-- the entries of the claim, newest first, onto l
abbrev pub newest : List Entry → List hosts.Entry → List hosts.Entry
newest [] l = l
newest (e ∷ es) l = newest es (record { who = e.who; call = told e.call } ∷ l)

-- of the chains that two correct members' words tell one is a prefix of the other
abbrev pub NeverFork : Hosts → List Keeper → Type 0
NeverFork X l =
    (i j : ℕ) (d : Keeper) → i < length l → j < length l → X.correct i ≡ true → X.correct j ≡ true
    → Prefix (engine_of (words_of (slice_index_or l i d)))
    (engine_of (words_of (slice_index_or l j d)))
    ⊎ Prefix (engine_of (words_of (slice_index_or l j d)))
    (engine_of (words_of (slice_index_or l i d)))

-- in the committee of every round that both know, every member has the same weight
abbrev pub SameCommittees : Hosts → List Keeper → Type 0
SameCommittees X l =
    (i j r : ℕ) (d : Keeper) → i < length l → j < length l → X.correct i ≡ true
    → X.correct j ≡ true
    → Knows (engine_of (words_of (slice_index_or l i d))) r
    → Knows (engine_of (words_of (slice_index_or l j d))) r
    → (m : ℕ) → weights (engine_of (words_of (slice_index_or l i d))) r m
    ≡ weights (engine_of (words_of (slice_index_or l j d))) r m
