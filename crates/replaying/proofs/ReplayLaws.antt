-- A list made again: from its head and calls, the members as they open, and what the calls leave.
use Rattle.std.proofs.Common.{◌≡◌, ◌<◌, ℕ, suc, List, [], ◌∷◌, ◌++◌, get_or, take, length, refl, ◌∙◌, arith}
use Rattle.std.proofs.Math.Seq.{take-append_seam}
use Rattle.agreement.specs.Entries.{states}
use Rattle.nonforking.specs.Statement.{Run}
use Rattle.library.specs.Lists as library
use Rattle.library.specs.Calls.{Typed}
use Rattle.library.specs.Hosts as hosts
use Rattle.library.specs.Hosts.{Hosts, AllTyped, members, calls_in, words_after}
use Rattle.replaying.specs.declared.calls.Entry.{Entry}
use Rattle.replaying.specs.declared.calls.Keeper.{Keeper}
use Rattle.replaying.specs.declared.heads.Head.{Head}
use Rattle.replaying.specs.Told.{told}
use Rattle.replaying.specs.Lists.{CallWhole, head_words, entries_words}
use Rattle.replaying.specs.Opened.{opened, Opens, OpenedAs}
use Rattle.replaying.specs.Runs.{Stand, after_run, answers_of, newest, NeverFork, SameCommittees}
use Rattle.replaying.specs.Replays.{Replays}

-- put back into the room that it had
pub same_room : {A : Type 0} (n : ℕ) (k rest : List A) → length k ≡ n → take n (k ++ rest) ≡ k
same_room n k rest e = rw (← e) (take-append_seam k rest)

-- hosts that open as the list's members do
pub stand_as : (X : Hosts) (h : Head) (l : List Keeper) → OpenedAs X h → length l ≡ h.members → Stand l (opened h) → Stand l (words_after X [])
unfolding states
stand_as X h l o n s k d b =
    let q : k < h.members = omega (arith, b, n) in
    rw (o.before k q, o.sheet k q, o.rights k q) (s k d b)

-- the values of each call are of their types
all_typed : (l : List Entry) (m : List hosts.Entry) → ((k : ℕ) (d : Entry) → k < length l → Typed (told (get_or l k d).call)) → AllTyped m → AllTyped (newest l m)
all_typed [] m h t = t
all_typed (e ∷ l) m h t = all_typed l (record { who = e.who; call = told e.call } ∷ m) (λ k d b. h (suc k) d (omega (arith, b))) (h 0 e (omega arith), t)

module _ (w rest : List ℕ) (h : Head) (l : List Entry) (before after : List Keeper) (answers : List ℕ) where
  pub replays : w ≡ head_words h ++ rest → length h.sheet ≡ 40 → rest ≡ entries_words l → ((k : ℕ) (d : Entry) → k < length l → (get_or l k d).who < h.members) → ((k : ℕ) (d : Entry) → k < length l → CallWhole (get_or l k d).call) → length before ≡ h.members → length after ≡ length before → ((k : ℕ) → k < h.members → Opens h k) → Stand before (opened h)
      → ((k : ℕ) (d : Entry) → k < length l → Typed (told (get_or l k d).call))
      → ((at : ℕ → library.Words) → Stand before at → Stand after (after_run at l))
      → ((at : ℕ → library.Words) → Stand before at → answers ≡ answers_of at l)
      → ((X : Hosts) → Stand before (words_after X []) → AllTyped (newest l []) → Run (members X) (calls_in X (newest l [])) → NeverFork X after)
      → ((X : Hosts) → Stand before (words_after X []) → AllTyped (newest l []) → Run (members X) (calls_in X (newest l [])) → SameCommittees X after)
      → Replays w h l after answers
  replays e z f b u n m o s y r a c g =
      record {
        listed = record { words = rw (e, f) refl; sheet = z; callers = b; whole = u };
        hosts = m ∙ n;
        accepted = o;
        left = r (opened h) s;
        answered = a (opened h) s;
        chains = λ X q. c X (stand_as X h before q n s) (all_typed l [] y tt);
        committees = λ X q. g X (stand_as X h before q n s) (all_typed l [] y tt);
      }
