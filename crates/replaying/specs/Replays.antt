-- What making a list again comes to, and the bytes that tell it.
use Rattle.std.specs.Prelude.{◌≡◌, ◌<◌, ◌⊎◌, List, [], ◌++◌, ◌^◌, ℕ, Option, IfSome, length, slice_index}
use Rattle.std.specs.Io.KnownBytes.{Keeps}
use Rattle.std.specs.Int.{w32, w64, to_le_bytes}
use Rattle.std.specs.List.{flat_map}
use Rattle.nonforking.specs.Statement.{Run}
use Rattle.library.specs.Hosts.{Hosts, members, calls_in}
use Rattle.replaying.specs.declared.calls.Entry.{Entry}
use Rattle.replaying.specs.declared.calls.Keeper.{Keeper}
use Rattle.replaying.specs.declared.failure.Failure.{Failure}
use Rattle.replaying.specs.declared.failure.Failure.TheVariants.{Damaged, Refused, Memory, Stream}
use Rattle.replaying.specs.declared.heads.Head.{Head}
use Rattle.replaying.specs.Lists.{Listed, NoList}
use Rattle.replaying.specs.Runs.{Stand, after_run, answers_of, newest, NeverFork, SameCommittees}
use Rattle.replaying.specs.Opened.{opened, Opens, FirstRefused, OpenedAs}

-- the words w are those of the head h and of the list of calls l; members open, their words and the answers are what the list of the library's calls leaves and answers; and chains never fork over it, where it is a run
pub record Replays (w : List ℕ) (h : Head) (l : List Entry) (keepers : List Keeper) (answers : List ℕ) : Type 0 where
  pub listed : Listed w h l
  pub hosts : length keepers ≡ h.members
  pub accepted : (k : ℕ) → k < h.members → Opens h k
  pub left : Stand keepers (after_run (opened h) l)
  pub answered : answers ≡ answers_of (opened h) l
  pub chains : (X : Hosts) → OpenedAs X h → Run (members X) (calls_in X (newest l []))
      → NeverFork X keepers
  pub committees : (X : Hosts) → OpenedAs X h → Run (members X) (calls_in X (newest l []))
      → SameCommittees X keepers

-- the words w are those of a list, and of its members' opens the first that is refused is refused with the number n
pub record Unopens (w : List ℕ) (n : ℕ) : Type 0 where
  pub head : Head
  pub entries : List Entry
  pub listed : Listed w head entries
  pub first : FirstRefused head n

-- why the words w are not made again: they are of no list; an open is refused, with this number; memory
abbrev pub Unmade : List ℕ → Failure → Type 0
Unmade w Damaged = NoList w
Unmade w (Refused n) = Unopens w n
Unmade w Memory = Unit {0}
Unmade w (Stream e) = ⊥

-- ---- as bytes, the lowest of each number first

-- numbers that are words of 32 bits
abbrev pub IsWords : List ℕ → Type 0
IsWords w = (k : ℕ) → slice_index w k < 2 ^ 32

-- words have four each
abbrev pub bytes_of : List ℕ → List ℕ
bytes_of w = flat_map (to_le_bytes w32) w

-- bytes of no words
abbrev pub NoWords : List ℕ → Type 0
NoWords b = (w : List ℕ) → b ≡ bytes_of w → ⊥

-- answers eight
abbrev pub answer_bytes : List ℕ → List ℕ
answer_bytes a = flat_map (to_le_bytes w64) a

-- a member's state, and its table
abbrev pub keeper_bytes : Keeper → List ℕ
keeper_bytes x = bytes_of x.state.items ++ bytes_of x.table.items

-- all answers, and then all members
abbrev pub told_bytes : List Keeper → List ℕ → List ℕ
told_bytes keepers answers = answer_bytes answers ++ flat_map keeper_bytes keepers

-- on the bytes b: they are those of words that are made again, and what is told of it is t
pub record Told (b t : List ℕ) : Type 0 where
  pub words : List ℕ
  pub head : Head
  pub entries : List Entry
  pub keepers : List Keeper
  pub answers : List ℕ
  pub fit : IsWords words
  pub bytes : b ≡ bytes_of words
  pub made : Replays words head entries keepers answers
  pub tells : t ≡ told_bytes keepers answers

-- bytes of words that are not made again, for this reason
pub record UnmadeBytes (b : List ℕ) (f : Failure) : Type 0 where
  pub words : List ℕ
  pub fit : IsWords words
  pub bytes : b ≡ bytes_of words
  pub unmade : Unmade words f

-- why nothing is told of the bytes b: they are bytes of no words, or of words that are not made again; or memory
abbrev pub Untold : List ℕ → Failure → Type 0
Untold b Damaged = NoWords b ⊎ UnmadeBytes b Damaged
Untold b (Refused n) = UnmadeBytes b (Refused n)
Untold b Memory = Unit {0}
Untold b (Stream e) = ⊥

-- why nothing is told of a reader's bytes, or not all: one of these, or a stream failed
abbrev pub Unserved : List ℕ → Failure → Type 0
Unserved b (Stream e) = Unit {0}
Unserved b f = Untold b f

-- a failure adds nothing to what a writer holds, a before and b afterwards; only where a stream failed, and something is told of the reader's bytes r, is it not said what was added
abbrev pub Silent : Option (List ℕ) → Failure → Option (List ℕ) → Option (List ℕ) → Type 0
Silent r (Stream e) a b = Keeps a b ⊎ IfSome r (λ bytes. (t : List ℕ) × Told bytes t)
Silent r f a b = Keeps a b
