-- Several members' hosts, each with its words: the library's calls of all in one list. Chains never fork, over words.
use Rattle.std.specs.Prelude.{◌≡◌, Bool, true, List, [], ◌∷◌, ◌⊎◌, ℕ}
use Rattle.base.specs.Options.{if_there}
use Rattle.agreement.specs.Entries as entries
use Rattle.agreement.specs.Entries.{states}
use Rattle.terms.specs.declared.sheet.Settings.{Settings}
use Rattle.terms.specs.Sheets.{filled}
use Rattle.open.specs.Open.{closed_state}
use Rattle.words.specs.Sheets.{sheet_reads, sheet_in}
use Rattle.hosting.proofs.CallLaws.{accepted-call}
use Rattle.engine.specs.Calls.{Call}
use Rattle.nonforking.specs.Statement.{Members, engine_behaviour, Prefix, Knows, weights}
use Rattle.submissions.specs.Submissions.{unrolled}
use Rattle.submissions.specs.Requests.{Request, engine_asked, submitted}
use Rattle.hosting.specs.HostCalls.{opens, host_in}
use Rattle.library.specs.Calls.{LibraryCall, by_host, Typed, request_in, comes_to}
use Rattle.library.specs.Lists.{Words, engine_of, after_call, Gives}

-- the members' hosts at the start
pub record Hosts : Type 0 where
  -- any set of numbers may be the correct members; every other number is faulty
  pub correct : ℕ → Bool
  -- each correct member has opened with its own number, the words of a sheet and rights, whatever words of a state and a table were lent; those of other numbers mean nothing
  pub before : ℕ → Words
  pub sheet : ℕ → List ℕ
  pub rights : ℕ → ℕ
  pub accepted : (k : ℕ) → correct k ≡ true
      → (comes_to (before k).state (before k).table
      (by_host (opens k (sheet k) (rights k)))).refusal ≡ 0
  -- the filled settings that their words give are equal
  pub settings : Settings
  pub equal : (k : ℕ) → correct k ≡ true
      → filled (sheet_in (sheet k) (record { 0 = rights k })) ≡ settings

-- the members whose hosts they are
abbrev pub members : Hosts → Members engine_behaviour
members X =
    record {
      correct = X.correct;
      before = λ k. record { state = closed_state; table = (X.before k).table };
      sheet = λ k. sheet_in (X.sheet k) (record { 0 = X.rights k });
      accepted =
          λ k c. (accepted-call (X.before k).state (X.before k).table [] (sheet_reads (X.sheet k))
          (host_in (opens k (X.sheet k) (X.rights k))) (X.accepted k c)).accepted;
      settings = X.settings;
      equal = X.equal;
    }

-- one call of the library by one member's host
abbrev pub Entry : Type 0
Entry = entries.Entry LibraryCall

abbrev pub AllTyped : List Entry → Type 0
AllTyped [] = Unit {0}
AllTyped (x ∷ l) = Typed x.call × AllTyped l

-- the requests that the words of a list are read as
unfoldable pub asked : List Entry → List (entries.Entry Request)
asked [] = []
asked (x ∷ l) =
    if_there (request_in x.call) (asked l) (λ q. record { who = x.who; call = q } ∷ asked l)

module _ (X : Hosts) where
  open X use {correct, before, sheet, rights}

  -- the words of member i's host after a list of calls, newest first
  abbrev pub words_after : List Entry → ℕ → Words
  words_after l i =
      states (λ k. after_call)
      (λ k. after_call (before k) (by_host (opens k (sheet k) (rights k)))) l i

  -- the calls that the list counts as
  abbrev pub calls_in : List Entry → List (entries.Entry Call)
  calls_in l = unrolled (members X) (submitted (members X) (asked l))

  -- the conclusion, of any two correct members, of the words that their hosts hold
  pub record Agreed (l : List Entry) : Type 0 where
    -- they can be read, and give the engine that the requests lead to
    pub gives : (i : ℕ) → correct i ≡ true
        → Gives (words_after l i) (engine_asked (members X) (asked l) i)
    -- of the two chains that they tell one is a prefix of the other
    pub chains : (i j : ℕ) → correct i ≡ true → correct j ≡ true
        → Prefix (engine_of (words_after l i)) (engine_of (words_after l j))
        ⊎ Prefix (engine_of (words_after l j)) (engine_of (words_after l i))
    -- and in the committee of every round that both know, every member has the same weight
    pub committees : (i j r : ℕ) → correct i ≡ true → correct j ≡ true
        → Knows (engine_of (words_after l i)) r → Knows (engine_of (words_after l j)) r
        → (m : ℕ) → weights (engine_of (words_after l i)) r m
        ≡ weights (engine_of (words_after l j)) r m
