-- The certificates that a commit hangs on: the number that refuses, the places listed, and what the lent list holds.
use Rattle.std.specs.Prelude.{Bool, not, if◌then◌else◌, ◌&&◌, List, [], ◌∷◌, ◌++◌, ℕ, zero, suc, ◌-◌, ◌/◌, ◌==◌, nat_lt, length}
use Rattle.std.proofs.lemmas.List.Edits.{sets}
use Rattle.base.specs.Checks.{Checks, refusal}
use Rattle.store.specs.Table.{held_at}
use Rattle.store.specs.Writes.{clear_held}
use Rattle.rules.specs.Calls as rules
use Rattle.state.specs.declared.State.{State}
use Rattle.state.specs.View.{view}
use Rattle.state.specs.Refusals.{guarded}
use Rattle.state.specs.Answers.{if_accepted}
use Rattle.votes.specs.Checks.{time_checks}

-- a held certificate: its round, its author
pub record Place : Type 0 where
  pub round : ℕ
  pub author : ℕ

-- round, author: two words each
unfoldable pub place_words : List Place → List ℕ
place_words [] = []
place_words (x ∷ l) = x.round ∷ x.author ∷ place_words l

module _ (s : State) (t : List ℕ) where
  -- the number that the checks of commit refuse with where the certificate of author a and round q is absent: it is not held, and so in no block either. Check 1 is not asked again
  unfoldable pub refusal_without : ℕ → ℕ → ℕ
  refusal_without a q =
      refusal (rules.checks s.settings s.own.0 (view s (clear_held t a q)) rules.commit)

  -- it is held, and its absence alone turns the commit into a refusal
  unfoldable pub is_critical : ℕ → ℕ → Bool
  is_critical a q = held_at t a q && not (refusal_without a q == 0)

  -- that of author a and round q, if it is
  unfoldable pub critical_at : ℕ → ℕ → List Place
  critical_at a q = if is_critical a q then record { round = q; author = a } ∷ [] else []

  -- those of round q whose authors are below n, by rising author
  unfoldable pub critical_in : ℕ → ℕ → List Place
  critical_in q zero = []
  critical_in q (suc n) = critical_in q n ++ critical_at n q

  -- those of the present round and the one before: by round, then author
  unfoldable pub critical_places : List Place
  critical_places = critical_in (s.round - 1) 16 ++ critical_in s.round 16

  -- 25 a list of so many words has fewer than 32 places, of two words each; then the checks of commit
  abbrev pub reading_critical : ℕ → Checks
  reading_critical words =
      (nat_lt (words / 2) 32, 25) ∷ rules.checks s.settings s.own.0 (view s t) rules.commit

  -- those of a well-formed state before the votes: 25, 19, 20, 8
  abbrev pub late_checks : ℕ → Checks
  late_checks words = (nat_lt (words / 2) 32, 25) ∷ time_checks s t

  unfoldable pub critical_refusal : ℕ → ℕ
  critical_refusal words = refusal (guarded s t (reading_critical words))

  -- what the lent list holds then: the places, and its rest as it was
  unfoldable pub critical_list : List ℕ → List ℕ
  critical_list list =
      if_accepted (critical_refusal (length list)) (sets list 0 (place_words critical_places)) list
