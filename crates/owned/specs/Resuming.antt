-- What resume tests of the words that a host hands in, and what the kept committees are afterwards.
use Rattle.std.specs.Prelude.{◌≡◌, Bool, true, false, List, ℕ, ◌≤◌, length}
use Rattle.chain_committees.specs.Caches.{first_round, words_to}
use Rattle.extents.specs.Together.{Together}
use Rattle.state.specs.declared.State.{State}
use Rattle.state.specs.Cached.{CachesFor}
use Rattle.state.specs.WellFormed.{well_formed}
use Rattle.words.specs.States.{state_reads, state_in}
use Rattle.owned.specs.Rooted.{Rooted, ProposalRooted}

-- a well-formed state whose histories are whole, and the blocks hang together
pub record Whole (s : State) (t : List ℕ) : Type 0 where
  pub formed : well_formed s t ≡ true
  pub rooted : Rooted s.settings.ceiling t
  pub proposal : ProposalRooted s t
  pub together : Together s.settings.ceiling t s.blocks

-- the state's words w can be read, the state is such a one with the table t, and k has room for the committees of all rounds
pub record Resumable (w t k : List ℕ) : Type 0 where
  pub reads : state_reads w ≡ true
  pub whole : Whole (state_in w) t
  pub room : words_to (state_in w).settings.ceiling ≤ length k

-- where b is true k has the committees of all rounds, from round 0 on, else it is as it was
pub record Filled (w t k₀ : List ℕ) (b : Bool) (k : List ℕ) : Type 0 where
  pub begins : b ≡ true → first_round k ≡ 0
  pub committees : b ≡ true → CachesFor (state_in w) t k
  pub same : b ≡ false → k ≡ k₀
