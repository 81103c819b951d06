-- When a state is well formed: docs/RULES.md, "A member's state", condition by condition.
use Rattle.std.specs.Prelude.{Bool, true, not, Option, Some, None, ◌&&◌, List, ℕ, length, nat_le, nat_lt}
use Rattle.terms.specs.declared.Body.{Body}
use Rattle.terms.specs.Proposals.{transactions_of, bad_transactions, bad_previous_set}
use Rattle.store.specs.Table.{used_length}
use Rattle.scan.specs.Scan.{rows_fit}
use Rattle.queues.specs.Words.{queues_fit}
use Rattle.terms.specs.Ranges.{out_of_range, weightless}
use Rattle.chain_committees.specs.BlockChanges.{blocks_fit}
use Rattle.ports.specs.Ports.{ports_fit}
use Rattle.state.specs.declared.State.{State}

-- own number, present round and number of blocks are in range
unfoldable pub numbers_fit : ℕ → ℕ → ℕ → ℕ → Bool
numbers_fit own round blocks ceiling =
    nat_lt own 16 && (nat_le 1 round && (nat_le round ceiling && nat_le blocks ceiling))

-- settings and numbers are in range, some starting weight is positive
unfoldable pub head_fits : State → Bool
head_fits s = not (out_of_range s.settings)
    && (numbers_fit s.own.0 s.round s.blocks s.settings.ceiling && not (weightless s.settings))

-- transactions are in range and within the allowance, a previous set is empty exactly in round 1
unfoldable pub body_fits : ℕ → ℕ → Body → Bool
body_fits allowance r b = not (bad_transactions allowance (transactions_of b))
    && not (bad_previous_set r b.previous)

-- so for the proposal, if there is one; held certificates are the store's part (rows_fit), and so is that every commit mark names a block
abbrev pub fits_if_there : ℕ → ℕ → Option Body → Bool
fits_if_there allowance r None = true
fits_if_there allowance r (Some b) = body_fits allowance r b

unfoldable pub proposal_fits : State → Bool
proposal_fits s = fits_if_there s.settings.allowance s.round s.proposal

-- the lent table has at least the length for the ceiling, the conditions above hold, block rounds are even, rising and below the ceiling, guests' queues are well formed, and no guest's serial port has read past the listing's end
unfoldable pub well_formed : State → List ℕ → Bool
well_formed s t =
    nat_le (used_length s.settings.ceiling) (length t)
    && (head_fits s
    && (proposal_fits s
    && (rows_fit t s.settings.allowance s.blocks s.settings.ceiling
    && (blocks_fit s.settings.ceiling t s.blocks
    && (queues_fit t
    && ports_fit s.settings t s.blocks)))))
