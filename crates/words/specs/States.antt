-- A member's state as words.
use Rattle.std.specs.Prelude.{Bool, true, if◌then◌else◌, ◌&&◌, List, [], ◌∷◌, ◌++◌, ℕ, ◌+◌, Option, Some, None, length, ◌==◌, nat_le}
use Rattle.base.specs.Folds.{tab}
use Rattle.terms.specs.declared.Body.{Body}
use Rattle.terms.specs.declared.sheet.Weight.{Weight}
use Rattle.terms.specs.declared.sheet.Settings.{Settings}
use Rattle.terms.specs.Ranges.{weight}
use Rattle.state.specs.declared.State.{State}
use Rattle.state.specs.States.{is_proposing, own_body}
use Rattle.words.specs.declared.places.TheConstants.{STATE_OWN, STATE_LOOKBACK, STATE_CEILING, STATE_ALLOWANCE, STATE_WEIGHTS, STATE_ROUND, STATE_PROPOSED, STATE_BLOCKS, STATE_BODY, STATE_MARGIN, STATE_RIGHTS}
use Rattle.words.specs.Lengths.{state_length}
use Rattle.words.specs.Words.{word, weight_words}
use Rattle.words.specs.Bodies.{body_reads, body_in, body_words}

-- one word tells whether there is a proposal; those of its body are not looked at where there is none
unfoldable pub state_reads : List ℕ → Bool
state_reads w = nat_le state_length (length w)
    && (nat_le (word w STATE_PROPOSED) 1 && (if word w STATE_PROPOSED == 0 then true
    else body_reads w STATE_BODY))

abbrev pub weights_in : List ℕ → List Weight
weights_in w = tab (λ i. weight (word w (STATE_WEIGHTS + i))) 16

unfoldable pub settings_in : List ℕ → Settings
settings_in w = record {
  lookback = word w STATE_LOOKBACK;
  ceiling = word w STATE_CEILING;
  allowance = word w STATE_ALLOWANCE;
  weights = weights_in w;
  margin = word w STATE_MARGIN;
}

unfoldable pub own_proposal_in : List ℕ → Option Body
own_proposal_in w = if word w STATE_PROPOSED == 0 then None else Some (body_in w STATE_BODY)

unfoldable pub state_in : List ℕ → State
state_in w =
    record {
      own = record { 0 = word w STATE_OWN };
      settings = settings_in w;
      round = word w STATE_ROUND;
      proposal = own_proposal_in w;
      blocks = word w STATE_BLOCKS;
      rights = record { 0 = word w STATE_RIGHTS };
    }

-- ---- its words

-- own number, lookback, ceiling, allowance; sixteen weights; round, is there a proposal, number of blocks; the proposal's body, all 0 where there is none; margin, rights
unfoldable pub state_words : State → List ℕ
state_words s =
    (s.own.0 ∷ s.settings.lookback ∷ s.settings.ceiling ∷ s.settings.allowance ∷ [])
    ++ weight_words s.settings.weights
    ++ (s.round ∷ (if is_proposing s then 1 else 0) ∷ s.blocks ∷ [])
    ++ body_words (own_body s)
    ++ (s.settings.margin ∷ s.rights.0 ∷ [])
