-- Laws of the words of a held certificate, of a bond's effect and of a state, put piece by piece.
use Rattle.std.proofs.Common.{◌≡◌, refl, ap, ap₂, ◌∙◌, cond, List, [], ◌∷◌, ◌++◌, ℕ, ◌+◌, ◌≤◌, arith, length, length-append}
use Rattle.base.proofs.Words.{paste}
use Rattle.terms.specs.declared.Proposal.{Proposal}
use Rattle.committee.specs.declared.effects.Effect.{Effect}
use Rattle.state.specs.declared.State.{State}
use Rattle.state.specs.States.{is_proposing, own_body}
use Rattle.words.specs.Lengths.{state_length, body_length, proposal_length, held_length, effect_length}
use Rattle.words.specs.Words.{sixteen, weight_words}
use Rattle.words.proofs.PasteLaws.{paste-append, length-sixteen, length-weights}
use Rattle.words.specs.Bodies.{body_words}
use Rattle.words.proofs.BodyLaws.{length-body}
use Rattle.words.specs.Proposals.{held_words}
use Rattle.words.specs.Effects.{effect_words}
use Rattle.words.specs.States.{state_words}

pub held_put : (p : Proposal) (d k : ℕ) (t : List ℕ) → held_length ≤ length t
    → paste (paste (paste t 0 (p.author.0 ∷ p.round ∷ []) 2) 2 (body_words p.body) body_length) proposal_length (d ∷ k ∷ []) 2 ≡ paste t 0 (held_words p d k) held_length
unfolding held_words
held_put p d k t h =
    let head = p.author.0 ∷ p.round ∷ [] in
    let l = length-body p.body in
    ap (λ (z : List ℕ). paste z proposal_length (d ∷ k ∷ []) 2) (paste-append t 0 head (body_words p.body) 2 body_length refl (omega arith))
    ∙ paste-append t 0 (head ++ body_words p.body) (d ∷ k ∷ []) proposal_length 2 (length-append head (body_words p.body) ∙ ap (λ (z : ℕ). 2 + z) l) (omega arith)

pub effect_put : (x : Effect) (t : List ℕ) → effect_length ≤ length t
    → paste (paste (paste t 0 (sixteen x.before) 16) 16 (sixteen x.after) 16) 32 (x.largest ∷ []) 1 ≡ paste t 0 (effect_words x) effect_length
unfolding effect_words
effect_put x t h =
    let b = sixteen x.before in
    let a = sixteen x.after in
    ap (λ (z : List ℕ). paste z 32 (x.largest ∷ []) 1) (paste-append t 0 b a 16 16 (length-sixteen x.before) (omega arith))
    ∙ paste-append t 0 (b ++ a) (x.largest ∷ []) 32 1 (length-append b a ∙ ap₂ (λ (y z : ℕ). y + z) (length-sixteen x.before) (length-sixteen x.after)) (omega arith)

-- the pieces of a state's words, one after the other
pub state_put : (s : State) (t : List ℕ) → state_length ≤ length t
    → paste
    (paste
    (paste
    (paste (paste t 0 (s.own.0 ∷ s.settings.lookback ∷ s.settings.ceiling ∷ s.settings.allowance ∷ []) 4) 4 (weight_words s.settings.weights) 16)
    20
    (s.round ∷ cond (is_proposing s) 1 0 ∷ s.blocks ∷ [])
    3)
    23
    (body_words (own_body s))
    body_length)
    37
    (s.settings.margin ∷ s.rights.0 ∷ [])
    2
    ≡ paste t 0 (state_words s) state_length
unfolding state_words
state_put s t h =
    let head = s.own.0 ∷ s.settings.lookback ∷ s.settings.ceiling ∷ s.settings.allowance ∷ [] in
    let middle = s.round ∷ cond (is_proposing s) 1 0 ∷ s.blocks ∷ [] in
    let w = weight_words s.settings.weights in
    let b = body_words (own_body s) in
    let l : length (head ++ w) ≡ 20 = length-append head w ∙ ap (λ (z : ℕ). 4 + z) (length-weights s.settings.weights) in
    let m : length (head ++ w ++ middle) ≡ 23 = length-append (head ++ w) middle ∙ ap (λ (z : ℕ). z + 3) l in
    let n : length (head ++ w ++ middle ++ b) ≡ 37 = length-append (head ++ w ++ middle) b ∙ ap₂ (λ (y z : ℕ). y + z) m (length-body (own_body s)) in
    let d = s.settings.margin ∷ s.rights.0 ∷ [] in
    ap (λ (z : List ℕ). paste (paste (paste z 20 middle 3) 23 b body_length) 37 d 2) (paste-append t 0 head w 4 16 refl (omega arith))
    ∙ ap (λ (z : List ℕ). paste (paste z 23 b body_length) 37 d 2) (paste-append t 0 (head ++ w) middle 20 3 l (omega arith))
    ∙ ap (λ (z : List ℕ). paste z 37 d 2) (paste-append t 0 (head ++ w ++ middle) b 23 body_length m (omega arith))
    ∙ paste-append t 0 (head ++ w ++ middle ++ b) d 37 2 n (omega arith)
