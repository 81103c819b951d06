-- What is drawn is the transaction list that the rules see, and check 6 lets it pass.
use Rattle.std.proofs.Common.{◌≡◌, refl, sym, ◌∙◌, true, false, List, ℕ, arith, le-ltb}
use Rattle.base.proofs.CheckLaws.{passes, lacks, never}
use Rattle.terms.specs.Proposals.{transactions_of, bad_transactions}
use Rattle.terms.proofs.BodyLaws.{body-transactions}
use Rattle.queues.specs.Queues.{transactions_in}
use Rattle.queues.specs.Words.{queues_of}
use Rattle.queues.proofs.DrawLaws.{transactions-few, drawn-fit}
use Rattle.rules.specs.Calls as rules
use Rattle.state.specs.declared.State.{State}
use Rattle.state.specs.WellFormed.{well_formed}
use Rattle.state.proofs.FormedLaws.{formed}
use Rattle.state.proofs.RefusalLaws.{refusal-formed}
use Rattle.propose.specs.Propose.{propose_refusal}
use Rattle.draw.specs.Draw.{draws, drawn_body, draw_refusal}
use Rattle.state.proofs.FormedLaws.{first_row}
use Rattle.std.specs.Prelude.{◌≢◌}

-- what is drawn, in its order, is the transaction list that the usual rules see
pub drawn_seen : (s : State) (t : List ℕ) (v : ℕ) → well_formed s t ≡ true → transactions_of (drawn_body s t v) ≡ transactions_in (draws s t)
unfolding drawn_body
drawn_seen s t v w =
    let f = formed s t w in
    let a = f.settings.allowance_to in
    let k = transactions-few s.settings.allowance (queues_of t) in
    body-transactions v (transactions_in (draws s t)) (omega arith)

-- check 6
drawn-passes : (s : State) (t : List ℕ) (v : ℕ) → well_formed s t ≡ true → bad_transactions s.settings.allowance (transactions_of (drawn_body s t v)) ≡ false
unfolding bad_transactions
drawn-passes s t v w =
    let f = formed s t w in
    rw (
      drawn_seen s t v w,
      le-ltb _ _ (transactions-few s.settings.allowance (queues_of t)),
      drawn-fit s.settings.allowance t (first_row s t f) f.queues,
    )
    refl

-- 6 is no answer: what is drawn is in range and within the allowance
pub never_six : (s : State) (t : List ℕ) (v : ℕ) → well_formed s t ≡ true → draw_refusal s t v ≢ 6
unfolding draw_refusal propose_refusal lacks
never_six s t v w e =
    let b = drawn_body s t v in
    let c = rules.propose b.previous (transactions_of b) in
    never 6 _ (omega arith) refl (sym (refusal-formed s t c w ∙ passes 6 _ (drawn-passes s t v w)) ∙ e)
