-- A well-formed state has what the calls use of it, and a state that has it is well formed.
use Rattle.std.proofs.Common.{◌≡◌, refl, true, false, not, ◌&&◌, List, ℕ, ◌≤◌, arith, length, leb, ltb, leb-true, le-leb, ltb-true, lt-ltb, ltb-false}
use Rattle.base.proofs.Words.{false≢true, not-true}
use Rattle.base.proofs.Bools.{both, neither}
use Rattle.base.specs.Folds.{all_to}
use Rattle.terms.specs.declared.Body.{Body}
use Rattle.terms.specs.Transactions.{in_range}
use Rattle.terms.specs.Proposals.{slot_of, transactions_of, bad_transactions, bad_previous_set}
use Rattle.terms.proofs.ProposalLaws.{transactions_tab, bad_transactions_tab}
use Rattle.store.specs.Table.{used_length, Row}
use Rattle.scan.specs.Scan.{rows_fit}
use Rattle.queues.specs.Words.{queues_fit}
use Rattle.ports.specs.Ports.{ports_fit}
use Rattle.terms.specs.Ranges.{out_of_range, weightless}
use Rattle.terms.proofs.SheetLaws.{settings-fit}
use Rattle.std.specs.Prelude.{Option, Some, None, is_some, unwrap_or}
use Rattle.state.specs.declared.State.{State}
use Rattle.state.specs.States.{no_body, is_proposing, own_body}
use Rattle.chain_committees.specs.BlockChanges.{blocks_fit}
use Rattle.state.proofs.RoundLaws.{few-blocks, last-below}
use Rattle.state.specs.WellFormed.{numbers_fit, head_fits, body_fits, fits_if_there, proposal_fits, well_formed}
use Rattle.state.specs.Formed.{NumbersFit, BodyFits, Formed}

numbers-parts : (o r b n : ℕ) → numbers_fit o r b n ≡ true → NumbersFit o r b n
unfolding numbers_fit
numbers-parts o r b n e =
    let p = both (ltb o 16) _ e in
    let q = both (leb 1 r) _ p.1 in
    let u = both (leb r n) (leb b n) q.1 in
    record { own = ltb-true o 16 p.0; round_from = leb-true 1 r q.0; round_to = leb-true r n u.0; blocks_to = leb-true b n u.1 }

numbers-whole : (o r b n : ℕ) → NumbersFit o r b n → numbers_fit o r b n ≡ true
unfolding numbers_fit
numbers-whole o r b n w = rw (lt-ltb o 16 w.own, le-leb 1 r w.round_from, le-leb r n w.round_to, le-leb b n w.blocks_to) refl

pub head-parts : (s : State) → head_fits s ≡ true
    → (out_of_range s.settings ≡ false) × NumbersFit s.own.0 s.round s.blocks s.settings.ceiling × (weightless s.settings ≡ false)
unfolding head_fits
head-parts s e =
    let n = numbers_fit s.own.0 s.round s.blocks s.settings.ceiling in
    let p = both (not (out_of_range s.settings)) (n && not (weightless s.settings)) e in
    let q = both n (not (weightless s.settings)) p.1 in
    (not-true (out_of_range s.settings) p.0, numbers-parts s.own.0 s.round s.blocks s.settings.ceiling q.0, not-true (weightless s.settings) q.1)

-- the ranges by which the rest of a well-formed state is tested
pub head_ranges : (s : State) → head_fits s ≡ true → (s.settings.allowance ≤ 4) × (s.settings.ceiling ≤ 1024) × (s.blocks ≤ s.settings.ceiling)
head_ranges s e =
    let h = head-parts s e in
    let f = settings-fit s.settings h.0 in
    (f.allowance_to, f.ceiling_to, h.1.blocks_to)

-- what checks 6 and 7 let pass
pub body-fits : (allowance r : ℕ) (b : Body) → bad_transactions allowance (transactions_of b) ≡ false → bad_previous_set r b.previous ≡ false → BodyFits allowance r b
body-fits a r b e h =
    let p = neither (ltb a b.count) (not (all_to (λ k. in_range (slot_of b k)) b.count)) (rw (transactions_tab b, bad_transactions_tab a (slot_of b) b.count) at e) in
    record { few = ltb-false a b.count p.0; fit = e; right = h }

proposal-parts : (s : State) → proposal_fits s ≡ true → is_proposing s ≡ true → BodyFits s.settings.allowance s.round (own_body s)
unfolding proposal_fits body_fits
proposal-parts s = go s.proposal
  where
    go : (o : Option Body) → fits_if_there s.settings.allowance s.round o ≡ true → is_some o ≡ true → BodyFits s.settings.allowance s.round (unwrap_or o no_body)
    go None e h = absurd (false≢true h)
    go (Some b) e h =
        let a = s.settings.allowance in
        let p = both (not (bad_transactions a (transactions_of b))) (not (bad_previous_set s.round b.previous)) e in
        body-fits a s.round b (not-true (bad_transactions a (transactions_of b)) p.0) (not-true (bad_previous_set s.round b.previous) p.1)

proposal-whole : (s : State) → (is_proposing s ≡ true → BodyFits s.settings.allowance s.round (own_body s)) → proposal_fits s ≡ true
unfolding proposal_fits body_fits
proposal-whole s = go s.proposal
  where
    go : (o : Option Body) → (is_some o ≡ true → BodyFits s.settings.allowance s.round (unwrap_or o no_body)) → fits_if_there s.settings.allowance s.round o ≡ true
    go None k = refl
    go (Some b) k = let w = k refl in rw (w.fit, w.right) refl

module _ (s : State) (t : List ℕ) where
  -- the conditions alone
  pub formed-by : out_of_range s.settings ≡ false → weightless s.settings ≡ false → NumbersFit s.own.0 s.round s.blocks s.settings.ceiling
      → (is_proposing s ≡ true → BodyFits s.settings.allowance s.round (own_body s)) → Row t s.settings.ceiling
      → rows_fit t s.settings.allowance s.blocks s.settings.ceiling ≡ true → blocks_fit s.settings.ceiling t s.blocks ≡ true → queues_fit t ≡ true → Formed s t
  formed-by e w n p l r b q =
      let f = settings-fit s.settings e in
      let i = few-blocks s.settings.ceiling t s.blocks b s.blocks (omega arith) in
      let j = last-below s.settings.ceiling t s.blocks b (omega arith) s.blocks (omega arith) in
      record { is_in_range = e; settings = f; weighty = w; numbers = n; proposal = p; long = l; rows = r; rounds = b; queues = q; room = omega arith; last_to = j }

  pub formed : well_formed s t ≡ true → Formed s t
  unfolding well_formed
  formed e =
      let n = s.settings.ceiling in
      let p = both (leb (used_length n) (length t)) _ e in
      let q = both (head_fits s) _ p.1 in
      let u = both (proposal_fits s) _ q.1 in
      let v = both (rows_fit t s.settings.allowance s.blocks n) _ u.1 in
      let x = both (blocks_fit n t s.blocks) _ v.1 in
      let y = both (queues_fit t) (ports_fit s.settings t s.blocks) x.1 in
      let h = head-parts s q.0 in
      formed-by h.0 h.2 h.1 (proposal-parts s u.0) (leb-true (used_length n) (length t) p.0) v.0 x.0 y.0

  -- and its ports fit
  pub formed-ports : well_formed s t ≡ true → ports_fit s.settings t s.blocks ≡ true
  unfolding well_formed
  formed-ports e =
      let n = s.settings.ceiling in
      let p = both (leb (used_length n) (length t)) _ e in
      let q = both (head_fits s) _ p.1 in
      let u = both (proposal_fits s) _ q.1 in
      let v = both (rows_fit t s.settings.allowance s.blocks n) _ u.1 in
      let x = both (blocks_fit n t s.blocks) _ v.1 in
      (both (queues_fit t) (ports_fit s.settings t s.blocks) x.1).1

  pub whole : Formed s t → ports_fit s.settings t s.blocks ≡ true → well_formed s t ≡ true
  unfolding well_formed head_fits
  whole f ports =
      let n = s.settings.ceiling in
      rw (
        le-leb (used_length n) (length t) f.long,
        f.is_in_range,
        numbers-whole s.own.0 s.round s.blocks n f.numbers,
        f.weighty,
        proposal-whole s f.proposal,
        f.rows,
        f.rounds,
        f.queues,
        ports,
      )
      refl

-- a well-formed table has row 0
pub first_row : (s : State) (t : List ℕ) → Formed s t → Row t 0
first_row s t f = let l = f.long in omega arith
