-- A well-formed state stays well formed: what each accepted call does to the state and the table.
use Rattle.std.proofs.Common.{◌≡◌, ◌∙◌, true, false, List, ℕ, ◌+◌, ◌<◌, ◌≤◌, arith, length}
use Rattle.base.proofs.Words.{false≢true}
use Rattle.base.specs.Sets.{contains}
use Rattle.terms.specs.declared.Body.{Body}
use Rattle.terms.specs.declared.Member.{Member}
use Rattle.terms.specs.declared.Round.{Round}
use Rattle.terms.specs.Proposals.{Content, content_with, bad_transactions, bad_previous_set}
use Rattle.terms.proofs.ProposalLaws.{length-transactions}
use Rattle.store.specs.Table.{Row, Within, block_round}
use Rattle.store.specs.Writes.{put_certificate, set_endorsed, clear_endorsed, clear_held, clear_used}
use Rattle.store.proofs.PutLaws.{length-put, block-round-put}
use Rattle.store.proofs.EndorseLaws.{OnlyEndorsed, block-round-endorse, set-endorsed, clear-endorsed}
use Rattle.store.proofs.HeldLaws.{clear-held, block-round-held}
use Rattle.store.proofs.ClearLaws.{length-cleared}
use Rattle.store.proofs.FirstRow.{OnlyFirst, SameFirst, put_first, clear-held-first, set-endorsed-first, clear-endorsed-first, cleared-first}
use Rattle.queues.proofs.WordLaws.{fits-same, fits-clear}
use Rattle.queues.specs.Words.{queues_fit}
use Rattle.scan.proofs.FirstRow.{rows-only}
use Rattle.scan.proofs.FitLaws.{rows-cleared, rows-put, rows-set-endorsed, rows-clear-endorsed, rows-clear-held}
use Rattle.scan.specs.Scan.{rows_fit}
use Rattle.terms.specs.declared.sheet.Rights.{Rights}
use Rattle.terms.specs.declared.sheet.Settings.{Settings}
use Rattle.terms.specs.Ranges.{out_of_range, weightless}
use Rattle.terms.proofs.SheetLaws.{settings-fit}
use Rattle.state.specs.declared.State.{State}
use Rattle.state.specs.States.{with_round, proposed, advanced, fresh, no_body}
use Rattle.std.specs.Prelude.{Option, Some, None, is_some, unwrap_or}
use Rattle.state.proofs.RoundLaws.{blocks-whole, blocks-same}
use Rattle.state.specs.Formed.{BodyFits, Formed}
use Rattle.state.proofs.FormedLaws.{formed-by}
use Rattle.state.proofs.FirstRow.{blocks-only}
use Rattle.state.proofs.WriteLaws.{Storable, within}

-- a body that fits has a place, with any author and round
pub storable : (n allowance a r : ℕ) (b : Body) → a < 16 → 0 < r → r ≤ n → allowance ≤ 4 → BodyFits allowance r b → b.previous < 65536 → Storable n (content_with a r b)
storable n allowance a r b h from to l f small =
    let e = length-transactions b in
    record { author = h; from = from; to = to; few = omega arith; small = small }

module _ (s : State) (t : List ℕ) (f : Formed s t) where
  -- ---- propose and advance: another round or another proposal

  moved-kept : (r : Round) (o : Option Body) → 1 ≤ r → r ≤ s.settings.ceiling → (is_some o ≡ true → BodyFits s.settings.allowance r (unwrap_or o no_body))
      → Formed (with_round s r o) t
  moved-kept r o from to p =
      formed-by (with_round s r o) t f.is_in_range f.weighty
      (record { own = f.numbers.own; round_from = from; round_to = to; blocks_to = f.numbers.blocks_to }) p f.long f.rows f.rounds f.queues

  -- a proposal that fits is kept
  pub propose-kept : (b : Body) → BodyFits s.settings.allowance s.round b → Formed (proposed s b) t
  propose-kept b p = moved-kept s.round (Some b) f.numbers.round_from f.numbers.round_to (λ _. p)

  -- below the ceiling the next round, with no proposal
  pub advance-kept : s.round < s.settings.ceiling → Formed (advanced s) t
  advance-kept h = moved-kept (s.round + 1) None (omega arith) (omega arith) (λ e. absurd (false≢true e))

  -- ---- endorse, certify, accept: another table

  written : (u : List ℕ) → length u ≡ length t → rows_fit u s.settings.allowance s.blocks s.settings.ceiling ≡ true → ((k : ℕ) → block_round u k ≡ block_round t k) → SameFirst t u → Formed s u
  written u l r b q =
      formed-by s u f.is_in_range f.weighty f.numbers f.proposal (omega arith) r
      (blocks-same s.settings.ceiling t u s.blocks (λ k _. b k) f.rounds) (fits-same t u q ∙ f.queues)

  marked : {q : ℕ} {u : List ℕ} → OnlyEndorsed q t u → rows_fit u s.settings.allowance s.blocks s.settings.ceiling ≡ true → SameFirst t u → Formed s u
  marked {u = u} o r = written u o.size r (block-round-endorse o)

  module _ (a q : ℕ) (h : a < 16) (z : 0 < q) (l : q ≤ s.settings.ceiling) where
    at : Within t a q
    at = record { member = h; row = omega arith }

    -- a place marked endorsed
    pub endorse-kept : Formed s (set_endorsed t a q)
    endorse-kept = marked (set-endorsed t a q) (rows-set-endorsed t a q at s.settings.allowance s.blocks s.settings.ceiling f.rows) (set-endorsed-first t a q z)

    -- its certificate held no more
    pub absent-kept : Formed s (clear_held t a q)
    absent-kept =
        let o = clear-held t a q at.row in
        written (clear_held t a q) o.size (rows-clear-held t a q at.row s.settings.allowance s.blocks s.settings.ceiling f.rows) (block-round-held o) (clear-held-first t a q z)

    -- its mark cleared
    pub clear_kept : Formed s (clear_endorsed t a q)
    clear_kept = marked (clear-endorsed t a q) (rows-clear-endorsed t a q at s.settings.allowance s.blocks s.settings.ceiling f.rows) (clear-endorsed-first t a q z)

  -- a certificate held that passes checks 6 and 7, its author not among its endorsers
  pub put-kept : (p : Content) (d : ℕ) → d < 65536 → contains d p.author ≡ false → Storable s.settings.ceiling p → bad_transactions s.settings.allowance p.transactions ≡ false → bad_previous_set p.round p.previous ≡ false
      → Formed s (put_certificate t p d)
  put-kept p d low apart k fit right =
      let i = within t f.long k in
      written (put_certificate t p d) (length-put t p d i)
      (rows-put t p d i s.settings.allowance s.blocks f.settings.allowance_to fit right k.small low apart s.settings.ceiling f.rows)
      (block-round-put t p d i) (put_first t p d i k.from)

  -- ---- enqueue and draw: another row 0, with queues that fit

  pub first-kept : {u : List ℕ} → OnlyFirst t u → queues_fit u ≡ true → Formed s u
  first-kept {u} o q =
      let n = s.settings.ceiling in
      let l = o.size in
      formed-by s u f.is_in_range f.weighty f.numbers f.proposal (omega arith) (rows-only o s.settings.allowance s.blocks n ∙ f.rows) (blocks-only o n s.blocks ∙ f.rounds) q

-- ---- open: a fresh state and a cleared table

pub open_formed : (own : Member) (S : Settings) (R : Rights) (t : List ℕ) → own.0 < 16 → out_of_range S ≡ false → weightless S ≡ false → Row t S.ceiling
    → Formed (fresh own S R) (clear_used t S.ceiling)
open_formed own S R t h e w l =
    let n = S.ceiling in
    let f = settings-fit S e in
    let i = length-cleared t n l in
    formed-by (fresh own S R) (clear_used t n) e w (record { own = h; round_from = omega arith; round_to = omega arith; blocks_to = omega arith }) (λ x. absurd (false≢true x))
    (omega arith) (rows-cleared t n S.allowance 0) (blocks-whole n (clear_used t n) 0 (λ k x. absurd (omega arith))) (fits-clear (clear_used t n) (cleared-first t n))
