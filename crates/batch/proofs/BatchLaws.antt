-- Laws of a batch: what one turn leaves and all turns leave, what an accepted batch has passed, and rows of none and of one.
use Rattle.std.proofs.Common.{◌≡◌, refl, sym, ap, ◌∙◌, subst, true, not, ◌||◌, List, [], ◌∷◌, ◌≢◌, ℕ, ◌<◌, ◌≤◌, arith, length, drop, ltb, ltb-false, Option, Some, None}
use Rattle.base.proofs.Words.{ℕ_discrete, paste, paste-zero, not-false}
use Rattle.base.specs.Options.{if_there}
use Rattle.base.specs.Folds.{tab}
use Rattle.base.proofs.Bools.{neither}
use Rattle.base.proofs.CheckLaws.{cleared}
use Rattle.terms.specs.declared.Certificate.{Certificate}
use Rattle.terms.specs.Proposals.{content_of}
use Rattle.terms.specs.declared.sheet.Settings.{Settings}
use Rattle.rules.specs.Tests.{MemberView}
use Rattle.rules.specs.Calls as rules
use Rattle.rules.specs.Calls.{ruled_refusal, result}
use Rattle.rules.proofs.CallLaws.{ruled-refusal, after-accept, result-refused, result-accepted}
use Rattle.state.specs.declared.State.{State}
use Rattle.state.specs.WellFormed.{well_formed}
use Rattle.state.specs.View.{view}
use Rattle.state.proofs.RefusalLaws.{refusal-formed}
use Rattle.state.proofs.AnswerLaws.{if_accepted-new, if_accepted-old}
use Rattle.accept.specs.Accept.{accept_refusal, accept_table}
use Rattle.engine.specs.Calls.{accept, InRange}
use Rattle.engine.specs.Engine.{Engine, after}
use Rattle.engine.specs.Steps.{view_at}
use Rattle.engine.specs.Sequences.{NoOpen}
use Rattle.engine.specs.Reached.{Good}
use Rattle.engine.proofs.RuledLaws.{good_after, view-after}
use Rattle.batch.specs.Turns.{turns, leaves, answer_to}
use Rattle.batch.proofs.OrderLaws.{turns-none, turns-one}
use Rattle.batch.proofs.AnswerLaws.{turns_keep}
use Rattle.batch.specs.Batch.{Row, turns_of, number_on, table_after, tried_table, answer_at, batch_checks, batch_refusal, batch_table, batch_answers}
use Rattle.batch.specs.Again.{RowReads}
use Rattle.state.specs.States.{own_body}

-- ---- one accept

-- an accept leaves the state
pub after-accepts : (e : Engine) (c : Certificate) → after e (accept c) ≡ record { state = e.state; table = accept_table e.state e.table c }
after-accepts e c = refl

-- the rules' call that an accept stands for
abbrev pub accept_of : Certificate → rules.Call
accept_of c = rules.accept (content_of c.proposal) c.endorsers

-- by the rules an accept leaves the chain
chain-result : (S : Settings) (k : ℕ) (v : MemberView S) (c : Certificate) → (result S k v (accept_of c)).chain ≡ v.chain
chain-result S k v c = go (ℕ_discrete (ruled_refusal S k v (accept_of c)) 0)
  where
    go : Dec (ruled_refusal S k v (accept_of c) ≡ 0) → (result S k v (accept_of c)).chain ≡ v.chain
    go (yes e) = ap (λ (w : MemberView S). w.chain) (result-accepted S k v (accept_of c) e ∙ after-accept S k v (content_of c.proposal) c.endorsers)
    go (no n) = ap (λ (w : MemberView S). w.chain) (result-refused S k v (accept_of c) n)

-- the table u of a state that had t: well formed, and the chain as it was
pub record Still (s : State) (t u : List ℕ) : Type 0 where
  pub formed : well_formed s u ≡ true
  pub chain : (view s u).chain ≡ (view s t).chain

module _ (s : State) (t : List ℕ) where
  -- a refused one leaves the table
  pub accept-refused : (c : Certificate) → accept_refusal s t c ≢ 0 → accept_table s t c ≡ t
  unfolding accept_table
  accept-refused c n = if_accepted-old (accept_refusal s t c) _ t n

  module _ (w : well_formed s t ≡ true) (c : Certificate) where
    -- its number is the rules'
    pub accept-ruled : accept_refusal s t c ≡ ruled_refusal s.settings s.own.0 (view s t) (accept_of c)
    unfolding accept_refusal
    accept-ruled = refusal-formed s t (accept_of c) w ∙ sym (ruled-refusal s.settings s.own.0 (view s t) (accept_of c))

    module _ (low : (own_body s).previous < 65536) (r : InRange (accept c)) where
      abbrev engine : Engine
      engine = record { state = s; table = t }

      good : Good s.settings s.own.0 engine
      good = record { own = refl; settings = refl; formed = w; small = low }

      no_open : NoOpen engine (accept c)
      no_open own sheet e = let z : ◌≡◌ {A = ℕ} 0 1 = cc in absurd (omega arith)

      -- the view that it leaves is the rules'
      pub accept-shows : view s (accept_table s t c) ≡ result s.settings s.own.0 (view s t) (accept_of c)
      accept-shows = ap (view_at s.settings) (sym (after-accepts engine c)) ∙ view-after good (accept c) r no_open

      pub accept-left : Still s t (accept_table s t c)
      accept-left =
          record {
            formed = (subst (Good s.settings s.own.0) (after-accepts engine c) (good_after good (accept c) r no_open)).formed;
            chain = ap (λ (v : MemberView s.settings). v.chain) accept-shows ∙ chain-result s.settings s.own.0 (view s t) c;
          }

-- ---- turns

pub row-range : {row : Row} → RowReads row → (p : ℕ) (c : Certificate) → (row.at p).certificate ≡ Some c → InRange (accept c)
row-range reads p c e = (reads.previous p c e, reads.endorsers p c e)

module _ (s : State) (low : (own_body s).previous < 65536) (row : Row) (reads : RowReads row) where
  -- one turn
  pub accept-still : (t : List ℕ) → well_formed s t ≡ true → (p : ℕ) → Still s t (table_after s row t p)
  accept-still t w p = go (row.at p).certificate refl
    where
      go : (o : Option Certificate) → (row.at p).certificate ≡ o → Still s t (if_there o t (accept_table s t))
      go None e = record { formed = w; chain = refl }
      go (Some c) e = accept-left s t w c low (row-range reads p c e)

  -- and any turns
  pub leaves-formed : (t : List ℕ) → well_formed s t ≡ true → (l : List ℕ) → Still s t (leaves (table_after s row) l t)
  leaves-formed t w l = turns_keep (table_after s row) (Still s t) l t (λ m p rest e h. more (leaves (table_after s row) m t) p h) (record { formed = w; chain = refl })
    where
      more : (u : List ℕ) (p : ℕ) → Still s t u → Still s t (table_after s row u p)
      more u p h = let k = accept-still u h.formed p in record { formed = k.formed; chain = k.chain ∙ h.chain }

-- a turn that is not accepted leaves the table
pub refused-still : (s : State) (row : Row) (t : List ℕ) (p : ℕ) → number_on s row t p ≢ 0 → table_after s row t p ≡ t
refused-still s row t p = go (row.at p).certificate
  where
    go : (o : Option Certificate) → if_there o 1 (accept_refusal s t) ≢ 0 → if_there o t (accept_table s t) ≡ t
    go None n = refl
    go (Some c) n = accept-refused s t c n

-- ---- the batch

-- an accepted one: the state is well formed, the row not over 64, and the answers not shorter
pub batch-passed : (s : State) (t : List ℕ) (n room : ℕ) → batch_refusal s t n room ≡ 0 → (well_formed s t ≡ true) × (n ≤ 64) × (n ≤ room)
unfolding batch_refusal
batch-passed s t n room h =
    let a = cleared (not (well_formed s t)) 1 (batch_checks n room) (omega arith) h in
    let b = neither (ltb 64 n) (ltb room n) (cleared (ltb 64 n || ltb room n) 25 [] (omega arith) a.1).0 in
    (not-false (well_formed s t) a.0, ltb-false 64 n b.0, ltb-false room n b.1)

module _ (s : State) (t : List ℕ) (row : Row) (answers : List ℕ) where
  -- a refused one leaves table and answers
  pub batch-refused : batch_refusal s t row.count (length answers) ≢ 0 → (batch_table s t row answers ≡ t) × (batch_answers s t row answers ≡ answers)
  unfolding batch_table batch_answers
  batch-refused n = (if_accepted-old (batch_refusal s t row.count (length answers)) _ t n, if_accepted-old (batch_refusal s t row.count (length answers)) _ answers n)

  -- an accepted one leaves what its turns leave, and their answers
  module _ (h : batch_refusal s t row.count (length answers) ≡ 0) where
    pub batch-table : batch_table s t row answers ≡ tried_table s row t
    unfolding batch_table
    batch-table = if_accepted-new (batch_refusal s t row.count (length answers)) _ t h

    pub batch-answers : batch_answers s t row answers ≡ paste answers 0 (tab (answer_at s row t) row.count) row.count
    unfolding batch_answers
    batch-answers = if_accepted-new (batch_refusal s t row.count (length answers)) _ answers h

  -- a row of none leaves table and answers
  pub batch-empty : row.count ≡ 0 → (batch_table s t row answers ≡ t) × (batch_answers s t row answers ≡ answers)
  unfolding leaves
  batch-empty e = go (ℕ_discrete (batch_refusal s t row.count (length answers)) 0)
    where
      untouched : tried_table s row t ≡ t
      untouched = ap (λ (n : ℕ). leaves (table_after s row) (turns (λ p. (row.at p).key) n) t) e ∙ ap (λ (l : List ℕ). leaves (table_after s row) l t) (turns-none (λ p. (row.at p).key))

      go : Dec (batch_refusal s t row.count (length answers) ≡ 0) → (batch_table s t row answers ≡ t) × (batch_answers s t row answers ≡ answers)
      go (no n) = batch-refused n
      go (yes h) = (batch-table h ∙ untouched, batch-answers h ∙ ap (λ (n : ℕ). paste answers 0 (tab (answer_at s row t) n) n) e ∙ sym (paste-zero answers 0 (tab (answer_at s row t) 0)))

  -- a row of one is one accept
  pub batch-one : row.count ≡ 1 → (c : Certificate) → (row.at 0).certificate ≡ Some c → batch_refusal s t row.count (length answers) ≡ 0
      → (batch_table s t row answers ≡ accept_table s t c) × (batch_answers s t row answers ≡ accept_refusal s t c ∷ drop 1 answers)
  unfolding leaves answer_to tab
  batch-one e c k h = (batch-table h ∙ its_table, batch-answers h ∙ its-answers)
    where
      alone : turns_of row ≡ 0 ∷ []
      alone = ap (turns (λ p. (row.at p).key)) e ∙ turns-one (λ p. (row.at p).key)

      its_table : tried_table s row t ≡ accept_table s t c
      its_table = ap (λ (l : List ℕ). leaves (table_after s row) l t) alone ∙ ap (λ (o : Option Certificate). if_there o t (accept_table s t)) k

      its_answer : answer_at s row t 0 ≡ accept_refusal s t c
      its_answer = ap (λ (l : List ℕ). answer_to (table_after s row) (number_on s row) l t 0) alone ∙ ap (λ (o : Option Certificate). if_there o 1 (accept_refusal s t)) k

      its-answers : paste answers 0 (tab (answer_at s row t) row.count) row.count ≡ accept_refusal s t c ∷ drop 1 answers
      its-answers = ap (λ (n : ℕ). paste answers 0 (tab (answer_at s row t) n) n) e ∙ ap (λ (n : ℕ). n ∷ drop 1 answers) its_answer
