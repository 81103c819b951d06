-- After an accepted call the state's words can be read, and they give the state that the engine's call leaves: nothing is lost between two calls.
use Rattle.std.proofs.Common.{◌≡◌, refl, sym, ap, ◌∙◌, Bool, true, List, ℕ, ◌<◌, ◌≤◌, arith, length, leb, leb-true}
use Rattle.std.specs.Prelude.{Some}
use Rattle.base.proofs.Words.{paste}
use Rattle.base.proofs.Bools.{both}
use Rattle.terms.specs.declared.Body.{Body}
use Rattle.terms.specs.Sheets.{filled}
use Rattle.state.specs.declared.State.{State}
use Rattle.state.specs.States.{proposed, advanced, own_body}
use Rattle.open.specs.Open.{fresh_state}
use Rattle.commit.specs.Commit.{blocks_then, with_blocks}
use Rattle.queues.specs.Queues.{transactions_in}
use Rattle.draw.specs.Draw.{draws, drawn_body}
use Rattle.engine.specs.Calls.{Call, opens, propose, advance, commit, draw}
use Rattle.engine.specs.Engine.{after}
use Rattle.engine.specs.Steps.{SetInRange}
use Rattle.engine.proofs.AfterLaws.{renewed, accepted-new}
use Rattle.engine.proofs.AcceptedLaws.{WellLeft, accepted-left}
use Rattle.words.specs.Lengths.{state_length}
use Rattle.words.specs.States.{state_reads, state_in, state_words}
use Rattle.words.specs.TidyStates.{tidy_body, tidy}
use Rattle.hosting.specs.Handed.{Handed}
use Rattle.hosting.specs.Calls.{Use, writes, rewrites, accesses, reads, use_of, serves, engine_for, state_over, result_of}
use Rattle.words.proofs.ReadingLaws.{state-read}
use Rattle.words.proofs.TidyLaws.{tidy-by, of-tidy, weights-tidy, filled-tidy, own-proposal-tidy}
use Rattle.words.proofs.BackLaws.{put_back, put-read}
use Rattle.hosting.proofs.CallLaws.{AcceptedCall, accepted-call}

-- the words v can be read, and they give the state s
pub record Gives (v : List ℕ) (s : State) : Type 0 where
  pub can_read : state_reads v ≡ true
  pub gives : state_in v ≡ s

module _ (w t o : List ℕ) where
  -- ---- the engine that a call is made on, and what it leaves

  set_in_range : (u : Use) → serves w t o u ≡ true → SetInRange (engine_for w t o u)
  set_in_range writes r = omega arith
  set_in_range rewrites r = (state-read w r).set
  set_in_range (accesses x) r = (state-read w r).set
  set_in_range (reads n) r = (state-read w (both (state_reads w) (leb n (length o)) r).0).set

  module _ {b : Bool} {c : Call} (h : Handed b c) (a : AcceptedCall w t o b c) where
    pub well-left : WellLeft (after (engine_for w t o (use_of c)) c)
    well-left = accepted-left (engine_for w t o (use_of c)) (set_in_range (use_of c) a.serving) c (h.is_in_range a.read) a.accepted

  -- ---- the state's words

  -- what is put is tidy; where nothing is put the state is the one that was read
  abbrev Left : Use → State → Type 0
  Left writes s = tidy s ≡ s
  Left rewrites s = tidy s ≡ s
  Left (accesses x) s = s ≡ state_in w
  Left (reads n) s = s ≡ state_in w

  drawn-tidy : (s : State) (v : ℕ) → tidy_body (drawn_body s t v) ≡ drawn_body s t v
  unfolding drawn_body
  drawn-tidy s v = of-tidy v (transactions_in (draws s t))

  blocks-tidy : (k : ℕ) → tidy (with_blocks (state_in w) k) ≡ with_blocks (state_in w) k
  unfolding state_in
  blocks-tidy k = tidy-by (with_blocks (state_in w) k) (weights-tidy w) (own-proposal-tidy w)

  left : (c : Call) → ((x : Body) → c ≡ propose x → tidy_body x ≡ x) → Left (use_of c) (renewed (engine_for w t o (use_of c)) c).state
  left (opens own sheet) h = tidy-by (fresh_state own (filled sheet) sheet.rights) (filled-tidy sheet) refl
  left (propose b) h = tidy-by (proposed (state_in w) b) (weights-tidy w) (ap Some (h b refl))
  left advance h = tidy-by (advanced (state_in w)) (weights-tidy w) refl
  left commit h = blocks-tidy (blocks_then (state_in w) t)
  left (draw v) h = tidy-by (proposed (state_in w) (drawn_body (state_in w) t v)) (weights-tidy w) (ap Some (drawn-tidy (state_in w) v))
  left c h = refl

  put-gives : (s : State) → state_length ≤ length w → (own_body s).previous < 65536 → tidy s ≡ s → Gives (paste w 0 (state_words s) state_length) s
  put-gives s l i e = record { can_read = put-read w s l i; gives = put_back w s l ∙ e }

  over-gives : (u : Use) (s : State) → serves w t o u ≡ true → (own_body s).previous < 65536 → Left u s → Gives (state_over w t o u s) s
  over-gives writes s r i e = put-gives s (leb-true state_length (length w) r) i e
  over-gives rewrites s r i e = put-gives s (state-read w r).long i e
  over-gives (accesses x) s r i e = record { can_read = r; gives = sym e }
  over-gives (reads n) s r i e = record { can_read = (both (state_reads w) (leb n (length o)) r).0; gives = sym e }

  -- every accepted call
  pub accepted-gives : {b : Bool} {c : Call} → Handed b c → (result_of w t o b c).refusal ≡ 0 → Gives (result_of w t o b c).state (after (engine_for w t o (use_of c)) c).state
  accepted-gives {b} {c} h z =
      let a = accepted-call w t o b c z in
      let e = engine_for w t o (use_of c) in
      rw a.its_state (over-gives (use_of c) (after e c).state a.serving (well-left h a).set_in_range (rw (accepted-new e c a.accepted) (left c h.tidy)))
