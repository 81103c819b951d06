-- Laws of what a record does: the lines that answer each call, and the record that asks for one.
use Rattle.std.proofs.Common.{◌≡◌, refl, sym, ap, ◌∙◌, true, false, not, List, [], ◌++◌, eq-eqb, ne_eqb, ℕ, ◌+◌, ◌-◌, ◌*◌, ◌≤◌, length, arith}
use Rattle.std.specs.Prelude.{None, Some, Result, Ok, Err, IfOk}
use Rattle.base.proofs.CheckLaws.{refuses, passes, passes-all}
use Rattle.state.specs.View.{view}
use Rattle.state.specs.WellFormed.{well_formed}
use Rattle.refusals.specs.declared.Refusal.{Refusal}
use Rattle.refusals.specs.Refusals.{refusal_in}
use Rattle.refusals.proofs.RefusalLaws.{some-number}
use Rattle.commit.specs.Commit.{blocks_then}
use Rattle.engine.specs.Calls.{Call, commit, aside, listing}
use Rattle.engine.specs.Engine.{Engine, refusal_for, after}
use Rattle.engine.specs.Values.{nothing, accepted_value}
use Rattle.listing.specs.Lines.{ok_line, refused_line}
use Rattle.base.specs.Puts.{Puts}
use Rattle.replies.specs.Answers.{answer_line, committed_line}
use Rattle.listing.specs.Listing.{chain_lines}
use Rattle.base.proofs.PutLaws.{puts_as}
use Rattle.replies.specs.Records.{lines_for, served_engine, served_lines, RecordAnswered}

-- ---- the lines of a call

module _ (e : Engine) where
  -- of one that gives no value: by its answer
  pub answer-lines : (c : Call) → accepted_value e c ≡ nothing → (a : Result Unit Refusal) → refusal_in a ≡ refusal_for e c → answer_line a ≡ lines_for e c
  unfolding lines_for
  answer-lines c h (Ok x) q = rw (h, eq-eqb (refusal_for e c) 0 (sym q)) refl
  answer-lines c h (Err y) q = rw (ne_eqb (refusal_for e c) 0 (λ z. some-number y (q ∙ z)), ← q) refl

  pub commit-lines : (a : Result ℕ Refusal) → refusal_in a ≡ refusal_for e commit → IfOk a (λ n. n ≡ blocks_then e.state e.table - e.state.blocks) → committed_line a ≡ lines_for e commit
  unfolding lines_for
  commit-lines (Ok n) q i = rw (i, eq-eqb (refusal_for e commit) 0 (sym q)) refl
  commit-lines (Err y) q i = rw (ne_eqb (refusal_for e commit) 0 (λ z. some-number y (q ∙ z)), ← q) refl

  -- of the chain: by whether the state is well formed
  pub listing-refused : well_formed e.state e.table ≡ false → lines_for e (aside listing) ≡ refused_line 1
  unfolding lines_for
  listing-refused w = rw (refuses 1 [] (ap not w)) refl

  pub listing-shown : well_formed e.state e.table ≡ true → lines_for e (aside listing) ≡ chain_lines e.state.settings (view e.state e.table).chain ++ ok_line
  unfolding lines_for
  listing-shown w = rw (passes 1 [] (ap not w) ∙ passes-all) refl

-- ---- a record

module _ {e : Engine} {x : List ℕ} {y : List ℕ} {next : ℕ} where
  -- an unreadable one
  pub unreadable_answered : Puts x y 0 next (refused_line 24) 20 → RecordAnswered e None e x y next
  unfolding served_engine served_lines
  unreadable_answered p = record { its_engine = refl; its_lines = puts_as refl (omega arith) p }

  -- one that asks for the call c
  pub call-answered : (c : Call) {left : Engine} {m : ℕ} → left ≡ after e c → m ≤ length e.table * 9 + 20 → Puts x y 0 next (lines_for e c) m → RecordAnswered e (Some c) left x y next
  unfolding served_engine served_lines
  call-answered c h l p = record { its_engine = h; its_lines = puts_as refl l p }

module _ {e left : Engine} {x : List ℕ} {y : List ℕ} {next : ℕ} where
  -- a call c that gives no value was answered with a
  pub member-answered : (c : Call) → accepted_value e c ≡ nothing → (a : Result Unit Refusal) → refusal_in a ≡ refusal_for e c → left ≡ after e c → Puts x y 0 next (answer_line a) 20 → RecordAnswered e (Some c) left x y next
  member-answered c v a g h p = call-answered c {m = 20} h (omega arith) (puts_as (sym (answer-lines e c v a g)) (omega arith) p)

  -- and a commit
  pub commit-answered : (a : Result ℕ Refusal) → refusal_in a ≡ refusal_for e commit → IfOk a (λ n. n ≡ blocks_then e.state e.table - e.state.blocks) → left ≡ after e commit → Puts x y 0 next (committed_line a) 20 → RecordAnswered e (Some commit) left x y next
  commit-answered a g i h p = call-answered commit {m = 20} h (omega arith) (puts_as (sym (commit-lines e a g i)) (omega arith) p)
