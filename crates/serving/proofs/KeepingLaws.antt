-- What is kept of a member stays right over its calls, and what its answers rest on.
use Rattle.std.proofs.Common.{◌≡◌, refl, sym, ◌∙◌, ap, subst, Bool, true, List, ℕ, ◌+◌, ◌≤◌, ◌≢◌, length, take, drop, arith}
use Rattle.std.proofs.lemmas.Bool.{false≢true}
use Rattle.std.proofs.lemmas.List.{take-append-le}
use Rattle.std.proofs.lemmas.List.Edits.{sets-eq}
use Rattle.std.proofs.Math.Seq.{take_all}
use Rattle.base.specs.Puts.{Puts}
use Rattle.state.specs.declared.State.{State}
use Rattle.state.specs.Cached.{Cached}
use Rattle.state.specs.WellFormed.{well_formed}
use Rattle.state.specs.Answers.{if_accepted}
use Rattle.state.proofs.AnswerLaws.{if_accepted-new, if_accepted-old}
use Rattle.engine.specs.Calls.{Call, InRange}
use Rattle.engine.specs.Engine.{Engine, refusal_for, after}
use Rattle.engine.specs.Steps.{ruled, Step, refused, opened, moved, SetInRange}
use Rattle.engine.proofs.CachedLaws.{leaves_chain, formed-after, cached-after, cached-refused}
use Rattle.engine.proofs.StepLaws.{every_step}
use Rattle.engine.specs.Values.{nothing, accepted_value}
use Rattle.refusals.specs.declared.Refusal.{Refusal}
use Rattle.refusals.specs.Refusals.{refusal_in}
use Rattle.replies.specs.Answers.{answer_line}
use Rattle.replies.specs.Records.{engine_of, RecordAnswered}
use Rattle.replies.proofs.RecordLaws.{member-answered}
use Rattle.std.specs.Prelude.{Some, Result}
use Rattle.serving.specs.Keeping.{Kept}

-- lines put at the front of a buffer are its first bytes
pub put_first : {x y : List ℕ} {next : ℕ} {l : List ℕ} {m : ℕ} → m ≤ length x → Puts x y 0 next l m → take next y ≡ l
put_first {x} {y} {next} {l} h p =
    let e : next ≡ length l = omega (arith, p.past) in
    rw (e, p.bytes, sets-eq l x 0 (omega (arith, h, p.room))) (take-append-le (length l) l (drop (0 + length l) x) (omega arith) ∙ take_all (length l) l (omega arith))

module _ (e : Engine) (c : Call) (i : InRange c) where
  -- a previous set stays a 16-bit number
  pub in_range-after : SetInRange e → SetInRange (after e c)
  in_range-after low = go (every_step e low c i)
    where
      go : Step e c → SetInRange (after e c)
      go (refused n h) = rw h low
      go (opened own sheet q a f) = f.set_in_range
      go (moved a w n) = n.set_in_range

  -- an accepted call leaves a well-formed state
  pub accepted-formed : SetInRange e → refusal_for e c ≡ 0 → well_formed (after e c).state (after e c).table ≡ true
  accepted-formed low a = sym (formed-after e low c i {b = well_formed e.state e.table} refl) ∙ if_accepted-new (refusal_for e c) true (well_formed e.state e.table) a

  module _ {s : State} {t : List ℕ} (h : s ≡ (after e c).state) (d : t ≡ (after e c).table) (n : length t ≡ length e.table) {b : Bool} {cache : List ℕ} (k : Kept e.state e.table b cache) where
    -- what is cached anew after a call
    pub kept-anew : {x : Bool} {y : List ℕ} → Cached s t x y → Kept s t x y
    kept-anew r = record { table = n ∙ k.table; cached = r; in_range = rw h (in_range-after k.in_range) }

    -- a refused call leaves what is kept
    pub kept-refused : refusal_for e c ≢ 0 → Kept s t b cache
    kept-refused r = record { table = n ∙ k.table; cached = rw (h, d) (cached-refused e c r k.cached); in_range = rw h (in_range-after k.in_range) }

  -- a call that leaves the chain leaves what is kept beside it
  pub kept-after : leaves_chain (ruled e c) ≡ true → {b : Bool} {cache : List ℕ} → Kept e.state e.table b cache → {s : State} {t : List ℕ} → s ≡ (after e c).state → t ≡ (after e c).table → length t ≡ length e.table → Kept s t b cache
  kept-after l {b} {cache} k {s} {t} h d n = record {
    table = n ∙ k.table;
    cached = rw (h, d) (subst (λ (x : Bool). Cached (after e c).state (after e c).table x cache) (same (every_step e k.in_range c i)) (cached-after e k.in_range c i l k.cached));
    in_range = rw h (in_range-after k.in_range);
  }
    where
      same : Step e c → if_accepted (refusal_for e c) true b ≡ b
      same (refused n h) = if_accepted-old (refusal_for e c) true b n
      same (opened own sheet q a f) = absurd (false≢true (sym (ap (λ (z : Call). leaves_chain (ruled e z)) q) ∙ l))
      same (moved a w n) = if_accepted-new (refusal_for e c) true b a ∙ sym (k.cached.form ∙ w)

-- a call c that gives no value was answered with a, and left s and t
pub kept-answered : (e : Engine) (c : Call) → accepted_value e c ≡ nothing → (a : Result Unit Refusal) → refusal_in a ≡ refusal_for e c → {s : State} → s ≡ (after e c).state → {t : List ℕ} → t ≡ (after e c).table → {x y : List ℕ} {next : ℕ} → Puts x y 0 next (answer_line a) 20
    → RecordAnswered e (Some c) (engine_of s t) x y next
kept-answered e c v a g h d p = member-answered c v a g (rw (h, d) refl) p
