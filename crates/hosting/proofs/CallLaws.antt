-- Laws of calls: what cannot be read, what the engine answers where all can, and what an accepted call is.
use Rattle.std.proofs.Common.{◌≡◌, refl, sym, ap, ◌∙◌, Bool, true, false, cond, ◌&&◌, List, [], ◌≢◌, ℕ, arith, length, leb, le-leb, eq-eqb}
use Rattle.base.proofs.Bools.{both}
use Rattle.engine.specs.Calls.{Call}
use Rattle.engine.specs.Engine.{Engine, refusal_for, after}
use Rattle.engine.specs.Values.{value_of}
use Rattle.serial.proofs.PassedLaws.{early_some}
use Rattle.hosting.specs.Calls.{Result, Done, Use, writes, rewrites, accesses, reads, use_of, unread, serves, engine_for, state_over, out_over, refused, answered, result_of}

pub both_read : {a : Bool} {b : Bool} → a ≡ true → b ≡ true → (a && b) ≡ true
both_read e f = rw (e, f) refl

-- where there is no out stretch
pub no_out : {a : Bool} → a ≡ true → (a && leb 0 (length {A = ℕ} [])) ≡ true
no_out e = both_read e (le-leb 0 (length {A = ℕ} []) (omega arith))

-- what cannot be read is refused
unread-some : (u : Use) → unread u ≢ 0
unread-some writes z = absurd (omega arith)
unread-some rewrites z = absurd (omega arith)
unread-some (accesses x) z = early_some x z
unread-some (reads n) z = absurd (omega arith)

module _ (w t o : List ℕ) where
  module _ (b : Bool) (c : Call) where
    abbrev engine : Engine
    engine = engine_for w t o (use_of c)

    -- ---- what cannot be read, and what can

    module _ {answer : Result → ℕ} {r : ℕ} where
      pub done_unserved : serves w t o (use_of c) ≡ false → r ≡ answer (refused w t o (unread (use_of c))) → Done answer (result_of w t o b c) r w t o
      unfolding result_of
      done_unserved e h = rw e (record { its_answer = h; its_state = refl; its_table = refl; its_out = refl })

      pub done-read : {s : List ℕ} {u : List ℕ} {z : List ℕ} → serves w t o (use_of c) ≡ true → b ≡ true → Done answer (answered w t o engine c) r s u z → Done answer (result_of w t o b c) r s u z
      unfolding result_of
      done-read e f d = rw (e, f) d

    -- ---- an accepted call

    module _ (h : (result_of w t o b c).refusal ≡ 0) where
      all_read : (serves w t o (use_of c) && b) ≡ true
      unfolding result_of
      all_read = go (serves w t o (use_of c) && b) h
        where
          go : (x : Bool) → (cond x (answered w t o engine c) (refused w t o (unread (use_of c)))).refusal ≡ 0 → x ≡ true
          go true k = refl
          go false k = absurd (unread-some (use_of c) k)

      as_answered : result_of w t o b c ≡ answered w t o engine c
      unfolding result_of
      as_answered = rw all_read refl

-- the words of an accepted call can be read, the engine accepts it, and what it leaves is written
pub record AcceptedCall (w t o : List ℕ) (b : Bool) (c : Call) : Type 0 where
  pub serving : serves w t o (use_of c) ≡ true
  pub read : b ≡ true
  pub accepted : refusal_for (engine_for w t o (use_of c)) c ≡ 0
  pub its_state : (result_of w t o b c).state ≡ state_over w t o (use_of c) (after (engine_for w t o (use_of c)) c).state
  pub its_table : (result_of w t o b c).table ≡ (after (engine_for w t o (use_of c)) c).table
  pub its_out : (result_of w t o b c).out ≡ out_over w t o (value_of (engine_for w t o (use_of c)) c)

pub accepted-call : (w t o : List ℕ) (b : Bool) (c : Call) → (result_of w t o b c).refusal ≡ 0 → AcceptedCall w t o b c
accepted-call w t o b c h =
    let e = engine_for w t o (use_of c) in
    let p = both (serves w t o (use_of c)) b (all_read w t o b c h) in
    let q = as_answered w t o b c h in
    let a : refusal_for e c ≡ 0 = sym (ap (λ (x : Result). x.refusal) q) ∙ h in
    record {
      serving = p.0;
      read = p.1;
      accepted = a;
      its_state = ap (λ (x : Result). x.state) q ∙ rw (eq-eqb (refusal_for e c) 0 a) refl;
      its_table = ap (λ (x : Result). x.table) q;
      its_out = ap (λ (x : Result). x.out) q;
    }
