-- What is asked of a port is refused by the checks before 1 whether the words of the state can be read or not.
use Rattle.std.proofs.Common.{◌≡◌, refl, sym, ◌∙◌, Bool, true, false, cond, ◌&&◌, List, [], ◌∷◌, ◌≢◌, ℕ, ◌<◌, ◌≤◌, arith, lt-ltb, le-ltb}
use Rattle.base.specs.Checks.{refusal}
use Rattle.base.proofs.CheckLaws.{numbered, first-refuses, first_passes, passes, refuses}
use Rattle.serial.specs.Calls.{PortCall, Access, offset_of, access, reset}
use Rattle.serial.specs.Serial.{early_checks, port_refusal}
use Rattle.serial.proofs.PassedLaws.{early_refused}
use Rattle.engine.specs.Calls.{port}
use Rattle.words.specs.States.{state_reads}
use Rattle.hosting.specs.Calls.{Result, Done, engine_in, answered, refused, unread, accesses, result_of}
use Rattle.hosting.proofs.CallLaws.{done_unserved}
use Rattle.hosting.proofs.RefusalLaws.{refused-same}

module _ (w t o : List ℕ) (b : Bool) (x : PortCall) {n : ℕ} (q : n ≡ refusal (early_checks x)) where
  early_number : n ≢ 0 → (result_of w t o b (port x)).refusal ≡ n
  unfolding result_of port_refusal
  early_number h = go (state_reads w && b)
    where
      go : (a : Bool) → (cond a (answered w t o (engine_in w t) (port x)) (refused w t o (unread (accesses x)))).refusal ≡ n
      go true = sym (early_refused (engine_in w t).state t (early_checks x) q h)
      go false = first-refuses (early_checks x) ((true, 1) ∷ []) (omega arith) ∙ sym q

  pub done_early : {answer : Result → ℕ} {r : ℕ} → n ≢ 0 → r ≡ answer (refused w t o n) → Done answer (result_of w t o b (port x)) r w t o
  done_early h e =
      let z = early_number h in
      let y : result_of w t o b (port x) ≡ refused w t o n = refused-same w t o b (port x) (λ k. h (sym z ∙ k)) ∙ rw z refl in
      rw y (record { its_answer = e; its_state = refl; its_table = refl; its_out = refl })

  -- then 1, where they cannot
  passed-unread : numbered (early_checks x) ≡ true → n ≡ 0 → unread (accesses x) ≡ 1
  passed-unread p z = first_passes (early_checks x) ((true, 1) ∷ []) p (sym q ∙ z) ∙ refuses 1 [] refl

  pub done-unread-port : {answer : Result → ℕ} {r : ℕ} → numbered (early_checks x) ≡ true → n ≡ 0 → state_reads w ≡ false → r ≡ answer (refused w t o 1) → Done answer (result_of w t o b (port x)) r w t o
  done-unread-port p z k e = done_unserved w t o b (port x) k (rw (passed-unread p z) e)

-- whatever words are lent: an access to a port above 7
pub access_above : (w t o : List ℕ) (b : Bool) (g : ℕ) (a : Access) → 7 < g → (result_of w t o b (port (access g a))).refusal ≡ 26
access_above w t o b g a h = early_number w t o b (access g a) (sym (refuses 26 _ (lt-ltb 7 g h))) (λ z. omega arith)

-- one at an offset above 7
pub offset_above : (w t o : List ℕ) (b : Bool) (g : ℕ) (a : Access) → g ≤ 7 → 7 < offset_of a → (result_of w t o b (port (access g a))).refusal ≡ 31
offset_above w t o b g a l h = early_number w t o b (access g a) (sym (passes 26 _ (le-ltb 7 g l) ∙ refuses 31 _ (lt-ltb 7 (offset_of a) h))) (λ z. omega arith)

-- a reset of a port above 7
pub reset_above : (w t o : List ℕ) (b : Bool) (g : ℕ) → 7 < g → (result_of w t o b (port (reset g))).refusal ≡ 26
reset_above w t o b g h = early_number w t o b (reset g) (sym (refuses 26 _ (lt-ltb 7 g h))) (λ z. omega arith)
