-- What a host's call comes to, by what the engine's calls answer and leave.
use Rattle.std.proofs.Common.{◌≡◌, refl, sym, ap, ◌∙◌, Bool, true, false, cond, List, [], ℕ, ◌+◌, ◌*◌, ◌≤◌, arith, eqb, length, eq-eqb, ne_eqb, le-leb}
use Rattle.base.proofs.Words.{paste}
use Rattle.std.specs.Prelude.{Result, Ok, Err, IfOk}
use Rattle.refusals.specs.declared.Refusal.{Refusal}
use Rattle.refusals.specs.Refusals.{refusal_in, packed_in}
use Rattle.refusals.proofs.RefusalLaws.{some-number, value_in_lem}
use Rattle.base.proofs.Bools.{cond_same}
use Rattle.terms.specs.declared.sheet.Settings.{Settings}
use Rattle.terms.specs.Ranges.{SettingsFit}
use Rattle.state.specs.declared.State.{State}
use Rattle.state.specs.Answers.{if_accepted}
use Rattle.state.proofs.FormedLaws.{formed}
use Rattle.engine.specs.Calls.{Aside, Call, port, aside, InRange}
use Rattle.engine.specs.Engine.{Engine, refusal_for, after}
use Rattle.engine.specs.Values.{nothing, aside_value, accepted_value, value_of}
use Rattle.engine.specs.Steps.{SetInRange}
use Rattle.engine.proofs.AcceptedLaws.{accepted-left}
use Rattle.serial.specs.Calls.{PortCall}
use Rattle.words.specs.Lengths.{state_length}
use Rattle.words.specs.Words.{Narrow}
use Rattle.words.specs.States.{state_reads, state_words}
use Rattle.words.proofs.ReadingLaws.{state-read}
use Rattle.hosting.specs.Calls as hosting
use Rattle.hosting.specs.Calls.{plain, packed, Done, writes, rewrites, reads, room_for, use_of, value_word, engine_in, serves, engine_for, state_over, out_over, answered, result_of}
use Rattle.hosting.specs.Answers.{over}
use Rattle.hosting.proofs.CallLaws.{both_read, done-read}

-- ---- what cannot be read: answered with 1, and nothing changes

-- the call reads the state's words before anything else, and needs n words of the out stretch
pub data Plainly : Call → ℕ → Type 0 where
  by_rewriting : {c : Call} → use_of c ≡ rewrites → Plainly c 0
  by-reading : {c : Call} {n : ℕ} → use_of c ≡ reads n → Plainly c n

module _ (w t o : List ℕ) (b : Bool) (c : Call) where
  serving : {n : ℕ} → Plainly c n → state_reads w ≡ true → n ≤ length o → serves w t o (use_of c) ≡ true
  serving (by_rewriting u) e h = rw u e
  serving {n} (by-reading u) e h = rw u (both_read e (le-leb n (length o) h))

  one : {n : ℕ} → Plainly c n → hosting.unread (use_of c) ≡ 1
  one (by_rewriting u) = rw u refl
  one (by-reading u) = rw u refl

  for_it : {n : ℕ} → Plainly c n → engine_for w t o (use_of c) ≡ engine_in w t
  for_it (by_rewriting u) = rw u refl
  for_it (by-reading u) = rw u refl

  -- ---- what can be read

  abbrev engine : Engine
  engine = engine_for w t o (use_of c)

  -- a value that is not put into the out stretch
  out-still : out_over w t o (accepted_value engine c) ≡ o → out_over w t o (value_of engine c) ≡ o
  unfolding value_of
  out-still q = go (eqb (refusal_for engine c) 0)
    where
      go : (a : Bool) → out_over w t o (cond a (accepted_value engine c) nothing) ≡ o
      go true = q
      go false = refl

  module _ {answer : hosting.Result → ℕ} {r : ℕ} {u : List ℕ} (k : serves w t o (use_of c) ≡ true) (f : b ≡ true) (q : out_over w t o (accepted_value engine c) ≡ o) (h : r ≡ answer (answered w t o engine c)) (j : u ≡ (after engine c).table) where
    done-still : {s : List ℕ} → s ≡ (answered w t o engine c).state → Done answer (result_of w t o b c) r s u o
    done-still i = done-read w t o b c k f (record { its_answer = h; its_state = i; its_table = j; its_out = sym (out-still q) })

    -- of a call that does not write the state's words
    pub done-kept : ((s : State) → state_over w t o (use_of c) s ≡ w) → Done answer (result_of w t o b c) r w u o
    done-kept i = done-still (rw (i (after engine c).state) (sym (cond_same (eqb (refusal_for engine c) 0) w)))

-- ---- the two forms of an answer

module _ (e : Engine) (c : Call) where
  abbrev n : ℕ
  n = refusal_for e c

  -- the value's word, none where the call is refused
  word : value_word (value_of e c) ≡ cond (eqb n 0) (value_word (accepted_value e c)) 0
  unfolding value_of
  word = go (eqb n 0)
    where
      go : (a : Bool) → value_word (cond a (accepted_value e c) nothing) ≡ cond a (value_word (accepted_value e c)) 0
      go true = refl
      go false = refl

  -- the value in the low 32 bits, the number that refuses in the high ones
  pub packed-by : (r : Result ℕ Refusal) → refusal_in r ≡ n → IfOk r (λ x. x ≡ value_word (accepted_value e c)) → packed_in r ≡ value_word (value_of e c) + n * 4294967296
  packed-by r g i = rw (word, g, value_in_lem n (value_word (accepted_value e c)) r g i) refl

-- ---- the state's words

-- what is put over them by an answer
over_by : {A : Type 0} (m : ℕ) (r : Result A Refusal) (old new : List ℕ) (k : ℕ) → refusal_in r ≡ m → over r old new k ≡ cond (eqb m 0) (paste old 0 new k) old
over_by m (Ok v) old new k z = rw (eq-eqb m 0 (sym z)) refl
over_by m (Err y) old new k z = rw (ne_eqb m 0 (λ a. some-number y (z ∙ a))) refl

-- a call that rewrites them
module _ (w t : List ℕ) (b : Bool) (c : Call) (k : use_of c ≡ rewrites) (e : state_reads w ≡ true) (f : b ≡ true) (q : out_over w t [] (accepted_value (engine_in w t) c) ≡ []) where
  abbrev on : Engine
  on = engine_in w t

  module _ {A : Type 0} (r : Result A Refusal) {u v : List ℕ} (s : State) (g : refusal_in r ≡ refusal_for on c) (i : s ≡ (after on c).state) (j : v ≡ (after on c).table) (h : u ≡ over r w (state_words s) state_length) where
    written : u ≡ (answered w t [] on c).state
    written = h ∙ over_by (refusal_for on c) r w (state_words s) state_length g ∙ rw (k, i) refl

    module _ {answer : hosting.Result → ℕ} {a : ℕ} (l : a ≡ answer (answered w t [] on c)) where
      rewritten-by : Done answer (result_of w t [] b c) a u v []
      rewritten-by =
          let p = for_it w t [] b c (by_rewriting k) in
          done-still w t [] b c (rw k e) f (rw p q) (rw p l) (rw p j) (rw p written)

  -- and has no value
  pub rewritten : (r : Result Unit Refusal) {u v : List ℕ} (s : State) → refusal_in r ≡ refusal_for on c → s ≡ (after on c).state → v ≡ (after on c).table → u ≡ over r w (state_words s) state_length
      → Done plain (result_of w t [] b c) (refusal_in r) u v []
  rewritten r s g i j h = rewritten-by r s g i j h g

-- a call that writes them without reading them
pub freshly_written : (w t : List ℕ) (b : Bool) (c : Call) (r : Result Unit Refusal) {u v : List ℕ} (s : State) → use_of c ≡ writes → state_length ≤ length w → b ≡ true
    → let e = engine_for w t [] writes in out_over w t [] (accepted_value e c) ≡ [] → refusal_in r ≡ refusal_for e c → s ≡ (after e c).state → v ≡ (after e c).table
    → u ≡ over r w (state_words s) state_length → Done plain (result_of w t [] b c) (refusal_in r) u v []
freshly_written w t b c r s k l f q g i j h =
    let e = engine_for w t [] writes in
    done-still w t [] b c (rw k (le-leb state_length (length w) l)) f (rw k q) (rw k g) (rw k j)
    (h ∙ over_by (refusal_for e c) r w (state_words s) state_length g ∙ rw (k, i) refl)

-- ---- calls that leave them

module _ (w t : List ℕ) (b : Bool) (c : Call) where
  -- that write the table alone, and have no value
  pub kept : (r : Result Unit Refusal) {v : List ℕ} → use_of c ≡ reads 0 → state_reads w ≡ true → b ≡ true → out_over w t [] (accepted_value (engine_in w t) c) ≡ []
      → refusal_in r ≡ refusal_for (engine_in w t) c → v ≡ (after (engine_in w t) c).table → Done plain (result_of w t [] b c) (refusal_in r) w v []
  kept r k e f q g j =
      let p = for_it w t [] b c (by-reading k) in
      done-kept w t [] b c (serving w t [] b c (by-reading k) e (omega arith)) f (rw p q) (rw p g) (rw p j) (λ s. rw k refl)

-- a read that answers with a number
pub told : (w t : List ℕ) (x : Aside) (r : Result ℕ Refusal) → room_for x ≡ 0 → state_reads w ≡ true → out_over w t [] (aside_value (engine_in w t) x) ≡ []
    → refusal_in r ≡ refusal_for (engine_in w t) (aside x) → IfOk r (λ m. m ≡ value_word (aside_value (engine_in w t) x)) → Done packed (result_of w t [] true (aside x)) (packed_in r) w t []
told w t x r k e q g i =
    done-kept w t [] true (aside x) (serving w t [] true (aside x) (by-reading (ap reads k)) e (omega arith)) refl q (packed-by (engine_in w t) (aside x) r g i) refl (λ s. refl)

-- a read that is shown in the out stretch
pub shown : (w t o : List ℕ) (x : Aside) {A : Type 0} (r : Result A Refusal) (new : List ℕ) {u : List ℕ} → state_reads w ≡ true → room_for x ≤ length o
    → refusal_in r ≡ refusal_for (engine_in w t) (aside x) → u ≡ over r o new (room_for x) → IfOk r (λ z. out_over w t o (aside_value (engine_in w t) x) ≡ paste o 0 new (room_for x))
    → Done plain (result_of w t o true (aside x)) (refusal_in r) w t u
unfolding value_of
shown w t o x {A} r new {u} e h g i q =
    let m = refusal_for (engine_in w t) (aside x) in
    done-read w t o true (aside x) (both_read e (le-leb (room_for x) (length o) h)) refl
    (record { its_answer = g; its_state = sym (cond_same (eqb m 0) w); its_table = refl; its_out = i ∙ words r g q })
  where
    words : (y : Result A Refusal) → refusal_in y ≡ refusal_for (engine_in w t) (aside x) → IfOk y (λ z. out_over w t o (aside_value (engine_in w t) x) ≡ paste o 0 new (room_for x)) → over y o new (room_for x) ≡ out_over w t o (value_of (engine_in w t) (aside x))
    words (Ok v) z k = rw (eq-eqb (refusal_for (engine_in w t) (aside x)) 0 (sym z)) (sym k)
    words (Err y) z k = rw (ne_eqb (refusal_for (engine_in w t) (aside x)) 0 (λ a. some-number y (z ∙ a))) refl

-- a call that lists in the out stretch
pub listed : (w t o : List ℕ) (x : Aside) (r : Result ℕ Refusal) {u z : List ℕ} → room_for x ≡ 0 → state_reads w ≡ true → refusal_in r ≡ refusal_for (engine_in w t) (aside x)
    → IfOk r (λ m. m ≡ value_word (aside_value (engine_in w t) x)) → u ≡ t → z ≡ if_accepted (refusal_for (engine_in w t) (aside x)) (out_over w t o (aside_value (engine_in w t) x)) o
    → Done packed (result_of w t o true (aside x)) (packed_in r) w u z
unfolding value_of if_accepted
listed w t o x r k e g i j l =
    let m = refusal_for (engine_in w t) (aside x) in
    done-read w t o true (aside x) (both_read e (le-leb (room_for x) (length o) (omega (arith, k)))) refl
    (record { its_answer = packed-by (engine_in w t) (aside x) r g i; its_state = sym (cond_same (eqb m 0) w); its_table = j; its_out = l ∙ words })
  where
    words : if_accepted (refusal_for (engine_in w t) (aside x)) (out_over w t o (aside_value (engine_in w t) x)) o ≡ out_over w t o (value_of (engine_in w t) (aside x))
    words = go (eqb (refusal_for (engine_in w t) (aside x)) 0)
      where
        go : (a : Bool) → cond a (out_over w t o (aside_value (engine_in w t) x)) o ≡ out_over w t o (cond a (aside_value (engine_in w t) x) nothing)
        go true = refl
        go false = refl

-- what is asked of a port
module _ (w t : List ℕ) (x : PortCall) (e : state_reads w ≡ true) (q : out_over w t [] (accepted_value (engine_in w t) (port x)) ≡ []) where
  pub ported : (r : Result Unit Refusal) {v : List ℕ} → refusal_in r ≡ refusal_for (engine_in w t) (port x) → v ≡ (after (engine_in w t) (port x)).table → Done plain (result_of w t [] true (port x)) (refusal_in r) w v []
  ported r g j = done-kept w t [] true (port x) e refl q g j (λ s. refl)

-- ---- what fits a word each

pub narrow : (S : Settings) → SettingsFit S → Narrow S.weights
narrow S f i h = let k = f.weight_to i h in omega arith

-- the weights of the state that an accepted call leaves
pub narrow-left : (e : Engine) → SetInRange e → (c : Call) → InRange c → {s : State} → refusal_for e c ≡ 0 → s ≡ (after e c).state → Narrow s.settings.weights
narrow-left e low c i a q =
    let l = accepted-left e low c i a in
    rw q (narrow (after e c).state.settings (formed (after e c).state (after e c).table l.formed).settings)

-- so what is asked where it is put over the state's words
pub fits-over : (w t : List ℕ) (c : Call) {s : State} → state_reads w ≡ true → InRange c → refusal_for (engine_in w t) c ≡ 0 → s ≡ (after (engine_in w t) c).state → (state_length ≤ length w) × Narrow s.settings.weights
fits-over w t c e i a q = let r = state-read w e in (r.long, narrow-left (engine_in w t) r.set c i a q)
