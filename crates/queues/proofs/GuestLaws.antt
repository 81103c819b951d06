-- Laws of the search for the next guest: those asked so far have nothing waiting.
use Rattle.std.proofs.Common.{◌≡◌, refl, sym, ap, ◌∙◌, true, false, List, ◌≢◌, ℕ, suc, ◌+◌, ◌-◌, ◌%◌, ◌<◌, ◌≤◌, arith, add-one, eq-eqb, ne_eqb, Some, None}
use Rattle.store.specs.Table.{Row}
use Rattle.queues.specs.Queues.{Queues, is_waiting, guest_at, first_from, next_guest}
use Rattle.queues.specs.Words.{Place, served_word, waiting_count, queues_of}
use Rattle.queues.proofs.WordLaws.{is-waiting, waits-some}
use Rattle.queues.proofs.DrawLaws.{next-waits}

module _ (q : Queues) (i n : ℕ) where
  first_found : is_waiting q (guest_at q i) ≡ true → first_from q i (suc n) ≡ Some (guest_at q i)
  unfolding first_from
  first_found e = rw e refl

  first-later : is_waiting q (guest_at q i) ≡ false → first_from q i (suc n) ≡ first_from q (suc i) n
  unfolding first_from
  first-later e = rw e refl

-- of the guests before the i-th none is waiting
pub record NoneBefore (t : List ℕ) (i : ℕ) : Type 0 where
  pub so_far : i ≤ 8
  pub passed : next_guest (queues_of t) ≡ first_from (queues_of t) i (8 - i)

pub none_before : (t : List ℕ) → NoneBefore t 0
none_before t = record { so_far = omega arith; passed = refl }

module _ {t : List ℕ} {i : ℕ} (p : NoneBefore t i) where
  module _ {g : ℕ} (h : i < 8) (a : g ≡ (served_word t + i) % 8) where
    at_guest : guest_at (queues_of t) i ≡ g
    unfolding queues_of
    at_guest = sym a

    pub none_more : waiting_count t g ≡ 0 → NoneBefore t (i + 1)
    none_more e =
        let s : 8 - i ≡ suc (8 - (i + 1)) = omega arith in
        let w : is_waiting (queues_of t) (guest_at (queues_of t) i) ≡ false = rw at_guest (is-waiting t g (omega arith) ∙ rw (eq-eqb _ 0 e) refl) in
        record { so_far = omega arith; passed = p.passed ∙ rw (s, add-one i) (first-later (queues_of t) i (8 - suc i) w) }

    pub next_found : waiting_count t g ≢ 0 → next_guest (queues_of t) ≡ Some g
    next_found e =
        let s : 8 - i ≡ suc (8 - (i + 1)) = omega arith in
        let w : is_waiting (queues_of t) (guest_at (queues_of t) i) ≡ true = rw at_guest (is-waiting t g (omega arith) ∙ rw (ne_eqb _ 0 e) refl) in
        p.passed ∙ rw s (first_found (queues_of t) i (8 - (i + 1)) w) ∙ ap Some at_guest

  pub next_none : 8 ≤ i → next_guest (queues_of t) ≡ None
  unfolding first_from
  next_none h = let s : 8 - i ≡ 0 = omega arith in p.passed ∙ rw s refl

-- ---- the guest found

module _ (t : List ℕ) {g : ℕ} (e : next_guest (queues_of t) ≡ Some g) where
  pub guest_place : Row t 0 → Place t g 0
  guest_place r = record { row = r; guest = (next-waits (queues_of t) g e).0; place = omega arith }

  pub guest_waits : 0 < waiting_count t g
  guest_waits = let w = next-waits (queues_of t) g e in waits-some t g w.0 w.1
