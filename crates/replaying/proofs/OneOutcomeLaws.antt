-- What a reader's bytes come to is one thing alone.
use Rattle.std.proofs.Common.{◌≡◌, ℕ, suc, eqb, cond, ◌<◌, ◌≤◌, ◌⊎◌, inl, inr, List, [], ◌∷◌, ◌++◌, get_or, take, drop, length, refl, sym, ap, ap₂, ◌∙◌, append-nil, arith}
use Rattle.std.proofs.lemmas.Bool.{cases_lt}
use Rattle.std.proofs.lemmas.Nat.{from_le_bytes-to_le_bytes_4}
use Rattle.std.specs.Int.{w32, to_le_bytes, from_le_bytes}
use Rattle.std.specs.List.{flat_map}
use Rattle.serial.specs.Calls as serial
use Rattle.hosting.specs.Calls.{Result, plain, packed}
use Rattle.hosting.specs.HostCalls as hosts
use Rattle.hosting.specs.GuestForms as guests
use Rattle.library.specs.Calls.{LibraryCall, by_host, by_guest}
use Rattle.library.specs.Lists as library
use Rattle.replaying.specs.declared.calls.HostCall.TheVariants as host
use Rattle.replaying.specs.declared.calls.GuestCall.TheVariants as guest
use Rattle.replaying.specs.declared.calls.Call.{Call}
use Rattle.replaying.specs.declared.calls.Call.TheVariants.{Host, Guest}
use Rattle.replaying.specs.declared.calls.Entry.{Entry}
use Rattle.replaying.specs.declared.calls.Keeper.{Keeper}
use Rattle.replaying.specs.declared.failure.Failure.TheVariants.{Damaged, Refused}
use Rattle.replaying.specs.declared.heads.Head.{Head}
use Rattle.replaying.specs.Told.{told, comes_of, answer_of}
use Rattle.replaying.specs.Lists.{entry_words, entries_words, Listed}
use Rattle.replaying.specs.Opened.{opened, Opens, FirstRefused}
use Rattle.replaying.specs.Runs.{words_of, stepped, after_run, answer_to, answers_of}
use Rattle.replaying.specs.Replays.{IsWords, bytes_of, answer_bytes, keeper_bytes, Told, Untold}
use Rattle.replaying.proofs.DecodedLaws.{front, back, Wholes, same_entry, never_empty}
use Rattle.replaying.proofs.OneListLaws.{same_head, same_entries}

-- words are told by their bytes
words_once : (x y : List ℕ) → IsWords x → IsWords y → bytes_of x ≡ bytes_of y → x ≡ y
words_once [] [] f g e = refl
words_once [] (b ∷ y) f g e = absurd (omega (arith, ap length e))
words_once (a ∷ x) [] f g e = absurd (omega (arith, ap length e))
words_once (a ∷ x) (b ∷ y) f g e =
    let p : to_le_bytes w32 a ≡ to_le_bytes w32 b = sym (front 4 (to_le_bytes w32 a) (bytes_of x) refl) ∙ ap (take 4) e ∙ front 4 (to_le_bytes w32 b) (bytes_of y) refl in
    let q : bytes_of x ≡ bytes_of y = sym (back 4 (to_le_bytes w32 a) (bytes_of x) refl) ∙ ap (drop 4) e ∙ back 4 (to_le_bytes w32 b) (bytes_of y) refl in
    let i : a ≡ b = sym (from_le_bytes-to_le_bytes_4 a (f 0)) ∙ ap (from_le_bytes w32) p ∙ from_le_bytes-to_le_bytes_4 b (g 0) in
    ap₂ (λ (n : ℕ) (l : List ℕ). n ∷ l) i (words_once x y (λ k. f (suc k)) (λ k. g (suc k)) q)

-- ---- calls of the same words answer the same and leave the same

-- the form of an answer, by the library's call
abbrev form_of : LibraryCall → Result → ℕ
form_of (by_host hosts.HostCall.commit) = packed
form_of (by_guest g guests.GuestForm.commit) = packed
form_of (by_guest g (guests.GuestForm.access (serial.read o))) = packed
form_of c = plain

form_told : (c : Call) (r : Result) → answer_of c r ≡ form_of (told c) r
form_told (Host (host.Propose x)) r = refl
form_told (Host (host.Draw v)) r = refl
form_told (Host (host.Enqueue g x)) r = refl
form_told (Host (host.Endorse x)) r = refl
form_told (Host (host.Certify v)) r = refl
form_told (Host (host.Accept x)) r = refl
form_told (Host (host.Batch x)) r = refl
form_told (Host host.Advance) r = refl
form_told (Host host.Commit) r = refl
form_told (Host (host.PortReset g)) r = refl
form_told (Guest g (guest.Propose x)) r = refl
form_told (Guest g (guest.Draw v)) r = refl
form_told (Guest g (guest.Enqueue x)) r = refl
form_told (Guest g (guest.Endorse x)) r = refl
form_told (Guest g (guest.Certify v)) r = refl
form_told (Guest g (guest.Accept x)) r = refl
form_told (Guest g (guest.Batch x)) r = refl
form_told (Guest g guest.Advance) r = refl
form_told (Guest g guest.Commit) r = refl
form_told (Guest g (guest.PortRead o)) r = refl
form_told (Guest g (guest.PortWrite o b)) r = refl

module _ (at : ℕ → library.Words) (x y : Entry) (w : x.who ≡ y.who) (c : told x.call ≡ told y.call) where
  same_step : stepped at x ≡ stepped at y
  same_step =
      let f : ℕ → LibraryCall → ℕ → library.Words = λ n d k. cond (eqb k n) (library.after_call (at k) d) (at k) in
      ap₂ f w c

  same_answer : answer_to at x ≡ answer_to at y
  same_answer =
      let m : form_of (told x.call) (comes_of (at x.who) (told x.call)) ≡ form_of (told y.call) (comes_of (at y.who) (told y.call)) = rw (w, c) refl in
      form_told x.call (comes_of (at x.who) (told x.call)) ∙ m ∙ sym (form_told y.call (comes_of (at y.who) (told y.call)))

same_run : (at : ℕ → library.Words) (l m : List Entry) → Wholes l → Wholes m → entries_words l ≡ entries_words m → (after_run at l ≡ after_run at m) × (answers_of at l ≡ answers_of at m)
unfolding entries_words
same_run at [] [] a b e = (refl, refl)
same_run at [] (y ∷ m) a b e = absurd (never_empty y (entries_words m) [] (rw (append-nil (entry_words y ++ entries_words m)) (sym e)))
same_run at (x ∷ l) [] a b e = absurd (never_empty x (entries_words l) [] (rw (append-nil (entry_words x ++ entries_words l)) e))
same_run at (x ∷ l) (y ∷ m) a b e =
    let s = same_entry x y (entries_words l) (entries_words m) (a 0 x (omega arith)) (b 0 y (omega arith)) e in
    let t = same_step at x y s.who s.call in
    let r = same_run (stepped at y) l m (λ k z h. a (suc k) z (omega (arith, h))) (λ k z h. b (suc k) z (omega (arith, h))) s.behind in
    (ap (λ u. after_run u l) t ∙ r.0, ap₂ (λ (n : ℕ) (v : List ℕ). n ∷ v) (same_answer at x y s.who s.call) (ap (λ u. answers_of u l) t ∙ r.1))

-- the same words are told by the same bytes
abbrev words_bytes : library.Words → List ℕ
words_bytes x = bytes_of x.state ++ bytes_of x.table

same_keepers : (k j : List Keeper) → length k ≡ length j → ((i : ℕ) (d : Keeper) → i < length k → words_of (get_or k i d) ≡ words_of (get_or j i d)) → flat_map keeper_bytes k ≡ flat_map keeper_bytes j
same_keepers [] [] e h = refl
same_keepers [] (y ∷ j) e h = absurd (omega (arith, e))
same_keepers (x ∷ k) [] e h = absurd (omega (arith, e))
same_keepers (x ∷ k) (y ∷ j) e h =
    ap₂ (λ (a b : List ℕ). a ++ b) (ap words_bytes (h 0 x (omega arith))) (same_keepers k j (omega (arith, e)) (λ i d b. h (suc i) d (omega (arith, b))))

-- ---- of opens the first that is refused

first_once : (h : Head) (n m : ℕ) → FirstRefused h n → FirstRefused h m → n ≡ m
first_once h n m a b = go (cases_lt a.member b.member) (cases_lt b.member a.member)
  where
    go : (a.member < b.member) ⊎ (b.member ≤ a.member) → (b.member < a.member) ⊎ (a.member ≤ b.member) → n ≡ m
    go (inl l) z = absurd (a.refused (sym a.refusal ∙ b.before a.member l))
    go (inr l) (inl z) = absurd (b.refused (sym b.refusal ∙ a.before b.member z))
    go (inr l) (inr z) = let e : a.member ≡ b.member = omega (arith, l, z) in sym (rw e at a.refusal) ∙ b.refusal

-- ---- what bytes come to

module _ (b : List ℕ) where
  same_words : (x y : List ℕ) → IsWords x → IsWords y → b ≡ bytes_of x → b ≡ bytes_of y → x ≡ y
  same_words x y f g p q = words_once x y f g (sym p ∙ q)

  pub told_same : (t u : List ℕ) → Told b t → Told b u → t ≡ u
  told_same t u x y =
      let l : Listed y.words x.head x.entries = rw (same_words x.words y.words x.fit y.fit x.bytes y.bytes) at x.made.listed in
      let s : x.head ≡ y.head = same_head y.words x.head y.head x.entries y.entries l y.made.listed in
      let r = same_run (opened x.head) x.entries y.entries l.whole y.made.listed.whole (same_entries y.words x.head y.head x.entries y.entries l y.made.listed) in
      let left : after_run (opened x.head) x.entries ≡ after_run (opened y.head) y.entries = r.0 ∙ ap (λ h. after_run (opened h) y.entries) s in
      let answers : x.answers ≡ y.answers = x.made.answered ∙ r.1 ∙ ap (λ h. answers_of (opened h) y.entries) s ∙ sym y.made.answered in
      let long : length x.keepers ≡ length y.keepers = x.made.hosts ∙ ap (λ h. h.members) s ∙ sym y.made.hosts in
      let keepers : flat_map keeper_bytes x.keepers ≡ flat_map keeper_bytes y.keepers =
      same_keepers x.keepers y.keepers long (λ i d c. x.made.left i d c ∙ ap (λ f. f i) left ∙ sym (y.made.left i d (omega (arith, c, long)))) in
      x.tells ∙ ap₂ (λ (a c : List ℕ). answer_bytes a ++ c) answers keepers ∙ sym y.tells

  pub told_undamaged : (t : List ℕ) → Told b t → Untold b Damaged → ⊥
  told_undamaged t x (inl z) = z x.words x.bytes
  told_undamaged t x (inr u) = u.unmade x.head x.entries (rw (same_words x.words u.words x.fit u.fit x.bytes u.bytes) at x.made.listed)

  pub told_unrefused : (t : List ℕ) (n : ℕ) → Told b t → Untold b (Refused n) → ⊥
  told_unrefused t n x u =
      let l : Listed u.words x.head x.entries = rw (same_words x.words u.words x.fit u.fit x.bytes u.bytes) at x.made.listed in
      let s : x.head ≡ u.unmade.head = same_head u.words x.head u.unmade.head x.entries u.unmade.entries l u.unmade.listed in
      let f = u.unmade.first in
      let o : Opens u.unmade.head f.member = rw s at (x.made.accepted f.member (rw s f.below)) in
      f.refused (sym f.refusal ∙ o)

  pub one_reason : (n : ℕ) → Untold b Damaged → Untold b (Refused n) → ⊥
  one_reason n (inl z) u = z u.words u.bytes
  one_reason n (inr d) u = d.unmade u.unmade.head u.unmade.entries (rw (same_words u.words d.words u.fit d.fit u.bytes d.bytes) at u.unmade.listed)

  pub one_number : (n m : ℕ) → Untold b (Refused n) → Untold b (Refused m) → n ≡ m
  one_number n m u v =
      let l : Listed v.words u.unmade.head u.unmade.entries = rw (same_words u.words v.words u.fit v.fit u.bytes v.bytes) at u.unmade.listed in
      let s : u.unmade.head ≡ v.unmade.head = same_head v.words u.unmade.head v.unmade.head u.unmade.entries v.unmade.entries l v.unmade.listed in
      first_once v.unmade.head n m (rw s at u.unmade.first) v.unmade.first
