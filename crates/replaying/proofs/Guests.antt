-- A guest's call that is refused by its right changes no word, and what it answers.
use Rattle.std.proofs.Common.{◌≡◌, refl, ℕ, ◌*◌, ◌<◌, List, zero-add}
use Rattle.terms.specs.declared.rights.Right.{Right}
use Rattle.terms.specs.Rights.{caller_refusal}
use Rattle.hosting.specs.Calls.{Result, packed}
use Rattle.hosting.specs.Guested.{rights_in, as_guest}
use Rattle.hosting.proofs.Answered.{guest_refused}
use Rattle.library.specs.Lists.{Words, after_call}
use Rattle.replaying.specs.declared.calls.GuestCall.{GuestCall}
use Rattle.replaying.specs.declared.calls.GuestCall.TheVariants as guest
use Rattle.replaying.specs.Told.{right_of, told_guest, comes_of, answer_of_guest, refused_guest}

module _ (w t o : List ℕ) (c : ℕ) (r : Right) (x : Result) where
  -- refused by its right, it changes no word
  unchanged : 0 < caller_refusal (rights_in w) r c → (let a : Words = record { state = (as_guest w t o c r x).state; table = (as_guest w t o c r x).table } in a) ≡ record { state = w; table = t }
  unchanged h = rw (guest_refused w t o c r x h) refl

  numbered : 0 < caller_refusal (rights_in w) r c → (as_guest w t o c r x).refusal ≡ caller_refusal (rights_in w) r c
  numbered h = rw (guest_refused w t o c r x h) refl

  packed_number : 0 < caller_refusal (rights_in w) r c → packed (as_guest w t o c r x) ≡ caller_refusal (rights_in w) r c * 4294967296
  packed_number h = rw (guest_refused w t o c r x h) (zero-add _)

module _ (k : Words) (c : ℕ) where
  -- so each call of a guest
  pub guest_unchanged : (x : GuestCall) → 0 < caller_refusal (rights_in k.state) (right_of x) c → after_call k (told_guest c x) ≡ k
  guest_unchanged (guest.Propose b) h = unchanged _ _ _ _ _ _ h
  guest_unchanged (guest.Draw v) h = unchanged _ _ _ _ _ _ h
  guest_unchanged (guest.Enqueue b) h = unchanged _ _ _ _ _ _ h
  guest_unchanged (guest.Endorse b) h = unchanged _ _ _ _ _ _ h
  guest_unchanged (guest.Certify v) h = unchanged _ _ _ _ _ _ h
  guest_unchanged (guest.Accept b) h = unchanged _ _ _ _ _ _ h
  guest_unchanged (guest.Batch b) h = unchanged _ _ _ _ _ _ h
  guest_unchanged guest.Advance h = unchanged _ _ _ _ _ _ h
  guest_unchanged guest.Commit h = unchanged _ _ _ _ _ _ h
  guest_unchanged (guest.PortRead o) h = unchanged _ _ _ _ _ _ h
  guest_unchanged (guest.PortWrite o b) h = unchanged _ _ _ _ _ _ h

  pub guest_answer : (x : GuestCall) → 0 < caller_refusal (rights_in k.state) (right_of x) c → answer_of_guest x (comes_of k (told_guest c x)) ≡ refused_guest x (caller_refusal (rights_in k.state) (right_of x) c)
  guest_answer (guest.Propose b) h = numbered _ _ _ _ _ _ h
  guest_answer (guest.Draw v) h = numbered _ _ _ _ _ _ h
  guest_answer (guest.Enqueue b) h = numbered _ _ _ _ _ _ h
  guest_answer (guest.Endorse b) h = numbered _ _ _ _ _ _ h
  guest_answer (guest.Certify v) h = numbered _ _ _ _ _ _ h
  guest_answer (guest.Accept b) h = numbered _ _ _ _ _ _ h
  guest_answer (guest.Batch b) h = numbered _ _ _ _ _ _ h
  guest_answer guest.Advance h = numbered _ _ _ _ _ _ h
  guest_answer guest.Commit h = packed_number _ _ _ _ _ _ h
  guest_answer (guest.PortRead o) h = packed_number _ _ _ _ _ _ h
  guest_answer (guest.PortWrite o b) h = numbered _ _ _ _ _ _ h
