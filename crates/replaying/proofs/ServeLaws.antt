-- What is known of a reader's bytes, once it is read to its end.
use Rattle.std.proofs.Common.{◌≡◌, inr, List, ℕ}
use Rattle.std.specs.Prelude.{Option, Some, None, IfSome}
use Rattle.std.specs.Io.KnownBytes.{Appends, Keeps}
use Rattle.std.proofs.KnownBytes.{Appends-kept}
use Rattle.replaying.specs.declared.failure.Failure.{Failure}
use Rattle.replaying.specs.declared.failure.Failure.TheVariants.{Damaged, Refused, Memory, Stream}
use Rattle.replaying.specs.Replays.{Told, Untold, Unserved, Silent}

abbrev pub IsStream : Failure → Type 0
IsStream (Stream e) = Unit {0}
IsStream f = ⊥

module _ (r : Option (List ℕ)) (v : List ℕ) (k : IfSome r (λ xs. v ≡ xs)) where
  known : (P : List ℕ → Type 0) → P v → IfSome r P
  known P p = go r k
    where
      go : (o : Option (List ℕ)) → IfSome o (λ xs. v ≡ xs) → IfSome o P
      go None q = tt
      go (Some xs) q = rw (← q) p

  -- what is handed out is told of all that was read
  pub told_known : (a b c : Option (List ℕ)) (t : List ℕ) → Told v t → Appends a b t → Keeps b c → IfSome r (λ xs. (x : List ℕ) × Told xs x × Appends a c x)
  told_known a b c t h p q = known (λ xs. (x : List ℕ) × Told xs x × Appends a c x) (t, h, Appends-kept a b c t p q)

  unserved : (f : Failure) → Untold v f → Unserved v f
  unserved Damaged u = u
  unserved (Refused n) u = u
  unserved Memory u = tt
  unserved (Stream e) u = tt

  pub unserved_known : (f : Failure) → Untold v f → IfSome r (λ xs. Unserved xs f)
  unserved_known f u = known (λ xs. Unserved xs f) (unserved f u)

  -- a stream failed while all that was read was told
  pub silent_told : (f : Failure) (a b : Option (List ℕ)) (t : List ℕ) → IsStream f → Told v t → Silent r f a b
  silent_told (Stream e) a b t s h = inr (known (λ xs. (x : List ℕ) × Told xs x) (t, h))
  silent_told Damaged a b t s h = absurd s
  silent_told (Refused n) a b t s h = absurd s
  silent_told Memory a b t s h = absurd s
