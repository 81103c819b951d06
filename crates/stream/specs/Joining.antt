-- What an implementation of `Peer` proves: one talk after another, where the bytes of a reader and a writer are known. No definition stands here; a ghost member may cite specs/ alone.
use Rattle.std.specs.Prelude.{◌≡◌, List, [], ◌∷◌, ◌++◌, ℕ, Option}
use Rattle.std.proofs.Common.{refl, sym, ◌∙◌, ap, append_assoc}
use Rattle.std.proofs.KnownBytes.{Appends-nil, Appends-trans, Consumes-nil, Consumes-trans}
use Rattle.stream.specs.Talk.{Event, came, read_failed, went, flushed, write_failed, SoFar, then, since}
use Rattle.stream.specs.Known.{read_in, went_in, Moved}

read_in-append : (l m : List Event) → read_in (l ++ m) ≡ read_in l ++ read_in m
read_in-append [] m = refl
read_in-append (came b ∷ l) m =
    ap (λ (x : List ℕ). b ++ x) (read_in-append l m) ∙ sym (append_assoc b (read_in l) (read_in m))
read_in-append (read_failed why ∷ l) m = read_in-append l m
read_in-append (went b ∷ l) m = read_in-append l m
read_in-append (flushed ∷ l) m = read_in-append l m
read_in-append (write_failed why ∷ l) m = read_in-append l m

went_in-append : (l m : List Event) → went_in (l ++ m) ≡ went_in l ++ went_in m
went_in-append [] m = refl
went_in-append (came b ∷ l) m = went_in-append l m
went_in-append (read_failed why ∷ l) m = went_in-append l m
went_in-append (went b ∷ l) m =
    ap (λ (x : List ℕ). b ++ x) (went_in-append l m) ∙ sym (append_assoc b (went_in l) (went_in m))
went_in-append (flushed ∷ l) m = went_in-append l m
went_in-append (write_failed why ∷ l) m = went_in-append l m

since-joined : (s : SoFar) (l m : List Event) → since s (l ++ m) ≡ since (since s l) m
since-joined s [] m = refl
since-joined s (x ∷ l) m = since-joined (then s x) l m

pub nothing_moved : (i o : Option (List ℕ)) → Moved i i o o []
nothing_moved i o = record { taken = Consumes-nil i; given = Appends-nil o; at_end = λ s f a. f a }

pub joined : (l m : List Event) (i j k o p q : Option (List ℕ)) → Moved i j o p l → Moved j k p q m
    → Moved i k o q (l ++ m)
joined l m i j k o p q x y = record {
  taken = rw read_in-append (Consumes-trans i j k (read_in l) (read_in m) x.taken y.taken);
  given = rw went_in-append (Appends-trans o p q (went_in l) (went_in m) x.given y.given);
  at_end = λ s f a. y.at_end (since s l) (x.at_end s f) (rw since-joined at a);
}
