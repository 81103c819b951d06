-- What a stream of records does, record by record: none is an unreadable one.
use Rattle.std.specs.Prelude.{◌≡◌, Bool, List, [], ◌∷◌, ◌++◌, ℕ, ◌+◌, ◌<◌, Option, length, drop}
use Rattle.framing.specs.Framing.{Waits}
use Rattle.framing.specs.AtHand.{AtHand, left}
use Rattle.stream.specs.Lines.{Put}
use Rattle.stream.specs.declared.Wanted.{Wanted}
use Rattle.stream.specs.declared.Wanted.TheVariants.{Bytes, Room}

module _ {E : Type 0} (after : E → Option (List ℕ) → E) (answer : E
    → Option (List ℕ) → List ℕ) where
  -- after these records, one after another
  abbrev pub after_all : E → List (Option (List ℕ)) → E
  after_all e [] = e
  after_all e (o ∷ l) = after_all (after e o) l

  -- the bytes that answer them
  abbrev pub answers : E → List (Option (List ℕ)) → List ℕ
  answers e [] = []
  answers e (o ∷ l) = answer e o ++ answers (after e o) l

  -- one record served
  pub record Served (e e' : E) (o : Option (List ℕ)) (x y : Put) : Type 0 where
    pub state : e' ≡ after e o
    pub bytes : y.bytes ≡ x.bytes ++ answer e o

  -- from e and the bytes at hand to e' and those that are left: these records were found and served, whatever comes after the bytes at hand, and no byte between was lost
  pub record Found (found : List (Option (List ℕ))) (e : E) (h : AtHand) (e' : E)
      (h' : AtHand) : Type 0 where
    pub whole : (over : Bool) (more : List ℕ) → left over h more ≡ found ++ left over h' more
    pub state : e' ≡ after_all e found
    pub taken : ℕ
    pub rest : h'.hand ≡ drop taken h.hand

  -- and their answers put; no record is left that could be answered, or there is no room for another answer
  pub record Answered (most : E → ℕ) (wanted : Wanted) (e : E) (h : AtHand) (e' : E) (h' : AtHand)
      (x y : Put) : Type 0 where
    pub found : List (Option (List ℕ))
    pub finds : Found found e h e' h'
    pub bytes : y.bytes ≡ x.bytes ++ answers e found
    pub room : y.room ≡ x.room
    pub steady : most e' ≡ most e
    pub waits : wanted ≡ Bytes → Waits h'.hand
    pub full : wanted ≡ Room → y.room < length y.bytes + most e
