-- What walks down histories have reached, and what is new in them: v and fresh have a set of authors for each round. Where b, what is in a block counts as reached.
use Rattle.std.specs.Prelude.{◌≡◌, Bool, true, not, ◌&&◌, ◌||◌, List, ◌≢◌, ℕ, suc, ◌<◌, ◌≤◌, ◌==◌, length, get_or}
use Rattle.base.specs.Sets.{contains}
use Rattle.store.specs.Table.{Row, held_at, mark_at, previous_at}
use Rattle.blocks.specs.History.{in_history}

-- the set x has those of `here` that are not in `old` and whose certificates of round r are in no block
pub record NewOf (t : List ℕ) (here old r x : ℕ) : Type 0 where
  pub small : x < 65536
  pub each : (a : ℕ)
      → contains x a ≡ (contains here a && (not (contains old a) && mark_at t a r == 0))

-- the certificate of author a and round q counts as reached
abbrev pub is_reached : Bool → List ℕ → List ℕ → ℕ → ℕ → Bool
is_reached b t v a q = contains (get_or v q 0) a || (b && not (mark_at t a q == 0))

-- the certificate of i and round q + 1 names a, whose own is held
pub record Names (t : List ℕ) (i a q : ℕ) : Type 0 where
  pub member : i < 16
  pub named : contains (previous_at t i (suc q)) a ≡ true
  pub held : held_at t a q ≡ true

-- whom one that counts as reached names counts so too, in the rounds 1 to n; where b, this is asked of held ones
pub record Closed (b : Bool) (n : ℕ) (t v : List ℕ) : Type 0 where
  pub long : 1024 < length v
  pub closed : (i a q : ℕ) → 0 < q → q < n → (b ≡ true → held_at t i (suc q) ≡ true)
      → Names t i a q → is_reached b t v i (suc q) ≡ true → is_reached b t v a q ≡ true

-- the histories of held ones that are in blocks are in blocks up to round n, and the anchors of the rounds above m are held
pub record Whole (t l : List ℕ) (m n : ℕ) : Type 0 where
  pub marked : (i a q : ℕ) → 0 < q → q < n → held_at t i (suc q) ≡ true → Names t i a q
      → mark_at t i (suc q) ≢ 0 → mark_at t a q ≢ 0
  pub anchors : (q : ℕ) → m < q → q ≤ n → get_or l q 0 < 16
      → held_at t (get_or l q 0) q ≡ true

-- a walk can go down from the set s of round top, where v has what earlier walks reached
pub record WalkReady (b : Bool) (t v fresh : List ℕ) (s top : ℕ) : Type 0 where
  pub row : Row t top
  pub round : top ≤ 1024
  pub rounds : 1024 < length fresh
  pub earlier : Closed b top t v
  pub here : (a : ℕ) → b ≡ true → contains s a ≡ true → held_at t a top ≡ true

-- what it gives: v' has what v has and all that is reached; at low and below all of that counted so; fresh has, for the rounds above low, what did not and is in no block
pub record WentDown (b : Bool) (t v : List ℕ) (s top low : ℕ) (v' fresh : List ℕ) : Type 0 where
  pub down : low ≤ top
  pub long : 1024 < length v'
  pub rounds : 1024 < length fresh
  pub reaches : (q a : ℕ) → 0 < q
      → is_reached b t v' a q ≡ (is_reached b t v a q || in_history t top s a q)
  pub old : (q a : ℕ) → 0 < q → q ≤ low → in_history t top s a q ≡ true
      → is_reached b t v a q ≡ true
  pub new : (q a : ℕ) → low < q → q ≤ top → contains (get_or fresh q 0) a
      ≡ (in_history t top s a q && (not (is_reached b t v a q) && mark_at t a q == 0))
