-- Fairness of draws, over every list of calls: between two transactions drawn from one guest into accepted proposals, every other guest that was waiting all that time has one so drawn.
use Rattle.std.specs.Prelude.{◌≡◌, true, List, [], ◌∷◌, ◌++◌, ◌⊎◌, ◌≢◌, ℕ, ◌<◌, Option, Some, None}
use Rattle.queues.specs.Queues.{Queues, Draw, is_waiting, served}
use Rattle.engine.specs.Calls.{Call}
use Rattle.engine.specs.Engine.{Engine, after}
use Rattle.fairness.specs.Kept.{queues, draws_of}

-- a moment: the guest from whom a transaction was just drawn into an accepted proposal, if one was, and what is waiting then
pub record Moment : Type 0 where
  pub drew : Option ℕ
  pub then : Queues

-- one for each transaction that is drawn from the queues q, in order
abbrev pub draw_moments : Queues → List Draw → List Moment
draw_moments q [] = []
draw_moments q (d ∷ l) = record { drew = Some d.guest; then = served q d.guest }
    ∷ draw_moments (served q d.guest) l

-- the moments of a call: one for each transaction that it draws, and one after it
abbrev pub moments_of : Engine → Call → List Moment
moments_of e c = draw_moments (queues e) (draws_of e c) ++ (record {
  drew = None;
  then = queues (after e c);
} ∷ [])

-- the moments of a list of calls, oldest first; refused calls and opens may be among them
unfoldable pub moments : Engine → List Call → List Moment
moments e [] = []
moments e (c ∷ l) = moments_of e c ++ moments (after e c) l

-- guest h is waiting in each
abbrev pub Waits : ℕ → List Moment → Type 0
Waits h [] = Unit {0}
Waits h (m ∷ l) = (is_waiting m.then h ≡ true) × Waits h l

-- one is drawn from guest h
abbrev pub Drawn : ℕ → List Moment → Type 0
Drawn h [] = ⊥
Drawn h (m ∷ l) = (m.drew ≡ Some h) ⊎ Drawn h l

-- of the moments m: where x and y draw from guest g, the moments b lie between, and guest h is waiting right after x and from then on until right before y, one is drawn from h between them
abbrev pub FairIn : List Moment → Type 0
FairIn m = (a b d : List Moment) (x y : Moment) (g h : ℕ) → m ≡ a ++ (x ∷ b) ++ (y ∷ d)
    → x.drew ≡ Some g → y.drew ≡ Some g → h < 8 → h ≢ g → Waits h (x ∷ b) → Drawn h b
