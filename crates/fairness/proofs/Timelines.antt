-- What moments may follow one another: each draws from the next guest, or leaves the guest served last, or finds all queues empty.
use Rattle.std.proofs.Common.{◌≡◌, refl, false, List, [], ◌∷◌, ◌++◌, ℕ, zero, suc, Option, Some, None}
use Rattle.queues.specs.Queues.{Queues, Draw, is_waiting, next_guest, served, drawn, after_draws}
use Rattle.queues.proofs.DrawLaws.{drawn-none, drawn-more}
use Rattle.fairness.specs.Fairness.{Moment, draw_moments}

-- what a moment may be after the queues q: a transaction is drawn; or the guest served last is the same; or nothing is waiting
pub data Follows (q : Queues) : Moment → Type 0 where
  by-draw : (g : ℕ) → next_guest q ≡ Some g → Follows q (record { drew = Some g; then = served q g })
  by_call : (p : Queues) → p.from ≡ q.from → Follows q (record { drew = None; then = p })
  by_open : (p : Queues) → ((g : ℕ) → is_waiting p g ≡ false) → Follows q (record { drew = None; then = p })

-- moments, oldest first, after the queues q
abbrev pub Timeline : Queues → List Moment → Type 0
Timeline q [] = Unit {0}
Timeline q (m ∷ l) = Follows q m × Timeline m.then l

-- the queues after them
abbrev pub last : Queues → List Moment → Queues
last q [] = q
last q (m ∷ l) = last m.then l

pub timeline-join : (q : Queues) (l m : List Moment) → Timeline q l → Timeline (last q l) m → Timeline q (l ++ m)
timeline-join q [] m a b = b
timeline-join q (x ∷ l) m a b = (a.0, timeline-join x.then l m a.1 b)

pub timeline-first : (q : Queues) (l m : List Moment) → Timeline q (l ++ m) → Timeline q l
timeline-first q [] m a = tt
timeline-first q (x ∷ l) m a = (a.0, timeline-first x.then l m a.1)

pub timeline-rest : (q : Queues) (l m : List Moment) → Timeline q (l ++ m) → Timeline (last q l) m
timeline-rest q [] m a = a
timeline-rest q (x ∷ l) m a = timeline-rest x.then l m a.1

-- ---- a draw

pub last-draws : (q : Queues) (l : List Draw) → last q (draw_moments q l) ≡ after_draws l q
unfolding after_draws
last-draws q [] = refl
last-draws q (d ∷ l) = last-draws (served q d.guest) l

pub timeline-draws : (a : ℕ) (q : Queues) → Timeline q (draw_moments q (drawn a q))
unfolding drawn
timeline-draws zero q = tt
timeline-draws (suc a) q = go (next_guest q) refl (λ g. timeline-draws a (served q g))
  where
    go : (o : Option ℕ) → next_guest q ≡ o → ((g : ℕ) → Timeline (served q g) (draw_moments (served q g) (drawn a (served q g)))) → Timeline q (draw_moments q (drawn (suc a) q))
    go None e f = rw (drawn-none (suc a) q e) tt
    go (Some g) e f = rw (drawn-more a q g e) (by-draw g e, f g)
