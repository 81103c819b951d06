-- What steps through the bytes at hand tell, and leave.
use Rattle.std.proofs.Common.{◌≡◌, ℕ, ◌+◌, ◌-◌, ◌<◌, ◌≤◌, Bool, true, false, cond, List, length, take, drop, refl, sym, ◌∙◌, ap, arith, ltb, ⊎_elim, Option, None, Some, length-drop, ltb-false}
use Rattle.std.proofs.Math.Seq.{take_all}
use Rattle.std.proofs.lemmas.List.{drop-drop}
use Rattle.std.proofs.str.Laws.{order}
use Rattle.framing.specs.declared.Event.TheVariants.{Nothing, Record, Unreadable}
use Rattle.framing.specs.declared.Step.{Step}
use Rattle.framing.specs.Streams.{has_end, until_end}
use Rattle.framing.specs.Framing.{step_of, ended_step, open_step, passed}
use Rattle.framing.specs.AtHand.{AtHand, left, Tells}
use Rattle.framing.proofs.ChunkLaws.{passed-most}
use Rattle.framing.proofs.FramingLaws.{step-told, step_waits, step-within}

-- from h to h' nothing was told
pub record Skipped (h h' : AtHand) : Type 0 where
  pub same : (over : Bool) (more : List ℕ) → left over h more ≡ left over h' more
  pub taken : ℕ
  pub rest : h'.hand ≡ drop taken h.hand
  pub fewer : length h'.hand ≤ length h.hand

-- the bytes from a place on
pub tail_all : (n : ℕ) (l : List ℕ) → take (length l - n) (drop n l) ≡ drop n l
tail_all n l = take_all (length l - n) (drop n l) (omega (arith, length-drop n l))

-- a step that stays tells nothing
pub step_stays : (b : Bool) (l : List ℕ) → (step_of b l).next ≡ 0 → (step_of b l).event ≡ Nothing
unfolding step_of
step_stays b l h = go (has_end l) b h
  where
    go : (x : Bool) (b : Bool) → (cond {A = Step} x (ended_step b (length (until_end l))) (open_step b l)).next ≡ 0 → (cond {A = Step} x (ended_step b (length (until_end l))) (open_step b l)).event ≡ Nothing
    go true b h = absurd (omega arith)
    go false true h = refl
    go false false h = by (ltb (length l) 1024) refl h
      where
        by : (c : Bool) → ltb (length l) 1024 ≡ c
            → (cond {A = Step} c (record { event = Nothing; length = 0; next = 0; skipping = false }) (record { event = Unreadable; length = 0; next = passed l; skipping = true })).next ≡ 0
            → (cond {A = Step} c (record { event = Nothing; length = 0; next = 0; skipping = false }) (record { event = Unreadable; length = 0; next = passed l; skipping = true })).event ≡ Nothing
        by true q h = refl
        by false q h = let p = passed-most l in let m = ltb-false (length l) 1024 q in absurd (omega arith)

-- after the step s through h
module _ (h : AtHand) (s : Step) (e : s ≡ step_of h.skipping h.hand) (rest : List ℕ) (r : rest ≡ drop s.next h.hand) where
  next : AtHand
  next = record { hand = rest; skipping = s.skipping }

  pub within : s.next ≤ length h.hand
  within = rw e (step-within h.skipping h.hand).next-to

  shorter : length rest + s.next ≡ length h.hand
  shorter = omega (arith, within, ap length r, length-drop s.next h.hand)

  pub step_skips : s.event ≡ Nothing → Skipped h (record { hand = rest; skipping = s.skipping })
  step_skips q = record {
    taken = s.next;
    rest = r;
    same = λ over more. rw (r, e) (step-told over h.skipping h.hand more ∙ rw (ap (λ (z : Step). z.event) (sym e) ∙ q) refl);
    fewer = omega (arith, shorter);
  }

  stays : s.next ≡ 0 → s.event ≡ Nothing
  stays z = ap (λ (z : Step). z.event) e ∙ step_stays h.skipping h.hand (sym (ap (λ (z : Step). z.next) e) ∙ z)

  moves : (s.event ≡ Nothing → ⊥) → 0 < s.next
  moves n = ⊎_elim (λ p. p) (λ p. absurd (n (stays (omega arith)))) (order 0 s.next)

  pub step_record : s.event ≡ Record → Tells h (Some (Some (take s.length h.hand))) (record { hand = rest; skipping = s.skipping })
  step_record q = record {
    taken = s.next;
    rest = r;
    whole = λ over more. rw (r, e) (step-told over h.skipping h.hand more ∙ rw (ap (λ (z : Step). z.event) (sym e) ∙ q) refl);
    fewer = λ o _. omega (arith, shorter, moves (λ n. let f : Record ≡ Nothing = sym q ∙ n in cc));
    waits = λ n. cc;
  }

  pub step_unreadable : s.event ≡ Unreadable → Tells h (Some None) (record { hand = rest; skipping = s.skipping })
  step_unreadable q = record {
    taken = s.next;
    rest = r;
    whole = λ over more. rw (r, e) (step-told over h.skipping h.hand more ∙ rw (ap (λ (z : Step). z.event) (sym e) ∙ q) refl);
    fewer = λ o _. omega (arith, shorter, moves (λ n. let f : Unreadable ≡ Nothing = sym q ∙ n in cc));
    waits = λ n. cc;
  }

  pub step-waits : s.next ≡ 0 → Tells h None (record { hand = rest; skipping = s.skipping })
  step-waits z = record {
    whole = (step_skips (stays z)).same;
    taken = s.next;
    rest = r;
    fewer = λ o n. cc;
    waits = λ _. rw (r, z) (step_waits h.skipping h.hand (rw (← e) z));
  }

drop_drop' : (j k : ℕ) (l : List ℕ) → drop j (drop k l) ≡ drop (k + j) l
drop_drop' j k l = drop-drop j k l

-- what was told after nothing was
pub tells_after : {h h' h'' : AtHand} {r : Option (Option (List ℕ))} → Skipped h h' → Tells h' r h'' → Tells h r h''
tells_after {h} k t = record {
  whole = λ over more. k.same over more ∙ t.whole over more;
  taken = k.taken + t.taken;
  rest = t.rest ∙ rw k.rest (drop_drop' t.taken k.taken h.hand);
  fewer = λ o n. let f = t.fewer o n in omega (arith, k.fewer);
  waits = t.waits;
}

pub skipped-after : {h h' h'' : AtHand} → Skipped h h' → Skipped h' h'' → Skipped h h''
skipped-after {h} k m = record { same = λ over more. k.same over more ∙ m.same over more; taken = k.taken + m.taken; rest = m.rest ∙ rw k.rest (drop_drop' m.taken k.taken h.hand); fewer = omega (arith, k.fewer, m.fewer) }

pub step_shortens : (h : AtHand) (s : Step) → s ≡ step_of h.skipping h.hand → (s.next ≡ 0 → ⊥) → length (take (length h.hand - s.next) (drop s.next h.hand)) < length h.hand
step_shortens h s e n = rw (tail_all s.next h.hand, length-drop s.next h.hand) (let w = within h s e (drop s.next h.hand) refl in omega (arith, w, n))
