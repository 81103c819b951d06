-- A talk goes on: what a pass adds to it, and its end.
use Rattle.std.proofs.Common.{◌≡◌, ℕ, ◌+◌, ◌<◌, ◌≤◌, Bool, true, false, cond, List, [], ◌∷◌, ◌++◌, refl, sym, ◌∙◌, ap, subst, append_assoc, append-nil, length, length-append, Option, None, Some, arith}
use Rattle.std_io.specs.declared.io.error.Error.{Error}
use Rattle.framing.specs.Streams.{due}
use Rattle.framing.specs.Framing.{Waits, remaining}
use Rattle.framing.specs.AtHand.{AtHand, left}
use Rattle.framing.proofs.FramingLaws.{none_yet, last-told}
use Rattle.stream.specs.Answers.{after_all, answers, Found}
use Rattle.stream.specs.Held.{Held}
use Rattle.stream.specs.Talk.{Event, came, read_failed, flushed, write_failed, SoFar, start, is_none, then, since, owed, Partly, MayRead, May, Follows, Reached, EndsAt, Ends, Ran}
use Rattle.stream.specs.Peer.{HandedOut}
use Rattle.stream.specs.Passes.{in_record, unless, Next, lost, full, read_on, at_end, cut_off, PassDone, FinishDone}
use Rattle.stream.specs.declared.ended.Ended.{Ended}
use Rattle.stream.specs.declared.ended.Ended.TheVariants.{Input, ReadFailed, WriteFailed, TooLong}
use Rattle.stream.specs.declared.passed.Passed.TheVariants.{On, Over, Cut, Lost}
use Rattle.stream.proofs.Serving.{after_all-append, answers-append}
use Rattle.stream.proofs.Writing.{since-append, Grown, since-writes, follows-append, follows-writes, owed-same}

-- where more bytes are wanted, the record that was begun is all that is left
pub begun-left : (h : AtHand) → Waits h.hand → left true h [] ≡ cond (in_record h) (None ∷ []) []
begun-left h w = ap (remaining true h.skipping) (append-nil h.hand) ∙ last-told h.skipping h.hand w.open_ended

pub none-left : (h : AtHand) → Waits h.hand → left false h [] ≡ []
none-left h w = ap (remaining false h.skipping) (append-nil h.hand) ∙ none_yet h.skipping h.hand w

-- bytes that came are not none
some-left : (c : List ℕ) → 0 < length c → is_none c ≡ false
some-left [] h = absurd (omega arith)
some-left (x ∷ c) h = refl

module _ {E P : Type 0} (after : E → Option (List ℕ) → E) (answer : E → Option (List ℕ) → List ℕ) (e₀ : E) (talk : P → List Event → P → Type 0) where
  -- steps from p to q that follow the state s, and hand out these bytes, or a first part of them
  record Steps (s : SoFar) (p q : P) (bytes : List ℕ) (failed : Option Error) : Type 0 where
    steps : List Event
    talked : talk p steps q
    follows : Follows after answer e₀ s steps
    read : (since s steps).read ≡ s.read
    over : (since s steps).over ≡ s.over
    cut : (since s steps).cut ≡ s.cut
    lost : (since s steps).lost ≡ failed
    flushed : failed ≡ None → (since s steps).flushed ≡ true
    written : failed ≡ None → (since s steps).written ≡ s.written ++ bytes
    partly : Partly after answer e₀ (since s steps)
    unsent : List ℕ
    sent : (since s steps).written ++ unsent ≡ s.written ++ bytes

  handed : (s : SoFar) (p q : P) (bytes more : List ℕ) (failed : Option Error) → s.lost ≡ None → (s.written ++ bytes) ++ more ≡ owed after answer e₀ s → HandedOut talk p bytes failed q → Steps s p q bytes failed
  handed s p q bytes more failed n o h = by failed refl
    where
      t : SoFar
      t = since s h.steps

      g : Grown s t h.part
      g = since-writes s h.writes

      owes : (s.written ++ h.part) ++ (h.rest ++ more) ≡ owed after answer e₀ s
      owes = sym (append_assoc (s.written ++ h.part) h.rest more) ∙ ap (λ (l : List ℕ). l ++ more) (append_assoc s.written h.part h.rest ∙ ap (λ (l : List ℕ). s.written ++ l) h.parts) ∙ o

      partly : Partly after answer e₀ t
      partly = (h.rest ++ more, ap (λ (l : List ℕ). l ++ (h.rest ++ more)) g.written ∙ owes ∙ sym (owed-same after answer e₀ s t g.read g.over))

      follows-to : (x : Event) → May after answer e₀ t x → Follows after answer e₀ s (h.steps ++ x ∷ [])
      follows-to x m = follows-append after answer e₀ s h.steps (x ∷ []) (follows-writes after answer e₀ s (h.rest ++ more) h.writes n owes) (g.lost ∙ n, (m, tt))

      all-out : failed ≡ None → t.written ≡ s.written ++ bytes
      all-out w = g.written ∙ ap (λ (l : List ℕ). s.written ++ l) (sym (append-nil h.part) ∙ ap (λ (l : List ℕ). h.part ++ l) (sym (h.all w)) ∙ h.parts)

      sent : t.written ++ h.rest ≡ s.written ++ bytes
      sent = ap (λ (l : List ℕ). l ++ h.rest) g.written ∙ append_assoc s.written h.part h.rest ∙ ap (λ (l : List ℕ). s.written ++ l) h.parts

      by : (b : Option Error) → failed ≡ b → Steps s p q bytes failed
      by None w =
          let x = since-append s h.steps (flushed ∷ []) in
          rw w (record {
            steps = h.steps ++ flushed ∷ [];
            talked = rw w at h.talked;
            follows = follows-to flushed partly;
            read = ap (λ (u : SoFar). u.read) x ∙ g.read;
            over = ap (λ (u : SoFar). u.over) x ∙ g.over;
            cut = ap (λ (u : SoFar). u.cut) x ∙ g.cut;
            lost = ap (λ (u : SoFar). u.lost) x ∙ g.lost ∙ n;
            flushed = λ _. ap (λ (u : SoFar). u.flushed) x;
            written = λ _. ap (λ (u : SoFar). u.written) x ∙ all-out w;
            partly = subst (Partly after answer e₀) (sym x) partly;
            unsent = h.rest;
            sent = ap (λ (u : SoFar). u.written ++ h.rest) x ∙ sent;
          })
      by (Some why) w =
          let x = since-append s h.steps (write_failed why ∷ []) in
          rw w (record {
            steps = h.steps ++ write_failed why ∷ [];
            talked = rw w at h.talked;
            follows = follows-to (write_failed why) partly;
            read = ap (λ (u : SoFar). u.read) x ∙ g.read;
            over = ap (λ (u : SoFar). u.over) x ∙ g.over;
            cut = ap (λ (u : SoFar). u.cut) x ∙ g.cut;
            lost = ap (λ (u : SoFar). u.lost) x;
            flushed = λ z. cc;
            written = λ z. cc;
            partly = subst (Partly after answer e₀) (sym x) partly;
            unsent = h.rest;
            sent = ap (λ (u : SoFar). u.written ++ h.rest) x ∙ sent;
          })

  -- ---- between two passes

  -- n passes led from p₀ to p, and from e₀ to e
  pub record Between (p₀ : P) (e : E) (h : AtHand) (p : P) (n : ℕ) : Type 0 where
    pub events : List Event
    pub talked : talk p₀ events p
    pub follows : Follows after answer e₀ start events
    pub reading : (since start events).over ≡ false
    pub whole : (since start events).lost ≡ None
    -- the records that were answered
    pub found : List (Option (List ℕ))
    pub state : e ≡ after_all after answer e₀ found
    pub written : (since start events).written ≡ answers after answer e₀ found
    pub finds : (over : Bool) (more : List ℕ) → due over ((since start events).read ++ more) ≡ found ++ left over h more
    pub count : n ≤ length (since start events).read + length (since start events).written

  pub at-start : (p : P) → ((p : P) → talk p [] p) → Between p e₀ (record { hand = []; skipping = false }) p 0
  unfolding remaining
  at-start p t = record { events = []; talked = t p; follows = tt; reading = refl; whole = refl; found = []; state = refl; written = refl; finds = λ over more. refl; count = omega arith }

  module _ (joined : (p q r : P) (l m : List Event) → talk p l q → talk q m r → talk p (l ++ m) r) where
    -- after the answers of a pass
    record Answered (p₀ : P) (e : E) (h : AtHand) (p : P) (n put : ℕ) (failed : Option Error) : Type 0 where
      events : List Event
      talked : talk p₀ events p
      follows : Follows after answer e₀ start events
      reading : (since start events).over ≡ false
      lost : (since start events).lost ≡ failed
      partly : Partly after answer e₀ (since start events)
      found : List (Option (List ℕ))
      state : e ≡ after_all after answer e₀ found
      flushed : failed ≡ None → (since start events).flushed ≡ true
      written : failed ≡ None → (since start events).written ≡ answers after answer e₀ found
      finds : (over : Bool) (more : List ℕ) → due over ((since start events).read ++ more) ≡ found ++ left over h more
      count : failed ≡ None → n + put ≤ length (since start events).read + length (since start events).written
      reached : Reached after answer e₀ (since start events) e

    pass_answered : {p₀ p q : P} {e e₁ : E} {h h₁ : AtHand} {n : ℕ} {failed : Option Error} (found : List (Option (List ℕ))) → Between p₀ e h p n → Found after answer found e h e₁ h₁
        → HandedOut talk p (answers after answer e found) failed q → Answered p₀ e₁ h₁ q n (length (answers after answer e found)) failed
    pass_answered {p₀} {p} {q} {e} {e₁} {h} {h₁} {n} {failed} f b m g =
        let s = since start b.events in
        let put = answers after answer e f in
        let finds : (over : Bool) (more : List ℕ) → due over (s.read ++ more) ≡ (b.found ++ f) ++ left over h₁ more = λ over more. b.finds over more ∙ ap (λ (l : List (Option (List ℕ))). b.found ++ l) (m.whole over more) ∙ sym (append_assoc b.found f (left over h₁ more)) in
        let written : s.written ++ put ≡ answers after answer e₀ (b.found ++ f) = rw (b.written, b.state) (sym (answers-append after answer e₀ b.found f)) in
        let rest = answers after answer (after_all after answer e₀ (b.found ++ f)) (left false h₁ []) in
        let owes : (s.written ++ put) ++ rest ≡ owed after answer e₀ s =
        ap (λ (l : List ℕ). l ++ rest) written
        ∙ sym (answers-append after answer e₀ (b.found ++ f) (left false h₁ []))
        ∙ ap (answers after answer e₀) (sym (finds false []) ∙ rw (append-nil s.read, b.reading) refl)
        in
        let t = handed s p q put rest failed b.whole owes g in
        let x = since-append start b.events t.steps in
        let state = m.state ∙ ap (λ (e : E). after_all after answer e f) b.state ∙ sym (after_all-append after answer e₀ b.found f) in
        record {
          events = b.events ++ t.steps;
          talked = joined _ _ _ b.events t.steps b.talked t.talked;
          follows = follows-append after answer e₀ start b.events t.steps b.follows t.follows;
          reading = ap (λ (u : SoFar). u.over) x ∙ t.over ∙ b.reading;
          lost = ap (λ (u : SoFar). u.lost) x ∙ t.lost;
          partly = subst (Partly after answer e₀) (sym x) t.partly;
          found = b.found ++ f;
          state = state;
          flushed = λ w. ap (λ (u : SoFar). u.flushed) x ∙ t.flushed w;
          written = λ w. ap (λ (u : SoFar). u.written) x ∙ t.written w ∙ written;
          finds = λ over more. ap (λ (l : List ℕ). due over (l ++ more)) (ap (λ (u : SoFar). u.read) x ∙ t.read) ∙ finds over more;
          count = λ w.
              let r : length (since start (b.events ++ t.steps)).read ≡ length s.read = ap (λ (u : SoFar). length u.read) x ∙ ap length t.read in
              let v : length (since start (b.events ++ t.steps)).written ≡ length s.written + length put = ap (λ (u : SoFar). length u.written) x ∙ ap length (t.written w) ∙ length-append s.written put in
              omega (arith, b.count, r, v);
          reached =
              subst (λ (u : SoFar). Reached after answer e₀ u e₁) (sym x) (record {
                served = b.found ++ f;
                waiting = left false h₁ [];
                parts = sym (finds false []) ∙ rw (t.read, t.over, append-nil s.read, b.reading) refl;
                state = state;
                unsent = t.unsent;
                sent = t.sent ∙ written;
              });
        }

    -- a read may come there, where nothing at hand can be answered
    may-read : {p₀ p : P} {e : E} {h : AtHand} {n put : ℕ} {failed : Option Error} (a : Answered p₀ e h p n put failed) → failed ≡ None → Waits h.hand → MayRead after answer e₀ (since start a.events)
    may-read {h = h} a w z =
        let s = since start a.events in
        record {
          delivered =
              record {
                all = a.written w ∙ ap (answers after answer e₀) (sym (append-nil a.found) ∙ ap (λ (l : List (Option (List ℕ))). a.found ++ l) (sym (none-left h z)) ∙ sym (a.finds false []) ∙ rw (append-nil s.read, a.reading) refl);
                flushed = a.flushed w;
              };
          reading = a.reading;
        }

    pub pass_on : {most : E → ℕ} {p₀ p q : P} {e e₁ : E} {h h₁ : Held} {n : ℕ} → Between p₀ e h.here p n → PassDone after answer most talk e h p e₁ h₁ q On → Between p₀ e₁ h₁.here q (n + 1)
    pass_on {p₀ = p₀} {p = p} {q = q} {e = e} {e₁ = e₁} {h₁ = h₁} {n = n} b d = go d.next
      where
        put : List ℕ
        put = answers after answer e d.found

        a : Answered p₀ e₁ d.left d.between n (length put) d.failed
        a = pass_answered d.found b d.finds d.handed

        s : SoFar
        s = since start a.events

        go : Next talk put d.failed d.left d.between h₁.here q On → Between p₀ e₁ h₁.here q (n + 1)
        go (full w x y z) =
            let k = a.count w in
            rw (x, y) (record {
              events = a.events;
              talked = a.talked;
              follows = a.follows;
              reading = a.reading;
              whole = a.lost ∙ w;
              found = a.found;
              state = a.state;
              written = a.written w;
              finds = a.finds;
              count = omega (arith, k, z);
            })
        go (read_on w z c m x t) =
            let k = a.count w in
            let i : since start (a.events ++ came c ∷ []) ≡ then s (came c) = since-append start a.events (came c ∷ []) in
            rw x (record {
              events = a.events ++ came c ∷ [];
              talked = joined _ _ _ a.events (came c ∷ []) a.talked t;
              follows = follows-append after answer e₀ start a.events (came c ∷ []) a.follows (a.lost ∙ w, (may-read a w z, tt));
              reading = ap (λ (u : SoFar). u.over) i ∙ some-left c m;
              whole = ap (λ (u : SoFar). u.lost) i ∙ a.lost ∙ w;
              found = a.found;
              state = a.state;
              written = ap (λ (u : SoFar). u.written) i ∙ a.written w;
              finds = λ over more.
                  ap (λ (l : List ℕ). due over (l ++ more)) (ap (λ (u : SoFar). u.read) i)
                  ∙ ap (due over) (append_assoc s.read c more)
                  ∙ a.finds over (c ++ more)
                  ∙ ap (λ (l : List ℕ). a.found ++ remaining over d.left.skipping l) (sym (append_assoc d.left.hand c more));
              count =
                  let r : length (since start (a.events ++ came c ∷ [])).read ≡ length s.read + length c = ap (λ (u : SoFar). length u.read) i ∙ length-append s.read c in
                  let v : length (since start (a.events ++ came c ∷ [])).written ≡ length s.written = ap (λ (u : SoFar). length u.written) i in
                  omega (arith, k, m, r, v);
            })

    pub pass_lost : {most : E → ℕ} {p₀ p q : P} {e e₁ : E} {h h₁ : Held} {n : ℕ} {why : Error} → Between p₀ e h.here p n → PassDone after answer most talk e h p e₁ h₁ q (Lost why) → Ran after answer e₀ talk e₁ p₀ q (WriteFailed why)
    pass_lost {p₀ = p₀} {q = q} {e = e} {e₁ = e₁} {h₁ = h₁} {n = n} {why = why} b d = go d.next
      where
        put : List ℕ
        put = answers after answer e d.found

        a : Answered p₀ e₁ d.left d.between n (length put) d.failed
        a = pass_answered d.found b d.finds d.handed

        go : Next talk put d.failed d.left d.between h₁.here q (Lost why) → Ran after answer e₀ talk e₁ p₀ q (WriteFailed why)
        go (lost _ w x y) = rw y (record { events = a.events; talked = a.talked; follows = a.follows; ends = record { partly = a.partly; lost = a.lost ∙ w; reached = a.reached } })

    pub ran_too_long : {p₀ p : P} {e : E} {h : AtHand} {n : ℕ} → Between p₀ e h p n → n ≡ 18446744073709551615 → Ran after answer e₀ talk e p₀ p TooLong
    ran_too_long {h = h} b z =
        let s = since start b.events in
        record {
          events = b.events;
          talked = b.talked;
          follows = b.follows;
          ends =
              record {
                partly = (
                  answers after answer (after_all after answer e₀ b.found) (left false h []),
                  ap (λ (l : List ℕ). l ++ answers after answer (after_all after answer e₀ b.found) (left false h [])) b.written
                      ∙ sym (answers-append after answer e₀ b.found (left false h []))
                      ∙ ap (answers after answer e₀) (sym (b.finds false []) ∙ rw (append-nil s.read, b.reading) refl),
                );
                many = omega (arith, b.count, z);
                reading = b.reading;
                whole = b.whole;
                reached =
                    record {
                      served = b.found;
                      waiting = left false h [];
                      parts = sym (b.finds false []) ∙ rw (append-nil s.read, b.reading) refl;
                      state = b.state;
                      unsent = [];
                      sent = append-nil s.written ∙ b.written;
                    };
              };
        }

    -- ---- the end of the input

    -- no more bytes come
    pub record LastRead (p₀ : P) (e : E) (h : AtHand) (p : P) (cut : Option Error) : Type 0 where
      events : List Event
      talked : talk p₀ events p
      follows : Follows after answer e₀ start events
      over : (since start events).over ≡ true
      read : (since start events).cut ≡ cut
      lost : (since start events).lost ≡ None
      found : List (Option (List ℕ))
      state : e ≡ after_all after answer e₀ found
      written : (since start events).written ≡ answers after answer e₀ found
      finds : due true (since start events).read ≡ found ++ cond (in_record h) (None ∷ []) []

    last-read : {p₀ p q : P} {e : E} {h : AtHand} {n put : ℕ} {failed : Option Error} (a : Answered p₀ e h p n put failed) (cut : Option Error) (x : Event) (m : MayRead after answer e₀ (since start a.events) → May after answer e₀ (since start a.events) x)
        → then (since start a.events) x ≡ record { read = (since start a.events).read; written = (since start a.events).written; flushed = (since start a.events).flushed; over = true; cut = cut; lost = (since start a.events).lost }
        → failed ≡ None → Waits h.hand → talk p (x ∷ []) q → LastRead p₀ e h q cut
    last-read {h = h} a cut x m k w z t =
        let s = since start a.events in
        let i = since-append start a.events (x ∷ []) ∙ k in
        record {
          events = a.events ++ x ∷ [];
          talked = joined _ _ _ a.events (x ∷ []) a.talked t;
          follows = follows-append after answer e₀ start a.events (x ∷ []) a.follows (a.lost ∙ w, (m (may-read a w z), tt));
          over = ap (λ (u : SoFar). u.over) i;
          read = ap (λ (u : SoFar). u.cut) i;
          lost = ap (λ (u : SoFar). u.lost) i ∙ a.lost ∙ w;
          found = a.found;
          state = a.state;
          written = ap (λ (u : SoFar). u.written) i ∙ a.written w;
          finds = ap (λ (u : SoFar). due true u.read) i ∙ ap (due true) (sym (append-nil s.read)) ∙ a.finds true [] ∙ ap (λ (l : List (Option (List ℕ))). a.found ++ l) (begun-left h z);
        }

    pub pass_over : {most : E → ℕ} {p₀ p q : P} {e e₁ : E} {h h₁ : Held} {n : ℕ} → Between p₀ e h.here p n → PassDone after answer most talk e h p e₁ h₁ q Over → LastRead p₀ e₁ h₁.here q None
    pass_over {p₀ = p₀} {q = q} {e = e} {e₁ = e₁} {h₁ = h₁} {n = n} b d = go d.next
      where
        put : List ℕ
        put = answers after answer e d.found

        a : Answered p₀ e₁ d.left d.between n (length put) d.failed
        a = pass_answered d.found b d.finds d.handed

        s : SoFar
        s = since start a.events

        go : Next talk put d.failed d.left d.between h₁.here q Over → LastRead p₀ e₁ h₁.here q None
        go (at_end w z x t) = rw x (last-read a None (came []) (λ m. m) (ap (λ (l : List ℕ). record { read = l; written = s.written; flushed = s.flushed; over = true; cut = None; lost = s.lost }) (append-nil s.read)) w z t)

    pub pass_cut : {most : E → ℕ} {p₀ p q : P} {e e₁ : E} {h h₁ : Held} {n : ℕ} {why : Error} → Between p₀ e h.here p n → PassDone after answer most talk e h p e₁ h₁ q (Cut why) → LastRead p₀ e₁ h₁.here q (Some why)
    pass_cut {p₀ = p₀} {q = q} {e = e} {e₁ = e₁} {h₁ = h₁} {n = n} {why = why} b d = go d.next
      where
        put : List ℕ
        put = answers after answer e d.found

        a : Answered p₀ e₁ d.left d.between n (length put) d.failed
        a = pass_answered d.found b d.finds d.handed

        go : Next talk put d.failed d.left d.between h₁.here q (Cut why) → LastRead p₀ e₁ h₁.here q (Some why)
        go (cut_off w z x _ t) = rw x (last-read a (Some why) (read_failed why) (λ m. m) refl w z t)

    -- the record that was begun is answered
    module _ {p₀ p q : P} {e e₁ : E} {h : AtHand} {cut failed : Option Error} (r : LastRead p₀ e h p cut) (g : HandedOut talk p (cond (in_record h) (answer e None) []) failed q) (d : e₁ ≡ cond (in_record h) (after e None) e) where
      abbrev s : SoFar
      s = since start r.events

      abbrev put : List ℕ
      put = cond (in_record h) (answer e None) []

      one : (b : Bool) → answers after answer e (cond b (None ∷ []) []) ≡ cond b (answer e None) []
      one true = append-nil (answer e None)
      one false = refl

      abbrev last : List (Option (List ℕ))
      last = cond (in_record h) (None ∷ []) []

      all : s.written ++ put ≡ answers after answer e₀ (r.found ++ last)
      all =
          ap (λ (l : List ℕ). l ++ put) r.written
          ∙ ap (λ (l : List ℕ). answers after answer e₀ r.found ++ l) (sym (one (in_record h)) ∙ ap (λ (e : E). answers after answer e last) r.state)
          ∙ sym (answers-append after answer e₀ r.found last)

      finds : r.found ++ last ≡ due s.over s.read
      finds = sym r.finds ∙ ap (λ (b : Bool). due b s.read) (sym r.over)

      after-one : (b : Bool) → cond b (after e None) e ≡ after_all after answer e (cond b (None ∷ []) [])
      after-one true = refl
      after-one false = refl

      state : e₁ ≡ after_all after answer e₀ (r.found ++ last)
      state = d ∙ after-one (in_record h) ∙ ap (λ (e : E). after_all after answer e last) r.state ∙ sym (after_all-append after answer e₀ r.found last)

      owes : s.written ++ put ≡ owed after answer e₀ s
      owes = all ∙ ap (answers after answer e₀) finds

      t : Steps s p q put failed
      t = handed s p q put [] failed r.lost (append-nil (s.written ++ put) ∙ owes) g

      x : since start (r.events ++ t.steps) ≡ since s t.steps
      x = since-append start r.events t.steps

      told : r.found ++ last ≡ due (since s t.steps).over (since s t.steps).read
      told = finds ∙ rw (t.read, t.over) refl

      finish_whole : failed ≡ None → (events : List Event) × (talk p₀ events q × (Follows after answer e₀ start events × EndsAt after answer e₀ cut (since start events) e₁))
      finish_whole w = (
        r.events ++ t.steps,
        (
          joined _ _ _ r.events t.steps r.talked t.talked,
          (
            follows-append after answer e₀ start r.events t.steps r.follows t.follows,
            rw x (record {
              delivered = record { all = t.written w ∙ owes ∙ sym (owed-same after answer e₀ s (since s t.steps) t.read t.over); flushed = t.flushed w };
              over = t.over ∙ r.over;
              read = t.cut ∙ r.read;
              whole = t.lost ∙ w;
              done = state ∙ ap (after_all after answer e₀) told;
            }),
          ),
        ),
      )

      finish_lost : (why : Error) → failed ≡ Some why → Ran after answer e₀ talk e₁ p₀ q (WriteFailed why)
      finish_lost why w = record {
        events = r.events ++ t.steps;
        talked = joined _ _ _ r.events t.steps r.talked t.talked;
        follows = follows-append after answer e₀ start r.events t.steps r.follows t.follows;
        ends =
            rw x (record {
              partly = t.partly;
              lost = t.lost ∙ w;
              reached = record { served = r.found ++ last; waiting = []; parts = append-nil (r.found ++ last) ∙ told; state = state; unsent = t.unsent; sent = t.sent ∙ all };
            });
      }

      -- however it ended
      finished : (ended result : Ended) → ((s : SoFar) → EndsAt after answer e₀ cut s e₁ → Ends after answer e₀ ended s e₁) → result ≡ unless failed ended → Ran after answer e₀ talk e₁ p₀ q result
      finished ended result f n = by failed refl
        where
          by : (b : Option Error) → failed ≡ b → Ran after answer e₀ talk e₁ p₀ q result
          by None w = let a = finish_whole w in rw (n, w) (record { events = a.0; talked = a.1.0; follows = a.1.1.0; ends = f (since start a.0) a.1.1.1 })
          by (Some why) w = rw (n, w) (finish_lost why w)

    pub over-finished : {most : E → ℕ} {p₀ p q r : P} {e e₁ e₂ : E} {h h₁ : Held} {n : ℕ} {result : Ended} → Between p₀ e h.here p n → PassDone after answer most talk e h p e₁ h₁ q Over → FinishDone after answer most talk e₁ h₁ q e₂ r Input result → Ran after answer e₀ talk e₂ p₀ r result
    over-finished {result = result} b d f = finished (pass_over b d) f.handed f.state Input result (λ s x. x) f.told

    pub cut-finished : {most : E → ℕ} {p₀ p q r : P} {e e₁ e₂ : E} {h h₁ : Held} {n : ℕ} {result : Ended} {why : Error} → Between p₀ e h.here p n → PassDone after answer most talk e h p e₁ h₁ q (Cut why) → FinishDone after answer most talk e₁ h₁ q e₂ r (ReadFailed why) result → Ran after answer e₀ talk e₂ p₀ r result
    cut-finished {result = result} {why = why} b d f = finished (pass_cut b d) f.handed f.state (ReadFailed why) result (λ s x. x) f.told
