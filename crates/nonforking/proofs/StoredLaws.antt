-- Over every list of calls a held certificate keeps the proposal and the endorsers that it was stored with: it is held with them exactly where a certify or an accept took it with them.
use Rattle.std.proofs.Common.{◌≡◌, refl, sym, ap₂, ◌∙◌, subst, subst₂, Bool, true, false, true≢false, List, [], ◌∷◌, ◌≢◌, ◌⊎◌, inl, inr, ℕ, ◌<◌, ◌≤◌, length}
use Rattle.base.proofs.Words.{ℕ_discrete}
use Rattle.terms.specs.declared.Member.{Member}
use Rattle.terms.specs.Proposals.{Content, content_of}
use Rattle.store.specs.Table.{Within, held_at, endorsers_at, content_at, record_word}
use Rattle.store.proofs.TableLaws.{held-member}
use Rattle.store.specs.Writes.{put_certificate}
use Rattle.store.proofs.WriteLaws.{same_place, same_place_parts, place_self, content-same, endorsers-same}
use Rattle.store.proofs.PutLaws.{held-put, word-elsewhere, content-put, endorsers-put}
use Rattle.store.proofs.EndorseLaws.{OnlyEndorsed, held-endorse, word-endorse, set-endorsed, clear-endorsed}
use Rattle.store.proofs.MarkLaws.{OnlyMarks, held-marked, word-marked}
use Rattle.store.proofs.ClearLaws.{held-cleared}
use Rattle.store.proofs.FirstRow.{OnlyFirst, held-only, word-only}
use Rattle.queues.specs.Words.{queues_of}
use Rattle.queues.proofs.AddedLaws.{only-added}
use Rattle.queues.proofs.DrawLaws.{only-drawn}
use Rattle.terms.specs.declared.sheet.Sheet.{Sheet}
use Rattle.terms.specs.declared.sheet.Settings.{Settings}
use Rattle.terms.specs.Sheets.{filled}
use Rattle.state.proofs.WriteLaws.{Storable}
use Rattle.state.proofs.PlaceLaws.{own-within, fits-within, placed, own-placed}
use Rattle.certify.proofs.PassedLaws.{certify-passed}
use Rattle.accept.proofs.PassedLaws.{accept-passed}
use Rattle.commit.proofs.CommitLaws.{only-marks}
use Rattle.enqueue.proofs.PassedLaws.{enqueue-passed}
use Rattle.draw.proofs.PassedLaws.{draw-passed}
use Rattle.serial.proofs.LeftLaws.{port-passed, only_ported}
use Rattle.engine.specs.Calls.{Call, opens, endorse, certify, accept, commit, enqueue, draw, port, InRange}
use Rattle.engine.specs.Engine.{Engine, refusal_for, after}
use Rattle.engine.specs.Sequences.{after_calls, AllInRange, NoOpen, Opening, after_opening, NoOpens}
use Rattle.engine.specs.Reached.{Good, Intact}
use Rattle.engine.proofs.AfterLaws.{renewed, refused-same, accepted-new}
use Rattle.engine.proofs.RuledLaws.{good_after}
use Rattle.engine.proofs.ReachedLaws.{intact, reached}
use Rattle.nonforking.specs.Statement.{Takes, certifies, accepts}
use Rattle.nonforking.specs.Stored.{Holds, Stored}

-- ---- two tables

-- they say the same of the certificate of a place, but for its mark
record SameRecord (t u : List ℕ) (a r : ℕ) : Type 0 where
  held : held_at u a r ≡ held_at t a r
  words : held_at t a r ≡ true → (k : ℕ) → k < 16 → k ≢ 2 → record_word u a r k ≡ record_word t a r k

same_itself : {t : List ℕ} {a r : ℕ} → SameRecord t t a r
same_itself = record { held = refl; words = λ h k l n. refl }

module _ {t u : List ℕ} {a r : ℕ} where
  holds_same : {p : Content} {d : ℕ} → SameRecord t u a r → Holds t a r p d → Holds u a r p d
  holds_same s x =
      let e = s.words x.held in
      record { from = x.from; held = s.held ∙ x.held; proposal = content-same t u a r e ∙ x.proposal; endorsers = endorsers-same t u a r e ∙ x.endorsers }

  same_back : SameRecord t u a r → SameRecord u t a r
  same_back s = record { held = sym s.held; words = λ h k l n. sym (s.words (sym s.held ∙ h) k l n) }

  same-endorsed : {q : ℕ} → OnlyEndorsed q t u → SameRecord t u a r
  same-endorsed o = record { held = held-endorse o a r; words = λ h k l n. word-endorse o a r (held-member t a r h) k l }

  same-marked : {n : ℕ} → OnlyMarks n t u → SameRecord t u a r
  same-marked o = record { held = held-marked o a r; words = λ h. word-marked o a r }

  same-only : OnlyFirst t u → 0 < r → SameRecord t u a r
  same-only o h = record { held = held-only o a r h; words = λ _ k _ _. word-only o a r h k }

-- the certificate of q with the endorsers i, put at its place
module _ (t : List ℕ) (q : Content) (i : ℕ) (at : Within t q.author q.round) where
  abbrev Here : ℕ → ℕ → Bool
  Here a r = same_place a r q.author q.round

  same-elsewhere : (a r : ℕ) → Here a r ≡ false → SameRecord t (put_certificate t q i) a r
  same-elsewhere a r e = record { held = held-put t q i at a r ∙ rw e refl; words = λ h k l n. word-elsewhere t q i at a r (held-member t a r h) e k l }

  -- what is held stays, where the place is free
  holds-put : {a r : ℕ} {p : Content} {d : ℕ} → held_at t q.author q.round ≡ false → Holds t a r p d → Holds (put_certificate t q i) a r p d
  holds-put {a} {r} {p} {d} free x = go (Here a r) refl
    where
      go : (b : Bool) → Here a r ≡ b → Holds (put_certificate t q i) a r p d
      go true e = let z = same_place_parts a r q.author q.round e in absurd (true≢false (sym x.held ∙ rw (z.0, z.1) free))
      go false e = holds_same (same-elsewhere a r e) x

  module _ (from : 0 < q.round) (few : length q.transactions ≤ 4) (small : q.previous < 65536) (fits : i < 65536) where
    -- what is put is held
    put_holds : Holds (put_certificate t q i) q.author q.round q i
    put_holds =
        record {
          from = from;
          held = held-put t q i at q.author q.round ∙ rw (place_self q.author q.round) refl;
          proposal = content-put t q i at few small;
          endorsers = endorsers-put t q i at fits;
        }

    -- what is held then was put or held before
    put_or_held : {a r : ℕ} {p : Content} {d : ℕ} → Holds (put_certificate t q i) a r p d → ((q ≡ p) × (i ≡ d)) ⊎ Holds t a r p d
    put_or_held {a} {r} {p} {d} x = go (Here a r) refl
      where
        go : (b : Bool) → Here a r ≡ b → ((q ≡ p) × (i ≡ d)) ⊎ Holds t a r p d
        go true e =
            let z = same_place_parts a r q.author q.round e in
            inl (
              sym put_holds.proposal ∙ ap₂ (λ (m n : ℕ). content_at (put_certificate t q i) m n) (sym z.0) (sym z.1) ∙ x.proposal,
              sym put_holds.endorsers ∙ ap₂ (λ (m n : ℕ). endorsers_at (put_certificate t q i) m n) (sym z.0) (sym z.1) ∙ x.endorsers,
            )
        go false e = inr (holds_same (same_back (same-elsewhere a r e)) x)

-- ---- one call

data IsOpen : Call → Type 0 where
  is_open : (own : Member) (sheet : Sheet) → IsOpen (opens own sheet)

-- a certify or an accept is no open
pub taking_no_open : (e : Engine) (c : Call) (p : Content) (d : ℕ) → Takes e c p d → NoOpen e c
taking_no_open e c p d t own sheet q n = elim (subst (λ (z : Call). Takes e z p d) q t) [ ]

-- u is what the table becomes where the certificate of q with the endorsers d is put at its free place, but for marks
record Put (e : Engine) (q : Content) (d : ℕ) (u : List ℕ) : Type 0 where
  at : Within e.table q.author q.round
  free : held_at e.table q.author q.round ≡ false
  same : (a r : ℕ) → SameRecord (put_certificate e.table q d) u a r

-- what an accepted call does to the certificates that are held
data Stores (e : Engine) (c : Call) : Type 0 where
  clears : (own : Member) (sheet : Sheet) → c ≡ opens own sheet → Stores e c
  keeps : (IsOpen c → ⊥) → ((a r : ℕ) → 0 < r → SameRecord e.table (renewed e c).table a r) → Stores e c
  puts : (q : Content) (d : ℕ) → Takes e c q d → Stores e c

module _ (e : Engine) where
  open e use {state, table}

  stores : (c : Call) → refusal_for e c ≡ 0 → Stores e c
  stores (opens own sheet) n = clears own sheet refl
  stores (endorse q) n = keeps (λ x. elim x [ ]) (λ a r h. same-endorsed (set-endorsed table q.author.0 q.round))
  stores (certify d) n = puts _ d (certifies d)
  stores (accept c) n = puts (content_of c.proposal) c.endorsers (accepts c)
  stores commit n = keeps (λ x. elim x [ ]) (λ a r h. same-marked (only-marks state table n))
  stores (enqueue g x) n = keeps (λ x. elim x [ ]) (λ a r h. same-only (only-added table g x (enqueue-passed state table g x n).place) h)
  stores (draw v) n = let k = draw-passed state table v n in keeps (λ x. elim x [ ]) (λ a r h. same-only (only-drawn state.settings.allowance (queues_of table) table k.row) h)
  stores (port x) n = keeps (λ x. elim x [ ]) (λ a r h. same-only (only_ported state table x (port-passed state table x n)) h)
  stores c n = keeps (λ x. elim x [ ]) (λ a r h. same_itself)

  -- what an accepted certify or accept took is put
  put-taken : (c : Call) → refusal_for e c ≡ 0 → (q : Content) (d : ℕ) → Takes e c q d → Put e q d (renewed e c).table
  put-taken (certify i) n _ _ (certifies _) =
      let k = certify-passed state table i n in
      record { at = own-within state table k.formed; free = k.free; same = λ a r. same_itself }
  put-taken (accept c) n _ _ (accepts _) =
      let k = accept-passed state table c n in
      let p = c.proposal in
      record {
        at = fits-within state table p k.formed k.fits;
        free = k.free;
        same = λ a r. same-endorsed (clear-endorsed (put_certificate table (content_of p) c.endorsers) p.author.0 p.round);
      }
  put-taken c n q d x = elim x [ ]

  -- what is held stays under any call but an accepted open
  module _ (a r : ℕ) (p : Content) (d : ℕ) (x : Holds table a r p d) where
    pub holds_after : (c : Call) → NoOpen e c → Holds (after e c).table a r p d
    holds_after c o = go (ℕ_discrete (refusal_for e c) 0)
      where
        by : refusal_for e c ≡ 0 → Stores e c → Holds (renewed e c).table a r p d
        by n (clears own sheet q) = absurd (o own sheet q n)
        by n (keeps f s) = holds_same (s a r x.from) x
        by n (puts q i t) = let k = put-taken c n q i t in holds_same (k.same a r) (holds-put table q i k.at k.free x)

        go : Dec (refusal_for e c ≡ 0) → Holds (after e c).table a r p d
        go (yes n) = subst (λ (z : Engine). Holds z.table a r p d) (sym (accepted-new e c n)) (by n (stores c n))
        go (no n) = subst (λ (z : Engine). Holds z.table a r p d) (sym (refused-same e c n)) x

  module _ {S : Settings} {own : ℕ} (g : Good S own e) where
    -- what an accepted certify or accept took fits in a record
    pub taken-fits : (c : Call) → InRange c → refusal_for e c ≡ 0 → (p : Content) (d : ℕ) → Takes e c p d → Storable state.settings.ceiling p × (d < 65536)
    taken-fits (certify i) w n _ _ (certifies _) = let k = certify-passed state table i n in (own-placed state table k.formed k.proposing g.small, w)
    taken-fits (accept c) w n _ _ (accepts _) = let k = accept-passed state table c n in (placed state table c.proposal k.formed k.fits w.0, w.1)
    taken-fits c w n y z x = elim x [ ]

    module _ (c : Call) (w : InRange c) (n : refusal_for e c ≡ 0) where
      -- it is held
      taken : (p : Content) (d : ℕ) → Takes e c p d → Holds (after e c).table p.author p.round p d
      taken p d t =
          let k = put-taken c n p d t in
          let f = taken-fits c w n p d t in
          subst (λ (z : Engine). Holds z.table p.author p.round p d) (sym (accepted-new e c n))
          (holds_same (k.same p.author p.round) (put_holds table p d k.at f.0.from f.0.few f.0.small f.1))

      -- and what is held then was taken by it, or held before
      taken_or_held : (q : Content) (i : ℕ) → Takes e c q i → {a r : ℕ} {p : Content} {d : ℕ} → Holds (renewed e c).table a r p d → Takes e c p d ⊎ Holds table a r p d
      taken_or_held q i t {a} {r} {p} {d} x =
          let k = put-taken c n q i t in
          let f = taken-fits c w n q i t in
          go (put_or_held table q i k.at f.0.from f.0.few f.0.small f.1 (holds_same (same_back (k.same a r)) x))
        where
          go : ((q ≡ p) × (i ≡ d)) ⊎ Holds table a r p d → Takes e c p d ⊎ Holds table a r p d
          go (inl z) = inl (subst₂ (Takes e c) z.0 z.1 t)
          go (inr y) = inr y

-- ---- lists of calls

-- a held certificate stays held, with its proposal and its endorsers, whatever calls follow, as long as no open is accepted
pub certificate_stays : (e : Engine) (l : List Call) → NoOpens e l → (a r : ℕ) (p : Content) (d : ℕ) → Holds e.table a r p d → Holds (after_calls e l).table a r p d
unfolding after_calls
certificate_stays e [] o a r p d x = x
certificate_stays e (c ∷ l) o a r p d x = holds_after (after_calls e l) a r p d (certificate_stays e l o.1 a r p d x) c o.0

-- from an opening: what an accepted certify or accept took since the last accepted open is held, with the endorsers that it took it with
pub stored_held : (x : Opening) (l : List Call) → AllInRange l → (p : Content) (d : ℕ) → Stored (after_opening x) l p d → Holds (after_calls (after_opening x) l).table p.author p.round p d
unfolding after_calls
stored_held x (c ∷ l) i p d (inl k) = taken (after_calls (after_opening x) l) (intact (reached x l i.1)).good c i.0 k.0 p d k.1
stored_held x (c ∷ l) i p d (inr k) = holds_after (after_calls (after_opening x) l) p.author p.round p d (stored_held x l i.1 p d k.1) c k.0
stored_held x [] i p d y = elim y [ ]

-- after an accepted open nothing is
nothing-held : (e : Engine) (own : Member) (sheet : Sheet) → refusal_for e (opens own sheet) ≡ 0 → (a r : ℕ) → r ≤ (after e (opens own sheet)).state.settings.ceiling → held_at (after e (opens own sheet)).table a r ≡ true → ⊥
nothing-held e own sheet n a r =
    subst (λ (z : Engine). r ≤ z.state.settings.ceiling → held_at z.table a r ≡ true → ⊥) (sym (accepted-new e (opens own sheet) n))
    (λ to h. true≢false (sym h ∙ held-cleared e.table (filled sheet).ceiling a r to))

-- the newest call took it, or it was held before
stored-by : (x : Opening) (c : Call) (l : List Call) → AllInRange (c ∷ l) → (a r : ℕ) (p : Content) (d : ℕ) → r ≤ (after (after_calls (after_opening x) l) c).state.settings.ceiling
    → Holds (after (after_calls (after_opening x) l) c).table a r p d
    → (r ≤ (after_calls (after_opening x) l).state.settings.ceiling → Holds (after_calls (after_opening x) l).table a r p d → Stored (after_opening x) l p d)
    → Stored (after_opening x) (c ∷ l) p d
stored-by x c l i a r p d to h older = by (ℕ_discrete (refusal_for e c) 0)
  where
    e : Engine
    e = after_calls (after_opening x) l

    g : Intact e
    g = intact (reached x l i.1)

    before : NoOpen e c → Holds e.table a r p d → Stored (after_opening x) (c ∷ l) p d
    before o y =
        inr (o, older (subst (λ (S : Settings). r ≤ S.ceiling) ((good_after g.good c i.0 o).settings ∙ sym g.good.settings) to) y)

    no_open : (IsOpen c → ⊥) → NoOpen e c
    no_open f own sheet q n = f (subst IsOpen (sym q) (is_open own sheet))

    accepted : refusal_for e c ≡ 0 → Holds (renewed e c).table a r p d → Stores e c → Stored (after_opening x) (c ∷ l) p d
    accepted n y (clears own sheet q) = absurd (nothing-held e own sheet (rw q at n) a r (rw q at to) (rw q at h.held))
    accepted n y (keeps f s) = before (no_open f) (holds_same (same_back (s a r y.from)) y)
    accepted n y (puts q j t) = go (taken_or_held e g.good c i.0 n q j t y)
      where
        go : Takes e c p d ⊎ Holds e.table a r p d → Stored (after_opening x) (c ∷ l) p d
        go (inl k) = inl (n, k)
        go (inr z) = before (taking_no_open e c q j t) z

    by : Dec (refusal_for e c ≡ 0) → Stored (after_opening x) (c ∷ l) p d
    by (yes n) = accepted n (subst (λ (z : Engine). Holds z.table a r p d) (accepted-new e c n) h) (stores e c n)
    by (no n) = before (λ own sheet q. n) (subst (λ (z : Engine). Holds z.table a r p d) (refused-same e c n) h)

-- and what is held an accepted certify or accept took, with those endorsers
pub held_stored : (x : Opening) (l : List Call) → AllInRange l → (a r : ℕ) (p : Content) (d : ℕ) → r ≤ (after_calls (after_opening x) l).state.settings.ceiling
    → Holds (after_calls (after_opening x) l).table a r p d → Stored (after_opening x) l p d
unfolding after_calls
held_stored x [] i a r p d to h = absurd (nothing-held x.before x.own x.sheet x.accepted a r to h.held)
held_stored x (c ∷ l) i a r p d to h = stored-by x c l i a r p d to h (λ at y. held_stored x l i.1 a r p d at y)
