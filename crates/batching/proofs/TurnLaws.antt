-- Laws of the turns of a batch: that one can be taken after another, whose they are, and what all of them leave.
use Rattle.std.proofs.Common.{◌≡◌, refl, sym, ap, ◌∙◌, subst, true, List, [], ◌∷◌, ◌++◌, ◌≢◌, ℕ, ◌+◌, ◌<◌, ◌≤◌, arith, length, get_or, set, take, drop, length-set, length-take, get_or-take, get_or-set_same, get_or-set_other, length-append, append_assoc, ext_get_or}
use Rattle.base.proofs.Words.{ℕ_discrete, dec_lt, paste, length-paste}
use Rattle.std.proofs.lemmas.List.{take_more, take_all, take-append-drop}
use Rattle.base.specs.Folds.{tab}
use Rattle.base.proofs.FoldLaws.{length-tab, get_d_tab}
use Rattle.base.proofs.PasteLaws.{paste-over, paste-inside}
use Rattle.agreement.specs.Rules.{Chain}
use Rattle.terms.specs.Proposals.{Content}
use Rattle.terms.specs.declared.Certificate.{Certificate}
use Rattle.chain_committees.specs.Caches.{Caches, first_round}
use Rattle.state.specs.declared.State.{State}
use Rattle.state.specs.States.{own_body}
use Rattle.state.specs.WellFormed.{well_formed}
use Rattle.state.specs.Cached.{CachesFor}
use Rattle.state.proofs.FormedLaws.{formed}
use Rattle.accept.specs.Accept.{accept_table}
use Rattle.engine.specs.Calls.{accept, InRange}
use Rattle.batch.specs.Turns.{leaves}
use Rattle.batch.specs.Order.{OneTurnEach}
use Rattle.batch.specs.Batch.{turns_of, number_on, table_after, answer_at}
use Rattle.batch.proofs.OrderLaws.{each_has_one_turn, turns-length}
use Rattle.batch.proofs.AnswerLaws.{leaves-join, turn-parts, turn_low, turn-once, answer-once}
use Rattle.batch.proofs.BatchLaws.{accept-left}
use Rattle.batching.specs.declared.rows.CertificateRecord.{CertificateRecord}
use Rattle.batching.specs.Rows.{no_record, certificate_of, row_of}
use Rattle.batching.specs.Ordering.{key_at}
use Rattle.batching.specs.TakenTurns.{Ready, number_of, table_of, AllTaken}
use Rattle.batching.proofs.OrderingLaws.{times-at}

-- ---- one turn after another

module _ {s : State} {t cache : List ℕ} where
  -- with no committee cached
  pub ready-first : well_formed s t ≡ true → (own_body s).previous < 65536 → first_round cache ≡ 4294967296 → Ready s t cache
  ready-first k low empty =
      let f = (formed s t k).settings.ceiling_to in
      record { formed = k; set_in_range = low; caches = record { committee = λ r u l. absurd (omega (arith, l.from)) } }

  -- after an accept
  pub ready-next : (c : Certificate) {u cache' : List ℕ} → Ready s t cache → InRange (accept c) → u ≡ accept_table s t c → CachesFor s t cache' → Ready s u cache'
  ready-next c {u} {cache'} k i e x =
      let still = accept-left s t k.formed c k.set_in_range i in
      record {
        formed = rw e still.formed;
        set_in_range = k.set_in_range;
        caches = rw e (subst (λ (z : Chain Content). Caches s.settings z cache') (sym still.chain) x);
      }

-- ---- all turns

leaves_last : (f : List ℕ → ℕ → List ℕ) (u : List ℕ) (x : ℕ) → leaves f (x ∷ []) u ≡ f u x
unfolding leaves
leaves_last f u x = refl

module _ (row : List CertificateRecord) where
  abbrev n : ℕ
  n = length row

  abbrev all : List ℕ
  all = turns_of (row_of row)

  once : OneTurnEach (key_at row) n all
  once = each_has_one_turn (key_at row) n

  long : length all ≡ n
  long = turns-length (key_at row) n

  -- whose turn i is
  abbrev pub place_at : ℕ → ℕ
  place_at i = get_or all i 0

  turn : (i : ℕ) → i < n → all ≡ take i all ++ (place_at i ∷ drop (i + 1) all)
  turn i h =
      sym (take-append-drop (i + 1) all) ∙ ap (λ (l : List ℕ). l ++ drop (i + 1) all) (take_more all i 0 (omega (arith, long))) ∙ append_assoc (take i all) (place_at i ∷ []) (drop (i + 1) all)

  low : (i : ℕ) → i < n → place_at i < n
  low i h = turn_low once (take i all) (place_at i) (drop (i + 1) all) (turn i h)

  -- a turn is that of a place of the row
  pub place-low : {l : List ℕ} → l ≡ all → (i : ℕ) → i < length l → get_or l i 0 < n
  place-low e i h = rw e (low i (omega (arith, long, ap (λ (z : List ℕ). length z) e)))

  -- no two turns are of one place
  other : (i j : ℕ) → i < n → j < i → place_at j ≢ place_at i
  other i j h l e =
      let o = turn-once once (take i all) (place_at i) (drop (i + 1) all) (turn i h) in
      let g : get_or (take i all) j 0 ≡ place_at i = get_or-take i all j 0 l ∙ e in
      times-at (key_at row) (take i all) j (omega (arith, length-take i all, long)) (rw g o)

  -- every place has one
  turn-of : (q : ℕ) → q < n → (i : ℕ) × (i < n) × (place_at i ≡ q)
  turn-of q h =
      let x = turn-parts once q h in
      let k = length x.former in
      let l : k < n = omega (arith, long, ap (λ (z : List ℕ). length z) x.whole, length-append x.former (q ∷ x.latter)) in
      (k, l, ap (λ (z : List ℕ). get_or z k 0) x.whole ∙ here x.former x.latter)
    where
      here : (l m : List ℕ) → get_or (l ++ (q ∷ m)) (length l) 0 ≡ q
      here [] m = refl
      here (p ∷ l) m = here l m

  module _ (s : State) (t : List ℕ) where
    -- the table before turn i
    abbrev pub table_at : ℕ → List ℕ
    table_at i = leaves (table_after s (row_of row)) (take i all) t

    -- i turns are taken from the answers o on: their places have their answers, and what lies beyond the row stays
    pub record Trying (o p u : List ℕ) (i : ℕ) : Type 0 where
      pub table : u ≡ table_at i
      pub size : length p ≡ length o
      pub tried : (j : ℕ) → j < i → get_or p (place_at j) 0 ≡ answer_at s (row_of row) t (place_at j)
      pub beyond : (q : ℕ) → n ≤ q → get_or p q 0 ≡ get_or o q 0

    -- what its place is answered
    answer : (i : ℕ) → i < n → answer_at s (row_of row) t (place_at i) ≡ number_on s (row_of row) (table_at i) (place_at i)
    answer i h = answer-once once (take i all) (place_at i) (drop (i + 1) all) (turn i h) (table_after s (row_of row)) (number_on s (row_of row)) t

    table-next : (i : ℕ) → i < n → table_at (i + 1) ≡ table_after s (row_of row) (table_at i) (place_at i)
    table-next i h =
        let f = table_after s (row_of row) in
        ap (λ (l : List ℕ). leaves f l t) (take_more all i 0 (omega (arith, long))) ∙ leaves-join f (take i all) (place_at i ∷ []) t ∙ leaves_last f (leaves f (take i all) t) (place_at i)

    pub trying-none : (o : List ℕ) → Trying o o t 0
    unfolding leaves
    trying-none o = record { table = refl; size = refl; tried = λ j h. absurd (omega arith); beyond = λ q h. refl }

    -- one more
    pub trying_more : {l o p u v : List ℕ} {i a : ℕ} → l ≡ all → i < length l → n ≤ length o
        → a ≡ number_of s u (certificate_of (get_or row (get_or l i 0) no_record)) → v ≡ table_of s u (certificate_of (get_or row (get_or l i 0) no_record))
        → Trying o p u i → Trying o (set p (get_or l i 0) a) v (i + 1)
    trying_more {l} {o} {p} {u} {v} {i} {a} e h room f g x =
        let k : i < n = omega (arith, long, ap (λ (z : List ℕ). length z) e) in
        rw e (next k (rw e at f) (rw e at g))
      where
        next : i < n → a ≡ number_of s u (certificate_of (get_or row (place_at i) no_record)) → v ≡ table_of s u (certificate_of (get_or row (place_at i) no_record)) → Trying o (set p (place_at i) a) v (i + 1)
        next k f g =
            let b = low i k in
            record {
              table = g ∙ rw x.table (sym (table-next i k));
              size = length-set p (place_at i) a ∙ x.size;
              tried = λ j l. at j l (ℕ_discrete j i);
              beyond = λ q l. get_or-set_other p (place_at i) q a 0 (λ z. omega arith) ∙ x.beyond q l;
            }
          where
            at : (j : ℕ) → j < i + 1 → Dec (j ≡ i) → get_or (set p (place_at i) a) (place_at j) 0 ≡ answer_at s (row_of row) t (place_at j)
            at j l (yes d) = rw (d, get_or-set_same p (place_at i) a 0 (omega (arith, low i k, x.size))) (f ∙ rw x.table (sym (answer i k)))
            at j l (no d) = get_or-set_other p (place_at i) (place_at j) a 0 (other i j k (omega (arith, d))) ∙ x.tried j (omega (arith, d))

    -- all of them
    pub trying-all : {l o p u : List ℕ} {i : ℕ} → l ≡ all → i ≡ length l → n ≤ length o → Trying o p u i → AllTaken s t row o u p
    trying-all {l} {o} {p} {u} {i} e h room x = let k : i ≡ n = h ∙ ap (λ (z : List ℕ). length z) e ∙ long in whole (rw k at x)
      where
        f : ℕ → ℕ
        f = answer_at s (row_of row) t

        whole : Trying o p u n → AllTaken s t row o u p
        whole x =
            record {
              table = x.table ∙ ap (λ (l : List ℕ). leaves (table_after s (row_of row)) l t) (take_all n all (omega (arith, long)));
              answers = ext_get_or 0 p (paste o 0 (tab f n) n) (x.size ∙ sym (length-paste o 0 (tab f n) n (omega arith) (omega (arith, length-tab f n)))) (λ q h. at q (dec_lt q n));
            }
          where
            at : (q : ℕ) → Dec (q < n) → get_or p q 0 ≡ get_or (paste o 0 (tab f n) n) q 0
            at q (yes l) =
                let y = turn-of q l in
                let z : 0 + q ≡ q = omega arith in
                rw (y.2) at (x.tried y.0 y.1) ∙ sym (get_d_tab f n q 0 l) ∙ sym (rw z at (paste-inside o 0 (tab f n) n (omega arith) (omega (arith, length-tab f n)) q l))
            at q (no l) = x.beyond q (omega arith) ∙ sym (paste-over o 0 (tab f n) n (omega arith) (omega (arith, length-tab f n)) q (omega arith))
