-- A draw that a loop makes, transaction by transaction.
use Rattle.std.proofs.Common.{◌≡◌, refl, sym, ap, ◌∙◌, true, List, [], ◌∷◌, ◌++◌, append-nil, ℕ, suc, ◌+◌, ◌-◌, ◌<◌, ◌≤◌, arith, length, take, drop, get_or-take, take-append-drop, length-take-le, Some, None}
use Rattle.std.proofs.lemmas.Grind.{same_number_lists}
use Rattle.base.proofs.Words.{append_snoc}
use Rattle.terms.specs.declared.Transaction.{Transaction}
use Rattle.terms.specs.declared.Body.{Body}
use Rattle.terms.specs.Proposals.{bare_body}
use Rattle.terms.specs.Bodies.{body_of, push}
use Rattle.terms.proofs.BodyLaws.{bare_of, push-body, body-length}
use Rattle.store.specs.Table.{row_length, Row}
use Rattle.store.proofs.FirstRow.{OnlyFirst, SameFirst, only-beyond}
use Rattle.queues.specs.Queues.{next_guest, transactions_in, drawn}
use Rattle.queues.specs.Words.{Place, waiting_at, queues_of, queues_fit, served_table, drawn_table}
use Rattle.queues.proofs.WordLaws.{oldest-at, copy, first_row, first_queues}
use Rattle.queues.proofs.ServedLaws.{length-served, queues-served, fits-served-table}
use Rattle.queues.proofs.DrawLaws.{drawn-zero, drawn-none, drawn-more, table-nothing, table_more, only-drawn, drawn-same}
use Rattle.queues.proofs.GuestLaws.{guest_place, guest_waits}

-- at most a transactions are to be drawn from t₀; i of them are in the body, with previous set v, and have left their queues, which gives t
pub record Drawing (t₀ : List ℕ) (v a i : ℕ) (body : Body) (t : List ℕ) : Type 0 where
  pub so_far : i ≤ a
  pub done : List Transaction
  pub all : transactions_in (drawn a (queues_of t₀)) ≡ done ++ transactions_in (drawn (a - i) (queues_of t))
  pub its-body : body ≡ body_of v done
  pub its_table : drawn_table (drawn a (queues_of t₀)) t₀ ≡ drawn_table (drawn (a - i) (queues_of t)) t
  pub count : body.count ≡ i
  pub row : Row t 0
  pub fits : queues_fit t ≡ true
  pub kept : length t ≡ length t₀

-- all of them
abbrev pub Drawn : List ℕ → ℕ → ℕ → Body → List ℕ → Type 0
Drawn t₀ v a body t = (body ≡ body_of v (transactions_in (drawn a (queues_of t₀)))) × (t ≡ drawn_table (drawn a (queues_of t₀)) t₀)

pub drawing_none : {t : List ℕ} {v a : ℕ} {b : Body} → Row t 0 → queues_fit t ≡ true → b ≡ bare_body v → Drawing t v a 0 b t
drawing_none {t} {v} {a} {b} r f e =
    let z : a - 0 ≡ a = omega arith in
    let h : b ≡ body_of v [] = e ∙ bare_of v in
    record { so_far = omega arith; done = []; all = rw z refl; its-body = h; its_table = rw z refl; count = rw h (body-length v []); row = r; fits = f; kept = refl }

module _ {t₀ : List ℕ} {v a i : ℕ} {body : Body} {t : List ℕ} (p : Drawing t₀ v a i body t) where
  -- one more
  module _ {g : ℕ} (l : i < a) (e : next_guest (queues_of t) ≡ Some g) where
    place : Place t g 0
    place = guest_place t e p.row

    drawn-next : drawn (a - i) (queues_of t) ≡ record { guest = g; transaction = waiting_at t g 0 } ∷ drawn (a - (i + 1)) (queues_of (served_table t g))
    drawn-next =
        let k = place in
        let s : a - i ≡ suc (a - (i + 1)) = omega arith in
        rw (s, drawn-more (a - (i + 1)) (queues_of t) g e, oldest-at t g k.guest (guest_waits t e), queues-served t g k.row k.guest p.fits) refl

    pub drawing_more : {x : Transaction} {b : Body} {u : List ℕ} → x ≡ waiting_at t g 0 → b ≡ push body x → u ≡ served_table t g → Drawing t₀ v a (i + 1) b u
    unfolding push
    drawing_more {x} {b} {u} ex eb eu =
        let k = place in
        let n = length-served t g k.row k.guest in
        let d = p.done in
        let c = p.count in
        record {
          so_far = omega arith;
          done = d ++ (waiting_at t g 0 ∷ []);
          all = rw eu (p.all ∙ rw drawn-next (sym (append_snoc d (waiting_at t g 0) (transactions_in (drawn (a - (i + 1)) (queues_of (served_table t g)))))));
          its-body = rw (eb, ex, p.its-body) (push-body v d (waiting_at t g 0));
          its_table = rw eu (p.its_table ∙ rw drawn-next (table_more (record { guest = g; transaction = waiting_at t g 0 }) (drawn (a - (i + 1)) (queues_of (served_table t g))) t));
          count = rw eb (omega arith);
          row = rw eu (omega arith);
          fits = rw eu (fits-served-table t g k.row k.guest p.fits);
          kept = rw eu (n ∙ p.kept);
        }

  done_all : drawn (a - i) (queues_of t) ≡ [] → Drawn t₀ v a body t
  done_all n = (p.its-body ∙ ap (body_of v) (sym (p.all ∙ rw n (append-nil p.done))), sym (p.its_table ∙ rw n (table-nothing t)))

  -- where no guest waits
  pub drawing_end : next_guest (queues_of t) ≡ None → Drawn t₀ v a body t
  drawing_end e = done_all (drawn-none (a - i) (queues_of t) e)

  -- where there are as many as the allowance lets
  pub drawing_all : a ≤ i → Drawn t₀ v a body t
  drawing_all l = let z : a - i ≡ 0 = omega arith in done_all (rw z (drawn-zero (queues_of t)))

-- a row in the place of row 0, where nothing else differs
first-put : (t v r : List ℕ) → Row t 0 → length r ≡ row_length → OnlyFirst t v → SameFirst v r → r ++ drop row_length t ≡ v
first-put t v r row m o s =
    let size = o.size in
    let n = length-take-le row_length v (omega arith) in
    let e : r ≡ take row_length v = same_number_lists r (take row_length v) (m ∙ sym n) (λ j h. s j (omega arith) ∙ sym (get_or-take row_length v j 0 (omega arith))) in
    rw (e, ← only-beyond o 0) (take-append-drop row_length v)

-- a draw that is made on a copy of row 0, and the row put in the place of row 0
pub row_drawn : (t r : List ℕ) (a : ℕ) → Row t 0 → queues_fit t ≡ true → r ≡ drawn_table (drawn a (queues_of (take row_length t))) (take row_length t)
    → r ++ drop row_length t ≡ drawn_table (drawn a (queues_of t)) t
row_drawn t r a row fits e =
    let q = queues_of t in
    let c = take row_length t in
    let d : r ≡ drawn_table (drawn a q) c = (rw (first_queues t row fits) at e) in
    let o = only-drawn a q c (first_row t row) in
    let n = length-take-le row_length t (omega arith) in
    let m : length r ≡ row_length = rw d (omega (arith, o.size)) in
    first-put t (drawn_table (drawn a q) t) r row m (only-drawn a q t row) (rw d (drawn-same a q t c row (first_row t row) (copy t row)))
