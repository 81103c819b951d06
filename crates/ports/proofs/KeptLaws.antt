-- Ports stay well formed where their words stay, and the lines of certificates in blocks; and where all their words are 0.
use Rattle.std.proofs.Common.{◌≡◌, refl, sym, ◌∙◌, true, cond, ◌&&◌, List, ℕ, ◌+◌, ◌*◌, ◌/◌, ◌%◌, ◌<◌, arith, length, get_or, eqb, leb, eq-eqb, ne_eqb, le-leb, lt-ltb}
use Rattle.base.proofs.Words.{ℕ_discrete}
use Rattle.base.specs.Folds.{all_to}
use Rattle.base.proofs.Bools.{both}
use Rattle.base.proofs.TestLaws.{all-at, all_hold, all_same}
use Rattle.terms.specs.declared.sheet.Settings.{Settings}
use Rattle.store.specs.Table.{mark_at}
use Rattle.ports.specs.Cursors.{in_line}
use Rattle.ports.specs.Places.{line_at}
use Rattle.ports.specs.Next.{LinePlace}
use Rattle.ports.specs.Uart.{limits}
use Rattle.ports.specs.Ports.{port_word, port_fits, ports_fit, is_listed, cursor_fits}
use Rattle.ports.proofs.FitLaws.{listed_place, port_local}

pub record PortsKept (t u : List ℕ) (n k c : ℕ) : Type 0 where
  pub words : (g i : ℕ) → g < 8 → i < 8 → port_word u g i ≡ port_word t g i
  pub places : (p : ℕ) → LinePlace t n k p → LinePlace u n c p
  pub lines : (p : ℕ) → LinePlace t n k p → line_at u (p % 16) (p / 16) ≡ line_at t (p % 16) (p / 16)

pub kept_same : {t : List ℕ} {n : ℕ} {k : ℕ} → PortsKept t t n k k
kept_same = record { words = λ g i h l. refl; places = λ p x. x; lines = λ p x. refl }

pub kept_then : {t : List ℕ} {u : List ℕ} {v : List ℕ} {n : ℕ} {k : ℕ} {c : ℕ} {d : ℕ} → PortsKept t u n k c → PortsKept u v n c d → PortsKept t v n k d
kept_then x y =
    record {
      words = λ g i h l. y.words g i h l ∙ x.words g i h l;
      places = λ p z. y.places p (x.places p z);
      lines = λ p z. y.lines p (x.places p z) ∙ x.lines p z;
    }

-- a place of a line passes the test
pub place-listed : (t : List ℕ) (n k p : ℕ) → LinePlace t n k p → is_listed t n k p ≡ true
unfolding is_listed
place-listed t n k p x =
    rw (le-leb 16 p x.from, lt-ltb p (n * 16 + 16) x.to, x.held, le-leb 1 (mark_at t (p % 16) (p / 16)) x.mark_from, le-leb (mark_at t (p % 16) (p / 16)) k x.mark_to) refl

module _ (S : Settings) (t u : List ℕ) (k c : ℕ) (x : PortsKept t u S.ceiling k c) where
  abbrev n : ℕ
  n = S.ceiling

  cursor-kept : (p j : ℕ) → cursor_fits t n k p j ≡ true → cursor_fits u n c p j ≡ true
  unfolding cursor_fits
  cursor-kept p j f = go (ℕ_discrete p 0) f
    where
      go : Dec (p ≡ 0) → cond (eqb p 0) (eqb j 0) (is_listed t n k p && in_line j (length (line_at t (p % 16) (p / 16)))) ≡ true
          → cond (eqb p 0) (eqb j 0) (is_listed u n c p && in_line j (length (line_at u (p % 16) (p / 16)))) ≡ true
      go (yes e) h = rw (eq-eqb p 0 e) (rw (eq-eqb p 0 e) at h)
      go (no d) h =
          let b = both (is_listed t n k p) _ (rw (ne_eqb p 0 d) at h) in
          let l = listed_place t n k p b.0 in
          rw (ne_eqb p 0 d, place-listed u n c p (x.places p l), x.lines p l) b.1

  port-kept : (g : ℕ) → g < 8 → port_fits S t k g ≡ true → port_fits S u c g ≡ true
  port-kept g h f =
      let b = both (cursor_fits t n k (port_word t g 0) (port_word t g 1)) _ (sym (port_local S t k g) ∙ f) in
      port_local S u c g
      ∙ rw (
        x.words g 0 h (omega arith),
        x.words g 1 h (omega arith),
        cursor-kept (port_word t g 0) (port_word t g 1) b.0,
        all_same (λ i. leb (port_word u g (2 + i)) (get_or limits i 0)) (λ i. leb (port_word t g (2 + i)) (get_or limits i 0)) 6 (λ i l. rw (x.words g (2 + i) h (omega arith)) refl),
      )
      b.1

  pub ports-kept : ports_fit S t k ≡ true → ports_fit S u c ≡ true
  unfolding ports_fit
  ports-kept f = all_hold (port_fits S u c) 8 (λ g h. port-kept g h (all-at (port_fits S t k) 8 g h f))

-- after a reset of all
pub ports-clear : (S : Settings) (u : List ℕ) (c : ℕ) → ((g i : ℕ) → g < 8 → i < 8 → port_word u g i ≡ 0) → ports_fit S u c ≡ true
unfolding ports_fit cursor_fits all_to
ports-clear S u c z = all_hold (port_fits S u c) 8 (λ g h. port_local S u c g ∙ rw (z g 0 h (omega arith), z g 1 h (omega arith), z g (2 + 0) h (omega arith), z g (2 + 1) h (omega arith), z g (2 + 2) h (omega arith), z g (2 + 3) h (omega arith), z g (2 + 4) h (omega arith), z g (2 + 5) h (omega arith)) refl)
