-- A port is as it was where its words are, and the listing has but more lines at its end.
use Rattle.std.proofs.Common.{◌≡◌, refl, true, cond, ◌&&◌, List, ◌++◌, ℕ, ◌/◌, ◌%◌, ◌<◌, arith, eqb, length, eq-eqb, ne_eqb}
use Rattle.base.proofs.Words.{ℕ_discrete}
use Rattle.base.proofs.Bools.{both}
use Rattle.terms.specs.declared.sheet.Settings.{Settings}
use Rattle.ports.specs.Cursors.{Lines, in_line, read_to, bytes_read}
use Rattle.ports.specs.Places.{line_at}
use Rattle.ports.proofs.CursorLaws.{read-grows}
use Rattle.ports.specs.Ports.{port_word, placed_lines, port_in, is_listed, cursor_fits, FormedPort}
use Rattle.ports.proofs.FitLaws.{line-listed}
use Rattle.ports.proofs.RegisterNextLaws.{cursor}

module _ (S : Settings) (t : List ℕ) (blocks g : ℕ) (x : FormedPort S t blocks g) (more : Lines) where
  abbrev lines : Lines
  lines = placed_lines S t blocks

  abbrev p : ℕ
  p = port_word t g 0

  abbrev j : ℕ
  j = port_word t g 1

  read-grown : bytes_read (lines ++ more) p j ≡ bytes_read lines p j
  unfolding bytes_read cursor_fits
  read-grown = go (ℕ_discrete p 0) (cursor S t blocks g x)
    where
      go : Dec (p ≡ 0) → cond (eqb p 0) (eqb j 0) (is_listed t S.ceiling blocks p && in_line j (length (line_at t (p % 16) (p / 16)))) ≡ true
          → cond (eqb p 0 && eqb j 0) 0 (read_to (lines ++ more) p j) ≡ cond (eqb p 0 && eqb j 0) 0 (read_to lines p j)
      go (yes e) f = let k : eqb j 0 ≡ true = rw (eq-eqb p 0 e) at f in rw (eq-eqb p 0 e, k) refl
      go (no n) f =
          let b = both (is_listed t S.ceiling blocks p) _ (rw (ne_eqb p 0 n) at f) in
          rw (ne_eqb p 0 n) (read-grows lines more p j (line_at t (p % 16) (p / 16)) (line-listed S t blocks p b.0) b.1).0

  pub port-grown : (u : List ℕ) (c : ℕ) → ((i : ℕ) → i < 8 → port_word u g i ≡ port_word t g i) → placed_lines S u c ≡ lines ++ more → port_in S u c g ≡ port_in S t blocks g
  unfolding port_in
  port-grown u c w e =
      rw (e, w 0 (omega arith), w 1 (omega arith), w 2 (omega arith), w 3 (omega arith), w 4 (omega arith), w 5 (omega arith), w 6 (omega arith), w 7 (omega arith), read-grown) refl
