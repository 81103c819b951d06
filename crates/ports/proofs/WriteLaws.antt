-- What a write leaves.
use Rattle.std.proofs.Common.{◌≡◌, refl, sym, ap, ◌∙◌, true, false, List, ℕ, ◌+◌, ◌%◌, ◌<◌, ◌≤◌, arith, ◌≢◌, ne_eqb, length, set, replicate, leb}
use Rattle.base.proofs.Words.{paste}
use Rattle.terms.specs.declared.sheet.Settings.{Settings}
use Rattle.ports.specs.Uart.{after_write, reset_port}
use Rattle.store.specs.Table.{Row}
use Rattle.ports.specs.Ports.{port_start, port_word, placed_lines, port_in, FormedPort, words_written, port_words, put_port}
use Rattle.ports.proofs.PutLaws.{own, same_own, set_own}
use Rattle.ports.proofs.BackLaws.{cursor-zero}
use Rattle.ports.proofs.ReadLaws.{cursor-own}

-- the words of a formed port after a write are those of its registers
pub port_written : (S : Settings) (t : List ℕ) (blocks g : ℕ) → FormedPort S t blocks g → (o b : ℕ) → paste t (port_start g) (words_written (port_word t g) o b) 8 ≡ put_port S t blocks g (after_write (port_in S t blocks g) o b)
unfolding put_port port_words after_write port_in words_written
port_written S t blocks g x o b = rw (cursor-own S t blocks g x) refl

module _ (t : List ℕ) (g b : ℕ) (long : Row t 0) (guest : g < 8) where
  room : port_start g + 8 ≤ length t
  room = omega (arith, long, guest)

  abbrev after : ℕ → List ℕ
  after o = paste t (port_start g) (words_written (port_word t g) o b) 8

  -- one word is set
  one-set : (o k v : ℕ) → k < 8 → words_written (port_word t g) o b ≡ set (own t g) k v → set t (port_start g + k) v ≡ after o
  one-set o k v h e = set_own t g room k v h ∙ ap (λ (w : List ℕ). paste t (port_start g) w 8) (sym e)

  -- or none
  none-set : (o : ℕ) → words_written (port_word t g) o b ≡ own t g → t ≡ after o
  none-set o e = same_own t g room ∙ ap (λ (w : List ℕ). paste t (port_start g) w 8) (sym e)

  -- ---- by offset, and by bit 7 of offset 3

  module _ (o : ℕ) where
    pub low_written : leb 128 (port_word t g 3) ≡ true → o ≡ 0 → set t (port_start g + 6) b ≡ after o
    unfolding words_written
    low_written d e = rw e (one-set 0 6 b (omega arith) (rw d refl))

    pub high_written : leb 128 (port_word t g 3) ≡ true → o ≡ 1 → set t (port_start g + 7) b ≡ after o
    unfolding words_written
    high_written d e = rw e (one-set 1 7 b (omega arith) (rw d refl))

    pub byte_dropped : leb 128 (port_word t g 3) ≡ false → o ≡ 0 → t ≡ after o
    unfolding words_written
    byte_dropped d e = rw e (none-set 0 (rw d refl))

    pub enable_written : leb 128 (port_word t g 3) ≡ false → o ≡ 1 → set t (port_start g + 2) (b % 2) ≡ after o
    unfolding words_written
    enable_written d e = rw e (one-set 1 2 (b % 2) (omega arith) (rw d refl))

    pub line_written : o ≡ 3 → set t (port_start g + 3) b ≡ after o
    unfolding words_written
    line_written e = rw e (one-set 3 3 b (omega arith) refl)

    pub modem_written : o ≡ 4 → set t (port_start g + 4) (b % 32) ≡ after o
    unfolding words_written
    modem_written e = rw e (one-set 4 4 (b % 32) (omega arith) refl)

    pub scratch_written : o ≡ 7 → set t (port_start g + 5) b ≡ after o
    unfolding words_written
    scratch_written e = rw e (one-set 7 5 b (omega arith) refl)

    pub nothing_written : o ≢ 0 → o ≢ 1 → o ≢ 3 → o ≢ 4 → o ≢ 7 → t ≡ after o
    unfolding words_written
    nothing_written n0 n1 n3 n4 n7 = none-set o (rw (ne_eqb o 0 n0, ne_eqb o 1 n1, ne_eqb o 3 n3, ne_eqb o 4 n4, ne_eqb o 7 n7) refl)

-- a reset
pub put-reset : (S : Settings) (t : List ℕ) (blocks g : ℕ) → paste t (port_start g) (replicate 8 0) 8 ≡ put_port S t blocks g reset_port
unfolding put_port port_words reset_port
put-reset S t blocks g = rw (cursor-zero (placed_lines S t blocks)) refl
