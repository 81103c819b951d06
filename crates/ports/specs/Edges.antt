-- The registers by numbers, as one table: what a port shows, what a read takes, what a write leaves, and a reset.
use Rattle.std.specs.Prelude.{List, [], ◌∷◌, ℕ, get_or}
use Rattle.ports.specs.Uart.{Port, values_at, after_read, after_write, reset_port, registers_of}

-- a listing of two bytes
unfoldable pub two : List ℕ
two = 49 ∷ 44 ∷ []

-- a port that has read so many of them, with bit 7 of offset 3 clear, and set
unfoldable pub clear : ℕ → Port
clear n = record { read = n; enable = 1; line = 3; modem = 21; scratch = 90; low = 12; high = 34 }

unfoldable pub latched : ℕ → Port
latched n = record {
  read = n;
  enable = 1;
  line = 131;
  modem = 21;
  scratch = 90;
  low = 12;
  high = 34;
}

-- what offset o shows; how many bytes are read after a read there
unfoldable pub shows : Port → ℕ → ℕ
shows p o = get_or (values_at two p) o 0

unfoldable pub reads : Port → ℕ → ℕ
reads p o = (after_read two p o).read

-- the registers after a write of 254 to offset o: enable, line, modem, scratch, low, high
unfoldable pub writes : Port → ℕ → ℕ → ℕ
writes p o i = get_or (registers_of (after_write p o 254)) i 0

unfoldable pub cases : List (ℕ × ℕ)
cases =
    -- after a reset
    (shows reset_port 0, 49) ∷ (shows reset_port 1, 0) ∷ (shows reset_port 2, 1)
    ∷ (shows reset_port 3, 0) ∷ (shows reset_port 4, 0) ∷ (shows reset_port 5, 97)
    ∷ (shows reset_port 6, 0) ∷ (shows reset_port 7, 0)
    ∷ (reset_port.read, 0) ∷ (reset_port.low, 0) ∷ (reset_port.high, 0)
    -- with a byte waiting
    ∷ (shows (clear 1) 0, 44) ∷ (shows (clear 1) 1, 1) ∷ (shows (clear 1) 2, 4)
    ∷ (shows (clear 1) 3, 3) ∷ (shows (clear 1) 4, 21) ∷ (shows (clear 1) 5, 97)
    ∷ (shows (clear 1) 6, 0) ∷ (shows (clear 1) 7, 90)
    -- with none
    ∷ (shows (clear 2) 0, 0) ∷ (shows (clear 2) 2, 1) ∷ (shows (clear 2) 5, 96)
    -- the divisor
    ∷ (shows (latched 1) 0, 12) ∷ (shows (latched 1) 1, 34) ∷ (shows (latched 1) 2, 4)
    ∷ (shows (latched 1) 3, 131)
    -- a read takes a byte at offset 0 alone, while one waits and bit 7 of offset 3 is clear
    ∷ (reads (clear 1) 0, 2) ∷ (reads (clear 2) 0, 2) ∷ (reads (latched 1) 0, 1)
    ∷ (reads (clear 1) 1, 1) ∷ (reads (clear 1) 5, 1)
    -- writes
    ∷ (writes (clear 1) 0 4, 12) ∷ (writes (clear 1) 1 0, 0) ∷ (writes (clear 1) 1 5, 34)
    ∷ (writes (clear 1) 2 0, 1) ∷ (writes (clear 1) 3 1, 254) ∷ (writes (clear 1) 4 2, 30)
    ∷ (writes (clear 1) 7 3, 254)
    ∷ (writes (latched 1) 0 4, 254) ∷ (writes (latched 1) 1 5, 254) ∷ (writes (latched 1) 1 0, 1)
    ∷ []
