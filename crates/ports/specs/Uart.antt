-- The registers of a 16450 as a guest sees them, over a listing of bytes (docs/RULES.md, "Serial ports").
use Rattle.std.specs.Prelude.{Bool, if◌then◌else◌, not, ◌&&◌, List, [], ◌∷◌, ℕ, suc, ◌%◌, ◌==◌, nat_le, nat_lt, length, get_or}
use Rattle.base.specs.Folds.{all_to}
use Rattle.ports.specs.declared.places.TheConstants.{OFFSET_DATA, OFFSET_ENABLE, OFFSET_LINE, OFFSET_MODEM, OFFSET_SCRATCH}

-- how many bytes of the listing it has read since reset, and the registers that it holds
pub record Port : Type 0 where
  pub read : ℕ
  -- offset 1: bit 0 enables the received data interrupt
  pub enable : ℕ
  -- offset 3
  pub line : ℕ
  -- offset 4, five bits
  pub modem : ℕ
  -- offset 7
  pub scratch : ℕ
  -- the divisor, low and high byte: offsets 0 and 1 while bit 7 of offset 3 is set
  pub low : ℕ
  pub high : ℕ

-- bit 7 of offset 3
abbrev pub divisor : Port → Bool
divisor p = nat_le 128 p.line

-- a byte waits: the listing has bytes that the port has not read
abbrev pub waits : List ℕ → Port → Bool
waits l p = nat_lt p.read (length l)

-- what each offset reads
unfoldable pub values_at : List ℕ → Port → List ℕ
values_at l p =
    (if divisor p then p.low else get_or l p.read 0)
    ∷ (if divisor p then p.high else p.enable)
    ∷ (if p.enable == 1 && waits l p then 4 else 1)
    ∷ p.line
    ∷ p.modem
    ∷ (if waits l p then 97 else 96)
    ∷ 0
    ∷ p.scratch ∷ []

-- a read takes a byte at offset 0, while bit 7 of offset 3 is clear and one waits
abbrev pub takes : List ℕ → Port → ℕ → Bool
takes l p o = o == OFFSET_DATA && (not (divisor p) && waits l p)

unfoldable pub after_read : List ℕ → Port → ℕ → Port
after_read l p o = record p { read = if takes l p o then suc p.read else p.read }

-- a write of the byte b: each register that is held, at its offset
unfoldable pub after_write : Port → ℕ → ℕ → Port
after_write p o b =
    record {
      read = p.read;
      enable = if o == OFFSET_ENABLE && not (divisor p) then b % 2 else p.enable;
      line = if o == OFFSET_LINE then b else p.line;
      modem = if o == OFFSET_MODEM then b % 32 else p.modem;
      scratch = if o == OFFSET_SCRATCH then b else p.scratch;
      low = if o == OFFSET_DATA && divisor p then b else p.low;
      high = if o == OFFSET_ENABLE && divisor p then b else p.high;
    }

-- all 0
unfoldable pub reset_port : Port
reset_port = record { read = 0; enable = 0; line = 0; modem = 0; scratch = 0; low = 0; high = 0 }

-- the registers that it holds, and the most that each can hold
abbrev pub registers_of : Port → List ℕ
registers_of p = p.enable ∷ p.line ∷ p.modem ∷ p.scratch ∷ p.low ∷ p.high ∷ []

abbrev pub limits : List ℕ
limits = 1 ∷ 255 ∷ 31 ∷ 255 ∷ 255 ∷ 255 ∷ []

unfoldable pub registers_fit : Port → Bool
registers_fit p = all_to (λ i. nat_le (get_or (registers_of p) i 0) (get_or limits i 0)) 6
