-- What is claimed of the registers, of every listing, port and byte (`registers_hold`, ports::theorems).
use Rattle.std.specs.Prelude.{◌≡◌, true, false, List, ℕ, ◌%◌, get_or, set}
use Rattle.ports.specs.declared.places.TheConstants.{OFFSET_DATA, OFFSET_ENABLE, OFFSET_INTERRUPT, OFFSET_LINE, OFFSET_MODEM, OFFSET_STATUS, OFFSET_SCRATCH}
use Rattle.ports.specs.Uart.{Port, divisor, values_at, after_write, registers_of}

-- each offset shows its register: 3, 4, 7; and 0 and 1 by bit 7 of offset 3
pub record Shown (l : List ℕ) (p : Port) : Type 0 where
  pub line : get_or (values_at l p) OFFSET_LINE 0 ≡ p.line
  pub modem : get_or (values_at l p) OFFSET_MODEM 0 ≡ p.modem
  pub scratch : get_or (values_at l p) OFFSET_SCRATCH 0 ≡ p.scratch
  pub enable : divisor p ≡ false → get_or (values_at l p) OFFSET_ENABLE 0 ≡ p.enable
  pub low : divisor p ≡ true → get_or (values_at l p) OFFSET_DATA 0 ≡ p.low
  pub high : divisor p ≡ true → get_or (values_at l p) OFFSET_ENABLE 0 ≡ p.high

-- a write of b sets one of the six registers, in the order of `registers_of`, and no other
pub record Written (p : Port) (b : ℕ) : Type 0 where
  pub enable : divisor p ≡ false → registers_of (after_write p OFFSET_ENABLE b)
      ≡ set (registers_of p) 0 (b % 2)
  pub line : registers_of (after_write p OFFSET_LINE b) ≡ set (registers_of p) 1 b
  pub modem : registers_of (after_write p OFFSET_MODEM b) ≡ set (registers_of p) 2 (b % 32)
  pub scratch : registers_of (after_write p OFFSET_SCRATCH b) ≡ set (registers_of p) 3 b
  pub low : divisor p ≡ true → registers_of (after_write p OFFSET_DATA b) ≡ set (registers_of p) 4 b
  pub high : divisor p ≡ true → registers_of (after_write p OFFSET_ENABLE b)
      ≡ set (registers_of p) 5 b

-- or none
pub record Ignored (p : Port) (b : ℕ) : Type 0 where
  pub dropped : divisor p ≡ false → after_write p OFFSET_DATA b ≡ p
  pub interrupt : after_write p OFFSET_INTERRUPT b ≡ p
  pub status : after_write p OFFSET_STATUS b ≡ p
  pub modem_status : after_write p 6 b ≡ p
