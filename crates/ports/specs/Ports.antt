-- Guests' serial ports in row 0 of the table: where they stand, what their words tell, and when they are well formed.
use Rattle.std.specs.Prelude.{◌≡◌, Bool, true, if◌then◌else◌, not, ◌&&◌, List, [], ◌∷◌, ℕ, ◌+◌, ◌*◌, ◌/◌, ◌%◌, ◌<◌, length, get_or, ◌==◌, nat_le, nat_lt}
use Rattle.std.proofs.Math.Seq.{paste}
use Rattle.base.specs.Folds.{all_to}
use Rattle.terms.specs.declared.sheet.Settings.{Settings}
use Rattle.store.specs.Table.{held_at, mark_at}
use Rattle.store.specs.declared.lengths.TheConstants.{PORT, GUEST}
use Rattle.store.specs.declared.places.TheConstants.{FIRST_PORT}
use Rattle.committee.specs.Chain.{chain_of}
use Rattle.chain_committees.specs.ChainInTable.{ChainInTable}
use Rattle.listing.specs.Listing.{chain_lines}
use Rattle.ports.specs.declared.places.TheConstants.{PORT_PLACE, PORT_BYTE, PORT_ENABLE, PORT_LINE, PORT_MODEM, PORT_SCRATCH, PORT_DIVISOR_LOW, PORT_DIVISOR_HIGH, OFFSET_DATA, OFFSET_ENABLE, OFFSET_LINE, OFFSET_MODEM, OFFSET_SCRATCH}
use Rattle.ports.specs.Cursors.{Lines, in_line, bytes_read, cursor_of}
use Rattle.ports.specs.Places.{lines_of, line_at}
use Rattle.ports.specs.Uart.{Port, registers_of, registers_fit}

-- ---- words

abbrev pub port_count : ℕ
port_count = 8

abbrev pub port_length : ℕ
port_length = PORT

-- where the words of port g start, before the guest's queue. The first two tell the last byte that was read: the place of its line, and which byte of it, counted from 1; both are 0 where none was read. Then come its registers
abbrev pub port_start : ℕ → ℕ
port_start g = FIRST_PORT + g * GUEST

unfoldable pub port_word : List ℕ → ℕ → ℕ → ℕ
port_word t g i = get_or t (port_start g + i) 0

-- ---- what they tell

module _ (S : Settings) (t : List ℕ) (blocks : ℕ) where
  -- the listing, and its lines with their places
  abbrev pub listing_of : List ℕ
  listing_of = chain_lines S (chain_of S.ceiling t blocks)

  abbrev pub placed_lines : Lines
  placed_lines = lines_of S (chain_of S.ceiling t blocks)

  unfoldable pub port_in : ℕ → Port
  port_in g =
      record {
        read = bytes_read placed_lines (port_word t g PORT_PLACE) (port_word t g PORT_BYTE);
        enable = port_word t g PORT_ENABLE;
        line = port_word t g PORT_LINE;
        modem = port_word t g PORT_MODEM;
        scratch = port_word t g PORT_SCRATCH;
        low = port_word t g PORT_DIVISOR_LOW;
        high = port_word t g PORT_DIVISOR_HIGH;
      }

  -- it has not read past the listing's end, and its registers hold what they can
  unfoldable pub port_fits : ℕ → Bool
  port_fits g = nat_le (port_in g).read (length listing_of) && registers_fit (port_in g)

  unfoldable pub ports_fit : Bool
  ports_fit = all_to port_fits port_count

-- ---- the same by words alone

-- place p is of a certificate in one of the first blocks, in a table of ceiling n
unfoldable pub is_listed : List ℕ → ℕ → ℕ → ℕ → Bool
is_listed t n blocks p =
    nat_le 16 p
    && (nat_lt p (n * 16 + 16)
    && (held_at t (p % 16) (p / 16) && (nat_le 1 (mark_at t (p % 16) (p / 16))
    && nat_le (mark_at t (p % 16) (p / 16)) blocks)))

unfoldable pub cursor_fits : List ℕ → ℕ → ℕ → ℕ → ℕ → Bool
cursor_fits t n blocks p j =
    if p == 0 then j == 0
    else is_listed t n blocks p && in_line j (length (line_at t (p % 16) (p / 16)))

-- a port of a well-formed state
pub record FormedPort (S : Settings) (t : List ℕ) (blocks g : ℕ) : Type 0 where
  pub chain : ChainInTable S t blocks
  pub guest : g < port_count
  pub fits : port_fits S t blocks g ≡ true

-- ---- what is written

-- the words w of a port when byte b was written at offset o: those of line and scratch keep it, that of modem its low five bits; while bit 7 of line is set, the first two offsets keep it as the divisor's bytes, else that of enable keeps bit 0
unfoldable pub words_written : (ℕ → ℕ) → ℕ → ℕ → List ℕ
words_written w o b =
    let divisor = nat_le 128 (w PORT_LINE) in
    w PORT_PLACE ∷ w PORT_BYTE
    ∷ (if o == OFFSET_ENABLE && not divisor then b % 2 else w PORT_ENABLE)
    ∷ (if o == OFFSET_LINE then b else w PORT_LINE)
    ∷ (if o == OFFSET_MODEM then b % 32 else w PORT_MODEM)
    ∷ (if o == OFFSET_SCRATCH then b else w PORT_SCRATCH)
    ∷ (if o == OFFSET_DATA && divisor then b else w PORT_DIVISOR_LOW)
    ∷ (if o == OFFSET_ENABLE && divisor then b else w PORT_DIVISOR_HIGH) ∷ []

-- the words of a port
unfoldable pub port_words : Lines → Port → List ℕ
port_words l p = (cursor_of l p.read).0 ∷ (cursor_of l p.read).1 ∷ registers_of p

-- the table with them
unfoldable pub put_port : Settings → List ℕ → ℕ → ℕ → Port → List ℕ
put_port S t blocks g p =
    paste t (port_start g) (port_words (placed_lines S t blocks) p) port_length
