-- The next byte of a guest's serial port.
use Rattle.std.specs.Prelude.{Bool, if◌then◌else◌, ◌||◌, List, ℕ, suc, ◌==◌, get_or, Option, Some, None}
use Rattle.terms.specs.declared.sheet.Settings.{Settings}
use Rattle.ports.specs.Cursors.{cursor_of}
use Rattle.ports.specs.Uart.{waits}
use Rattle.ports.specs.Ports.{listing_of, placed_lines, port_in}
use Rattle.ports.specs.declared.registers.Next.{Next}
use Rattle.ports.specs.declared.places.TheConstants.{OFFSET_DATA, OFFSET_INTERRUPT, OFFSET_STATUS}

-- the byte of the listing after the last one that a port has read, and where the port stands when it has read it, if one waits
unfoldable pub next_byte : Settings → List ℕ → ℕ → ℕ → Option Next
next_byte S t blocks g =
    let read = (port_in S t blocks g).read in
    let stand = cursor_of (placed_lines S t blocks) (suc read) in
    if waits (listing_of S t blocks) (port_in S t blocks g) then Some (record {
      place = stand.0;
      bytes = stand.1;
      byte = get_or (listing_of S t blocks) read 0;
    })
    else None

-- the offsets for which the next byte is looked at
unfoldable pub looks_at_next : ℕ → Bool
looks_at_next o = o == OFFSET_DATA || (o == OFFSET_INTERRUPT || o == OFFSET_STATUS)
