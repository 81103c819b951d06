-- What a reset and an opening leave of a port, and what a read answers.
use Rattle.std.proofs.Common.{◌≡◌, refl, ap, ◌∙◌, ℕ, ◌<◌, arith}
use Rattle.terms.specs.declared.Member.{Member}
use Rattle.terms.specs.declared.sheet.Sheet.{Sheet}
use Rattle.terms.specs.Sheets.{filled}
use Rattle.ports.specs.Cursors.{bytes_read}
use Rattle.ports.specs.Uart.{reset_port, values_at}
use Rattle.ports.specs.Ports.{port_in}
use Rattle.ports.proofs.WrittenLaws.{cleared-words}
use Rattle.serial.specs.Calls.{read, access, reset}
use Rattle.serial.specs.Serial.{register, ported_table}
use Rattle.serial.proofs.LeftLaws.{port-passed, then-fits}
use Rattle.serial.proofs.PutLaws.{port-back}
use Rattle.engine.specs.Calls.{opens, port}
use Rattle.engine.specs.Engine.{Engine, refusal_for, after}
use Rattle.engine.proofs.AfterLaws.{renewed, accepted-new}
use Rattle.engine.proofs.ValueLaws.{value-accepted}
use Rattle.receiving.specs.Received.{port_on, listing_in}
use Rattle.engine.specs.Values.{value_of, number}
use Rattle.std.specs.Prelude.{get_or}
use Rattle.engine.specs.Sequences.{Opening, after_opening}

-- an accepted read answers what the offset shows
pub answers_shown : (e : Engine) (g o : ℕ) → refusal_for e (port (access g (read o))) ≡ 0 → value_of e (port (access g (read o))) ≡ number (get_or (values_at (listing_in e) (port_on e g)) o 0)
unfolding register
answers_shown e g o a = value-accepted e (port (access g (read o))) a

-- an accepted reset leaves the port with all registers 0 and nothing read
pub resets : (e : Engine) (g : ℕ) → refusal_for e (port (reset g)) ≡ 0 → port_on (after e (port (reset g))) g ≡ reset_port
unfolding ported_table
resets e g a =
    let k = port-passed e.state e.table (reset g) a in
    ap (λ (d : Engine). port_on d g) (accepted-new e (port (reset g)) a)
    ∙ port-back e.state.settings e.table e.state.blocks g k.row k.guest reset_port (then-fits e.state e.table (reset g) tt k).read-to

-- an accepted open leaves all words of ports 0
cleared : (e : Engine) (own : Member) (sheet : Sheet) (g : ℕ) → g < 8 → port_on (renewed e (opens own sheet)) g ≡ reset_port
unfolding port_in bytes_read reset_port
cleared e own sheet g h =
    let n = (filled sheet).ceiling in
    rw (
      cleared-words e.table n g 0 h (omega arith),
      cleared-words e.table n g 1 h (omega arith),
      cleared-words e.table n g 2 h (omega arith),
      cleared-words e.table n g 3 h (omega arith),
      cleared-words e.table n g 4 h (omega arith),
      cleared-words e.table n g 5 h (omega arith),
      cleared-words e.table n g 6 h (omega arith),
      cleared-words e.table n g 7 h (omega arith),
    )
    refl

pub open_resets : (e : Engine) (own : Member) (sheet : Sheet) → refusal_for e (opens own sheet) ≡ 0 → (g : ℕ) → g < 8 → port_on (after e (opens own sheet)) g ≡ reset_port
open_resets e own sheet a g h = ap (λ (d : Engine). port_on d g) (accepted-new e (opens own sheet) a) ∙ cleared e own sheet g h

-- and so does an opening every port
pub opening_resets : (x : Opening) (g : ℕ) → g < 8 → port_on (after_opening x) g ≡ reset_port
opening_resets x = open_resets x.before x.own x.sheet x.accepted
