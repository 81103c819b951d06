-- What an accepted access or reset leaves: a port that fits, and all else as it was.
use Rattle.std.proofs.Common.{◌≡◌, refl, Bool, true, false, cond, not, ◌&&◌, List, ℕ, zero, suc, ◌%◌, ◌<◌, ◌≤◌, arith, eqb, leb, length, get_or, leb-true, le-leb, ltb-true}
use Rattle.base.specs.Folds.{all_to}
use Rattle.base.proofs.Bools.{both}
use Rattle.base.proofs.TestLaws.{all-at, all_hold}
use Rattle.store.specs.Table.{Row}
use Rattle.store.proofs.FirstRow.{OnlyFirst}
use Rattle.queues.proofs.WordLaws.{SameQueues}
use Rattle.ports.specs.Uart.{Port, divisor, takes, waits, after_read, after_write, reset_port, registers_of, limits, registers_fit}
use Rattle.ports.specs.Ports.{port_fits, ports_fit, FormedPort}
use Rattle.state.specs.declared.State.{State}
use Rattle.state.specs.WellFormed.{well_formed}
use Rattle.state.proofs.FormedLaws.{formed-ports}
use Rattle.serial.specs.Calls.{Access, read, write, offset_of, AccessInRange, PortCall, access, reset, PortInRange, port_of}
use Rattle.serial.specs.Serial.{listing, port_at, accessed, port_then, port_refusal, ported_table}
use Rattle.serial.proofs.PassedLaws.{access-passed, reset-passed}
use Rattle.serial.proofs.PutLaws.{only-put, queues-put, fits-put}

-- ---- registers

-- a value within a limit, or another
cond-within : (b : Bool) (x y m : ℕ) → leb x m ≡ true → leb y m ≡ true → leb (cond b x y) m ≡ true
cond-within true x y m h k = h
cond-within false x y m h k = k

registers-written : (p : Port) (o b : ℕ) → b < 256 → registers_fit p ≡ true → registers_fit (after_write p o b) ≡ true
unfolding registers_fit after_write
registers-written p o b h f = all_hold (λ i. leb (get_or (registers_of (after_write p o b)) i 0) (get_or limits i 0)) 6 go
  where
    was : (i : ℕ) → i < 6 → leb (get_or (registers_of p) i 0) (get_or limits i 0) ≡ true
    was i l = all-at (λ k. leb (get_or (registers_of p) k 0) (get_or limits k 0)) 6 i l f

    go : (i : ℕ) → i < 6 → leb (get_or (registers_of (after_write p o b)) i 0) (get_or limits i 0) ≡ true
    go zero l = cond-within (eqb o 1 && not (divisor p)) (b % 2) p.enable 1 (le-leb (b % 2) 1 (omega arith)) (was 0 l)
    go (suc zero) l = cond-within (eqb o 3) b p.line 255 (le-leb b 255 (omega arith)) (was 1 l)
    go (suc (suc zero)) l = cond-within (eqb o 4) (b % 32) p.modem 31 (le-leb (b % 32) 31 (omega arith)) (was 2 l)
    go (suc (suc (suc zero))) l = cond-within (eqb o 7) b p.scratch 255 (le-leb b 255 (omega arith)) (was 3 l)
    go (suc (suc (suc (suc zero)))) l = cond-within (eqb o 0 && divisor p) b p.low 255 (le-leb b 255 (omega arith)) (was 4 l)
    go (suc (suc (suc (suc (suc zero))))) l = cond-within (eqb o 1 && divisor p) b p.high 255 (le-leb b 255 (omega arith)) (was 5 l)
    go (suc (suc (suc (suc (suc (suc i)))))) l = absurd (omega arith)

-- a port that has not read past the end of a listing, and whose registers hold what they can
pub record Fits (l : List ℕ) (p : Port) : Type 0 where
  pub read-to : p.read ≤ length l
  pub registers : registers_fit p ≡ true

read_fits : (l : List ℕ) (p : Port) (o : ℕ) → Fits l p → Fits l (after_read l p o)
unfolding after_read registers_fit
read_fits l p o f = record { read-to = go (takes l p o) refl; registers = f.registers }
  where
    go : (b : Bool) → takes l p o ≡ b → cond b (suc p.read) p.read ≤ length l
    go true e = let x = both (not (divisor p)) (waits l p) (both (eqb o 0) _ e).1 in ltb-true p.read (length l) x.1
    go false e = f.read-to

write-fits : (l : List ℕ) (p : Port) (o b : ℕ) → b < 256 → Fits l p → Fits l (after_write p o b)
unfolding after_write
write-fits l p o b h f = record { read-to = f.read-to; registers = registers-written p o b h f.registers }

reset-fits : (l : List ℕ) → Fits l reset_port
unfolding reset_port registers_fit all_to
reset-fits l = record { read-to = omega arith; registers = refl }

module _ (s : State) (t : List ℕ) where
  pub opened-fits : (g : ℕ) → FormedPort s.settings t s.blocks g → Fits (listing s t) (port_at s t g)
  unfolding port_fits
  opened-fits g x =
      let b = both (leb (port_at s t g).read (length (listing s t))) (registers_fit (port_at s t g)) x.fits in
      record { read-to = leb-true (port_at s t g).read (length (listing s t)) b.0; registers = b.1 }

  accessed-fits : (p : Port) (a : Access) → AccessInRange a → Fits (listing s t) p → Fits (listing s t) (accessed s t p a)
  accessed-fits p (read o) r f = read_fits (listing s t) p o f
  accessed-fits p (write o b) r f = write-fits (listing s t) p o b r f

  -- ---- what is left

  -- an accepted one
  pub record PortPassed (x : PortCall) : Type 0 where
    pub whole : well_formed s t ≡ true
    pub guest : port_of x < 8
    pub row : Row t 0
    pub before : Fits (listing s t) (port_at s t (port_of x))

  pub port-passed : (x : PortCall) → port_refusal s t x ≡ 0 → PortPassed x
  unfolding port_refusal
  port-passed (access g a) e = let p = access-passed s t g (offset_of a) e in record { whole = p.whole; guest = p.opened.guest; row = p.row; before = opened-fits g p.opened }
  port-passed (reset g) e = let p = reset-passed s t g e in record { whole = p.whole; guest = p.opened.guest; row = p.row; before = opened-fits g p.opened }

  -- the port then fits, where what is written is a byte
  pub then-fits : (x : PortCall) → PortInRange x → PortPassed x → Fits (listing s t) (port_then s t x)
  then-fits (access g a) r k = accessed-fits (port_at s t g) a r k.before
  then-fits (reset g) r k = reset-fits (listing s t)

  module _ (x : PortCall) (k : PortPassed x) where
    pub only_ported : OnlyFirst t (ported_table s t x)
    unfolding ported_table
    only_ported = only-put s.settings t s.blocks (port_of x) k.row k.guest (port_then s t x)

    pub queues_ported : SameQueues t (ported_table s t x)
    unfolding ported_table
    queues_ported = queues-put s.settings t s.blocks (port_of x) k.row k.guest (port_then s t x)

    pub ports_ported : PortInRange x → ports_fit s.settings (ported_table s t x) s.blocks ≡ true
    unfolding ported_table
    ports_ported r =
        let f = then-fits x r k in
        fits-put s.settings t s.blocks (port_of x) k.row k.guest (port_then s t x) f.read-to (formed-ports s t k.whole) f.registers
