-- What was read from a port since it was reset is a prefix of the listing, over every list of requests.
use Rattle.std.proofs.Common.{◌≡◌, refl, sym, ap, ◌∙◌, subst, Bool, true, false, cond, not, ◌&&◌, List, [], ◌∷◌, ◌++◌, ◌≢◌, ℕ, ◌<◌, arith, eqb, leb, ltb, length, get_or, length-append, eq-eqb, ne_eqb, eqb-true, ltb-true, Option, Some, None}
use Rattle.base.proofs.Words.{ℕ_discrete, not-true}
use Rattle.base.specs.Options.{if_there}
use Rattle.base.proofs.Bools.{both}
use Rattle.terms.specs.declared.Member.{Member}
use Rattle.terms.specs.declared.sheet.Sheet.{Sheet}
use Rattle.ports.specs.Uart.{Port, divisor, waits, takes, values_at, after_read, after_write, reset_port}
use Rattle.state.specs.Answers.{if_accepted}
use Rattle.state.proofs.AnswerLaws.{if_accepted-new, if_accepted-old}
use Rattle.serial.specs.Calls.{read, write, PortCall, access, reset, PortInRange, port_of}
use Rattle.serial.specs.Serial.{listing, port_at, register, port_then, ported_table}
use Rattle.serial.proofs.LeftLaws.{PortPassed, port-passed, then-fits}
use Rattle.serial.proofs.PutLaws.{listing-put, others_put, port-back}
use Rattle.engine.specs.Calls.{Call, opens, port, InRange}
use Rattle.engine.specs.Engine.{Engine, refusal_for, after}
use Rattle.engine.specs.Sequences.{after_calls, AllInRange, Opening, after_opening}
use Rattle.engine.specs.Reached.{Reached, by_open, Intact}
use Rattle.engine.proofs.AfterLaws.{refused-same, accepted-new}
use Rattle.engine.proofs.PortLaws.{leaves_ports}
use Rattle.engine.proofs.ReachedLaws.{intact, intact-after}
use Rattle.submissions.specs.Submissions.{Submission, after_submission, calls_of}
use Rattle.submissions.specs.Requests.{Request, submission_of, InRangeThen, after_requests}
use Rattle.submissions.proofs.SubmissionLaws.{leaves_as_its_calls}
use Rattle.submissions.proofs.RequestLaws.{left_by, requests_lead_to}
use Rattle.receiving.specs.Received.{listing_in, asked_of, accepted_bytes, bytes_after, bytes_then, received, AskedInRange, Served}
use Rattle.receiving.proofs.ByteLaws.{PrefixOf, prefix-none, prefix-grown, prefix-next}
use Rattle.receiving.proofs.ResetLaws.{open_resets}
use Rattle.receiving.proofs.GrownListings.{listing-more, port-same}

-- the bytes l are a prefix of the listing m, and the port has counted them
pub record Reads (m : List ℕ) (p : Port) (l : List ℕ) : Type 0 where
  pub prefix : PrefixOf l m
  pub counted : p.read ≡ length l

-- ---- on lists: what is asked of a port

module _ (m : List ℕ) (p : Port) (l : List ℕ) (r : Reads m p l) where
  -- whether a byte is taken, by what was read
  takes-by : (o : ℕ) → takes m p o ≡ (eqb o 0 && (not (leb 128 p.line) && ltb (length l) (length m)))
  takes-by o = rw r.counted refl

  read_one : (o : ℕ) (b : Bool) → takes m p o ≡ b → Reads m (after_read m p o) (cond b (l ++ (get_or (values_at m p) o 0 ∷ [])) l)
  unfolding after_read values_at
  read_one o true e =
      let x = both (eqb o 0) _ e in
      let y = both (not (divisor p)) (waits m p) x.1 in
      let z = eqb-true o 0 x.0 in
      let d = not-true (divisor p) y.0 in
      let k : length l < length m = omega (arith, ltb-true p.read (length m) y.1, r.counted) in
      record {
        prefix = rw (z, d, r.counted) (prefix-next l m r.prefix k);
        counted = rw e (omega (arith, r.counted, length-append l (get_or (values_at m p) o 0 ∷ [])));
      }
  read_one o false e = record { prefix = r.prefix; counted = rw e r.counted }

-- from port g of an engine
abbrev pub ReadsOf : ℕ → Engine → List ℕ → Type 0
ReadsOf g e l = Reads (listing_in e) (port_at e.state e.table g) l

-- ---- an accepted open

opened-reads : (e : Engine) (own : Member) (sheet : Sheet) → refusal_for e (opens own sheet) ≡ 0 → (g : ℕ) → g < 8 → ReadsOf g (after e (opens own sheet)) []
unfolding reset_port
opened-reads e own sheet a g guest = record { prefix = prefix-none _; counted = ap (λ (p : Port). p.read) (open_resets e own sheet a g guest) }

-- ---- what is asked of a port

module _ (e : Engine) (g : ℕ) (guest : g < 8) (l : List ℕ) (r : ReadsOf g e l) where
  open e use {state, table}

  abbrev own : Port
  own = port_at state table g

  -- of this port
  asked-own : (o : ℕ) → asked_of e g (access g (read o)) l ≡ cond (takes (listing_in e) own o) (l ++ (get_or (values_at (listing_in e) own) o 0 ∷ [])) l
  unfolding register values_at
  asked-own o = rw (eq-eqb g g refl, takes-by (listing_in e) own l r o) refl

  own_read : (o : ℕ) → Reads (listing_in e) (after_read (listing_in e) own o) (asked_of e g (access g (read o)) l)
  own_read o = rw (asked-own o) (read_one (listing_in e) own l r o (takes (listing_in e) own o) refl)

  own-asked : (x : PortCall) → port_of x ≡ g → Reads (listing_in e) (port_then state table x) (asked_of e g x l)
  unfolding after_write reset_port
  own-asked (access h (read o)) q = rw q (own_read o)
  own-asked (access h (write o b)) q = rw q (record { prefix = r.prefix; counted = r.counted })
  own-asked (reset h) q = rw (eq-eqb h g q) (record { prefix = prefix-none (listing_in e); counted = refl })

  -- of another
  other-asked : (x : PortCall) → port_of x ≢ g → asked_of e g x l ≡ l
  other-asked (access h (read o)) n = rw (ne_eqb h g n) refl
  other-asked (access h (write o b)) n = refl
  other-asked (reset h) n = rw (ne_eqb h g n) refl

  module _ (x : PortCall) (i : PortInRange x) (k : PortPassed state table x) where
    abbrev u : List ℕ
    u = ported_table state table x

    listing_ported : listing state u ≡ listing state table
    unfolding ported_table
    listing_ported = listing-put state.settings table state.blocks (port_of x) k.row k.guest (port_then state table x)

    other_ported : port_of x ≢ g → port_at state u g ≡ own
    unfolding ported_table
    other_ported n = others_put state.settings table state.blocks (port_of x) k.row k.guest (port_then state table x) g (λ q. n (sym q))

    own_ported : port_of x ≡ g → port_at state u g ≡ port_then state table x
    unfolding ported_table
    own_ported q = rw (← q) (port-back state.settings table state.blocks (port_of x) k.row k.guest (port_then state table x) (then-fits state table x i k).read-to)

    asked-reads : Reads (listing state u) (port_at state u g) (asked_of e g x l)
    asked-reads = go (ℕ_discrete (port_of x) g)
      where
        go : Dec (port_of x ≡ g) → Reads (listing state u) (port_at state u g) (asked_of e g x l)
        go (yes q) = rw (listing_ported, own_ported q) (own-asked x q)
        go (no n) = rw (listing_ported, other_ported n, other-asked x n) r

  -- ---- an accepted call

  module _ (good : Intact e) where
    still : (c : Call) → leaves_ports c ≡ true → InRange c → refusal_for e c ≡ 0 → ReadsOf g (after e c) l
    still c h i a =
        record {
          prefix = prefix-grown l (listing_in e) (listing_in (after e c)) r.prefix (listing-more e good c h i a);
          counted = ap (λ (p : Port). p.read) (port-same e good c h i a g guest) ∙ r.counted;
        }

    accepted-reads : (c : Call) → InRange c → refusal_for e c ≡ 0 → ReadsOf g (after e c) (accepted_bytes e g c l)
    accepted-reads (opens own sheet) i a = opened-reads e own sheet a g guest
    accepted-reads (port x) i a = subst (λ (d : Engine). ReadsOf g d (asked_of e g x l)) (sym (accepted-new e (port x) a)) (asked-reads x i (port-passed state table x a))
    accepted-reads c i a = still c refl i a

    pub call-reads : (c : Call) → InRange c → ReadsOf g (after e c) (bytes_after e g c l)
    unfolding bytes_after
    call-reads c i = go (ℕ_discrete (refusal_for e c) 0)
      where
        go : Dec (refusal_for e c ≡ 0) → ReadsOf g (after e c) (if_accepted (refusal_for e c) (accepted_bytes e g c l) l)
        go (yes a) = rw (if_accepted-new (refusal_for e c) (accepted_bytes e g c l) l a) (accepted-reads c i a)
        go (no n) = rw (if_accepted-old (refusal_for e c) (accepted_bytes e g c l) l n, refused-same e c n) r

-- ---- lists

module _ (g : ℕ) (guest : g < 8) where
  calls-read : (e : Engine) → Intact e → (l : List ℕ) → ReadsOf g e l → (m : List Call) → AllInRange m → Intact (after_calls e m) × ReadsOf g (after_calls e m) (bytes_then e g m l)
  unfolding after_calls bytes_then
  calls-read e k l r [] i = (k, r)
  calls-read e k l r (c ∷ m) i =
      let x = calls-read e k l r m i.1 in
      (intact-after (after_calls e m) x.0 c i.0, call-reads (after_calls e m) g guest (bytes_then e g m l) x.1 x.0 c i.0)

  requests_read : (x : Opening) (l : List Request) → AskedInRange (after_opening x) l → Reached (after_requests (after_opening x) l) × ReadsOf g (after_requests (after_opening x) l) (received (after_opening x) g l)
  unfolding after_requests received
  requests_read x [] i = (by_open x, opened-reads x.before x.own x.sheet x.accepted g guest)
  requests_read x (q ∷ l) i =
      let y = requests_read x l i.1 in
      let d = after_requests (after_opening x) l in
      (requests_lead_to d y.0 q i.0, rw (left_by d q) (go d y.0 (received (after_opening x) g l) y.1 (submission_of d q) i.0))
    where
      go : (d : Engine) → Reached d → (b : List ℕ) → ReadsOf g d b → (o : Option Submission) → InRangeThen d o → ReadsOf g (if_there o d (after_submission d)) (if_there o b (λ s. bytes_then d g (calls_of d s) b))
      go d k b r None j = r
      go d k b r (Some s) j = rw (leaves_as_its_calls d s) (calls-read d (intact k) b r (calls_of d s) j).1

-- from an accepted open on, however commits and accesses alternate, whoever signed
pub reads_a_prefix : (x : Opening) (l : List Request) → AskedInRange (after_opening x) l → (g : ℕ) → g < 8 → Served (after_requests (after_opening x) l) g (received (after_opening x) g l)
unfolding register values_at
reads_a_prefix x l i g guest =
    let r = (requests_read g guest x l i).1 in
    record { prefix = r.prefix; counted = r.counted; waiting = rw r.counted refl }
