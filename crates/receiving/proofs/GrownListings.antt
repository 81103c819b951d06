-- Newer blocks add lines at the end of a listing; and what a port tells is as it was.
use Rattle.std.proofs.Common.{◌≡◌, sym, ap, ap₂, ◌∙◌, true, true≢false, List, [], ◌∷◌, ◌++◌, append_assoc, append-nil, ℕ, ◌+◌, ◌<◌, length}
use Rattle.agreement.specs.Rules.{Chain}
use Rattle.terms.specs.Proposals.{Content}
use Rattle.terms.specs.declared.sheet.Settings.{Settings}
use Rattle.committee.specs.Committees.{ordered}
use Rattle.listing.specs.Listing.{content_lines, chain_lines}
use Rattle.ports.specs.Cursors.{Lines}
use Rattle.ports.specs.Places.{content_places, lines_of}
use Rattle.ports.specs.Ports.{port_word, placed_lines, port_in}
use Rattle.ports.proofs.GrownLaws.{port-grown}
use Rattle.state.specs.WellFormed.{well_formed}
use Rattle.serial.specs.Serial.{port_at}
use Rattle.serial.proofs.PassedLaws.{port-opened}
use Rattle.engine.specs.Calls.{Call, InRange}
use Rattle.engine.specs.Engine.{Engine, refusal_for, after}
use Rattle.engine.specs.Steps.{SetInRange, Step, refused, opened, moved}
use Rattle.engine.specs.Sequences.{NoOpen}
use Rattle.engine.specs.Reached.{Intact}
use Rattle.engine.proofs.AfterLaws.{accepted-new}
use Rattle.engine.proofs.StepLaws.{every_step}
use Rattle.engine.proofs.PortLaws.{leaves_ports, ports-left}
use Rattle.engine.proofs.GrowthLaws.{chain_in, chain-newer}
use Rattle.receiving.specs.Received.{listing_in}

-- ---- newer blocks

lines-newer : (S : Settings) (newer c : Chain Content) → (more : Lines) × (lines_of S (newer ++ c) ≡ lines_of S c ++ more)
unfolding lines_of
lines-newer S [] c = ([], sym (append-nil (lines_of S c)))
lines-newer S (b ∷ newer) c =
    let m = lines-newer S newer c in
    let k = content_places (length (newer ++ c) + 1) b.round (ordered S b (newer ++ c)) in
    (m.0 ++ k, ap (λ (l : Lines). l ++ k) m.1 ∙ append_assoc (lines_of S c) m.0 k)

listing-newer : (S : Settings) (newer c : Chain Content) → (more : List ℕ) × (chain_lines S (newer ++ c) ≡ chain_lines S c ++ more)
unfolding chain_lines
listing-newer S [] c = ([], sym (append-nil (chain_lines S c)))
listing-newer S (b ∷ newer) c =
    let m = listing-newer S newer c in
    let k = content_lines (length (newer ++ c) + 1) b.round (ordered S b (newer ++ c)) in
    (m.0 ++ k, ap (λ (l : List ℕ). l ++ k) m.1 ∙ append_assoc (chain_lines S c) m.0 k)

-- ---- an accepted call that leaves ports

module _ (e : Engine) (low : SetInRange e) (c : Call) (i : InRange c) (o : NoOpen e c) (same : (after e c).state.settings ≡ e.state.settings) where
  abbrev S : Settings
  S = e.state.settings

  abbrev newer : Chain Content
  newer = (chain-newer e low c i o).0

  chain-then : chain_in (after e c) ≡ newer ++ chain_in e
  chain-then = (chain-newer e low c i o).1

  listing-grows : (more : List ℕ) × (listing_in (after e c) ≡ listing_in e ++ more)
  listing-grows = let m = listing-newer S newer (chain_in e) in (m.0, ap₂ chain_lines same chain-then ∙ m.1)

  lines_grow : (more : Lines) × (placed_lines (after e c).state.settings (after e c).table (after e c).state.blocks ≡ placed_lines S e.table e.state.blocks ++ more)
  lines_grow = let m = lines-newer S newer (chain_in e) in (m.0, ap₂ lines_of same chain-then ∙ m.1)

  module _ (w : well_formed e.state e.table ≡ true) (h : leaves_ports c ≡ true) (a : refusal_for e c ≡ 0) (g : ℕ) (guest : g < 8) where
    word-stays : (j : ℕ) → j < 8 → port_word (after e c).table g j ≡ port_word e.table g j
    word-stays j l = ap (λ (d : Engine). port_word d.table g j) (accepted-new e c a) ∙ (ports-left e c h a).words g j guest l

    port-stays : port_at (after e c).state (after e c).table g ≡ port_at e.state e.table g
    port-stays =
        let m = lines_grow in
        let u = (after e c).table in
        let b = (after e c).state.blocks in
        ap (λ (T : Settings). port_in T u b g) same
        ∙ port-grown S e.table e.state.blocks g (port-opened e.state e.table w g guest) m.0 u b word-stays (ap (λ (T : Settings). placed_lines T u b) (sym same) ∙ m.1)

-- ---- of an engine that calls lead to

module _ (e : Engine) (k : Intact e) (c : Call) (h : leaves_ports c ≡ true) (i : InRange c) (a : refusal_for e c ≡ 0) where
  no_open : NoOpen e c
  no_open own sheet q z = true≢false (sym h ∙ ap leaves_ports q)

  same_settings : (after e c).state.settings ≡ e.state.settings
  same_settings = go (every_step e k.good.small c i)
    where
      go : Step e c → (after e c).state.settings ≡ e.state.settings
      go (refused n z) = absurd (n a)
      go (opened own sheet q b f) = absurd (no_open own sheet q b)
      go (moved b w n) = n.same_settings

  pub listing-more : (more : List ℕ) × (listing_in (after e c) ≡ listing_in e ++ more)
  listing-more = listing-grows e k.good.small c i no_open same_settings

  pub port-same : (g : ℕ) → g < 8 → port_at (after e c).state (after e c).table g ≡ port_at e.state e.table g
  port-same = port-stays e k.good.small c i no_open same_settings k.good.formed h a
