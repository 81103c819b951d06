-- What a table tells of ports and queues after the words of a port are put: the port is that one, all others and all queues are as they were.
use Rattle.std.proofs.Common.{◌≡◌, refl, ap, true, ◌&&◌, List, ◌≢◌, ℕ, ◌+◌, ◌*◌, ◌<◌, ◌≤◌, arith, leb, length, get_or, le-leb}
use Rattle.base.proofs.Words.{ℕ_discrete, dec_lt}
use Rattle.base.proofs.PasteLaws.{paste-below, paste-inside, paste-above}
use Rattle.base.proofs.TestLaws.{all-at, all_hold}
use Rattle.terms.specs.declared.sheet.Settings.{Settings}
use Rattle.store.specs.Table.{Row}
use Rattle.store.proofs.FirstRow.{OnlyFirst, only-paste}
use Rattle.committee.specs.Chain.{chain_of}
use Rattle.queues.specs.Words.{served_word, waiting_count, place_start}
use Rattle.queues.proofs.WordLaws.{SameQueues}
use Rattle.listing.specs.Listing.{chain_lines}
use Rattle.ports.specs.Places.{lines_of}
use Rattle.ports.proofs.PlaceLaws.{text_lines}
use Rattle.ports.proofs.OnceLaws.{once-chain}
use Rattle.ports.proofs.BackLaws.{count-back}
use Rattle.ports.specs.Uart.{Port, registers_fit}
use Rattle.ports.specs.Ports.{port_start, port_word, listing_of, placed_lines, port_in, port_fits, ports_fit, port_words, put_port}
use Rattle.state.proofs.FirstRow.{chain-only}

module _ (S : Settings) (t : List ℕ) (blocks g : ℕ) (row : Row t 0) (guest : g < 8) (p : Port) where
  abbrev u : List ℕ
  u = put_port S t blocks g p

  pub only-put : OnlyFirst t u
  unfolding put_port port_words
  only-put = only-paste t (port_start g) (port_words (placed_lines S t blocks) p) 8 (omega arith) (omega arith) (omega arith)

  -- ---- words

  word_below : (i : ℕ) → i < port_start g → get_or u i 0 ≡ get_or t i 0
  unfolding put_port port_words
  word_below i h = paste-below t (port_start g) (port_words (placed_lines S t blocks) p) 8 (omega arith) refl i h

  word-above : (i : ℕ) → port_start g + 8 ≤ i → get_or u i 0 ≡ get_or t i 0
  unfolding put_port port_words
  word-above i h = paste-above t (port_start g) (port_words (placed_lines S t blocks) p) 8 (omega arith) refl i h

  word-inside : (k : ℕ) → k < 8 → port_word u g k ≡ get_or (port_words (placed_lines S t blocks) p) k 0
  unfolding put_port port_words port_word
  word-inside k h = paste-inside t (port_start g) (port_words (placed_lines S t blocks) p) 8 (omega arith) refl k h

  -- word i of stretch h, of 32 words from 16 on, where it is no word of the port
  word-other : (h i : ℕ) → i < 32 → (h ≡ g → 8 ≤ i) → get_or u (16 + h * 32 + i) 0 ≡ get_or t (16 + h * 32 + i) 0
  word-other h i l n = go (dec_lt h g) (ℕ_discrete h g)
    where
      go : Dec (h < g) → Dec (h ≡ g) → get_or u (16 + h * 32 + i) 0 ≡ get_or t (16 + h * 32 + i) 0
      go (yes a) b = word_below (16 + h * 32 + i) (omega arith)
      go (no a) (yes b) = let c = n b in word-above (16 + h * 32 + i) (omega arith)
      go (no a) (no b) = word-above (16 + h * 32 + i) (omega arith)

  port-other : (h i : ℕ) → i < 8 → h ≢ g → port_word u h i ≡ port_word t h i
  unfolding port_word
  port-other h i l n = word-other h i (omega arith) (λ e. absurd (n e))

  -- ---- the listing

  chain-put : chain_of S.ceiling u blocks ≡ chain_of S.ceiling t blocks
  chain-put = chain-only only-put S.ceiling blocks

  pub lines-put : placed_lines S u blocks ≡ placed_lines S t blocks
  lines-put = ap (lines_of S) chain-put

  pub listing-put : listing_of S u blocks ≡ listing_of S t blocks
  listing-put = ap (chain_lines S) chain-put

  -- ---- ports

  pub others_put : (h : ℕ) → h ≢ g → port_in S u blocks h ≡ port_in S t blocks h
  unfolding port_in
  others_put h n =
      rw (
        lines-put,
        port-other h 0 (omega arith) n,
        port-other h 1 (omega arith) n,
        port-other h 2 (omega arith) n,
        port-other h 3 (omega arith) n,
        port-other h 4 (omega arith) n,
        port-other h 5 (omega arith) n,
        port-other h 6 (omega arith) n,
        port-other h 7 (omega arith) n,
      )
      refl

  module _ (read : p.read ≤ length (listing_of S t blocks)) where
    pub port-back : port_in S u blocks g ≡ p
    unfolding port_in port_words
    port-back =
        rw (
          lines-put,
          word-inside 0 (omega arith),
          word-inside 1 (omega arith),
          word-inside 2 (omega arith),
          word-inside 3 (omega arith),
          word-inside 4 (omega arith),
          word-inside 5 (omega arith),
          word-inside 6 (omega arith),
          word-inside 7 (omega arith),
          count-back (placed_lines S t blocks) (once-chain S t blocks) p.read (omega (arith, read, ap length (text_lines S (chain_of S.ceiling t blocks)))),
        )
        refl

    -- all ports fit, where they did and this one does
    pub fits-put : ports_fit S t blocks ≡ true → registers_fit p ≡ true → ports_fit S u blocks ≡ true
    unfolding ports_fit port_fits
    fits-put f r = all_hold (port_fits S u blocks) 8 (λ h l. go h l (ℕ_discrete h g))
      where
        go : (h : ℕ) → h < 8 → Dec (h ≡ g) → (leb (port_in S u blocks h).read (length (listing_of S u blocks)) && registers_fit (port_in S u blocks h)) ≡ true
        go h l (yes e) = rw (e, port-back, listing-put, le-leb p.read (length (listing_of S t blocks)) read) r
        go h l (no n) = rw (others_put h n, listing-put) (all-at (port_fits S t blocks) 8 h l f)

  -- ---- queues

  pub queues-put : SameQueues t u
  unfolding served_word waiting_count
  queues-put =
      record {
        served = word_below 0 (omega arith);
        each = λ h l. record { count = word_below (1 + h) (omega arith); places = λ k i m o. let e : place_start h k + i ≡ 16 + h * 32 + (8 + k * 3 + i) = omega arith in rw e (word-other h (8 + k * 3 + i) (omega arith) (λ z. omega arith)) };
      }
