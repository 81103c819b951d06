-- Ports stay well formed under what calls write.
use Rattle.std.proofs.Common.{◌≡◌, refl, sym, ◌∙◌, true, false, ◌&&◌, List, ℕ, ◌+◌, ◌*◌, ◌/◌, ◌%◌, ◌<◌, ◌≤◌, arith, eqb, eq-eqb, ne_eqb, get_or}
use Rattle.base.proofs.Words.{false≢true, ℕ_discrete}
use Rattle.terms.specs.Proposals.{Content}
use Rattle.store.specs.Table.{Within, held_at, mark_at, content_at, block_round}
use Rattle.store.specs.Writes.{put_certificate, clear_used}
use Rattle.store.proofs.WriteLaws.{same_place}
use Rattle.store.proofs.EndorseLaws.{OnlyEndorsed, held-endorse, mark-endorse, content-endorse, block-round-endorse}
use Rattle.store.proofs.FirstRow.{OnlyFirst, SameFirst, cleared-first, held-only, mark-only, content-only, block-round-only}
use Rattle.store.proofs.PutLaws.{held-put, mark-kept, content-kept, block-round-put}
use Rattle.ports.specs.Places.{line_at}
use Rattle.ports.specs.Next.{LinePlace}
use Rattle.ports.specs.Ports.{port_word}
use Rattle.ports.proofs.KeptLaws.{PortsKept}

-- a certificate in a block, its mark and its block's round stay
pub record Stays (t u : List ℕ) (p : ℕ) : Type 0 where
  pub held : held_at u (p % 16) (p / 16) ≡ held_at t (p % 16) (p / 16)
  pub mark : mark_at u (p % 16) (p / 16) ≡ mark_at t (p % 16) (p / 16)
  pub content : content_at u (p % 16) (p / 16) ≡ content_at t (p % 16) (p / 16)
  pub round : block_round u (mark_at t (p % 16) (p / 16)) ≡ block_round t (mark_at t (p % 16) (p / 16))

module _ (t u : List ℕ) (n k c : ℕ) (grows : k ≤ c) (f : (p : ℕ) → LinePlace t n k p → Stays t u p) where
  place-stays : (p : ℕ) → LinePlace t n k p → LinePlace u n c p
  place-stays p x = let y = f p x in record { from = x.from; to = x.to; held = y.held ∙ x.held; mark_from = omega (arith, y.mark, x.mark_from); mark_to = omega (arith, y.mark, x.mark_to) }

  line_stays : (p : ℕ) → LinePlace t n k p → line_at u (p % 16) (p / 16) ≡ line_at t (p % 16) (p / 16)
  unfolding line_at
  line_stays p x = let y = f p x in rw (y.mark, y.round, y.content) refl

  pub kept_by : ((g i : ℕ) → g < 8 → i < 8 → port_word u g i ≡ port_word t g i) → PortsKept t u n k c
  kept_by w = record { words = w; places = place-stays; lines = line_stays }

-- row 0 stays
pub first-words : (t u : List ℕ) → SameFirst t u → (g i : ℕ) → g < 8 → i < 8 → port_word u g i ≡ port_word t g i
unfolding port_word
first-words t u s g i a b = s (16 + g * 32 + i) (omega arith)

-- a mark of endorsement
pub endorse-ports : {q : ℕ} {t : List ℕ} {u : List ℕ} (n k : ℕ) → OnlyEndorsed q t u → SameFirst t u → PortsKept t u n k k
endorse-ports {q} {t} {u} n k o s =
    kept_by t u n k k (omega arith)
    (λ p x. record { held = held-endorse o (p % 16) (p / 16); mark = mark-endorse o (p % 16) (p / 16) (omega arith); content = content-endorse o (p % 16) (p / 16) (omega arith); round = block-round-endorse o (mark_at t (p % 16) (p / 16)) })
    (first-words t u s)

-- another row 0, with the words of ports as they were
pub first-ports : {t : List ℕ} {u : List ℕ} (n k : ℕ) → OnlyFirst t u → ((g i : ℕ) → g < 8 → i < 8 → port_word u g i ≡ port_word t g i) → PortsKept t u n k k
first-ports {t} {u} n k o w =
    kept_by t u n k k (omega arith)
    (λ p x. let r : 0 < p / 16 = omega (arith, x.from) in record { held = held-only o (p % 16) (p / 16) r; mark = mark-only o (p % 16) (p / 16) r; content = content-only o (p % 16) (p / 16) r; round = block-round-only o (mark_at t (p % 16) (p / 16)) x.mark_from })
    w

-- a certificate put at a place that is free
module _ (t : List ℕ) (p : Content) (d : ℕ) (w : Within t p.author p.round) (free : held_at t p.author p.round ≡ false) where
  -- a place that is held is another one
  elsewhere : (m r : ℕ) → held_at t m r ≡ true → same_place m r p.author p.round ≡ false
  elsewhere m r h = go (ℕ_discrete m p.author) (ℕ_discrete r p.round)
    where
      go : Dec (m ≡ p.author) → Dec (r ≡ p.round) → (eqb m p.author && eqb r p.round) ≡ false
      go (yes a) (yes b) = absurd (false≢true (sym free ∙ rw (a, b) at h))
      go (yes a) (no b) = rw (eq-eqb m p.author a, ne_eqb r p.round b) refl
      go (no a) b = rw (ne_eqb m p.author a) refl

  pub put-ports : (n k : ℕ) → SameFirst t (put_certificate t p d) → PortsKept t (put_certificate t p d) n k k
  put-ports n k s =
      kept_by t (put_certificate t p d) n k k (omega arith)
      (λ q x.
      let e = elsewhere (q % 16) (q / 16) x.held in
      record {
        held = held-put t p d w (q % 16) (q / 16) ∙ rw e refl;
        mark = mark-kept t p d w (q % 16) (q / 16) (omega arith) e;
        content = content-kept t p d w (q % 16) (q / 16) (omega arith) e;
        round = block-round-put t p d w (mark_at t (q % 16) (q / 16));
      })
      (first-words t (put_certificate t p d) s)

-- the words of ports are those before the queues
pub before-words : (t u : List ℕ) → ((h i : ℕ) → h < 8 → i < 8 → get_or u (16 + h * 32 + i) 0 ≡ get_or t (16 + h * 32 + i) 0) → (h i : ℕ) → h < 8 → i < 8 → port_word u h i ≡ port_word t h i
unfolding port_word
before-words t u f = f

-- all 0 in a cleared table
pub cleared-words : (t : List ℕ) (n h i : ℕ) → h < 8 → i < 8 → port_word (clear_used t n) h i ≡ 0
unfolding port_word
cleared-words t n h i a b = cleared-first t n (16 + h * 32 + i) (omega arith)
