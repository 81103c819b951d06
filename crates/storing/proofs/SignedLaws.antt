-- Laws of what is signed: put piece by piece.
use Rattle.std.proofs.Common.{◌≡◌, refl, ap, ap₂, sym, ◌∙◌, List, [], ◌∷◌, ◌++◌, append_assoc, ℕ, ◌+◌, ◌*◌, ◌/◌, ◌%◌, ◌≤◌, arith, length, length-append}
use Rattle.std.proofs.Math.Seq.{paste}
use Rattle.base.specs.Parts.{part}
use Rattle.base.proofs.PasteLaws.{paste-whole, length_part}
use Rattle.terms.specs.declared.Proposal.{Proposal}
use Rattle.words.specs.Bodies.{body_words}
use Rattle.words.specs.Lengths.{state_length}
use Rattle.words.specs.Words.{word}
use Rattle.words.proofs.BodyLaws.{length-body}
use Rattle.words.proofs.PasteLaws.{paste-append}
use Rattle.storing.specs.Bytes.{bytes_of}
use Rattle.storing.specs.Signed.{settings_words, run_digest, proposal_words, message}
use Rattle.storing.proofs.ByteLaws.{length-bytes_of, bytes_of-append}
use Rattle.storing.proofs.StoredLaws.{length-sha256}

-- two stretches that cover a list, the second behind the first
whole : (z x y : List ℕ) (n m : ℕ) → length x ≡ n → length y ≡ m → length z ≡ n + m → paste (paste z 0 x n) n y m ≡ x ++ y
whole z x y n m hx hy hz =
    let e : n ≡ 0 + n = omega arith in
    ap (λ (i : ℕ). paste (paste z 0 x n) i y m) e
    ∙ paste-append z 0 x y n m hx (omega arith)
    ∙ paste-whole z (x ++ y) (n + m) hz (length-append x y ∙ ap₂ (λ (i j : ℕ). i + j) hx hy)

-- the settings, and what stands behind them
pub settings_put : (w z : List ℕ) (low high : ℕ) → state_length ≤ length w → length z ≡ 22
    → paste (paste z 0 (part w 1 19) (length (part w 1 19))) 19 (word w 37 ∷ low ∷ high ∷ []) 3 ≡ settings_words w ++ low ∷ high ∷ []
settings_put w z low high h l =
    let n : length (part w 1 19) ≡ 19 = length_part w 1 19 (omega arith) in
    ap (λ (k : ℕ). paste (paste z 0 (part w 1 19) k) 19 (word w 37 ∷ low ∷ high ∷ []) 3) n
    ∙ whole z (part w 1 19) (word w 37 ∷ low ∷ high ∷ []) 19 3 n refl l
    ∙ sym (append_assoc (part w 1 19) (word w 37 ∷ []) (low ∷ high ∷ []))

pub length-sixteen_words : (p : Proposal) → length (proposal_words p) ≡ 16
unfolding proposal_words
length-sixteen_words p = length-append (p.author.0 ∷ p.round ∷ []) (body_words p.body) ∙ ap (λ (k : ℕ). 2 + k) (length-body p.body)

pub proposal_put : (p : Proposal) (z : List ℕ) → length z ≡ 16
    → paste (paste z 0 (p.author.0 ∷ p.round ∷ []) 2) 2 (body_words p.body) 14 ≡ proposal_words p
unfolding proposal_words
proposal_put p z l = whole z (p.author.0 ∷ p.round ∷ []) (body_words p.body) 2 14 refl (length-body p.body) l

-- all of a list of as many bytes
pub all_put : (x z : List ℕ) → length z ≡ 4 * length x → paste z 0 (bytes_of x) (4 * length x) ≡ bytes_of x
all_put x z l = paste-whole z (bytes_of x) (4 * length x) l (length-bytes_of x)

pub length-run_digest : (w : List ℕ) (run : ℕ) → length (run_digest w run) ≡ 32
unfolding run_digest
length-run_digest w run = length-sha256 (bytes_of (settings_words w ++ run % 4294967296 ∷ run / 4294967296 ∷ []))

pub length-message : (mark : ℕ) (w : List ℕ) (run : ℕ) (x : List ℕ) → length (message mark w run x) ≡ 36 + 4 * length x
unfolding message
length-message mark w run x =
    length-append (bytes_of (mark ∷ []) ++ run_digest w run) (bytes_of x)
    ∙ ap₂ (λ (i j : ℕ). i + j) (length-append (bytes_of (mark ∷ [])) (run_digest w run) ∙ ap₂ (λ (i j : ℕ). i + j) (length-bytes_of (mark ∷ [])) (length-run_digest w run)) (length-bytes_of x)

-- mark, run and words, one after the other
pub message_put : (mark : ℕ) (w : List ℕ) (run : ℕ) (p : Proposal) (b : List ℕ) → 100 ≤ length b
    → paste (paste (paste b 0 (bytes_of (mark ∷ [])) 4) 4 (run_digest w run) 32) 36 (bytes_of (proposal_words p)) 64 ≡ paste b 0 (message mark w run (proposal_words p)) 100
unfolding message
message_put mark w run p b h =
    let x = bytes_of (mark ∷ []) in
    let y = run_digest w run in
    let z = bytes_of (proposal_words p) in
    let lx : length x ≡ 4 = length-bytes_of (mark ∷ []) in
    let lxy : length (x ++ y) ≡ 36 = length-append x y ∙ ap₂ (λ (i j : ℕ). i + j) lx (length-run_digest w run) in
    ap (λ (v : List ℕ). paste v 36 z 64) (paste-append b 0 x y 4 32 lx (omega arith))
    ∙ paste-append b 0 (x ++ y) z 36 64 lxy (omega arith)

-- the endorsers behind them
pub endorsers_put : (mark : ℕ) (w : List ℕ) (run : ℕ) (p : Proposal) (d : ℕ) (b : List ℕ) → 104 ≤ length b
    → paste (paste b 0 (message mark w run (proposal_words p)) 100) 100 (bytes_of (d ∷ [])) 4 ≡ paste b 0 (message mark w run (proposal_words p ++ d ∷ [])) 104
unfolding message
endorsers_put mark w run p d b h =
    let x = bytes_of (mark ∷ []) ++ run_digest w run in
    let y = bytes_of (proposal_words p) in
    let z = bytes_of (d ∷ []) in
    let l : length (message mark w run (proposal_words p)) ≡ 100 = length-message mark w run (proposal_words p) ∙ ap (λ (k : ℕ). 36 + 4 * k) (length-sixteen_words p) in
    paste-append b 0 (x ++ y) z 100 4 l (omega arith)
    ∙ ap (λ (v : List ℕ). paste b 0 v 104) (append_assoc x y z ∙ ap (λ (v : List ℕ). x ++ v) (sym (bytes_of-append (proposal_words p) (d ∷ []))))
