-- A byte of a line that was put from the start of a buffer on.
use Rattle.std.proofs.Common.{◌≡◌, ap, ◌∙◌, List, ℕ, ◌+◌, ◌<◌, ◌≤◌, arith, length, get_or, drop}
use Rattle.base.proofs.Words.{get_or-append, sets-eq}
use Rattle.base.specs.Puts.{Puts}

pub byte_put : {t : List ℕ} {u : List ℕ} {v : ℕ} {l : List ℕ} (j : ℕ) → Puts t u 0 v l 141 → 141 ≤ length t → j < length l → get_or u j 0 ≡ get_or l j 0
byte_put {t} {u} {v} {l} j p h k =
    ap (λ (x : List ℕ). get_or x j 0) (p.bytes ∙ sets-eq l t 0 (omega (arith, p.room)))
    ∙ get_or-append l (drop (0 + length l) t) 0 j k
