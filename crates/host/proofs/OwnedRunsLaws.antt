-- Laws of lists of owner's calls on several members' words and kept committees.
use Rattle.std.proofs.Common.{◌≡◌, ◌<◌, ℕ, Bool, true, false, eqb, List, ◌++◌, take, get_or, set, length, refl, sym, eqb-true}
use Rattle.std.proofs.Math.Seq.{take-append_seam}
use Rattle.std.proofs.lemmas.List.{get_or-set_other, length-set}
use Rattle.std.proofs.lemmas.Grind.{get_or-set_at}
use Rattle.base.proofs.Words.{eqb-false}
use Rattle.host.specs.declared.runs.Words.{Words}
use Rattle.host.specs.declared.owned_runs.Kept.{Kept}
use Rattle.host.specs.OwnedRuns.{OwnedWords, AllOwned}

-- one member's words and kept committees after its call
pub owned_more : (es : List Words) (ks : List Kept) (w : ℕ) (x : Words) (y : Kept) → AllOwned es ks → w < length es → w < length ks → OwnedWords x y.words.items → AllOwned (set es w x) (set ks w y)
owned_more es ks w x y s l m h i d e k = go (eqb i w) refl
  where
    go : (b : Bool) → eqb i w ≡ b → OwnedWords (get_or (set es w x) i d) (get_or (set ks w y) i e).words.items
    go true q =
        let p = eqb-true i w q in
        rw (p, get_or-set_at es w w x d refl l, get_or-set_at ks w w y e refl m) h
    go false q =
        let n = eqb-false i w q in
        rw (get_or-set_other es w i x d n, get_or-set_other ks w i y e n) (s i d e (rw (sym (length-set es w x)) k))

-- kept committees, put back into the room that they had
pub put_back : (x : Words) (n : ℕ) (k rest : List ℕ) → length k ≡ n → OwnedWords x k → OwnedWords x (take n (k ++ rest))
put_back x n k rest e h = rw (← e, take-append_seam k rest) h
