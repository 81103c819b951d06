-- Laws of linked places: how one more place is linked, going down.
use Rattle.std.proofs.Common.{◌≡◌, sym, ◌∙◌, List, ℕ, ◌+◌, ◌*◌, ◌/◌, ◌%◌, ◌<◌, ◌≤◌, arith, get_or, length, replicate}
use Rattle.base.proofs.Words.{false≢true, dec_lt, length-replicate, get_or-replicate}
use Rattle.base.proofs.UnionLaws.{in_none}
use Rattle.store.specs.Table.{held_set}
use Rattle.store.proofs.TableLaws.{held_in}
use Rattle.chain_committees.specs.Links.{Marked, First, Links}

-- nothing linked yet
pub links-start : (t next : List ℕ) (e : ℕ) → e ≤ length next → Links t e e (replicate 512 e) next
links-start t next e l =
    record {
      head_size = length-replicate 512 e;
      next_size = l;
      within = omega arith;
      heads = λ k h. rw (get_or-replicate 512 k e 0 h) (record { from = omega arith; to = omega arith; here = λ x. absurd (omega arith); skipped = λ i x y _. absurd (omega arith) });
      nexts = λ k p h x y _. absurd (omega arith);
    }

-- the first place from further down, where none of block k's lies between
first-down : {t : List ℕ} {k a e p : ℕ} (b : ℕ) → b ≤ a → ((i : ℕ) → b ≤ i → i < a → Marked t k i → ⊥) → First t k a e p → First t k b e p
first-down {t} {k} {a} {e} {p} b h n f = record { from = omega (arith, f.from); to = f.to; here = f.here; skipped = λ i x y z. go i x y z (dec_lt i a) }
  where
    go : (i : ℕ) → b ≤ i → i < p → Marked t k i → Dec (i < a) → ⊥
    go i x y z (yes d) = n i x d z
    go i x y z (no d) = f.skipped i (omega arith) y z

module _ {t head next : List ℕ} {e : ℕ} where
  -- more places, of no block
  links-more : {a : ℕ} (b : ℕ) → b ≤ a → ((k p : ℕ) → k < 512 → b ≤ p → p < a → Marked t k p → ⊥) → Links t a e head next → Links t b e head next
  links-more {a} b h n s =
      record {
        head_size = s.head_size;
        next_size = s.next_size;
        within = omega (arith, s.within);
        heads = λ k l. first-down b h (λ i x y z. n k i l x y z) (s.heads k l);
        nexts = λ k p l x y z. after k p l x y z (dec_lt p a);
      }
    where
      after : (k p : ℕ) → k < 512 → b ≤ p → p < e → Marked t k p → Dec (p < a) → First t k (p + 1) e (get_or next p 0)
      after k p l x y z (yes d) = absurd (n k p l x d z)
      after k p l x y z (no d) = s.nexts k p l (omega arith) y z

  -- a row without a held certificate
  pub links_empty : (r a : ℕ) → held_set t r ≡ 0 → a ≡ r * 16 → Links t (a + 16) e head next → Links t a e head next
  links_empty r a h i =
      links-more a (omega arith)
      (λ k p l x y z. let q : p / 16 ≡ r = omega arith in false≢true (sym (rw (held_in t (p % 16) r, h) (in_none (p % 16))) ∙ rw q at z.held))
