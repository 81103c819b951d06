-- Laws of the words of a list, one part after another.
use Rattle.std.proofs.Common.{◌≡◌, ℕ, ◌<◌, ◌≤◌, ◌⊎◌, inl, inr, get_or, List, [], ◌∷◌, ◌++◌, length, refl, ap, ◌∙◌, sym, append_assoc, append-nil, length-append, arith}
use Rattle.std.proofs.lemmas.Bool.{cases_lt}
use Rattle.std.proofs.Math.Seq.{get_or-append_seam}
use Rattle.std.proofs.lemmas.List.{get_or_append_left}
use Rattle.batching.specs.declared.rows.CertificateRecord.{CertificateRecord}
use Rattle.batching.specs.Rows.{record_words}
use Rattle.replaying.specs.declared.calls.Entry.{Entry}
use Rattle.replaying.specs.Lists.{rows_words, entry_words, entries_words}

rows_last : (l : List CertificateRecord) (e : CertificateRecord) → rows_words (l ++ e ∷ []) ≡ rows_words l ++ record_words e
unfolding rows_words
rows_last [] e = append-nil (record_words e)
rows_last (x ∷ l) e = ap (λ w. record_words x ++ w) (rows_last l e) ∙ sym (append_assoc (record_words x) (rows_words l) (record_words e))

-- no certificate
pub rows_none : (w : List ℕ) → w ≡ rows_words [] ++ w
unfolding rows_words
rows_none w = refl

-- one certificate more
pub rows_more : (w : List ℕ) (l : List CertificateRecord) (e : CertificateRecord) (r s : List ℕ) → w ≡ rows_words l ++ r → r ≡ record_words e ++ s → w ≡ rows_words (l ++ e ∷ []) ++ s
rows_more w l e r s h k = rw (h, k, rows_last l e) (sym (append_assoc (rows_words l) (record_words e) s))

entries_last : (l : List Entry) (e : Entry) → entries_words (l ++ e ∷ []) ≡ entries_words l ++ entry_words e
unfolding entries_words
entries_last [] e = append-nil (entry_words e)
entries_last (x ∷ l) e = ap (λ w. entry_words x ++ w) (entries_last l e) ∙ sym (append_assoc (entry_words x) (entries_words l) (entry_words e))

-- no call
pub entries_none : (w : List ℕ) → w ≡ entries_words [] ++ w
unfolding entries_words
entries_none w = refl

-- one call more
pub entries_more : (w : List ℕ) (l : List Entry) (e : Entry) (r s : List ℕ) → w ≡ entries_words l ++ r → r ≡ entry_words e ++ s → w ≡ entries_words (l ++ e ∷ []) ++ s
entries_more w l e r s h k = rw (h, k, entries_last l e) (sym (append_assoc (entries_words l) (entry_words e) s))

-- what holds of each
pub all_more : {A : Type 0} (P : A → Type 0) (l : List A) (e : A) → ((k : ℕ) (d : A) → k < length l → P (get_or l k d)) → P e → (k : ℕ) (d : A) → k < length (l ++ e ∷ []) → P (get_or (l ++ e ∷ []) k d)
all_more P l e h w k d b = go (cases_lt k (length l))
  where
    go : (k < length l) ⊎ (length l ≤ k) → P (get_or (l ++ e ∷ []) k d)
    go (inl a) = rw (get_or_append_left l (e ∷ []) d k a) (h k d a)
    go (inr a) =
        let q : k ≡ length l = omega (arith, b, length-append l (e ∷ [])) in
        rw (q, get_or-append_seam l e [] d) w

-- fewer words are left behind a call
pub entry_shorter : (e : Entry) (r s : List ℕ) → r ≡ entry_words e ++ s → length s < length r
entry_shorter e r s h = rw (h, length-append (entry_words e) s) (omega arith)
