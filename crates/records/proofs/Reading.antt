-- What the loop, the cycle and the field reader rest on.
use Rattle.std.proofs.Common.{◌≡◌, ℕ, zero, suc, ◌-◌, ◌++◌, sym, ap, set, append-nil, append_assoc, add-one, ◌+◌, ◌<◌, ◌≤◌, Bool, true, false, not, List, [], ◌∷◌, length, length-drop, take, drop, refl, ◌∙◌, arith, cond, ltb, Option, None, Some, ltb-true, ltb-false}
use Rattle.std.proofs.Math.Seq.{take-suc-set, take_all}
use Rattle.std.specs.List.{position, position_or_len, prefix_len, onto_first}
use Rattle.std.proofs.lemmas.List.Splits.{slice_split_first}
use Rattle.terms.specs.declared.Transaction.{Transaction}
use Rattle.terms.specs.declared.Body.{Body}
use Rattle.terms.specs.Bodies.{body_of, push}
use Rattle.terms.specs.Proposals.{bare_body}
use Rattle.terms.proofs.BodyLaws.{push-body}
use Rattle.terms.specs.declared.sheet.Setting.{Setting}
use Rattle.std.specs.Option.{option_map}
use Rattle.records.specs.Fields.{fields_of, is_comma, first_by, other_fields, Reads}
use Rattle.records.specs.Settings.{setting_in, weights_in}
use Rattle.records.specs.Triples.{push_all}

-- the bytes that are left of a record, each field's comma or end counted
abbrev pub bytes_left : List (List ℕ) → ℕ
bytes_left [] = 0
bytes_left (f ∷ fs) = length f + 1 + bytes_left fs

-- the first field ends at the first comma
fields-to_end : (s : List ℕ) → length s ≤ prefix_len (λ b. not (is_comma b)) s → fields_of s ≡ s ∷ []
fields-to_end [] h = refl
fields-to_end (x ∷ s) h = go (is_comma x) refl h (λ k. fields-to_end s k)
  where
    go : (b : Bool) → is_comma x ≡ b → length (x ∷ s) ≤ cond (not b) (1 + prefix_len (λ b. not (is_comma b)) s) 0 → (length s ≤ prefix_len (λ b. not (is_comma b)) s → fields_of s ≡ s ∷ []) → cond b ([] ∷ fields_of s) (onto_first x (fields_of s)) ≡ (x ∷ s) ∷ []
    go true q h f = absurd (omega arith)
    go false q h f = rw (f (omega arith)) refl

pub fields_none : (s : List ℕ) → position is_comma s ≡ None → fields_of s ≡ s ∷ []
fields_none s e = go (ltb (position_or_len is_comma s) (length s)) refl e
  where
    go : (b : Bool) → ltb (position_or_len is_comma s) (length s) ≡ b → cond b (Some (position_or_len is_comma s)) None ≡ None → fields_of s ≡ s ∷ []
    go true q e = cc
    go false q e = fields-to_end s (ltb-false _ _ q)

fields_some-drop : (s : List ℕ) (i : ℕ) → position is_comma s ≡ Some i → fields_of s ≡ take i s ∷ fields_of (drop (i + 1) s)
fields_some-drop s i e = go (ltb (position_or_len is_comma s) (length s)) refl e
  where
    go : (b : Bool) → ltb (position_or_len is_comma s) (length s) ≡ b → cond b (Some (position_or_len is_comma s)) None ≡ Some i → fields_of s ≡ take i s ∷ fields_of (drop (i + 1) s)
    go true q e =
        let at : position_or_len is_comma s ≡ i = cc in
        slice_split_first is_comma s 0 (ltb-true _ _ q) ∙ rw at refl
    go false q e = cc

-- the part of s from n on, as code reads it
tail_all : (n : ℕ) (s : List ℕ) → take (length s - n) (drop n s) ≡ drop n s
tail_all n s = take_all (length s - n) (drop n s) (omega (arith, length-drop n s))

pub fields_some : (s : List ℕ) (i : ℕ) → position is_comma s ≡ Some i → fields_of s ≡ take i s ∷ fields_of (take (length s - (i + 1)) (drop (i + 1) s))
fields_some s i e = rw (tail_all (i + 1) s) (fields_some-drop s i e)

-- a field that was read leaves fewer bytes, and one field fewer
pub record Fewer (old new : List (List ℕ)) : Type 0 where
  pub bytes : bytes_left new < bytes_left old
  pub fields : length new + 1 ≡ length old

pub reads_fewer : {A : Type 0} {p : List ℕ → Option A} {old new : List (List ℕ)} {r : Option A} (x : A) → Reads p old r new → r ≡ Some x → Fewer old new
reads_fewer {old = []} x h e = let v = h.value in cc
reads_fewer {old = f ∷ fs} x h e = rw h.left (record { bytes = omega arith; fields = omega arith })

-- one transaction more is counted
pub count_push : (b : Body) (x : Transaction) → (push b x).count ≡ b.count + 1
unfolding push
count_push b x = refl

-- transactions pushed one by one make the body of them all
push_all-body_of : (p : ℕ) (l m : List Transaction) → push_all (body_of p l) m ≡ body_of p (l ++ m)
push_all-body_of p l [] = ap (body_of p) (sym (append-nil l))
push_all-body_of p l (x ∷ m) = rw (push-body p l x) (push_all-body_of p (l ++ (x ∷ [])) m ∙ ap (body_of p) (append_assoc l (x ∷ []) m))

pub map_push_all : (p : ℕ) (o : Option (List Transaction)) → option_map (push_all (bare_body p)) o ≡ option_map (body_of p) o
unfolding body_of
map_push_all p None = refl
map_push_all p (Some l) = ap Some (push_all-body_of p [] l)

-- weights are read one by one: those before the i-th are in `weights`, and the fields fs are left
abbrev pub all_weights : List Setting → ℕ → List (List ℕ) → Option (List Setting)
all_weights weights i fs = option_map (λ l. take i weights ++ l) (weights_in (16 - i) fs)

pub all_weights-next : (weights : List Setting) (i : ℕ) (fs : List (List ℕ)) (x : Setting) → i < 16 → length weights ≡ 16 → first_by setting_in fs ≡ Some x
    → all_weights weights i fs ≡ all_weights (set weights i x) (i + 1) (other_fields fs)
unfolding weights_in
all_weights-next weights i fs x h k e =
    let n : 16 - i ≡ suc (16 - (i + 1)) = omega arith in
    let q : i < length weights = omega arith in
    rw (n, e, add-one i, take-suc-set weights i x q) (go (weights_in (16 - suc i) (other_fields fs)))
  where
    go : (o : Option (List Setting)) → option_map (λ l. take i weights ++ l) (option_map (λ l. x ∷ l) o) ≡ option_map (λ l. (take i weights ++ (x ∷ [])) ++ l) o
    go None = refl
    go (Some l) = ap Some (sym (append_assoc (take i weights) (x ∷ []) l))

pub all_weights-none : (weights : List Setting) (i : ℕ) (fs : List (List ℕ)) → i < 16 → first_by setting_in fs ≡ None → all_weights weights i fs ≡ None
unfolding weights_in
all_weights-none weights i fs h e =
    let n : 16 - i ≡ suc (16 - (i + 1)) = omega arith in
    rw (n, e) refl

pub all_weights_end : (weights : List Setting) (fs : List (List ℕ)) → length weights ≡ 16 → all_weights weights 16 fs ≡ Some weights
unfolding weights_in
all_weights_end weights fs h = ap Some (append-nil (take 16 weights) ∙ take_all 16 weights (omega arith))

-- a record has few fields
onto-first-length : (x : ℕ) (l : List (List ℕ)) (n : ℕ) → length l ≤ n → 0 < n → length (onto_first x l) ≤ n
onto-first-length x [] n h k = omega arith
onto-first-length x (f ∷ fs) n h k = h

pub fields_few : (s : List ℕ) → length (fields_of s) ≤ length s + 1
fields_few [] = omega arith
fields_few (x ∷ s) = go (is_comma x) (fields_few s)
  where
    go : (b : Bool) → length (fields_of s) ≤ length s + 1 → length (cond b ([] ∷ fields_of s) (onto_first x (fields_of s))) ≤ suc (length s) + 1
    go true h = omega arith
    go false h = onto-first-length x (fields_of s) (suc (length s) + 1) (omega arith) (omega arith)

pub other_fields-drop : (i : ℕ) (fs : List (List ℕ)) → other_fields (drop i fs) ≡ drop (i + 1) fs
other_fields-drop zero [] = refl
other_fields-drop zero (f ∷ fs) = refl
other_fields-drop (suc i) [] = rw (add-one (suc i)) refl
other_fields-drop (suc i) (f ∷ fs) = other_fields-drop i fs ∙ rw (add-one (suc i), add-one i) refl
