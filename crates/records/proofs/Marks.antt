-- A record that holds a quote mark, a CR or an LF is unreadable by its fields alone: no field that is read holds one.
use Rattle.std.proofs.Common.{◌≡◌, refl, sym, ◌∙◌, ℕ, zero, suc, Bool, true, false, cond, ◌||◌, ◌+◌, ◌*◌, ◌-◌, eqb, List, [], ◌∷◌, drop, codes, Option, None, Some, ◌⊎◌, inl, inr, eqb-true}
use Rattle.std.specs.Prelude.{if◌then◌else◌}
use Rattle.std.specs.Option.{option_map, option_and_then}
use Rattle.std.specs.List.{list_any, onto_first}
use Rattle.std.specs.Str.{bytes_eq}
use Rattle.std.specs.Char.{is_ascii_digit}
use Rattle.std.proofs.lemmas.Slice.Eq.{bytes_eq-Decides}
use Rattle.terms.specs.declared.Body.{Body}
use Rattle.terms.specs.declared.Transaction.{Transaction}
use Rattle.terms.specs.declared.sheet.Setting.{Setting}
use Rattle.records.specs.declared.Record.{Record}
use Rattle.records.specs.declared.Record.TheVariants.{Open, Propose, Endorse, Certify, Accept, Advance, Commit, Chain}
use Rattle.records.specs.declared.triples.Kind.{Kind}
use Rattle.records.specs.Fields.{fields_of, is_comma, next_by}
use Rattle.records.specs.Numbers.{at_most, digits_after, number_in, set_in}
use Rattle.records.specs.Settings.{setting_in, weights_in, last_setting}
use Rattle.records.specs.Triples.{kind_named, from_kind, from_number, from_amount, transaction_of}
use Rattle.records.specs.Records.{is_mark, is_damaged, proposal_of, ended_as, body_then, open_of, propose_of, endorse_of, certify_of, accept_of, named, by_fields}

-- one of these fields holds a mark
abbrev marked : List (List ℕ) → Bool
marked fs = list_any is_damaged fs

-- ---- the fields of a damaged record

comma_no_mark : (x : ℕ) → is_comma x ≡ true → is_mark x ≡ false
comma_no_mark x q = rw (eqb-true x 44 q) refl

marked-onto : (x : ℕ) (fs : List (List ℕ)) → marked (onto_first x fs) ≡ (is_mark x || marked fs)
marked-onto x [] = go (is_mark x)
  where
    go : (b : Bool) → ((b || false) || false) ≡ (b || false)
    go true = refl
    go false = refl
marked-onto x (f ∷ fs) = go (is_mark x) (is_damaged f) (marked fs)
  where
    go : (a b c : Bool) → ((a || b) || c) ≡ (a || (b || c))
    go true b c = refl
    go false b c = refl

pub marked_fields : (s : List ℕ) → marked (fields_of s) ≡ is_damaged s
marked_fields [] = refl
marked_fields (x ∷ s) = go (is_comma x) refl (marked_fields s)
  where
    go : (b : Bool) → is_comma x ≡ b → marked (fields_of s) ≡ is_damaged s → marked (cond b ([] ∷ fields_of s) (onto_first x (fields_of s))) ≡ (is_mark x || is_damaged s)
    go true q h = h ∙ rw (comma_no_mark x q) refl
    go false q h = marked-onto x (fields_of s) ∙ rw h refl

-- ---- fields that are read

-- p finds nothing in a field that holds a mark
abbrev Refuses : {A : Type 0} → (List ℕ → Option A) → Type 0
Refuses p = (f : List ℕ) → is_damaged f ≡ true → p f ≡ None

mark-cases : (b : ℕ) → is_mark b ≡ true → (b ≡ 34) ⊎ ((b ≡ 13) ⊎ (b ≡ 10))
mark-cases b h = go (eqb b 34) (eqb b 13) (eqb b 10) refl refl refl h
  where
    go : (p q r : Bool) → eqb b 34 ≡ p → eqb b 13 ≡ q → eqb b 10 ≡ r → ((p || q) || r) ≡ true → (b ≡ 34) ⊎ ((b ≡ 13) ⊎ (b ≡ 10))
    go true q r x y z h = inl (eqb-true b 34 x)
    go false true r x y z h = inr (inl (eqb-true b 13 y))
    go false false true x y z h = inr (inr (eqb-true b 10 z))
    go false false false x y z h = cc

mark_no_digit : (b : ℕ) → is_mark b ≡ true → is_ascii_digit b ≡ false
mark_no_digit b h = go (mark-cases b h)
  where
    go : (b ≡ 34) ⊎ ((b ≡ 13) ⊎ (b ≡ 10)) → is_ascii_digit b ≡ false
    go (inl e) = rw e refl
    go (inr (inl e)) = rw e refl
    go (inr (inr e)) = rw e refl

digits_refuse : (v : ℕ) (f : List ℕ) → is_damaged f ≡ true → digits_after v f ≡ None
digits_refuse v [] h = cc
digits_refuse v (b ∷ f) h = go (is_mark b) refl h (is_ascii_digit b) refl (at_most 4294967295 (v * 10 + (b - 48))) (λ n k. digits_refuse n f k)
  where
    go : (m : Bool) → is_mark b ≡ m → (m || is_damaged f) ≡ true → (d : Bool) → is_ascii_digit b ≡ d → (o : Option ℕ) → ((n : ℕ) → is_damaged f ≡ true → digits_after n f ≡ None) → cond d (option_and_then (λ n. digits_after n f) o) None ≡ None
    go m q h false e o t = refl
    go true q h true e o t = let n = mark_no_digit b q in cc
    go false q h true e None t = refl
    go false q h true e (Some n) t = t n h

number-refuses : Refuses number_in
number-refuses [] h = cc
number-refuses (b ∷ []) h = digits_refuse 0 (b ∷ []) h
number-refuses (b ∷ c ∷ f) h = go (eqb b 48)
  where
    go : (z : Bool) → cond z None (digits_after 0 (b ∷ c ∷ f)) ≡ None
    go true = refl
    go false = digits_refuse 0 (b ∷ c ∷ f) h

set-refuses : Refuses set_in
set-refuses f h = rw (number-refuses f h) refl

setting_refuses : Refuses setting_in
setting_refuses [] h = cc
setting_refuses (b ∷ f) h = rw (number-refuses (b ∷ f) h) refl

kind-refuses : Refuses kind_named
kind-refuses [] h = cc
kind-refuses (b ∷ []) h = go (is_mark b) refl h
  where
    go : (m : Bool) → is_mark b ≡ m → (m || false) ≡ true → kind_named (b ∷ []) ≡ None
    go true q h = at (mark-cases b q)
      where
        at : (b ≡ 34) ⊎ ((b ≡ 13) ⊎ (b ≡ 10)) → kind_named (b ∷ []) ≡ None
        at (inl e) = rw e refl
        at (inr (inl e)) = rw e refl
        at (inr (inr e)) = rw e refl
    go false q h = cc
kind-refuses (b ∷ c ∷ f) h = refl

-- a field and then others: the mark is in the one or in the others
module _ {A B : Type 0} (p : List ℕ → Option A) (k : A → List (List ℕ) → Option B) (r : Refuses p) (others : (x : A) (gs : List (List ℕ)) → marked gs ≡ true → k x gs ≡ None) where
  next-refuses : (fs : List (List ℕ)) → marked fs ≡ true → next_by p fs k ≡ None
  next-refuses [] h = cc
  next-refuses (f ∷ fs) h = go (is_damaged f) refl h
    where
      go : (d : Bool) → is_damaged f ≡ d → (d || marked fs) ≡ true → option_and_then (λ x. k x fs) (p f) ≡ None
      go true e h = rw (r f e) refl
      go false e h = at (p f)
        where
          at : (o : Option A) → option_and_then (λ x. k x fs) o ≡ None
          at None = refl
          at (Some x) = others x fs h

-- ---- triples

record NoTriples (fs : List (List ℕ)) : Type 0 where
  kinds : from_kind fs ≡ None
  numbers : (k : Kind) → from_number k fs ≡ None
  amounts : (k : Kind) (n : ℕ) → from_amount k n fs ≡ None

triples_refuse : (fs : List (List ℕ)) → marked fs ≡ true → NoTriples fs
triples_refuse [] h = cc
triples_refuse (f ∷ fs) h = go (is_damaged f) refl h (λ m. triples_refuse fs m)
  where
    go : (d : Bool) → is_damaged f ≡ d → (d || marked fs) ≡ true → (marked fs ≡ true → NoTriples fs) → NoTriples (f ∷ fs)
    go true e h t = record {
      kinds = rw (kind-refuses f e) refl;
      numbers = λ k. rw (number-refuses f e) refl;
      amounts = λ k n. rw (number-refuses f e) refl;
    }
    go false e h t =
        let n = t h in
        record {
          kinds = kind (kind_named f) n;
          numbers = λ k. number k (number_in f) n;
          amounts = λ k m. amount k m (number_in f) n;
        }
      where
        kind : (o : Option Kind) → NoTriples fs → option_and_then (λ k. from_number k fs) o ≡ None
        kind None n = refl
        kind (Some k) n = n.numbers k

        number : (k : Kind) (o : Option ℕ) → NoTriples fs → option_and_then (λ m. from_amount k m fs) o ≡ None
        number k None n = refl
        number k (Some m) n = n.amounts k m

        last : (o : Option Transaction) → NoTriples fs → option_and_then (λ x. option_map (λ l. x ∷ l) (from_kind fs)) o ≡ None
        last None n = refl
        last (Some x) n = rw n.kinds refl

        amount : (k : Kind) (m : ℕ) (o : Option ℕ) → NoTriples fs → option_and_then (λ a. option_and_then (λ x. option_map (λ l. x ∷ l) (from_kind fs)) (transaction_of k m a)) o ≡ None
        amount k m None n = refl
        amount k m (Some a) n = last (transaction_of k m a) n

body-refuses : (fs : List (List ℕ)) (p : ℕ) (k : Body → Record) → marked fs ≡ true → body_then fs p k ≡ None
body-refuses fs p k h = rw ((triples_refuse fs h).kinds) refl

ended-refuses : (fs : List (List ℕ)) (r : Record) → marked fs ≡ true → ended_as fs r ≡ None
ended-refuses [] r h = cc
ended-refuses (f ∷ fs) r h = refl

-- ---- settings

weights_refuse : (n : ℕ) (fs : List (List ℕ)) → marked fs ≡ true → (weights_in n fs ≡ None) ⊎ (marked (drop n fs) ≡ true)
unfolding weights_in
weights_refuse zero fs h = inr h
weights_refuse (suc n) [] h = cc
weights_refuse (suc n) (f ∷ fs) h = go (is_damaged f) refl h (λ m. weights_refuse n fs m)
  where
    none : (o : Option Setting) → weights_in n fs ≡ None → option_and_then (λ x. option_map (λ l. x ∷ l) (weights_in n fs)) o ≡ None
    none None e = refl
    none (Some x) e = rw e refl

    go : (d : Bool) → is_damaged f ≡ d → (d || marked fs) ≡ true → (marked fs ≡ true → (weights_in n fs ≡ None) ⊎ (marked (drop n fs) ≡ true))
        → (option_and_then (λ x. option_map (λ l. x ∷ l) (weights_in n fs)) (setting_in f) ≡ None) ⊎ (marked (drop n fs) ≡ true)
    go true e h t = inl (rw (setting_refuses f e) refl)
    go false e h t = at (t h)
      where
        at : (weights_in n fs ≡ None) ⊎ (marked (drop n fs) ≡ true) → (option_and_then (λ x. option_map (λ l. x ∷ l) (weights_in n fs)) (setting_in f) ≡ None) ⊎ (marked (drop n fs) ≡ true)
        at (inl z) = inl (none (setting_in f) z)
        at (inr z) = inr z

margin_refuses : (fs : List (List ℕ)) → marked fs ≡ true → last_setting fs ≡ None
margin_refuses [] h = cc
margin_refuses (f ∷ []) h = go (is_damaged f) refl h
  where
    go : (d : Bool) → is_damaged f ≡ d → (d || false) ≡ true → setting_in f ≡ None
    go true e h = setting_refuses f e
    go false e h = cc
margin_refuses (f ∷ g ∷ fs) h = refl

-- ---- records

-- what weights and a margin make
abbrev Rest : Type 0
Rest = List Setting → Setting → Record

abbrev weights_then : Rest → List (List ℕ) → Option Record
weights_then k fs = option_and_then (λ w. option_map (k w) (last_setting (drop 16 fs))) (weights_in 16 fs)

weights_then-refuses : (k : Rest) (fs : List (List ℕ)) → marked fs ≡ true → weights_then k fs ≡ None
weights_then-refuses k fs h = at (weights_refuse 16 fs h)
  where
    last : last_setting (drop 16 fs) ≡ None → (o : Option (List Setting)) → option_and_then (λ w. option_map (k w) (last_setting (drop 16 fs))) o ≡ None
    last e None = refl
    last e (Some w) = rw e refl

    at : (weights_in 16 fs ≡ None) ⊎ (marked (drop 16 fs) ≡ true) → weights_then k fs ≡ None
    at (inl e) = rw e refl
    at (inr m) = last (margin_refuses (drop 16 fs) m) (weights_in 16 fs)

abbrev opening : ℕ → Setting → Setting → Setting → Rest
opening own l c a w m = Open (record { 0 = own }) (record { lookback = l; ceiling = c; allowance = a; weights = w; margin = m; rights = record { 0 = 0 } })

abbrev allowance_then : ℕ → Setting → Setting → List (List ℕ) → Option Record
allowance_then own l c fs = next_by setting_in fs (λ a. weights_then (opening own l c a))

abbrev ceiling_then : ℕ → Setting → List (List ℕ) → Option Record
ceiling_then own l fs = next_by setting_in fs (allowance_then own l)

abbrev lookback_then : ℕ → List (List ℕ) → Option Record
lookback_then own fs = next_by setting_in fs (ceiling_then own)

open-refuses : (fs : List (List ℕ)) → marked fs ≡ true → open_of fs ≡ None
unfolding open_of
open-refuses =
    next-refuses number_in lookback_then number-refuses (λ own. next-refuses setting_in (ceiling_then own) setting_refuses (λ l. next-refuses setting_in (allowance_then own l) setting_refuses
    (λ c. next-refuses setting_in (λ a. weights_then (opening own l c a)) setting_refuses (λ a fs h. weights_then-refuses (opening own l c a) fs h))))

propose-refuses : (fs : List (List ℕ)) → marked fs ≡ true → propose_of fs ≡ None
unfolding propose_of
propose-refuses = next-refuses set_in (λ p fs. body_then fs p Propose) set-refuses (λ p fs h. body-refuses fs p Propose h)

abbrev endorsing : ℕ → ℕ → ℕ → List (List ℕ) → Option Record
endorsing a r p fs = body_then fs p (λ b. Endorse (proposal_of a r b))

abbrev round_then : ℕ → ℕ → List (List ℕ) → Option Record
round_then a r fs = next_by set_in fs (endorsing a r)

endorse-refuses : (fs : List (List ℕ)) → marked fs ≡ true → endorse_of fs ≡ None
unfolding endorse_of
endorse-refuses =
    next-refuses number_in (λ a fs. next_by number_in fs (round_then a)) number-refuses (λ a. next-refuses number_in (round_then a) number-refuses
    (λ r. next-refuses set_in (endorsing a r) set-refuses (λ p fs h. body-refuses fs p (λ b. Endorse (proposal_of a r b)) h)))

certify-refuses : (fs : List (List ℕ)) → marked fs ≡ true → certify_of fs ≡ None
unfolding certify_of
certify-refuses = next-refuses set_in (λ e fs. ended_as fs (Certify e)) set-refuses (λ e fs h. ended-refuses fs (Certify e) h)

abbrev accepting : ℕ → ℕ → ℕ → ℕ → List (List ℕ) → Option Record
accepting a r p e fs = body_then fs p (λ b. Accept (record { proposal = proposal_of a r b; endorsers = e }))

abbrev previous_then : ℕ → ℕ → ℕ → List (List ℕ) → Option Record
previous_then a r p fs = next_by set_in fs (accepting a r p)

abbrev signed_then : ℕ → ℕ → List (List ℕ) → Option Record
signed_then a r fs = next_by set_in fs (previous_then a r)

accept-refuses : (fs : List (List ℕ)) → marked fs ≡ true → accept_of fs ≡ None
unfolding accept_of
accept-refuses =
    next-refuses number_in (λ a fs. next_by number_in fs (signed_then a)) number-refuses (λ a. next-refuses number_in (signed_then a) number-refuses (λ r. next-refuses set_in (previous_then a r) set-refuses
    (λ p. next-refuses set_in (accepting a r p) set-refuses (λ e fs h. body-refuses fs p (λ b. Accept (record { proposal = proposal_of a r b; endorsers = e })) h))))

-- the first field is a word without a mark, or none that names a record
by_word : (w : List ℕ) (fs : List (List ℕ)) (word : List ℕ) (x rest : Option Record) → is_damaged word ≡ false → (is_damaged w || marked fs) ≡ true → (marked fs ≡ true → x ≡ None) → rest ≡ None → (if bytes_eq w word then x else rest) ≡ None
by_word w fs word x rest c h f z = go (bytes_eq w word) refl
  where
    go : (b : Bool) → bytes_eq w word ≡ b → (if b then x else rest) ≡ None
    go false q = z
    go true q = f (rw ((bytes_eq-Decides w word).0 q, c) at h)

named-refuses : (w : List ℕ) (fs : List (List ℕ)) → (is_damaged w || marked fs) ≡ true → named w fs ≡ None
unfolding named
named-refuses w fs h =
    by_word w fs (codes "open") _ _ refl h (open-refuses fs)
    (by_word w fs (codes "propose") _ _ refl h (propose-refuses fs)
    (by_word w fs (codes "endorse") _ _ refl h (endorse-refuses fs)
    (by_word w fs (codes "certify") _ _ refl h (certify-refuses fs)
    (by_word w fs (codes "accept") _ _ refl h (accept-refuses fs)
    (by_word w fs (codes "advance") _ _ refl h (ended-refuses fs Advance)
    (by_word w fs (codes "commit") _ _ refl h (ended-refuses fs Commit)
    (by_word w fs (codes "chain") _ _ refl h (ended-refuses fs Chain) refl)))))))

fields_refuse : (fs : List (List ℕ)) → marked fs ≡ true → by_fields fs ≡ None
fields_refuse [] h = cc
fields_refuse (w ∷ fs) h = named-refuses w fs h

-- so the marks need not be looked for
pub damaged_or_not : (s : List ℕ) → (if is_damaged s then None else by_fields (fields_of s)) ≡ by_fields (fields_of s)
damaged_or_not s = go (is_damaged s) refl
  where
    go : (b : Bool) → is_damaged s ≡ b → (if b then None else by_fields (fields_of s)) ≡ by_fields (fields_of s)
    go false e = refl
    go true e = sym (fields_refuse (fields_of s) (marked_fields s ∙ e))
