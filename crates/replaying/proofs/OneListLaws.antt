-- Words are of one list alone.
use Rattle.std.proofs.Common.{◌≡◌, ℕ, suc, List, [], ◌∷◌, ◌++◌, get_or, take, drop, refl, sym, ap, ◌∙◌, append-nil, arith}
use Rattle.library.specs.Hosts as hosts
use Rattle.replaying.specs.declared.calls.Entry.{Entry}
use Rattle.replaying.specs.declared.heads.Head.{Head}
use Rattle.replaying.specs.Lists.{entry_words, entries_words, list_words, Listed}
use Rattle.replaying.specs.Told.{told}
use Rattle.replaying.specs.Runs.{newest}
use Rattle.replaying.proofs.DecodedLaws.{front, back, Wholes, same_entry, never_empty}

-- calls that have the same words are the same calls, whatever stands before them
same_calls : (l m : List Entry) (x y : List hosts.Entry) → Wholes l → Wholes m → entries_words l ≡ entries_words m → x ≡ y → newest l x ≡ newest m y
unfolding entries_words
same_calls [] [] x y a b e q = q
same_calls [] (d ∷ m) x y a b e q = absurd (never_empty d (entries_words m) [] (rw (append-nil (entry_words d ++ entries_words m)) (sym e)))
same_calls (e ∷ l) [] x y a b q i = absurd (never_empty e (entries_words l) [] (rw (append-nil (entry_words e ++ entries_words l)) q))
same_calls (e ∷ l) (d ∷ m) x y a b q i =
    let s = same_entry e d (entries_words l) (entries_words m) (a 0 e (omega arith)) (b 0 d (omega arith)) q in
    let j : ◌≡◌ {A = List hosts.Entry} (record { who = e.who; call = told e.call } ∷ x) (record { who = d.who; call = told d.call } ∷ y) = rw (s.who, s.call, i) refl in
    same_calls l m _ _ (λ k z h. a (suc k) z (omega (arith, h))) (λ k z h. b (suc k) z (omega (arith, h))) s.behind j

module _ (w : List ℕ) (h g : Head) (l m : List Entry) (x : Listed w h l) (y : Listed w g m) where
  heads : list_words h l ≡ list_words g m
  heads = sym x.words ∙ y.words

  pub same_head : h ≡ g
  same_head =
      let a : h.members ≡ g.members = ap (λ v. get_or v 1 0) heads in
      let b : h.rights ≡ g.rights = ap (λ v. get_or v 2 0) heads in
      let c : h.sheet ≡ g.sheet = sym (front 40 h.sheet (entries_words l) x.sheet) ∙ ap (λ v. take 40 (drop 3 v)) heads ∙ front 40 g.sheet (entries_words m) y.sheet in
      ap (λ n. record { members = n; rights = h.rights; sheet = h.sheet }) a ∙ ap (λ n. record { members = g.members; rights = n; sheet = h.sheet }) b ∙ ap (λ n. record { members = g.members; rights = g.rights; sheet = n }) c

  pub same_entries : entries_words l ≡ entries_words m
  same_entries = sym (back 40 h.sheet (entries_words l) x.sheet) ∙ ap (drop 43) heads ∙ back 40 g.sheet (entries_words m) y.sheet

  pub same_list : newest l [] ≡ newest m []
  same_list = same_calls l m [] [] x.whole y.whole same_entries refl
