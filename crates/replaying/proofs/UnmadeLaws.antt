-- Why a list is not made again, from the step that fails.
use Rattle.std.proofs.Common.{◌≡◌, ℕ, ◌*◌, ◌<◌, inl, inr, List, [], ◌∷◌, ◌++◌, get_or, drop, length, refl, sym, ap, ◌∙◌, length-append, arith}
use Rattle.std.specs.Prelude.{All}
use Rattle.std.specs.Int.{w32, to_le_bytes}
use Rattle.replaying.specs.declared.calls.Entry.{Entry}
use Rattle.replaying.specs.declared.failure.Failure.{Failure}
use Rattle.replaying.specs.declared.failure.Failure.TheVariants.{Damaged, Refused, Memory, Stream}
use Rattle.replaying.specs.declared.heads.Head.{Head}
use Rattle.replaying.specs.Lists.{head_words, entries_words, CallWhole, NoHead, NoEntries, NoList, Unread}
use Rattle.replaying.specs.Opened.{Unready}
use Rattle.replaying.specs.Replays.{IsWords, bytes_of, NoWords, Unmade, Untold}
use Rattle.replaying.proofs.DecodedLaws.{back}

pub head_unmade : (w : List ℕ) (f : Failure) → f ≡ Damaged → NoHead w → Unmade w f
head_unmade w f e z = rw e (λ h l x. z h (entries_words l) x.sheet x.words)

module _ (w : List ℕ) (h : Head) (r : List ℕ) (e : w ≡ head_words h ++ r) (s : length h.sheet ≡ 40) where
  no_list : NoEntries h.members r → NoList w
  no_list z g l x =
      let q = sym e ∙ x.words in
      let m : h.members ≡ g.members = ap (λ y. get_or y 1 0) q in
      let t : r ≡ entries_words l = sym (back 40 h.sheet r s) ∙ ap (drop 43) q ∙ back 40 g.sheet (entries_words l) x.sheet in
      z l (λ k d b. rw m (x.callers k d b)) x.whole t

  pub entries_unmade : (f : Failure) → Unread (NoEntries h.members r) f → Unmade w f
  entries_unmade Damaged z = no_list z
  entries_unmade Memory z = tt
  entries_unmade (Refused n) z = absurd z
  entries_unmade (Stream x) z = z

  pub opens_unmade : (l : List Entry) (f : Failure) → r ≡ entries_words l → All (λ x. x.who < h.members) l → All (λ x. CallWhole x.call) l → Unready h f → Unmade w f
  opens_unmade l Damaged q b t u = absurd u
  opens_unmade l Memory q b t u = tt
  opens_unmade l (Refused n) q b t u =
      record { head = h; entries = l; listed = record { words = rw (e, q) refl; sheet = s; callers = b; whole = t }; first = u }
  opens_unmade l (Stream x) q b t u = u

-- ---- as bytes

bytes_long : (w : List ℕ) → length (bytes_of w) ≡ 4 * length w
bytes_long [] = refl
bytes_long (x ∷ w) = omega (arith, length-append (to_le_bytes w32 x) (bytes_of w), bytes_long w)

-- one to three bytes are left behind words
pub no_words : (b w rest : List ℕ) → b ≡ bytes_of w ++ rest → length rest < 4 → 0 < length rest → NoWords b
no_words b w rest e s n v q = omega (arith, s, n, bytes_long w, bytes_long v, length-append (bytes_of w) rest, sym (ap length e) ∙ ap length q)

pub words_untold : (b : List ℕ) (f : Failure) → Unread (NoWords b) f → Untold b f
words_untold b Damaged z = inl z
words_untold b Memory z = tt
words_untold b (Refused n) z = absurd z
words_untold b (Stream e) z = z

pub list_untold : (b w : List ℕ) (f : Failure) → b ≡ bytes_of w → IsWords w → Unmade w f → Untold b f
list_untold b w Damaged e i u = inr (record { words = w; fit = i; bytes = e; unmade = u })
list_untold b w Memory e i u = tt
list_untold b w (Refused n) e i u = record { words = w; fit = i; bytes = e; unmade = u }
list_untold b w (Stream x) e i u = u
