-- Rights stay over lists of the library's calls, and who lacks one sees nothing and changes nothing.
use Rattle.std.proofs.Common.{◌≡◌, refl, sym, ap, ◌∙◌, List, [], ◌∷◌, ℕ}
use Rattle.terms.proofs.RightLaws.{barred}
use Rattle.engine.specs.Engine.{Engine}
use Rattle.engine.specs.Guests.{needs, batch_needs, as_host}
use Rattle.engine.proofs.GuestLaws.{rights_opened}
use Rattle.submissions.proofs.RequestLaws.{rights_stay_then}
use Rattle.words.specs.Sheets.{sheet_in}
use Rattle.words.specs.States.{state_in}
use Rattle.hosting.specs.Calls.{Result, result_of}
use Rattle.hosting.specs.Guested.{rights_in, caller_number}
use Rattle.hosting.specs.GuestForms.{guest_reads, guest_in, guest_out}
use Rattle.hosting.proofs.GuestedLaws.{noninterference_over_words}
use Rattle.batching.specs.Batched.{batch_result}
use Rattle.library.specs.Calls.{LibraryCall, by_host, by_guest, batch_by_host, batch_by_guest}
use Rattle.library.specs.Lists.{Words, engine_of, after_call, after_list, requests_in, Opening, after_opening, AllTyped}
use Rattle.library.proofs.ListLaws.{opening-gives}
use Rattle.library.proofs.ReachLaws.{engine-opening}
use Rattle.wordclaims.specs.Claims.{left_after, NoOpens}
use Rattle.wordclaims.specs.Guests.{Barred, AllBarred, Alike, SeesNothing}
use Rattle.wordclaims.proofs.StaysLaws.{ends, opens_none}

-- the rights of words are those of the state that they give
rights-read : (w : List ℕ) → rights_in w ≡ (state_in w).rights
unfolding state_in
rights-read w = refl

-- an accepted open leaves those that it was handed
pub rights_opened_over_words : (x : Opening) → rights_in (after_opening x).state ≡ record { 0 = x.rights }
unfolding sheet_in
rights_opened_over_words x = rights-read (after_opening x).state ∙ ap (λ (e : Engine). e.state.rights) (opening-gives x).gives ∙ rights_opened (engine-opening x)

-- and without another they stay
pub rights_kept_over_words : (x : Opening) (l m : List LibraryCall) → AllTyped l → AllTyped m → NoOpens (left_after x l) m → rights_in (after_list (left_after x l) m).state ≡ rights_in (left_after x l).state
rights_kept_over_words x l m i j n =
    rights-read (after_list (left_after x l) m).state
    ∙ ap (λ (e : Engine). e.state.rights) (ends x l m i j n)
    ∙ rights_stay_then (engine_of (left_after x l)) (requests_in m) (opens_none x l m i j n)
    ∙ sym (rights-read (left_after x l).state)

-- ---- who lacks a right

module _ (x y : Words) (q : rights_in x.state ≡ rights_in y.state) (c : ℕ) where
  call-alike : (z : LibraryCall) → Barred x c z → Alike x y z
  call-alike (by_guest k f) (e, h) =
      let r = needs (guest_in f) in
      let u = noninterference_over_words x.state x.table (guest_out f) y.state y.table (guest_out f) q c r h (result_of x.state x.table (guest_out f) (guest_reads f) (as_host c (guest_in f))) (result_of y.state y.table (guest_out f) (guest_reads f) (as_host c (guest_in f))) in
      rw e (record { number = caller_number x.state c r; refuses = barred (rights_in x.state) r c h; first = u.first; second = u.second })
  call-alike (batch_by_guest k row answers) (e, h) =
      let u = noninterference_over_words x.state x.table answers y.state y.table answers q c batch_needs h (batch_result x.state x.table row answers) (batch_result y.state y.table row answers) in
      rw e (record { number = caller_number x.state c batch_needs; refuses = barred (rights_in x.state) batch_needs c h; first = u.first; second = u.second })
  call-alike (by_host f) b = absurd b
  call-alike (batch_by_host row answers) b = absurd b

  -- of lists: noninterference
  pub noninterference : (l : List LibraryCall) → AllBarred x c l → SeesNothing x y l
  unfolding after_list
  noninterference [] b = record { alike = tt; first = refl; second = refl }
  noninterference (z ∷ l) b =
      let h = noninterference l b.1 in
      let a = call-alike z b.0 in
      record {
        alike = (rw (h.first, h.second) a, h.alike);
        first = ap (λ (w : Words). after_call w z) h.first ∙ ap (λ (r : Result). record { state = r.state; table = r.table }) a.first;
        second = ap (λ (w : Words). after_call w z) h.second ∙ ap (λ (r : Result). record { state = r.state; table = r.table }) a.second;
      }
