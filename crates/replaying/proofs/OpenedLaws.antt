-- Why members do not open; and the settings of the words that an accepted open leaves, and that a resume takes them.
use Rattle.std.proofs.Common.{◌≡◌, refl, ap, ◌∙◌, Bool, true, false, ◌&&◌, List, [], ℕ, ◌+◌, ◌*◌, ◌<◌, ◌≤◌, length, arith}
use Rattle.terms.specs.Sheets.{filled}
use Rattle.engine.specs.Calls as engine
use Rattle.engine.specs.Calls.{Call}
use Rattle.engine.specs.Engine.{Engine}
use Rattle.engine.proofs.AfterLaws.{accepted-new}
use Rattle.words.specs.States.{state_in}
use Rattle.words.specs.Sheets.{sheet_in, sheet_reads}
use Rattle.hosting.specs.Calls.{writes, serves, engine_for}
use Rattle.hosting.specs.HostCalls.{opens, comes_to}
use Rattle.hosting.proofs.Answered.{result_unread}
use Rattle.hosting.proofs.CallLaws.{accepted-call}
use Rattle.hosting.proofs.NextLaws.{accepted-gives}
use Rattle.hosting.proofs.HandedLaws.{open_handed}
use Rattle.owned.specs.Resuming.{Resumable}
use Rattle.owned.proofs.ResumingLaws.{opened_resumes}
use Rattle.replaying.specs.declared.failure.Failure.{Failure}
use Rattle.replaying.specs.declared.failure.Failure.TheVariants.{Damaged, Refused, Memory, Stream}
use Rattle.replaying.specs.declared.heads.Head.{Head}
use Rattle.replaying.specs.Opened.{lent, refusal_of, Opens, Unlent, Unopened, Unready}

not_both : (a b : Bool) → b ≡ false → (a && b) ≡ false
not_both true b e = e
not_both false b e = refl

-- an open by a sheet that cannot be read is refused with 1, whoever opens
unreadable : (h : Head) (k : ℕ) → sheet_reads h.sheet ≡ false → refusal_of h k ≡ 1
unreadable h k e =
    let c = engine.opens (record { 0 = k }) (sheet_in h.sheet (record { 0 = h.rights })) in
    ap (λ x. x.refusal) (result_unread (lent h).state (lent h).table [] (sheet_reads h.sheet) c (not_both (serves (lent h).state (lent h).table [] writes) (sheet_reads h.sheet) e))

pub unopened : (h : Head) (k : ℕ) (f : Failure) → Unlent h f → Unopened h k f
unopened h k (Refused n) (e, q) = rw q (unreadable h k e, λ z. omega (arith, z))
unopened h k Memory u = tt
unopened h k Damaged u = u
unopened h k (Stream x) u = u

-- the first member that does not open
pub unready : (h : Head) (k : ℕ) (f : Failure) → k < h.members → ((j : ℕ) → j < k → Opens h j) → Unopened h k f → Unready h f
unready h k (Refused n) b o u = record { member = k; below = b; before = o; refusal = u.0; refused = u.1 }
unready h k Memory b o u = omega (arith, b)
unready h k Damaged b o u = u
unready h k (Stream e) b o u = u

module _ (w t k : List ℕ) (own : ℕ) (sheet : List ℕ) (rights : ℕ) (z : (comes_to w t (opens own sheet rights)).refusal ≡ 0) where
  abbrev c : Call
  c = engine.opens (record { 0 = own }) (sheet_in sheet (record { 0 = rights }))

  opened_settings : (state_in (comes_to w t (opens own sheet rights)).state).settings ≡ filled (sheet_in sheet (record { 0 = rights }))
  opened_settings =
      let d = open_handed (record { 0 = own }) sheet (record { 0 = rights }) in
      let a = accepted-call w t [] _ c z in
      let g = accepted-gives w t [] d z in
      let n = accepted-new (engine_for w t [] writes) c a.accepted in
      let s = g.gives ∙ ap (λ (e : Engine). e.state) n in
      rw s refl

  -- where there is room for the committees of all rounds up to the sheet's ceiling
  pub resumes : (filled (sheet_in sheet (record { 0 = rights }))).ceiling * 16 + 17 ≤ length k
      → Resumable (comes_to w t (opens own sheet rights)).state (comes_to w t (opens own sheet rights)).table k
  resumes l = opened_resumes w t k own sheet rights z (rw opened_settings l)
