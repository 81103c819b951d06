-- Laws of the words that a resume takes: those that an open leaves, and those that are owned.
use Rattle.std.proofs.Common.{◌≡◌, sym, ap, ◌∙◌, true, false, List, [], ℕ, suc, ◌+◌, ◌*◌, ◌<◌, ◌≤◌, arith, length}
use Rattle.base.proofs.Words.{false≢true}
use Rattle.terms.specs.Sheets.{filled}
use Rattle.store.specs.Table.{held_at}
use Rattle.store.specs.Writes.{clear_used}
use Rattle.store.proofs.ClearLaws.{held-cleared}
use Rattle.engine.specs.Calls as engine
use Rattle.engine.specs.Calls.{Call}
use Rattle.engine.specs.Engine.{Engine}
use Rattle.engine.proofs.AfterLaws.{accepted-new}
use Rattle.words.specs.States.{state_in}
use Rattle.words.specs.Sheets.{sheet_in}
use Rattle.hosting.specs.Calls.{writes, engine_for}
use Rattle.hosting.specs.HostCalls.{opens, comes_to}
use Rattle.hosting.proofs.CallLaws.{accepted-call}
use Rattle.hosting.proofs.NextLaws.{accepted-gives}
use Rattle.hosting.proofs.FormedLaws.{accepted-formed}
use Rattle.hosting.proofs.HandedLaws.{open_handed}
use Rattle.owned.specs.Rooted.{Rooted}
use Rattle.owned.specs.Owned.{Owned}
use Rattle.owned.specs.Resuming.{Resumable}
use Rattle.owned.proofs.TestingLaws.{names-none}
use Rattle.owned.proofs.TogetherTestLaws.{together-none}

-- nothing is held in a cleared table
rooted-cleared : (t : List ℕ) (n : ℕ) → Rooted n (clear_used t n)
rooted-cleared t n = record { held = λ i a q h l x. absurd (false≢true (none i q l x.held)); marked = λ i a q h l x m. absurd (false≢true (none i q l x.held)) }
  where
    none : (i q : ℕ) → q < n → held_at (clear_used t n) i (suc q) ≡ true → false ≡ true
    none i q l e = sym (held-cleared t n i (suc q) (omega arith)) ∙ e

module _ (w t k : List ℕ) (own : ℕ) (sheet : List ℕ) (rights : ℕ) (z : (comes_to w t (opens own sheet rights)).refusal ≡ 0) where
  abbrev c : Call
  c = engine.opens (record { 0 = own }) (sheet_in sheet (record { 0 = rights }))

  pub opened_resumes : (state_in (comes_to w t (opens own sheet rights)).state).settings.ceiling * 16 + 17 ≤ length k
      → Resumable (comes_to w t (opens own sheet rights)).state (comes_to w t (opens own sheet rights)).table k
  opened_resumes l =
      let d = open_handed (record { 0 = own }) sheet (record { 0 = rights }) in
      let a = accepted-call w t [] _ c z in
      let g = accepted-gives w t [] d z in
      let x = accepted-new (engine_for w t [] writes) c a.accepted in
      let s = g.gives ∙ ap (λ (e : Engine). e.state) x in
      let u = a.its_table ∙ ap (λ (e : Engine). e.table) x in
      let n = (filled (sheet_in sheet (record { 0 = rights }))).ceiling in
      record {
        reads = g.can_read;
        whole = record {
          formed = accepted-formed w t [] d z;
          rooted = rw (s, u) (rooted-cleared t n);
          proposal = rw (s, u) (names-none (clear_used t n) 1);
          together = rw (s, u) (together-none (clear_used t n) n);
        };
        room = l;
      }

pub owned_resumes : (w t k l : List ℕ) → Owned w t k → (state_in w).settings.ceiling * 16 + 17 ≤ length l → Resumable w t l
owned_resumes w t k l h r = record { reads = h.reads; whole = record { formed = sym h.cached.form; rooted = h.rooted; proposal = h.proposal; together = h.together }; room = r }
