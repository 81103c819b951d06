-- Of a sheet's words an open sees the filled settings only; the rights stand beside them.
use Rattle.std.proofs.Common.{◌≡◌, refl, true, List, ℕ}
use Rattle.terms.specs.declared.Member.{Member}
use Rattle.terms.specs.declared.sheet.Rights.{Rights}
use Rattle.terms.specs.Sheets.{filled}
use Rattle.open.specs.Open.{closed_state}
use Rattle.open.proofs.OpenLaws as open-laws
use Rattle.engine.specs.Calls.{opens}
use Rattle.engine.specs.Values.{value_of}
use Rattle.words.specs.Sheets.{sheet_reads, sheet_in}
use Rattle.hosting.specs.Calls.{result_of}

-- two sheets that can be read and have equal filled settings open alike, with equal rights: the same answer, state, table and out stretch
pub equal_settings_open : (w t o : List ℕ) (own : Member) (u v : List ℕ) (R : Rights) → sheet_reads u ≡ true → sheet_reads v ≡ true → filled (sheet_in u R) ≡ filled (sheet_in v R)
    → result_of w t o (sheet_reads u) (opens own (sheet_in u R)) ≡ result_of w t o (sheet_reads v) (opens own (sheet_in v R))
unfolding result_of value_of sheet_in
equal_settings_open w t o own u v R h k e = let q = open-laws.equal_settings_open closed_state t own (sheet_in u R) (sheet_in v R) e rights in rw (h, k, q.0, q.1, q.2) refl
  where
    rights : (sheet_in u R).rights ≡ (sheet_in v R).rights
    rights = refl
