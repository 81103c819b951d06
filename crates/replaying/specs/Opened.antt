-- The members of a list as they open, and the premise of the claim that those of a plant open so.
use Rattle.std.specs.Prelude.{◌≡◌, ◌≢◌, false, ◌<◌, ℕ, replicate}
use Rattle.store.specs.Table.{used_length}
use Rattle.terms.specs.declared.sheet.Settings.{Settings}
use Rattle.terms.specs.Sheets.{filled}
use Rattle.words.specs.Lengths.{state_length}
use Rattle.words.specs.Sheets.{sheet_in, sheet_reads}
use Rattle.hosting.specs.HostCalls.{opens}
use Rattle.library.specs.Calls.{by_host, comes_to}
use Rattle.library.specs.Lists.{Words, after_call}
use Rattle.library.specs.Hosts.{Hosts}
use Rattle.replaying.specs.declared.failure.Failure.{Failure}
use Rattle.replaying.specs.declared.failure.Failure.TheVariants.{Refused, Memory}
use Rattle.replaying.specs.declared.heads.Head.{Head}

-- the settings of the sheet
abbrev pub settings_of : Head → Settings
settings_of h = filled (sheet_in h.sheet (record { 0 = h.rights }))

-- what is lent to an open: a state of zeros, and a table of zeros that is as long as the ceiling asks for
abbrev pub lent : Head → Words
lent h = record {
  state = replicate state_length 0;
  table = replicate (used_length (settings_of h).ceiling) 0;
}

-- the words that member k opens with
abbrev pub opened : Head → ℕ → Words
opened h k = after_call (lent h) (by_host (opens k h.sheet h.rights))

-- the number that refuses the open of member k, 0 for none
abbrev pub refusal_of : Head → ℕ → ℕ
refusal_of h k = let w = lent h in
    (comes_to w.state w.table (by_host (opens k h.sheet h.rights))).refusal

-- the open is accepted
abbrev pub Opens : Head → ℕ → Type 0
Opens h k = refusal_of h k ≡ 0

-- why no member has what an open is lent: the sheet cannot be read, and each open is refused with 1, or memory
abbrev pub Unlent : Head → Failure → Type 0
Unlent h (Refused n) = (sheet_reads h.sheet ≡ false) × (n ≡ 1)
Unlent h Memory = Unit {0}
Unlent h f = ⊥

-- why member k does not open: its open is refused, with this number, or memory
abbrev pub Unopened : Head → ℕ → Failure → Type 0
Unopened h k (Refused n) = (refusal_of h k ≡ n) × (n ≢ 0)
Unopened h k Memory = Unit {0}
Unopened h k f = ⊥

-- the open of a member is refused with the number n, and those of the members before it are accepted
pub record FirstRefused (h : Head) (n : ℕ) : Type 0 where
  pub member : ℕ
  pub below : member < h.members
  pub before : (k : ℕ) → k < member → Opens h k
  pub refusal : refusal_of h member ≡ n
  pub refused : n ≢ 0

-- why not all members open: this, or memory, where there is a member
abbrev pub Unready : Head → Failure → Type 0
Unready h (Refused n) = FirstRefused h n
Unready h Memory = 0 < h.members
Unready h f = ⊥

-- the hosts of a claim are those of a list: each opens with the list's sheet and rights
pub record OpenedAs (X : Hosts) (h : Head) : Type 0 where
  pub before : (k : ℕ) → k < h.members → X.before k ≡ lent h
  pub sheet : (k : ℕ) → k < h.members → X.sheet k ≡ h.sheet
  pub rights : (k : ℕ) → k < h.members → X.rights k ≡ h.rights
