-- Members' words in memory with the committees kept beside them, as lists of owner's calls leave them.
use Rattle.std.specs.Prelude.{Bool, true, false, List, ℕ, ◌<◌, length, slice_index_or}
use Rattle.owned.specs.Owned.{Owned}
use Rattle.host.specs.declared.runs.Words.{Words}
use Rattle.host.specs.declared.owned_runs.Kept.{Kept}
use Rattle.host.specs.declared.runs.HostCall.{HostCall}
use Rattle.host.specs.declared.runs.HostCall.TheVariants as host
use Rattle.host.specs.declared.runs.LibraryCall.{LibraryCall}
use Rattle.host.specs.declared.runs.LibraryCall.TheVariants.{Host, Guest}

-- any call but an open, after which a host resumes
abbrev pub host_opens_none : HostCall → Bool
host_opens_none (host.Open own sheet rights) = false
host_opens_none c = true

abbrev pub opens_none : LibraryCall → Bool
opens_none (Host x) = host_opens_none x
opens_none (Guest c x) = true

-- one member's words and kept committees
abbrev pub OwnedWords : Words → List ℕ → Type 0
OwnedWords x k = Owned x.state.items x.table.items k

-- all members' words are owned, each with its kept committees
abbrev pub AllOwned : List Words → List Kept → Type 0
AllOwned l m = (i : ℕ) (d : Words) (e : Kept) → i < length l
    → OwnedWords (slice_index_or l i d) (slice_index_or m i e).words.items
