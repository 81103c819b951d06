-- What stays in the words that lists of the library's calls leave.
use Rattle.std.proofs.Common.{◌≡◌, sym, subst, true, List, ℕ, ◌≤◌, Some}
use Rattle.agreement.specs.Prefixes.{block_numbered}
use Rattle.agreement.specs.Rules.{Block}
use Rattle.terms.specs.Proposals.{Content}
use Rattle.state.specs.WellFormed.{well_formed}
use Rattle.engine.specs.Engine.{Engine}
use Rattle.engine.proofs.GrowthLaws.{Newer}
use Rattle.engine.proofs.ReachedLaws.{reached_formed}
use Rattle.nonforking.specs.Statement.{chain}
use Rattle.nonforking.specs.Stored.{Holds}
use Rattle.submissions.specs.Requests.{NoOpensAsked, after_requests}
use Rattle.kept.proofs.KeptLaws.{blocks_stay_then, numbers_stay_then, certificate_stays_then, stored_held_then, held_stored_then}
use Rattle.library.specs.Calls.{LibraryCall}
use Rattle.library.specs.Lists.{engine_of, after_list, requests_in, Opening, after_opening, engine_opened, AllTyped, Gives}
use Rattle.library.proofs.ListLaws.{list_gives, opening-gives, words_give_engines}
use Rattle.library.proofs.ReachLaws.{words_reach, engine-opening}
use Rattle.wordclaims.specs.Claims.{left_after, NoOpens, TookSince}
use Rattle.wordclaims.proofs.WordLaws.{itself, asked_in_range, no_opens_asked}
use Rattle.wordclaims.proofs.StoredLaws.{took_stored, stored_took}

-- every state is well formed
pub states_formed : (x : Opening) (l : List LibraryCall) → AllTyped l → well_formed (engine_of (left_after x l)).state (engine_of (left_after x l)).table ≡ true
states_formed x l i = reached_formed (engine_of (left_after x l)) (words_reach x l i)

-- ---- from the words after l on, without an accepted open

module _ (x : Opening) (l m : List LibraryCall) (i : AllTyped l) (j : AllTyped m) (n : NoOpens (left_after x l) m) where
  abbrev start : Engine
  start = engine_of (left_after x l)

  starts : Gives (left_after x l) start
  starts = itself (left_after x l) (words_give_engines x l i).can_read

  -- the words after m give what its requests lead to
  pub ends : engine_of (after_list (left_after x l) m) ≡ after_requests start (requests_in m)
  ends = (list_gives (left_after x l) start starts m j).gives

  pub opens_none : NoOpensAsked start (requests_in m)
  opens_none = no_opens_asked (left_after x l) start starts m j n

  -- a block once made stays
  pub blocks_grow : Newer (chain start) (chain (engine_of (after_list (left_after x l) m)))
  blocks_grow = subst (λ (e : Engine). Newer (chain start) (chain e)) (sym ends) (blocks_stay_then start (words_reach x l i) (requests_in m) (asked_in_range start m j) opens_none)

  pub blocks_keep : (k : ℕ) (b : Block Content) → block_numbered (chain start) k ≡ Some b → block_numbered (chain (engine_of (after_list (left_after x l) m))) k ≡ Some b
  blocks_keep k b h =
      subst (λ (e : Engine). block_numbered (chain e) k ≡ Some b) (sym ends)
      (numbers_stay_then start (words_reach x l i) (requests_in m) (asked_in_range start m j) opens_none k b h)

  -- and so does a held certificate
  pub certificate_stays : (a r : ℕ) (p : Content) (d : ℕ) → Holds (left_after x l).table a r p d → Holds (after_list (left_after x l) m).table a r p d
  certificate_stays a r p d h = subst (λ (e : Engine). Holds e.table a r p d) (sym ends) (certificate_stays_then start (requests_in m) opens_none a r p d h)

-- ---- what was taken

-- what was taken is held
pub stored_held : (x : Opening) (l : List LibraryCall) → AllTyped l → (p : Content) (d : ℕ) → TookSince (after_opening x) l p d → Holds (left_after x l).table p.author p.round p d
stored_held x l i p d k =
    subst (λ (e : Engine). Holds e.table p.author p.round p d) (sym (words_give_engines x l i).gives)
    (stored_held_then (engine-opening x) (requests_in l) (asked_in_range (engine_opened x) l i) p d (took_stored (after_opening x) (engine_opened x) (opening-gives x) p d l i k))

-- and what is held was taken
pub held_stored : (x : Opening) (l : List LibraryCall) → AllTyped l → (a r : ℕ) (p : Content) (d : ℕ) → r ≤ (engine_of (left_after x l)).state.settings.ceiling → Holds (left_after x l).table a r p d
    → TookSince (after_opening x) l p d
held_stored x l i a r p d to h =
    let g = (words_give_engines x l i).gives in
    stored_took (after_opening x) (engine_opened x) (opening-gives x) p d l i
    (held_stored_then (engine-opening x) (requests_in l) (asked_in_range (engine_opened x) l i) a r p d (subst (λ (e : Engine). r ≤ e.state.settings.ceiling) g to)
    (subst (λ (e : Engine). Holds e.table a r p d) g h))
