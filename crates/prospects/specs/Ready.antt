-- What listing the blocks that a commit would make asks of the table, the leaders, what was reached and the list, and what it gives; each level asks for those below it.
use Rattle.std.specs.Prelude.{◌≡◌, Bool, true, ◌||◌, List, ℕ, ◌+◌, ◌-◌, ◌<◌, ◌≤◌, length, get_or}
use Rattle.base.specs.Sets.{only}
use Rattle.store.specs.Table.{Row, held_at}
use Rattle.base.specs.Puts.{Puts}
use Rattle.blocks.specs.History.{in_history}
use Rattle.blocks.specs.Blocks.{count_step}
use Rattle.prospects.specs.Reaching.{is_reached, Closed, WalkReady}
use Rattle.prospects.specs.Prospects.{block_words, reach_step, words_step, words_after}
use Rattle.prospects.specs.declared.entries.Anchor.{Anchor}

module _ (b : Bool) where
  -- the words of the block of the anchor of round r, where v has what earlier ones have reached
  abbrev pub anchor_words : List ℕ → List ℕ → Anchor → ℕ → List ℕ
  anchor_words t v x r = block_words t (is_reached b t v) x.block x.author.0 r

  -- it can be listed
  pub record BlockReady (t v fresh : List ℕ) (x : Anchor) (r : ℕ) (list : List ℕ) (at : ℕ)
      : Type 0 where
    pub walk : WalkReady b t v fresh (only x.author.0) r
    pub author : x.author.0 < 16
    pub room : at + length (anchor_words t v x r) ≤ length list

  -- its words are put, and v' has what it reaches too
  pub record BlockListed (t v : List ℕ) (x : Anchor) (r : ℕ) (list list' : List ℕ) (at next : ℕ)
      (v' fresh' : List ℕ) : Type 0 where
    pub long : 1024 < length v'
    pub rounds : 1024 < length fresh'
    pub words : Puts list list' at next (anchor_words t v x r) (length (anchor_words t v x r))
    pub reaches : (q a : ℕ) → 0 < q → is_reached b t v' a q
        ≡ (is_reached b t v a q || in_history t r (only x.author.0) a q)

  -- the block of the anchor of round r can be listed, if it has one, where there are k blocks
  pub record StepReady (t v fresh l : List ℕ) (r k : ℕ) (list : List ℕ) (at : ℕ) : Type 0 where
    pub listed : r < length l
    pub few : k < r
    pub row : Row t r
    pub round : r ≤ 1024
    pub rounds : 1024 < length fresh
    pub earlier : Closed b r t v
    pub anchor : b ≡ true → get_or l r 0 < 16 → held_at t (get_or l r 0) r ≡ true
    pub room : at + length (words_step t l (is_reached b t v) r k) ≤ length list

  -- and what is so then
  pub record StepListed (t v l : List ℕ) (r k : ℕ) (list list' : List ℕ) (at count next : ℕ)
      (v' fresh' : List ℕ) : Type 0 where
    pub long : 1024 < length v'
    pub rounds : 1024 < length fresh'
    pub blocks : count ≡ count_step l r k
    pub words : Puts list list' at next (words_step t l (is_reached b t v) r k)
        (length (words_step t l (is_reached b t v) r k))
    pub reaches : (q a : ℕ) → 0 < q
        → is_reached b t v' a q ≡ reach_step t l (is_reached b t v) r a q

-- the blocks of the anchors above m up to top can be listed, where there are k
pub record StepsReady (t l : List ℕ) (m top k : ℕ) (list : List ℕ) : Type 0 where
  pub few : k ≤ m
  pub above : m < top
  pub round : top ≤ 1024
  pub row : Row t top
  pub listed : top < length l
  pub room : length (words_after t l m (top - m) k) ≤ length list
