-- A round with an anchor and one without.
use Rattle.std.proofs.Common.{◌≡◌, refl, sym, ◌∙◌, Bool, ◌||◌, List, [], ℕ, ◌+◌, ◌<◌, ◌≤◌, get_or, eqb-true, lt-ltb, le-ltb}
use Rattle.base.proofs.Words.{or-false}
use Rattle.base.specs.Sets.{only}
use Rattle.base.proofs.UnionLaws.{in_only}
use Rattle.blocks.specs.History.{in_history}
use Rattle.blocks.specs.Blocks.{count_step}
use Rattle.base.proofs.PutLaws.{puts_none}
use Rattle.prospects.specs.Reaching.{is_reached}
use Rattle.prospects.specs.declared.entries.Anchor.{Anchor}
use Rattle.prospects.specs.Prospects.{block_words, reach_step, words_step}
use Rattle.prospects.specs.Ready.{BlockReady, BlockListed, StepReady, StepListed}

module _ (t l : List ℕ) (f : ℕ → ℕ → Bool) (r k : ℕ) where
  abbrev a : ℕ
  a = get_or l r 0

  pub step_count : a < 16 → count_step l r k ≡ k + 1
  unfolding count_step
  step_count h = rw (lt-ltb a 16 h) refl

  pub step_words : a < 16 → words_step t l f r k ≡ block_words t f (k + 1) a r
  unfolding words_step
  step_words h = rw (lt-ltb a 16 h) refl

  pub step_reach : a < 16 → (i q : ℕ) → reach_step t l f r i q ≡ (f i q || in_history t r (only a) i q)
  unfolding reach_step
  step_reach h i q = rw (lt-ltb a 16 h) refl

  pub pass_count : 16 ≤ a → count_step l r k ≡ k
  unfolding count_step
  pass_count h = rw (le-ltb a 16 h) refl

  pub pass_words : 16 ≤ a → words_step t l f r k ≡ []
  unfolding words_step
  pass_words h = rw (le-ltb a 16 h) refl

  pub pass_reach : 16 ≤ a → (i q : ℕ) → reach_step t l f r i q ≡ f i q
  unfolding reach_step
  pass_reach h i q = rw (le-ltb a 16 h) (or-false (f i q))

-- ---- what a step asks and gives

module _ {b : Bool} {t v l : List ℕ} {r k : ℕ} {list : List ℕ} {at : ℕ} where
  pub block_ready : {fresh : List ℕ} {x : Anchor} → x.block ≡ k + 1 → x.author.0 ≡ get_or l r 0 → get_or l r 0 < 16 → StepReady b t v fresh l r k list at → BlockReady b t v fresh x r list at
  block_ready {x = x} i j h p =
      rw (i, j) (record {
        walk =
            record {
              row = p.row;
              round = p.round;
              rounds = p.rounds;
              earlier = p.earlier;
              here = λ a d e. let z = eqb-true a (get_or l r 0) (sym (in_only (get_or l r 0) a h) ∙ e) in rw z (p.anchor d h);
            };
        author = h;
        room = rw (step_words t l (is_reached b t v) r k h) at p.room;
      })

  pub step_passed : {fresh : List ℕ} → 16 ≤ get_or l r 0 → StepReady b t v fresh l r k list at → StepListed b t v l r k list list at k at v fresh
  step_passed h p =
      let f = is_reached b t v in
      record {
        long = p.earlier.long;
        rounds = p.rounds;
        blocks = sym (pass_count t l f r k h);
        words = puts_none (pass_words t l f r k h);
        reaches = λ q a z. sym (pass_reach t l f r k h a q);
      }

  pub step_listed : {x : Anchor} {list' : List ℕ} {next : ℕ} {v' fresh' : List ℕ} → x.block ≡ k + 1 → x.author.0 ≡ get_or l r 0 → get_or l r 0 < 16 → BlockListed b t v x r list list' at next v' fresh'
      → StepListed b t v l r k list list' at x.block next v' fresh'
  step_listed i j h y =
      let f = is_reached b t v in
      record {
        long = y.long;
        rounds = y.rounds;
        blocks = i ∙ sym (step_count t l f r k h);
        words = rw (step_words t l f r k h) (rw (i, j) at y.words);
        reaches = λ q a z. (rw j at (y.reaches q a z)) ∙ sym (step_reach t l f r k h a q);
      }
