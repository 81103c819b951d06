-- A refused call, whichever it is, gives no value and changes no word of state, table or out.
use Rattle.std.proofs.Common.{◌≡◌, refl, Bool, true, false, cond, ◌&&◌, List, ◌≢◌, ℕ, ne_eqb}
use Rattle.engine.specs.Calls.{Call}
use Rattle.engine.specs.Engine.{refusal_for}
use Rattle.engine.proofs.AfterLaws as engine
use Rattle.engine.proofs.ValueLaws.{value-refused}
use Rattle.hosting.specs.Calls.{Result, Use, writes, rewrites, accesses, reads, use_of, unread, serves, engine_for, refused, answered, result_of}

module _ (w t o : List ℕ) where
  -- the engine's table is the one that is lent
  lent : (u : Use) → (engine_for w t o u).table ≡ t
  lent writes = refl
  lent rewrites = refl
  lent (accesses x) = refl
  lent (reads n) = refl

  -- by the engine
  answered-refused : (c : Call) → refusal_for (engine_for w t o (use_of c)) c ≢ 0 → answered w t o (engine_for w t o (use_of c)) c ≡ refused w t o (refusal_for (engine_for w t o (use_of c)) c)
  answered-refused c n =
      let e = engine_for w t o (use_of c) in
      rw (value-refused e c n, ne_eqb (refusal_for e c) 0 n, engine.refused-same e c n, lent (use_of c)) refl

  -- every call
  pub refused-same : (b : Bool) (c : Call) → (result_of w t o b c).refusal ≢ 0 → result_of w t o b c ≡ refused w t o (result_of w t o b c).refusal
  unfolding result_of
  refused-same b c h = go (serves w t o (use_of c) && b) h
    where
      x : Result
      x = answered w t o (engine_for w t o (use_of c)) c

      y : Result
      y = refused w t o (unread (use_of c))

      go : (a : Bool) → (cond a x y).refusal ≢ 0 → cond a x y ≡ refused w t o (cond a x y).refusal
      go true k = answered-refused c k
      go false k = refl
