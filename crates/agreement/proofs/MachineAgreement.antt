-- Over any list of calls of machines, the chains of correct members never fork, committees agree, and chains only grow.
use Rattle.std.proofs.Common.{◌≡◌, refl, sym, ap, subst₂, Bool, true, false, cond, List, [], ◌∷◌, ◌++◌, inl, inr, ◌≢◌, ℕ, eqb, eq-eqb, ne_eqb}
use mathlib.Core.List.Memᴰ
use Rattle.agreement.specs.Rules.{Rules}
use Rattle.agreement.specs.Laws.{Lawful}
use Rattle.agreement.specs.View.{Knows, Among}
use Rattle.agreement.specs.Prefixes.{◌≼◌}
use Rattle.agreement.specs.Invariants.{Agree, Sound}
use Rattle.agreement.specs.Moves.{Move}
use Rattle.agreement.specs.Runs.{Start, Next, Run, begin, step}
use Rattle.agreement.specs.Entries.{Entry, states}
use Rattle.agreement.specs.Machines.{Machine, log, views, Legal, LegalNext, SignedIn}
use Rattle.agreement.proofs.NonEquivocation.{committee_agreement}
use Rattle.agreement.proofs.Agreement.{sound-next, sound-start, chains_grow}
use Rattle.agreement.proofs.EntryLaws.{state-here, state-other, Each, kept}

module _ {R : Rules} {correct : ℕ → Bool} (E : Machine R correct) (start : ℕ → E.State) where
  open R use {P, committee}
  open E use {State, Call, view, after, signs, Handed, Good, good_after, move}

  -- a call changes the log of the one who makes it
  log-here : (e : Entry Call) (l : List (Entry Call)) → log E start (e ∷ l) e.who ≡ signs e.who (states after start l e.who) e.call ++ log E start l e.who
  unfolding log
  log-here e l = rw (eq-eqb e.who e.who refl) refl

  log-other : (e : Entry Call) (l : List (Entry Call)) (i : ℕ) → i ≢ e.who → log E start (e ∷ l) i ≡ log E start l i
  unfolding log
  log-other e l i n = rw (ne_eqb i e.who n) refl

  -- what a member signed in a call is in the log
  pub signed_in : (p : P) (i : ℕ) (l : List (Entry Call)) → SignedIn E start p i l → Among p (log E start l i)
  unfolding log
  signed_in p i [] h = absurd h
  signed_in p i (e ∷ l) (inl h) = rw (eq-eqb i e.who h.0) (Memᴰ.append_left (log E start l i) h.1)
  signed_in p i (e ∷ l) (inr h) = go (eqb i e.who) (signed_in p i l h)
    where
      go : (b : Bool) → Among p (log E start l i) → Among p (cond b (signs i (states after start l i) e.call ++ log E start l i) (log E start l i))
      go true k = Memᴰ.append_right (signs i (states after start l i) e.call) k
      go false k = k

  module _ (Y : Lawful R) (g : (i : ℕ) → correct i ≡ true → Good i (start i)) (x : Start correct (λ i. view (start i))) where
    all-handed : (l : List (Entry Call)) → Legal E start l → Each after start Handed l
    all-handed [] h = tt
    all-handed (e ∷ l) h = (h.0.handed, all-handed l h.1)

    good : (l : List (Entry Call)) → Legal E start l → (i : ℕ) → correct i ≡ true → Good i (states after start l i)
    good l h i c = kept after start Handed Good good_after i (g i c) l (all-handed l h)

    -- a call is a move of the one who makes it
    next : (e : Entry Call) (l : List (Entry Call)) → LegalNext E start e l → Legal E start l → Sound correct (views E start l) (log E start l)
        → Next correct (views E start l) (log E start l) (views E start (e ∷ l)) (log E start (e ∷ l))
    next e l n h z =
        let k = e.who in
        let c = n.by in
        record {
          who = k;
          good = c;
          move = subst₂ (λ (t : State) (m : List P). Move correct (log E start l) k (views E start l k) (log E start l k) (view t) m) (sym (state-here after start e l)) (sym (log-here e l))
              (move (log E start l) k (states after start l k) e.call c (good l h k c) (z.members k c) n.handed n.genuine);
          rest = λ i n. ap view (state-other after start e l i n);
          silent = λ i n. log-other e l i n;
        }

    pub machines_sound : (l : List (Entry Call)) → Legal E start l → Sound correct (views E start l) (log E start l)
    unfolding states log
    machines_sound [] h = sound-start correct Y x
    machines_sound (e ∷ l) h = let z = machines_sound l h.1 in sound-next correct z (next e l h.0 h.1 z) h.0.tolerant

    -- the chains of correct members never fork
    pub machines_never_fork : (l : List (Entry Call)) → Legal E start l → Agree correct (views E start l)
    machines_never_fork l h = (machines_sound l h).agree

    -- and whoever knows a round knows the same committee
    pub machines_committees : (l : List (Entry Call)) → Legal E start l → (i j r : ℕ) → correct i ≡ true → correct j ≡ true → Knows (views E start l i) r → Knows (views E start l j) r
        → committee (views E start l i).chain r ≡ committee (views E start l j).chain r
    machines_committees l h i j r ci cj = committee_agreement (machines_sound l h) ci cj

    run : (m l : List (Entry Call)) → Legal E start (m ++ l) → Run correct (views E start l) (log E start l) (views E start (m ++ l)) (log E start (m ++ l))
    run [] l h = begin
    run (e ∷ m) l h = step (run m l h.1) (next e (m ++ l) h.0 h.1 (machines_sound (m ++ l) h.1)) h.0.tolerant

    -- and no later call undoes a block
    pub machines_grow : (m l : List (Entry Call)) → Legal E start (m ++ l) → (i : ℕ) → (views E start l i).chain ≼ (views E start (m ++ l) i).chain
    machines_grow m l h = chains_grow correct (run m l h)
