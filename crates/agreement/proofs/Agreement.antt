-- Chains never fork: in every world of a run, the chains of correct members are prefixes of one another.
use Rattle.std.proofs.Common.{◌≡◌, sym, ◌∙◌, subst, subst₂, Bool, true, List, [], inl, ℕ, Some}
use Rattle.std.proofs.lemmas.Option.{none-some}
use mathlib.Core.List.Memᴰ
use Rattle.base.proofs.Words.{ℕ_discrete}
use Rattle.agreement.specs.Rules.{Block, Chain, Rules}
use Rattle.agreement.specs.Laws.{Lawful}
use Rattle.agreement.specs.View.{View, Knows, World, Log}
use Rattle.agreement.specs.Links.{Linked, LastElected}
use Rattle.agreement.specs.Prefixes.{◌≼◌, same, block_numbered}
use Rattle.agreement.proofs.PrefixLaws.{≼_trans, block-stays}
use Rattle.agreement.specs.Invariants.{Invariant, FaultTolerant, Agree, Sound}
use Rattle.agreement.specs.Moves.{Move, other_call}
use Rattle.agreement.specs.Runs.{Initial, Start, Next, Run, begin, step}
use Rattle.agreement.proofs.NonEquivocation.{committee_agreement}
use Rattle.agreement.proofs.NonForking.{comparable}
use Rattle.agreement.proofs.Growth.{move-grows}
use Rattle.agreement.proofs.Signatures.{signed-stays}
use Rattle.agreement.proofs.Preservation.{new-chain, invariant-kept}

-- nobody signed anything
abbrev pub unsigned : (R : Rules) → Log R
unsigned R i = []

module _ {R : Rules} (correct : ℕ → Bool) where
  open R use {P, committee}

  -- every member makes a move, most of them none
  each : {w v : World R} {G H : Log R} → Next correct w G v H → (i : ℕ) → Move correct G i (w i) (G i) (v i) (H i)
  each {w} {v} {G} {H} n i = go (ℕ_discrete i n.who)
    where
      go : Dec (i ≡ n.who) → Move correct G i (w i) (G i) (v i) (H i)
      go (yes e) = subst (λ (x : ℕ). Move correct G x (w x) (G x) (v x) (H x)) (sym e) n.move
      go (no e) = subst₂ (λ (t : View R) (m : List P). Move correct G i (w i) (G i) t m) (sym (n.rest i e)) (sym (n.silent i e)) other_call

  module _ {w v : World R} {G H : Log R} (S : Sound correct w G) (n : Next correct w G v H) where
    -- what holds of a member holds where more is signed
    invariant-later : {k : ℕ} {s : View R} {l : List P} → Invariant correct G k s l → Invariant correct H k s l
    invariant-later f =
        record {
          signing = f.signing;
          storing = record {
            place = λ h. f.storing.place h;
            closed = λ h. f.storing.closed h;
            certified = λ {a} {r} {p} h.
                let b = f.storing.certified h in
                record {
                  aware = b.aware;
                  signers = b.signers;
                  quorum = b.quorum;
                  with_author = b.with_author;
                  signs = λ i c m. signed-stays (each n i) p (b.signs i c m);
                };
          };
          ordering = f.ordering;
        }

    -- one move keeps a world sound
    pub sound-next : FaultTolerant correct v → Sound correct v H
    sound-next b =
        record {
          laws = S.laws;
          members = λ j c. invariant-later (invariant-kept S c (each n j));
          tolerant = b;
          agree = λ i j ci cj.
              let x = new-chain S ci (each n i) in
              let y = new-chain S cj (each n j) in
              comparable S ci cj (v i).chain (v j).chain x.0 x.1 y.0 y.1;
        }

  initial_invariant : {G : Log R} {k : ℕ} (s : View R) → Initial s → Invariant correct G k s []
  initial_invariant s x =
      record {
        signing = record {
          nonequivocation = λ p q h. absurd (Memᴰ.not-nil h);
          signable = λ p h. absurd (Memᴰ.not-nil h);
          own = λ p h. absurd (Memᴰ.not-nil h);
          other = λ p h. absurd (Memᴰ.not-nil h);
          proposed = λ p h. absurd (none-some p (sym x.without_proposal ∙ h));
        };
        storing = record {
          place = λ {a} {r} {p} h. absurd (nothing-held a r p h);
          closed = λ {a} {r} {p} h. absurd (nothing-held a r p h);
          certified = λ {a} {r} {p} h. absurd (nothing-held a r p h);
        };
        ordering = record {
          linked = subst (λ (c : Chain P). Linked s c) (sym x.no_block) tt;
          elected = subst (λ (c : Chain P). LastElected s c) (sym x.no_block) tt;
        };
      }
    where
      nothing-held : (a r : ℕ) (p : P) → s.dag a r ≡ Some p → ⊥
      nothing-held a r p h = none-some p (sym (x.no_certificate a r) ∙ h)

  pub sound-start : {w : World R} → Lawful R → Start correct w → Sound correct w (unsigned R)
  sound-start {w} Y x =
      record {
        laws = Y;
        members = λ j c. initial_invariant (w j) (x j c);
        tolerant = λ j p c h k. absurd (none-some p (sym ((x j c).no_certificate (R.author p) (R.round p)) ∙ h));
        agree = λ i j ci cj. inl (subst (λ (c : Chain P). (w i).chain ≼ c) ((x i ci).no_block ∙ sym (x j cj).no_block) same);
      }

  -- every world of a run is sound
  pub sound : {w : World R} {G : Log R} {v : World R} {H : Log R} → Sound correct w G → Run correct w G v H → Sound correct v H
  sound S begin = S
  sound S (step r n b) = sound-next (sound S r) n b

  -- a chain only ever grows
  pub chains_grow : {w : World R} {G : Log R} {v : World R} {H : Log R} → Run correct w G v H → (i : ℕ) → (w i).chain ≼ (v i).chain
  chains_grow begin i = same
  chains_grow (step r n b) i = ≼_trans (chains_grow r i) (move-grows (each n i)).chain

  -- so a block once made stays, with its number, its round and its certificates
  pub blocks_stay : {w v : World R} {G H : Log R} → Run correct w G v H → (i n : ℕ) {b : Block P} → block_numbered (w i).chain n ≡ Some b → block_numbered (v i).chain n ≡ Some b
  blocks_stay r i n = block-stays (chains_grow r i) n

  module _ {start w : World R} {G : Log R} (Y : Lawful R) (x : Start correct start) (r : Run correct start (unsigned R) w G) where
    pub is_sound : Sound correct w G
    is_sound = sound (sound-start Y x) r

    -- the chains of correct members never fork
    pub never_fork : Agree correct w
    never_fork = is_sound.agree

    -- correct members who know a round know the same committee
    pub committees_agree : (i j n : ℕ) → correct i ≡ true → correct j ≡ true → Knows (w i) n → Knows (w j) n
        → committee (w i).chain n ≡ committee (w j).chain n
    committees_agree i j n ci cj k l = committee_agreement is_sound ci cj k l
