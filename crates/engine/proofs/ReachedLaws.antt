-- Every engine that calls from an accepted open lead to is well formed, with the settings of a sheet; and what calls keep holds of it.
use Rattle.std.proofs.Common.{◌≡◌, refl, sym, ap, ◌∙◌, subst, Bool, true, false, cond, List, [], ◌∷◌, ◌++◌, append_assoc, ℕ, suc, ◌≤◌, arith, eqb, length, eqb-true, ne_eqb, Some}
use Rattle.std.proofs.lemmas.Option.{none-some}
use Rattle.agreement.specs.Rules.{Block, Chain}
use Rattle.agreement.specs.Prefixes.{block_numbered}
use Rattle.terms.specs.declared.Member.{Member}
use Rattle.terms.specs.declared.sheet.Sheet.{Sheet}
use Rattle.terms.specs.Proposals.{Content}
use Rattle.terms.specs.Sheets.{filled}
use Rattle.state.specs.WellFormed.{well_formed}
use Rattle.engine.specs.Calls.{Call, opens, InRange}
use Rattle.engine.specs.Engine.{Engine, refusal_for, after}
use Rattle.engine.specs.Steps.{FreshlyOpened, Step, refused, opened, moved}
use Rattle.engine.specs.Sequences.{after_calls, AllInRange, NoOpens, Opening, after_opening}
use Rattle.engine.specs.Reached.{Reached, by_open, by_call, Good, Intact}
use Rattle.engine.proofs.AfterLaws.{accepted-new}
use Rattle.engine.proofs.NextLaws.{open_fresh}
use Rattle.engine.proofs.StepLaws.{every_step}
use Rattle.engine.proofs.GrowthLaws.{Newer, chain_in, chain-newer}

-- an accepted open
pub opened-fresh : (e : Engine) (own : Member) (sheet : Sheet) → refusal_for e (opens own sheet) ≡ 0 → FreshlyOpened own sheet e (after e (opens own sheet))
opened-fresh e own sheet a = subst (FreshlyOpened own sheet e) (sym (accepted-new e (opens own sheet) a)) (open_fresh e own sheet a)

pub fresh-good : {own : Member} {sheet : Sheet} {e : Engine} {x : Engine} → FreshlyOpened own sheet e x → Good (filled sheet) own.0 x
fresh-good f = record { own = ap (λ (m : Member). m.0) f.its_own; settings = f.its_settings; formed = f.formed; small = f.set_in_range }

-- any call
pub intact-after : (e : Engine) → Intact e → (c : Call) → InRange c → Intact (after e c)
intact-after e r c i = go (every_step e r.good.small c i)
  where
    go : Step e c → Intact (after e c)
    go (refused n h) = subst Intact (sym h) r
    go (opened own sheet q a f) = record { sheet = sheet; own = own.0; good = fresh-good f }
    go (moved a w n) =
        let g = r.good in
        record {
          sheet = r.sheet;
          own = r.own;
          good = record { own = ap (λ (m : Member). m.0) n.same_own ∙ g.own; settings = n.same_settings ∙ g.settings; formed = n.formed; small = n.set_in_range };
        }

pub intact : {e : Engine} → Reached e → Intact e
intact (by_open x) = record { sheet = x.sheet; own = x.own.0; good = fresh-good (opened-fresh x.before x.own x.sheet x.accepted) }
intact (by_call e r c i) = intact-after e (intact r) c i

pub reached_formed : (e : Engine) → Reached e → well_formed e.state e.table ≡ true
reached_formed e r = (intact r).good.formed

-- what every opening leaves and every call keeps
pub always : (P : Engine → Type 0) → ((x : Opening) → P (after_opening x)) → ((e : Engine) → Intact e → (c : Call) → InRange c → P e → P (after e c))
    → {e : Engine} → Reached e → P e
always P a f (by_open x) = a x
always P a f (by_call e r c i) = f e (intact r) c i (always P a f r)

-- lists of calls lead to such engines
pub calls-lead-to : (e : Engine) → Reached e → (l : List Call) → AllInRange l → Reached (after_calls e l)
unfolding after_calls
calls-lead-to e r [] i = r
calls-lead-to e r (c ∷ l) i = by_call _ (calls-lead-to e r l i.1) c i.0

pub reached : (x : Opening) (l : List Call) → AllInRange l → Reached (after_calls (after_opening x) l)
reached x = calls-lead-to (after_opening x) (by_open x)

-- ---- a block once made stays

newer-append : {P : Type 0} {c d x : Chain P} → Newer c d → Newer d x → Newer c x
newer-append {P} {c} m n = (n.0 ++ m.0, n.1 ∙ ap (λ (l : Chain P). n.0 ++ l) m.1 ∙ sym (append_assoc n.0 m.0 c))

-- the chain after any calls but accepted opens is the one before them with newer blocks, or none
pub blocks_stay : (e : Engine) → Reached e → (l : List Call) → AllInRange l → NoOpens e l → Newer (chain_in e) (chain_in (after_calls e l))
unfolding after_calls
blocks_stay e r [] i n = ([], refl)
blocks_stay e r (c ∷ l) i n = newer-append (blocks_stay e r l i.1 n.1) (chain-newer (after_calls e l) (intact (calls-lead-to e r l i.1)).good.small c i.0 n.0)

block-number : {P : Type 0} (c : Chain P) (n : ℕ) {b : Block P} → block_numbered c n ≡ Some b → n ≤ length c
unfolding block_numbered
block-number [] n {b} h = absurd (none-some b h)
block-number (a ∷ c) n {b} h = go (eqb n (suc (length c))) refl h (λ k. block-number c n k)
  where
    go : (t : Bool) → eqb n (suc (length c)) ≡ t → cond t (Some a) (block_numbered c n) ≡ Some b → (block_numbered c n ≡ Some b → n ≤ length c) → n ≤ suc (length c)
    go true e k f = omega (arith, eqb-true n (suc (length c)) e)
    go false e k f = omega (arith, f k)

no_shorter : {P : Type 0} (newer c : Chain P) → length c ≤ length (newer ++ c)
no_shorter [] c = omega arith
no_shorter (a ∷ l) c = omega (arith, no_shorter l c)

-- so each block keeps its number, its round and its certificates
numbered_under : {P : Type 0} (newer c : Chain P) (n : ℕ) {b : Block P} → block_numbered c n ≡ Some b → block_numbered (newer ++ c) n ≡ Some b
unfolding block_numbered
numbered_under [] c n h = h
numbered_under (a ∷ l) c n h =
    let low = block-number c n h in
    let long = no_shorter l c in
    rw (ne_eqb n (suc (length (l ++ c))) (λ e. absurd (omega arith))) (numbered_under l c n h)

pub numbers_stay : (e : Engine) → Reached e → (l : List Call) → AllInRange l → NoOpens e l
    → (n : ℕ) (b : Block Content) → block_numbered (chain_in e) n ≡ Some b → block_numbered (chain_in (after_calls e l)) n ≡ Some b
numbers_stay e r l i o n b h = let m = blocks_stay e r l i o in rw m.1 (numbered_under m.0 (chain_in e) n h)
