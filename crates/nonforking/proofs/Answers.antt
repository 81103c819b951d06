-- The numbers that answer the calls of a list, and a test of them on views.
use Rattle.std.proofs.Common.{◌≡◌, refl, ap, ◌∙◌, Bool, true, false, ◌&&◌, List, [], ◌∷◌, ℕ, ◌*◌, ◌/◌, eqb, ltb, eqb-true}
use Rattle.base.proofs.Words.{false≢true}
use Rattle.base.specs.Checks.{Checks, refusal}
use Rattle.base.proofs.Bools.{both}
use Rattle.base.proofs.CheckLaws.{passes}
use Rattle.terms.specs.declared.Member.{Member}
use Rattle.terms.specs.declared.Transaction.{Transaction}
use Rattle.terms.specs.declared.sheet.Sheet.{Sheet}
use Rattle.terms.specs.declared.sheet.Settings.{Settings}
use Rattle.terms.specs.Ranges.{out_of_range}
use Rattle.rules.specs.Tests.{MemberView}
use Rattle.rules.specs.Calls as rules
use Rattle.rules.specs.Calls.{ruled_refusal}
use Rattle.rules.specs.Reads.{reading_committee, reading_share, reading_effect, reading_certificate, reading_block}
use Rattle.rules.proofs.Runs.{view_after}
use Rattle.enqueue.proofs.PassedLaws.{enqueue-refused}
use Rattle.serial.specs.Calls.{PortCall}
use Rattle.spans.specs.Listed.{blocks_checks}
use Rattle.engine.specs.Calls.{Aside, committee, share, effect, certificate, block, preview, critical, blocks, listing, Call, opens, enqueue, port, aside}
use Rattle.engine.specs.Engine.{Engine, aside_checks, refusal_for}
use Rattle.engine.specs.Steps.{view_at, ruled}
use Rattle.engine.specs.Reached.{Good}
use Rattle.nonforking.specs.Statement.{Members, engine_after, engine_behaviour}
use Rattle.nonforking.specs.Witness.{Answered, entries, AreAnswered}
use Rattle.nonforking.proofs.Converses.{refusal-by-rules, on_their_views, shown}
use Rattle.nonforking.proofs.PlainTests.{is_plain, are_plain, open_refused, plain-found}

-- ---- one call

pub data IsRead : rules.Call → Type 0 where
  is_read : IsRead rules.read

-- a call on e is an open, an enqueue, one of a port, or one that never touches state and table, or one that the rules have for no read
pub data CallCase (e : Engine) : Call → Type 0 where
  an_open : (own : Member) (sheet : Sheet) → CallCase e (opens own sheet)
  an_enqueue : (g : ℕ) (x : Transaction) → CallCase e (enqueue g x)
  a-port : (x : PortCall) → CallCase e (port x)
  an_aside : (x : Aside) → CallCase e (aside x)
  of-rules : (c : Call) → (IsRead (ruled e c) → ⊥) → CallCase e c

abbrev pub case_of : (e : Engine) (c : Call) → CallCase e c
case_of e (opens own sheet) = an_open own sheet
case_of e (enqueue g x) = an_enqueue g x
case_of e (port x) = a-port x
case_of e (aside x) = an_aside x
case_of e c = of-rules c (λ x. elim x [ ])

module _ (S : Settings) where
  abbrev aside_by : ℕ → MemberView S → Aside → Checks
  aside_by k s (committee r) = reading_committee S s r
  aside_by k s (share m r) = reading_share S s m.0 r
  aside_by k s (effect m r a) = reading_effect S s m.0 r a
  aside_by k s (certificate m r) = reading_certificate S s m.0 r
  aside_by k s (block n) = reading_block S s n
  aside_by k s (preview n) = (ltb (n / 3) (16 * S.ceiling), 25) ∷ rules.checks S k s rules.commit
  aside_by k s (critical n) = (ltb (n / 2) 32, 25) ∷ rules.checks S k s rules.commit
  aside_by k s (blocks m n w) = blocks_checks S s.chain m n w
  aside_by k s listing = []

  -- what a view tells of it; an open is one of a number above 15, an enqueue one of a guest above 7, and none is of a port
  abbrev pub refusal_by : ℕ → MemberView S → {e : Engine} {c : Call} → CallCase e c → ℕ
  refusal_by k s {e} (an_open own sheet) = 4
  refusal_by k s {e} (an_enqueue g x) = 26
  refusal_by k s {e} (a-port x) = 0
  refusal_by k s {e} (an_aside x) = refusal (aside_by k s x)
  refusal_by k s {e} (of-rules c n) = ruled_refusal S k s (ruled e c)

aside-by : (e : Engine) (x : Aside) → aside_checks e x ≡ aside_by e.state.settings e.state.own.0 (view_at e.state.settings e) x
aside-by e (committee r) = refl
aside-by e c = refl

module _ {S : Settings} {k : ℕ} {e : Engine} (good : Good S k e) where
  pub refusal-by : {c : Call} (x : CallCase e c) → is_plain c ≡ true → refusal_for e c ≡ refusal_by S k (view_at S e) x
  refusal-by (an_open own sheet) h = open_refused e own sheet h
  refusal-by (an_enqueue g x) h = enqueue-refused _ _ g x good.formed h
  refusal-by (a-port x) h = absurd (false≢true h)
  refusal-by (an_aside x) h =
      passes 1 _ (rw good.formed refl)
      ∙ ap refusal (aside-by e x)
      ∙ ap (λ (i : ℕ). refusal (aside_by e.state.settings i (view_at e.state.settings e) x)) good.own
      ∙ ap (λ (T : Settings). refusal (aside_by T k (view_at T e) x)) good.settings
  refusal-by (of-rules c n) h = refusal-by-rules good c (λ q. n (rw q is_read))

-- ---- a list of calls

module _ (X : Members engine_behaviour) where
  open X use {correct, settings}

  module _ (fit : out_of_range settings ≡ false) where
    abbrev pub are_answered : List Answered → Bool
    are_answered [] = true
    are_answered (x ∷ l) =
        let i = x.entry.who in
        let e = engine_after X (entries l) i in
        correct i && (eqb (refusal_by settings i (view_after (on_their_views X fit) (entries l) i) (case_of e x.entry.call)) x.answer && are_answered l)

    pub answered-found : (l : List Answered) → are_plain (entries l) ≡ true → are_answered l ≡ true → AreAnswered X l
    answered-found [] p h = tt
    answered-found (x ∷ l) p h =
        let i = x.entry.who in
        let c = x.entry.call in
        let e = engine_after X (entries l) i in
        let q = both (is_plain c) (are_plain (entries l)) p in
        let y = both (correct i) _ h in
        let z = both (eqb (refusal_by settings i (view_after (on_their_views X fit) (entries l) i) (case_of e c)) x.answer) _ y.1 in
        let m = shown X fit (entries l) (plain-found X (entries l) q.1) i y.0 in
        (refusal-by m.good (case_of e c) q.0 ∙ ap (λ (s : MemberView settings). refusal_by settings i s (case_of e c)) m.shows ∙ eqb-true _ _ z.0, answered-found l q.1 z.1)
