-- A test whether the calls of a list have values in range, and are no opens but of numbers above 15 and no enqueues but of guests above 7, which are refused, and nothing asked of ports.
use Rattle.std.proofs.Common.{◌≡◌, subst, Bool, true, false, ◌&&◌, List, [], ◌∷◌, arith, ltb, ltb-true}
use Rattle.base.proofs.Words.{false≢true}
use Rattle.base.proofs.Bools.{both}
use Rattle.base.proofs.CheckLaws.{refuses}
use Rattle.terms.specs.declared.Member.{Member}
use Rattle.terms.specs.declared.sheet.Sheet.{Sheet}
use Rattle.open.specs.Open.{open_refusal}
use Rattle.engine.specs.Calls.{Call, opens, propose, endorse, certify, accept, enqueue, draw, port, InRange}
use Rattle.engine.specs.Engine.{Engine, refusal_for}
use Rattle.engine.specs.Sequences.{NoOpen}
use Rattle.nonforking.specs.Statement.{Members, Entry, engine_after, engine_behaviour}
use Rattle.nonforking.proofs.RunLaws.{AllHanded}

abbrev pub is_plain : Call → Bool
is_plain (opens own sheet) = ltb 15 own.0
is_plain (propose b) = ltb b.previous 65536
is_plain (endorse p) = ltb p.body.previous 65536
is_plain (certify d) = ltb d 65536
is_plain (accept c) = ltb c.proposal.body.previous 65536 && ltb c.endorsers 65536
is_plain (enqueue g x) = ltb 7 g
is_plain (draw v) = ltb v 65536
is_plain (port x) = false
is_plain c = true

abbrev pub are_plain : List Entry → Bool
are_plain [] = true
are_plain (e ∷ l) = is_plain e.call && are_plain l

pub is_in_range : (c : Call) → is_plain c ≡ true → InRange c
is_in_range (propose b) h = ltb-true b.previous 65536 h
is_in_range (endorse p) h = ltb-true p.body.previous 65536 h
is_in_range (certify d) h = ltb-true d 65536 h
is_in_range (accept c) h =
    let x = both (ltb c.proposal.body.previous 65536) _ h in
    (ltb-true c.proposal.body.previous 65536 x.0, ltb-true c.endorsers 65536 x.1)
is_in_range (draw v) h = ltb-true v 65536 h
is_in_range (port x) h = absurd (false≢true h)
is_in_range c h = tt

-- whatever the table
pub open_refused : (e : Engine) (own : Member) (sheet : Sheet) → ltb 15 own.0 ≡ true → refusal_for e (opens own sheet) ≡ 4
unfolding open_refusal
open_refused e own sheet h = refuses 4 _ h

no_open : (e : Engine) (c : Call) → is_plain c ≡ true → NoOpen e c
no_open e c h own sheet q n =
    let k = open_refused e own sheet (subst (λ (x : Call). is_plain x ≡ true) q h) in
    let z : refusal_for e (opens own sheet) ≡ 0 = subst (λ (x : Call). refusal_for e x ≡ 0) q n in
    absurd (omega (arith, k, z))

pub plain-found : (X : Members engine_behaviour) (l : List Entry) → are_plain l ≡ true → AllHanded X l
plain-found X [] h = tt
plain-found X (e ∷ l) h =
    let x = both (is_plain e.call) (are_plain l) h in
    ((is_in_range e.call x.0, no_open (engine_after X l e.who) e.call x.0), plain-found X l x.1)
