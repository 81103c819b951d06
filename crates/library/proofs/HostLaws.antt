-- Laws of several members' hosts: each one's words give its engine, and chains never fork.
use Rattle.std.proofs.Common.{◌≡◌, refl, sym, ◌∙◌, subst₂, Bool, true, false, cond, List, [], ◌∷◌, ◌⊎◌, ℕ, eqb, Option, Some, None}
use Rattle.base.specs.Options.{if_there}
use Rattle.agreement.specs.Entries.{states}
use Rattle.engine.specs.Engine.{Engine}
use Rattle.nonforking.specs.Statement.{Prefix, Knows, weights, engine_after, Run}
use Rattle.submissions.specs.Requests.{Request, engine_asked}
use Rattle.submissions.proofs.RequestLaws.{chains_never_fork_with_guests}
use Rattle.library.specs.Calls.{request_in}
use Rattle.library.specs.Lists.{engine_of, after_call, Gives}
use Rattle.library.specs.Hosts.{Hosts, members, Entry, AllTyped, asked, words_after, calls_in, Agreed}
use Rattle.library.proofs.StepLaws.{left}
use Rattle.library.proofs.ListLaws.{opening-gives, call-gives}

module _ (X : Hosts) where
  open X use {correct}

  -- each correct member's words
  pub host-gives : (l : List Entry) → AllTyped l → (i : ℕ) → correct i ≡ true → Gives (words_after X l i) (engine_asked (members X) (asked l) i)
  unfolding states asked
  host-gives [] t i c = opening-gives (record { before = X.before i; own = i; sheet = X.sheet i; rights = X.rights i; accepted = X.accepted i c })
  host-gives (x ∷ l) t i c = go (eqb i x.who) refl (request_in x.call) (host-gives l t.1 i c) (call-gives (words_after X l i) (engine_asked (members X) (asked l) i) (host-gives l t.1 i c) x.call t.0)
    where
      go : (b : Bool) → eqb i x.who ≡ b → (q : Option Request) → Gives (words_after X l i) (engine_asked (members X) (asked l) i) → Gives (after_call (words_after X l i) x.call) (left (engine_asked (members X) (asked l) i) q)
          → Gives (cond b (after_call (words_after X l i) x.call) (words_after X l i)) (engine_asked (members X) (if_there q (asked l) (λ r. record { who = x.who; call = r } ∷ asked l)) i)
      go true e None g h = h
      go false e None g h = g
      go true e (Some r) g h = rw e h
      go false e (Some r) g h = rw e g

-- chains never fork, over the library's words: whatever lists of calls hosts, guests and batches make, if the calls that their words count as are a run
pub chains_never_fork_over_words : (X : Hosts) (l : List Entry) → AllTyped l → Run (members X) (calls_in X l) → Agreed X l
chains_never_fork_over_words X l t r =
    let d = chains_never_fork_with_guests (members X) (asked l) r in
    let e : (i : ℕ) → X.correct i ≡ true → engine_after (members X) (calls_in X l) i ≡ engine_of (words_after X l i) = λ i c. sym ((host-gives X l t i c).gives ∙ d.engines i) in
    record {
      gives = host-gives X l t;
      chains = λ i j c k. subst₂ (λ (a b : Engine). Prefix a b ⊎ Prefix b a) (e i c) (e j k) (d.agreed.chains i j c k);
      committees = λ i j q c k. subst₂ (λ (a b : Engine). Knows a q → Knows b q → (m : ℕ) → weights a q m ≡ weights b q m) (e i c) (e j k) (d.agreed.committees i j q c k);
    }
