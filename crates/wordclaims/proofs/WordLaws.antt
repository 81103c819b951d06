-- Laws that every claim over words takes: what can be read has values of its types, and what is no accepted open over words is none on the engine.
use Rattle.std.proofs.Common.{◌≡◌, refl, ◌∙◌, subst, Bool, true, false, cond, ◌&&◌, List, [], ◌∷◌, ℕ, Option, Some, None}
use Rattle.base.specs.Options.{if_there}
use Rattle.engine.specs.Engine.{Engine}
use Rattle.engine.specs.Sequences as engine
use Rattle.engine.specs.Sequences.{AllInRange}
use Rattle.engine.specs.Guests.{as_host}
use Rattle.submissions.specs.Submissions.{Submission, one, calls_of}
use Rattle.submissions.specs.Requests as requests
use Rattle.submissions.specs.Requests.{Request, host, submission_of, InRangeThen, NoOpenAsked, NoOpensAsked, after_requests}
use Rattle.kept.specs.Kept.{calls_asked, AskedInRange}
use Rattle.words.specs.States.{state_reads}
use Rattle.hosting.specs.Calls.{use_of}
use Rattle.hosting.specs.HostCalls as hosts
use Rattle.hosting.specs.HostCalls.{HostCall, host_reads, host_in, host_out}
use Rattle.hosting.specs.GuestForms.{GuestForm, guest_reads, guest_in, guest_out}
use Rattle.library.specs.Calls.{LibraryCall, by_host, by_guest, batch_by_host, batch_by_guest, has_room, request_in}
use Rattle.library.specs.Lists.{Words, engine_of, after_list, requests_in, AllTyped, Gives, Answered, AnsweredAs, out_given}
use Rattle.library.proofs.ListLaws.{list_gives}
use Rattle.library.proofs.ReachLaws.{RequestInRange, in_join, request_in_range}
use Rattle.library.proofs.AnswerLaws.{call-answered}
use Rattle.wordclaims.specs.Claims.{answer_on, NoOpen, NoOpens}

-- words that can be read give their engine
pub itself : (x : Words) → state_reads x.state ≡ true → Gives x (engine_of x)
itself x r = record { can_read = r; gives = refl }

-- a call's words can be read, and there is room in what it lends
abbrev pub host_can : HostCall → Bool
host_can c = has_room (use_of (host_in c)) (host_out c) && host_reads c

abbrev pub form_can : ℕ → GuestForm → Bool
form_can k f = has_room (use_of (as_host k (guest_in f))) (guest_out f) && guest_reads f

-- ---- values of their types

pub asked_in_range : (e : Engine) (l : List LibraryCall) → AllTyped l → AskedInRange e (requests_in l)
unfolding calls_asked requests_in
asked_in_range e [] i = tt
asked_in_range e (c ∷ l) i = go (request_in c) (request_in_range (after_requests e (requests_in l)) c i.0) (asked_in_range e l i.1)
  where
    calls : (s : Option Submission) → InRangeThen (after_requests e (requests_in l)) s → AllInRange (if_there s [] (calls_of (after_requests e (requests_in l))))
    calls None p = tt
    calls (Some s) p = p

    go : (q : Option Request) → RequestInRange (after_requests e (requests_in l)) q → AllInRange (calls_asked e (requests_in l)) → AllInRange (calls_asked e (if_there q (requests_in l) (λ q. q ∷ requests_in l)))
    go None p h = h
    go (Some q) p h = in_join (if_there (submission_of (after_requests e (requests_in l)) q) [] (calls_of (after_requests e (requests_in l)))) (calls_asked e (requests_in l)) (calls (submission_of (after_requests e (requests_in l)) q) p) h

-- ---- opens

-- the request, if one is asked, is no accepted open
abbrev pub NoOpenThen : Engine → Option Request → Type 0
NoOpenThen e None = Unit {0}
NoOpenThen e (Some q) = NoOpenAsked e q

module _ (x : Words) where
  -- a host's call that the engine answers as over words
  pub no_open-host : (c : HostCall) → NoOpen x (by_host c) → AnsweredAs (answer_on x (by_host c)) (requests.result_of (engine_of x) (host (one (host_in c)))) (out_given x (by_host c) (requests.result_of (engine_of x) (host (one (host_in c)))))
      → engine.NoOpen (engine_of x) (host_in c)
  unfolding requests.result_of
  no_open-host (hosts.HostCall.opens own sheet rights) n a o s q z = n own sheet rights refl (a.number ∙ z)
  no_open-host c n a o s q z = absurd (cc q)

  host-opens-none : (c : HostCall) → NoOpen x (by_host c) → (b : Bool) → Answered x (by_host c) (cond b (Some (host (one (host_in c)))) None) → NoOpenThen (engine_of x) (cond b (Some (host (one (host_in c)))) None)
  host-opens-none c n true a = no_open-host c n a
  host-opens-none c n false a = tt

  guest-opens-none : (b : Bool) (k : ℕ) (a : requests.Asked) → NoOpenThen (engine_of x) (cond b (Some (requests.guest k a)) None)
  guest-opens-none true k a = tt
  guest-opens-none false k a = tt

  pub no_open_then : state_reads x.state ≡ true → (c : LibraryCall) → NoOpen x c → NoOpenThen (engine_of x) (request_in c)
  unfolding request_in
  no_open_then r (by_host c) n = host-opens-none c n (host_can c) (call-answered x r (by_host c))
  no_open_then r (by_guest k c) n = guest-opens-none (form_can k c) k (requests.asks (guest_in c))
  no_open_then r (batch_by_host row answers) n = tt
  no_open_then r (batch_by_guest k row answers) n = tt

-- of lists, from words that give an engine on
pub no_opens_asked : (x : Words) (e : Engine) → Gives x e → (l : List LibraryCall) → AllTyped l → NoOpens x l → NoOpensAsked e (requests_in l)
unfolding requests_in
no_opens_asked x e g [] i n = tt
no_opens_asked x e g (c ∷ l) i n =
    let h = list_gives x e g l i.1 in
    go (request_in c) (subst (λ (d : Engine). NoOpenThen d (request_in c)) h.gives (no_open_then (after_list x l) h.can_read c n.0)) (no_opens_asked x e g l i.1 n.1)
  where
    go : (q : Option Request) → NoOpenThen (after_requests e (requests_in l)) q → NoOpensAsked e (requests_in l) → NoOpensAsked e (if_there q (requests_in l) (λ q. q ∷ requests_in l))
    go None p h = h
    go (Some q) p h = (p, h)
