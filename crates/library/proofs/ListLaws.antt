-- Laws of lists of the library's calls: from an accepted open the words give the engine that the requests lead to.
use Rattle.std.proofs.Common.{refl, ap, ◌∙◌, [], ◌∷◌, Option, Some, None}
use Rattle.base.specs.Options.{if_there}
use Rattle.engine.specs.Engine.{Engine}
use Rattle.submissions.specs.Requests.{Request, after_requests}
use Rattle.words.specs.Sheets.{sheet_reads}
use Rattle.hosting.proofs.CallLaws.{accepted-call}
use Rattle.hosting.proofs.NextLaws.{accepted-gives}
use Rattle.hosting.proofs.HandedLaws.{open_handed}
use Rattle.hosting.specs.HostCalls.{opens, host_in}
use Rattle.library.specs.Calls.{LibraryCall, by_host, Typed, request_in}
use Rattle.library.specs.Lists.{Words, after_call, after_list, requests_in, Opening, after_opening, engine_opened, Gives, AllTyped}
use Rattle.library.proofs.StepLaws.{left, call-leaves}
use Rattle.std.specs.Prelude.{List}

-- an accepted open
pub opening-gives : (x : Opening) → Gives (after_opening x) (engine_opened x)
opening-gives x =
    let c = by_host (opens x.own x.sheet x.rights) in
    let h = open_handed (record { 0 = x.own }) x.sheet (record { 0 = x.rights }) in
    let a = accepted-call x.before.state x.before.table [] (sheet_reads x.sheet) (host_in (opens x.own x.sheet x.rights)) x.accepted in
    let g = accepted-gives x.before.state x.before.table [] h x.accepted in
    record { can_read = g.can_read; gives = rw (g.gives, a.its_table) refl }

-- a call more
pub call-gives : (x : Words) (e : Engine) → Gives x e → (c : LibraryCall) → Typed c → Gives (after_call x c) (left e (request_in c))
call-gives x e g c i = let k = call-leaves x.state x.table g.can_read c i in record { can_read = k.can_read; gives = k.gives ∙ ap (λ (d : Engine). left d (request_in c)) g.gives }

-- from words that give an engine on, those that a list of calls leaves give the engine that its requests lead to
pub list_gives : (x : Words) (e : Engine) → Gives x e → (l : List LibraryCall) → AllTyped l → Gives (after_list x l) (after_requests e (requests_in l))
unfolding after_list requests_in after_requests
list_gives x e g [] i = g
list_gives x e g (c ∷ l) i = go (request_in c) (call-gives (after_list x l) (after_requests e (requests_in l)) (list_gives x e g l i.1) c i.0)
  where
    go : (q : Option Request) → Gives (after_call (after_list x l) c) (left (after_requests e (requests_in l)) q)
        → Gives (after_call (after_list x l) c) (after_requests e (if_there q (requests_in l) (λ q. q ∷ requests_in l)))
    go None g = g
    go (Some q) g = g

-- so it is from an accepted open on
pub words_give_engines : (x : Opening) (l : List LibraryCall) → AllTyped l → Gives (after_list (after_opening x) l) (after_requests (engine_opened x) (requests_in l))
words_give_engines x = list_gives (after_opening x) (engine_opened x) (opening-gives x)
