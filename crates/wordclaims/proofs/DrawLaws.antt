-- Draws are fair over every list of the library's calls.
use Rattle.std.proofs.Common.{◌≡◌, refl, sym, ap, ◌∙◌, subst, List, [], ◌∷◌, ◌++◌, Option, Some, None}
use Rattle.base.specs.Options.{if_there}
use Rattle.engine.specs.Engine.{Engine}
use Rattle.submissions.specs.Requests.{Request, result_of}
use Rattle.fairness.specs.Fairness.{Moment, FairIn}
use Rattle.fairness.specs.Guests.{request_moments, moments_asked}
use Rattle.fairness.proofs.GuestLaws.{fairness_with_guests}
use Rattle.library.specs.Calls.{LibraryCall, request_in}
use Rattle.library.specs.Lists.{Words, after_call, requests_in, Opening, after_opening, engine_opened, AllTyped, Gives}
use Rattle.library.proofs.StepLaws.{left}
use Rattle.library.proofs.ListLaws.{opening-gives, call-gives}
use Rattle.wordclaims.specs.Guests.{moments_left}

-- the moments of words are those of the requests that they are read as
moments-asked : (x : Words) (e : Engine) → Gives x e → (l : List LibraryCall) → AllTyped l → moments_left x l ≡ moments_asked e (requests_in l)
unfolding moments_left moments_asked requests_in
moments-asked x e g [] i = refl
moments-asked x e g (c ∷ l) i =
    ap (λ (d : Engine). if_there (request_in c) [] (request_moments d) ++ moments_left (after_call x c) l) g.gives ∙ go (request_in c) (call-gives x e g c i.0) (λ d h. moments-asked (after_call x c) d h l i.1)
  where
    go : (q : Option Request) → Gives (after_call x c) (left e q) → ((d : Engine) → Gives (after_call x c) d → moments_left (after_call x c) l ≡ moments_asked d (requests_in l))
        → if_there q [] (request_moments e) ++ moments_left (after_call x c) l ≡ moments_asked e (if_there q (requests_in l) (λ q. q ∷ requests_in l))
    go None h f = f e h
    go (Some q) h f = ap (λ (m : List Moment). request_moments e q ++ m) (f (result_of e q).engine h)

pub draws_are_fair : (x : Opening) (l : List LibraryCall) → AllTyped l → FairIn (moments_left (after_opening x) l)
draws_are_fair x l i = subst FairIn (sym (moments-asked (after_opening x) (engine_opened x) (opening-gives x) l i)) (fairness_with_guests (engine_opened x) (requests_in l))
