-- What a record asks for: how its bytes are read.
use Rattle.std.specs.Prelude.{Bool, ◌||◌, if◌then◌else◌, List, [], ◌∷◌, ℕ, length, drop, codes, ◌==◌, nat_lt, Option, None, Some}
use Rattle.std.specs.Option.{option_map, option_and_then}
use Rattle.std.specs.List.{list_any}
use Rattle.std.specs.Str.{bytes_eq}
use Rattle.terms.specs.declared.Body.{Body}
use Rattle.terms.specs.declared.Proposal as P
use Rattle.terms.specs.Bodies.{body_of}
use Rattle.framing.specs.declared.TheConstants.{LONGEST}
use Rattle.records.specs.declared.Record.{Record}
use Rattle.records.specs.declared.Record.TheVariants.{Open, Propose, Endorse, Certify, Accept, Advance, Commit, Chain}
use Rattle.records.specs.Fields.{fields_of, next_by}
use Rattle.records.specs.Numbers.{number_in, set_in}
use Rattle.records.specs.Settings.{setting_in, weights_in, last_setting}
use Rattle.records.specs.Triples.{from_kind}

-- a proposal with an author and a round
abbrev pub proposal_of : ℕ → ℕ → Body → P.Proposal
proposal_of a r b = record { author = record { 0 = a }; round = r; body = b }

-- no field is left
abbrev pub ended_as : List (List ℕ) → Record → Option Record
ended_as [] r = Some r
ended_as (f ∷ fs) r = None

-- triples with a previous set are left
abbrev pub body_then : List (List ℕ) → ℕ → (Body → Record) → Option Record
body_then fs p k = option_map k (option_map (body_of p) (from_kind fs))

-- ---- the fields after the first, by what that one names

unfoldable pub open_of : List (List ℕ) → Option Record
open_of fs =
    next_by number_in fs
    (λ own fs. next_by setting_in fs
    (λ l fs. next_by setting_in fs (λ c fs. next_by setting_in fs (λ a fs.
    option_and_then (λ w. option_map (λ m. Open (record { 0 = own }) (record {
      lookback = l;
      ceiling = c;
      allowance = a;
      weights = w;
      margin = m;
      rights = record { 0 = 0 };
    }))
    (last_setting (drop 16 fs))) (weights_in 16 fs)))))

unfoldable pub propose_of : List (List ℕ) → Option Record
propose_of fs = next_by set_in fs (λ p fs. body_then fs p Propose)

unfoldable pub endorse_of : List (List ℕ) → Option Record
endorse_of fs =
    next_by number_in fs
    (λ a fs. next_by number_in fs
    (λ r fs. next_by set_in fs (λ p fs. body_then fs p (λ b. Endorse (proposal_of a r b)))))

unfoldable pub certify_of : List (List ℕ) → Option Record
certify_of fs = next_by set_in fs (λ e fs. ended_as fs (Certify e))

unfoldable pub accept_of : List (List ℕ) → Option Record
accept_of fs =
    next_by number_in fs
    (λ a fs. next_by number_in fs
    (λ r fs. next_by set_in fs (λ p fs. next_by set_in fs (λ e fs.
    body_then fs p (λ b. Accept (record { proposal = proposal_of a r b; endorsers = e }))))))

-- by the word that the first field is
unfoldable pub named : List ℕ → List (List ℕ) → Option Record
named w fs =
    if bytes_eq w (codes "open") then open_of fs
    else (if bytes_eq w (codes "propose") then propose_of fs
    else (if bytes_eq w (codes "endorse") then endorse_of fs
    else (if bytes_eq w (codes "certify") then certify_of fs
    else (if bytes_eq w (codes "accept") then accept_of fs
    else (if bytes_eq w (codes "advance") then ended_as fs Advance
    else (if bytes_eq w (codes "commit") then ended_as fs Commit
    else (if bytes_eq w (codes "chain") then ended_as fs Chain
    else None)))))))

abbrev pub by_fields : List (List ℕ) → Option Record
by_fields [] = None
by_fields (w ∷ fs) = named w fs

-- a quote mark, a CR or an LF, which in a record is a lone one
abbrev pub is_mark : ℕ → Bool
is_mark b = b == 34 || b == 13 || b == 10

abbrev pub is_damaged : List ℕ → Bool
is_damaged = list_any is_mark

-- what the record s, without its CRLF, asks for; none is unreadable, as one of more than 1,024 bytes with the CRLF
abbrev pub record_in : List ℕ → Option Record
record_in s = if nat_lt LONGEST (length s) || is_damaged s then None else by_fields (fields_of s)
