-- What the words that each call is handed give.
use Rattle.std.proofs.Common.{true, List, ℕ, ltb, ltb-true}
use Rattle.terms.specs.declared.Member.{Member}
use Rattle.engine.specs.Calls.{Aside, opens, propose, endorse, certify, accept, advance, commit, enqueue, draw, port, aside}
use Rattle.serial.specs.Calls.{PortCall, PortInRange}
use Rattle.words.specs.Bodies.{lone_body_reads, body_in, lone_triple_reads, triple_in}
use Rattle.words.specs.Proposals.{proposal_reads, proposal_in, certificate_reads, certificate_in}
use Rattle.terms.specs.declared.sheet.Rights.{Rights}
use Rattle.words.specs.Sheets.{sheet_reads, sheet_in}
use Rattle.hosting.specs.Handed.{Handed}
use Rattle.words.proofs.ReadingLaws.{lone_body_read, proposal-read, certificate-read}
use Rattle.words.proofs.TidyLaws.{body-tidy}

pub open_handed : (own : Member) (sheet : List ℕ) (R : Rights) → Handed (sheet_reads sheet) (opens own (sheet_in sheet R))
open_handed own sheet R = record { is_in_range = λ r. tt; tidy = λ x q. cc }

pub propose-handed : (b : List ℕ) → Handed (lone_body_reads b) (propose (body_in b 0))
propose-handed b = record { is_in_range = lone_body_read b; tidy = λ x q. cc (body-tidy b 0) }

pub endorse-handed : (p : List ℕ) → Handed (proposal_reads p) (endorse (proposal_in p))
endorse-handed p = record { is_in_range = proposal-read p; tidy = λ x q. cc }

pub certify-handed : (d : ℕ) → Handed (ltb d 65536) (certify d)
certify-handed d = record { is_in_range = ltb-true d 65536; tidy = λ x q. cc }

pub accept-handed : (c : List ℕ) → Handed (certificate_reads c) (accept (certificate_in c))
accept-handed c = record { is_in_range = certificate-read c; tidy = λ x q. cc }

pub advance-handed : Handed true advance
advance-handed = record { is_in_range = λ r. tt; tidy = λ x q. cc }

pub commit-handed : Handed true commit
commit-handed = record { is_in_range = λ r. tt; tidy = λ x q. cc }

pub enqueue-handed : (g : ℕ) (x : List ℕ) → Handed (lone_triple_reads x) (enqueue g (triple_in x))
enqueue-handed g x = record { is_in_range = λ r. tt; tidy = λ x q. cc }

pub draw-handed : (v : ℕ) → Handed (ltb v 65536) (draw v)
draw-handed v = record { is_in_range = ltb-true v 65536; tidy = λ x q. cc }

pub port-handed : (x : PortCall) → PortInRange x → Handed true (port x)
port-handed x i = record { is_in_range = λ r. i; tidy = λ x q. cc }

pub aside-handed : (x : Aside) → Handed true (aside x)
aside-handed a = record { is_in_range = λ r. tt; tidy = λ x q. cc }
