use Rattle.std.proofs.Common.{◌/◌, ◌%◌, arith}
use Rattle.ports.proofs.ByteLaws.{line_long}
use Rattle.ports.proofs.RegisterNextLaws.{inside_at, next_line_at, none_told, line_found, first_told}
use Rattle.ports.proofs.registers.next_byte.Goals as goal

pub returns-then-bytes-line_length : goal.returns-then-bytes-line_length
returns-then-bytes-line_length c = inside_at _ _ _ _ c.requires.formed c.word-place.ensures c.word-bytes.ensures c.if-place-ne0.true (omega arith) c.line_byte.ensures

pub returns-in_default : goal.returns-in_default
returns-in_default c = none_told _ _ _ _ c.requires.formed (next_line_at _ _ _ _ c.requires.formed c.word-place.ensures c.word-bytes.ensures c.in_default.ensures (λ k. grind arith))

pub line_byte-requires-2 : goal.line_byte-requires-2
line_byte-requires-2 c = (line_found _ _ _ _ c.requires.formed (next_line_at _ _ _ _ c.requires.formed c.word-place.ensures c.word-bytes.ensures c.in-Some.ensures (λ k. grind arith)), line_long c.args.chain.table.now (c.in-Some.q % 16) (c.in-Some.q / 16))

pub returns : goal.returns
returns c = first_told _ _ _ _ c.requires.formed (next_line_at _ _ _ _ c.requires.formed c.word-place.ensures c.word-bytes.ensures c.in-Some.ensures (λ k. grind arith)) c.line_byte-2.ensures
