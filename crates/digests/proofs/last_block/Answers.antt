use Rattle.std.proofs.Common.{ℕ, ◌-◌, ◌*◌, ◌/◌, ◌%◌, ◌^◌, List, ◌∷◌, append_assoc, length, length-drop, drop, replicate, refl, ap, ◌∙◌, arith}
use Rattle.std.specs.Int.{w64, to_be_bytes}
use Rattle.std.proofs.Math.Seq.{paste}
use Rattle.digests.proofs.BlockLaws.{block_put, length-zeros}
use Rattle.digests.proofs.last_block.Goals as goal

pub returns : goal.returns
returns c =
    let m : List ℕ = c.args.message.now in
    let u : ℕ = length m % 64 in
    let x : List ℕ = drop (length m / 64 * 64) m in
    let y : List ℕ = 0x80 ∷ replicate ((119 - u) % 64) 0 in
    let w : List ℕ = to_be_bytes w64 (length m * 8 % 2 ^ 64) in
    let third = rw c.to_be_bytes.ensures at c.put-3.ensures in
    let second = rw c.padding.ensures at c.put-2.ensures in
    let first = rw c.end_of.ensures at c.put.ensures in
    third
    ∙ ap (λ (v : List ℕ). paste v 56 w 8) (second ∙ ap (λ (v : List ℕ). paste v u y (length y)) first)
    ∙ block_put (replicate 64 0) x y w u refl (length-drop (length m / 64 * 64) m ∙ omega arith) (length-zeros u c.requires) refl
    ∙ append_assoc x y w
