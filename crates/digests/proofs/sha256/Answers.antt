use Rattle.std.proofs.Common.{◌≡◌, refl, List, ℕ, ◌/◌, length, sym, ap, ap₂, ◌∙◌, arith}
use Rattle.sha2.specs.Sha256.{compress, digest_bytes, hash_after, initial_hash_256}
use Rattle.sha2.proofs.Absorbing256.{hash_after_next}
use Rattle.digests.proofs.BlockLaws.{sha256_by, block_cut}
use Rattle.digests.proofs.sha256.Goals as goal

pub loop-i-init : goal.loop-i-init
unfolding hash_after
loop-i-init c = refl

pub loop-i-preserved : goal.loop-i-preserved
loop-i-preserved c =
    let m : List ℕ = c.args.message.now in
    c.compress.ensures ∙ ap₂ compress c.loop-i.invariant (block_cut m c.loop-i.i) ∙ sym (hash_after_next initial_hash_256 m c.loop-i.i)

pub returns : goal.returns
returns c =
    let m : List ℕ = c.args.message.now in
    let done : c.loop-i.i ≡ length m / 64 = omega arith in
    let h : c.loop-i.hash ≡ hash_after initial_hash_256 m (length m / 64) = rw done at c.loop-i.invariant in
    c.output.ensures ∙ ap (λ (x : List ℕ). digest_bytes x 8) (c.compress-2.ensures ∙ ap₂ compress h c.last_block.ensures) ∙ sha256_by m c.requires
