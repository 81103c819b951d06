use Rattle.std.proofs.Common.{◌∙◌, ap, arith, replicate}
use Rattle.sha2.specs.Sha256.{sha256}
use Rattle.storing.proofs.SignedLaws.{all_put}
use Rattle.storing.proofs.signed.digest_of.Goals as goal

pub returns : goal.returns
returns c = c.sha256.ensures ∙ ap sha256 (c.put_words.ensures ∙ all_put c.args.words.now (replicate 88 0) (omega arith))
