use Rattle.std.proofs.Common.{sym}
use Rattle.state.proofs.FormedLaws.{formed}
use Rattle.owned.proofs.known.view.Goals as goal

pub words-words-requires : goal.words-words-requires
words-words-requires c = formed _ _ (sym c.requires.form)

pub invariant_of-result : goal.invariant_of-result
invariant_of-result c =
    let w = sym c.requires.form in
    record { known = w; formed = formed _ _ w; caches = rw c.words-words.ensures.1 (c.requires.committees w) }
