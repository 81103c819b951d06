use Rattle.std.proofs.Common.{refl}
use Rattle.preview.specs.Preview.{preview_refusal, preview_list}
use Rattle.hosting.proofs.SettledLaws.{listed}
use Rattle.owned.proofs.lists.preview.Goals as goal

pub returns : goal.returns
unfolding preview_refusal preview_list
returns c = let s = c.in-Some.ensures in
    let x = rw s.1 at c.preview_kept.ensures in
    listed _ _ _ _ _ refl s.0 x.refusal x.value refl x.list
