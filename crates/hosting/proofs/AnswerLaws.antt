-- The weights of a committee that is read fit a word each.
use Rattle.std.proofs.Common.{◌≡◌, List, ℕ, arith}
use Rattle.base.proofs.SumLaws.{sum_at}
use Rattle.terms.specs.Ranges.{weight_in}
use Rattle.terms.specs.declared.sheet.Weight.{Weight}
use Rattle.committee.specs.Committees.{committee_of}
use Rattle.committee.specs.Chain.{chain_of}
use Rattle.chain_committees.proofs.TotalBound.{committee-total}
use Rattle.rules.specs.Reads.{committee_read}
use Rattle.state.specs.declared.State.{State}
use Rattle.state.specs.View.{view}
use Rattle.reads.specs.Reads.{committee_refusal}
use Rattle.reads.proofs.ReadLaws.{committee-passed}
use Rattle.words.specs.Words.{Narrow}

pub committee-narrow : (s : State) (t : List ℕ) (r : ℕ) {x : List Weight} → committee_refusal s t r ≡ 0 → x ≡ committee_read s.settings (view s t) r → Narrow x
committee-narrow s t r n e =
    let f = committee-passed s t r n in
    let w = committee_of s.settings (chain_of s.settings.ceiling t s.blocks) r in
    let k = committee-total s.settings t s.blocks r f.settings f.rows in
    rw e (λ i h. let l = sum_at (weight_in w) 16 i h in omega arith)
