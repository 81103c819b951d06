-- Words of the prover's own library that proofs here cite and std's Common does not pass on. Declares nothing.
pub use borrow.Author.Tests.{eqb-false, lt-leb, not-false, not-true}
pub use borrow.Rule.Slice.PartMut.{mid_len, mid_of, put_mid}
pub use denote.Param.{number}
pub use denote.Param.Members.{Mut}
pub use lib.Bits.{and_le_l, and_step, or_lt, or_step}
unfoldable pub use lib.Count.{ones, ones_in}
pub use lib.Count.{ones_step}
pub use lib.Dec.{eqb-suc-suc, eqb-suc-zero, eqb-zero-suc}
pub use lib.ListN.{get_or-append, get_or-eq_default, get_or-map, get_or-replicate, length-map, length-replicate}
pub use lib.Pow.{field, mod-mod-pow, pow-lt}
pub use lib.Seq.{paste, sets}
pub use lib.Seq.{append_snoc, drop-append-add, drop-paste, get_or-append_seam, length-paste, length_paste_head, paste-suc, paste-zero, set-get_or, set_out, sets-eq, take-append-add, take-paste}
pub use mathlib.Core.Bool.{and-false, and-or_distrib_left, and-true, and_assoc, and_comm, false≢true, not-not, or-false, or-true, or_comm}
pub use mathlib.Core.Path.{fun_ext}
pub use native.Mathlib.Decide.{dec_le, dec_lt, ℕ_discrete}
pub use native.Mathlib.Nat.{div-add-mod, div-div-eq-div-mul, lt-div-mul-add, lt_of_mul-lt-mul_left, pow-succ'}
pub use native.Mathlib.Numerals.{add-two}
