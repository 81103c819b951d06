-- What a program ends with.
use Rattle.std.specs.Prelude.{◌≡◌, Result, IsOk, IsErrAnd, IsErrOf, ⊤}
use Rattle.std.specs.IoError.{error_kind}
use Rattle.std_io.specs.declared.io.error.Error.{Error}
use Rattle.std_io.specs.declared.io.kind.ErrorKind.TheVariants.{Other}
use Rattle.stream.specs.declared.ended.Ended.{Ended}
use Rattle.stream.specs.declared.ended.Ended.TheVariants.{Input, ReadFailed, WriteFailed, TooLong}

-- by how its run ended: all is well at the end of the input alone, and a read or a write that failed is told as it failed
abbrev pub Tells : Ended → Result ⊤ Error → Type 0
Tells Input r = IsOk r
Tells (ReadFailed why) r = IsErrOf r why
Tells (WriteFailed why) r = IsErrOf r why
Tells TooLong r = IsErrAnd r (λ e. error_kind e ≡ Other)
