-- A call on a file that fails, as those outside say it.
use Rattle.std.specs.Prelude.{ℕ, Bool, true, false, Option, Some, None, if◌then◌else◌}
use Rattle.file_traits.specs.declared.files.FileCall.{FileCall}
use Rattle.file_traits.specs.declared.files.FileCall.TheVariants.{Opening, Length, Read, Write, SetLength, Closing}

-- the call that fails, and how many bytes it wrote
pub record Failure : Type 0 where
  pub call : FileCall
  pub done : ℕ

abbrev pub same_call : FileCall → FileCall → Bool
same_call Opening Opening = true
same_call Length Length = true
same_call Read Read = true
same_call Write Write = true
same_call SetLength SetLength = true
same_call Closing Closing = true
same_call a b = false

-- the failure, where it is one of this call
abbrev pub failure_at : FileCall → Option Failure → Option Failure
failure_at call None = None
failure_at call (Some f) = if same_call f.call call then Some f else None
