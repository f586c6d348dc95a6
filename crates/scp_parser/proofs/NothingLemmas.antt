-- The text without a byte has no form.
use Rattle.std.proofs.Common.{◌≡◌, [], None, refl}
use Rattle.operand_forms.specs.Operands.{kind_named, drive_of, unit_of}
use Rattle.scp_parser.specs.Operands.{subject_of, symbolic_of}

pub no_symbolic : symbolic_of [] ≡ None
unfolding symbolic_of
no_symbolic = refl

pub no_subject : subject_of [] ≡ None
unfolding subject_of unit_of kind_named drive_of
no_subject = refl
