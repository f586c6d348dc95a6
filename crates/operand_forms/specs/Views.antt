-- The form in which a text that is split answers.
use Rattle.std.specs.Prelude.{ℕ, List, Option, Some, None, if◌then◌else◌}
use Rattle.operand_forms.specs.Operands.{has_mark, behind}

-- what stands behind the first byte of that value, if there is one
abbrev pub some_behind : ℕ → List ℕ → Option (List ℕ)
some_behind mark text = if has_mark mark text then Some (behind mark text) else None
