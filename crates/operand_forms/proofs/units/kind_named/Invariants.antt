use Rattle.std.proofs.Common.{◌≡◌, drop}
use Rattle.unit_trait.specs.Kinds.{kind_name}
use Rattle.line_text.specs.Words.{is_spelled}
use Rattle.operand_forms.specs.Names.{first_of}
use Rattle.operand_forms.proofs.units.kind_named.Given as goal

-- no kind before this place is named
abbrev pub invariant-loop-kind : goal.invariant-loop-kind
invariant-loop-kind l =
    first_of (λ kind. is_spelled l.word (kind_name kind)) (drop l.kind-index l.kinds) ≡ first_of (λ kind. is_spelled l.word (kind_name kind)) l.kinds
