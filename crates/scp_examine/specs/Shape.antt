-- What the places of a machine depend on, which no DEPOSIT changes.
use Rattle.std.specs.Prelude.{ℕ, ◌==◌, ◌||◌, Bool, true, false, List, [], ◌∷◌}
use Rattle.unit_trait.specs.declared.kind.Kind.{Kind}
use Rattle.unit_trait.specs.Kinds.{code_of}
use Rattle.unit_list.specs.Bus.{kinds_of}
use Rattle.nova_machine.specs.Machine.{MachineState}
use Rattle.operand_forms.specs.declared.listing.Name.{Name}
use Rattle.operand_forms.specs.declared.listing.Name.TheVariants as whose

-- how many words of memory a machine has, and the kinds of its units, in bus order
pub record Shape : Type 0 where
  pub size : ℕ
  pub kinds : List Kind

abbrev pub shape_of : MachineState → Shape
shape_of m = record { size = m.processor.memory.size; kinds = kinds_of m.units }

-- whether a kind is one of these: no two kinds have one code
abbrev pub has_kind : Kind → List Kind → Bool
has_kind kind [] = false
has_kind kind (k ∷ more) = (code_of k == code_of kind) || has_kind kind more

-- whether a machine has what is named: its processor, or a unit of that kind
abbrev pub has_named : Shape → Name → Bool
has_named shape whose.Cpu = true
has_named shape (whose.Device kind) = has_kind kind shape.kinds
