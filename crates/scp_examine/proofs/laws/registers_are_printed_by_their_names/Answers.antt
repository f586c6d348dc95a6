use Rattle.std.proofs.Common.{◌≡◌, map, refl}
use Rattle.unit_trait.specs.declared.kind.Kind.{Kind}
use Rattle.unit_trait.specs.Multiplexer.{line_numbers}
use Rattle.unit_trait.proofs.EveryKind.{every-kind}
use Rattle.operand_forms.specs.declared.listing.Name.TheVariants.{Cpu, Device}
use Rattle.operand_forms.specs.Names.{register_names}
use Rattle.scp_examine.specs.Places.{numbered, place_name, all_of}
use Rattle.scp_examine.specs.Laws.{RegistersHaveNames}
use Rattle.scp_examine.proofs.laws.registers_are_printed_by_their_names.Goals as goal

have_names : RegistersHaveNames
unfolding numbered line_numbers
have_names Cpu = refl
have_names (Device kind) = every-kind (λ (k : Kind). map place_name (all_of (Device k)) ≡ register_names (Device k)) (refl, refl, refl, refl, refl, refl, refl, refl, refl, refl, refl) kind

pub returns : goal.returns
returns c = have_names
