use Rattle.std.proofs.Common.{refl, arith, Contains}
use Rattle.unit_trait.specs.declared.kind.Kind.{Kind}
use Rattle.unit_trait.proofs.EveryKind.{every-kind}
use Rattle.scp_examine.specs.Laws.{kinds_by_code}
use Rattle.scp_examine.proofs.laws.symbolic_devices_are_the_kinds.Goals as goal

listed : (kind : Kind) → Contains kinds_by_code kind
listed = every-kind (λ (k : Kind). Contains kinds_by_code k)
    ((6, omega arith, refl), (7, omega arith, refl), (5, omega arith, refl), (2, omega arith, refl), (3, omega arith, refl), (4, omega arith, refl), (0, omega arith, refl), (1, omega arith, refl), (9, omega arith, refl), (10, omega arith, refl), (8, omega arith, refl))

pub returns : goal.returns
returns c = record { names = refl; all = listed }
