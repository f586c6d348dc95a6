-- What ASSERT asks for, by the operands behind its name.
use Rattle.std.proofs.Common.{◌≡◌, ℕ, false, Option, Ok, List}
use Rattle.unit_trait.specs.declared.kind.Kind.{Kind}
use Rattle.operand_forms.specs.declared.listing.Name.{Name}
use Rattle.operand_forms.specs.declared.listing.Item.{Item}
use Rattle.operand_forms.specs.declared.listing.Condition.{Condition}
use Rattle.operand_forms.specs.Forms.{IsDevice, IsTested}
use Rattle.operand_forms.specs.Operands.{device_of}
use Rattle.scp_parser.specs.declared.command.Verb.{Verb}
use Rattle.scp_parser.specs.declared.command.Verb.TheVariants as verb
use Rattle.scp_parser.specs.declared.names.CommandName.TheVariants.{Assert}
use Rattle.scp_parser.specs.Command.{Request, request_of, Keeps}
use Rattle.scp_parser.specs.Command as request
use Rattle.scp_parser.specs.Forms.{IsTest, compared}
use Rattle.scp_parser.specs.Operands.{test_of}
use Rattle.scp_parser.specs.Grammar.{Takes, Ends, Asserts, test_with, name_of, Operates}
use Rattle.scp_parser.specs.Faults.{WordFaults, EndFaults, FaultThen, OperandFaults}
use Rattle.scp_parser.specs.Reading.{map_ok, maybe, needed, ended, assert_of, assert}
use Rattle.operand_forms.proofs.FormLemmas.{device_decides}
use Rattle.operand_forms.proofs.NothingLemmas.{no_device}
use Rattle.scp_parser.proofs.Settles.{Settles, then_seen, sound_of}
use Rattle.scp_parser.proofs.OperandLemmas.{ended_seen, needed_settles}
use Rattle.scp_parser.proofs.TestLemmas.{test_decides, no_test}
use Rattle.scp_parser.proofs.OptionalLemmas.{optional_settles}
use Rattle.scp_parser.proofs.StepLemmas.{bind_keeps, ended_keeps}

test_settles : (device : Name) (text : List ℕ) → Settles (needed false (test_of device) text) (Takes (IsTest device) text) (WordFaults (IsTest device) false text)
test_settles device text = needed_settles (IsTest device) (test_of device) (test_decides device) (no_test device) false text

module _ (line : List ℕ) where
  abbrev see : Verb → Request
  see v = request_of line v

  tested_settles : (kind : Option Kind) (text : List ℕ)
      → Settles (map_ok see (assert_of (kind, text))) (Asserts (name_of kind) text) (FaultThen (WordFaults (IsTest (name_of kind)) false text) (Takes (IsTest (name_of kind)) text) (λ t. EndFaults t.1))
  tested_settles kind text =
      let device = name_of kind in
      then_seen see (Takes (IsTest device) text) (WordFaults (IsTest device) false text) (λ t. ended (verb.Assert (test_with device t.0)) t.1) (λ t. Ends (request.Assert (test_with device t.0)) t.1)
      (λ t. EndFaults t.1) (needed false (test_of device) text) (test_settles device text) (λ t is. ended_seen see (verb.Assert (test_with device t.0)) t.1)

  pub assert_settles : (text : List ℕ) → Settles (map_ok see (assert text)) (Operates Assert text) (OperandFaults Assert text)
  unfolding assert
  assert_settles text =
      optional_settles IsDevice device_of device_decides no_device text (λ kind. map_ok see (assert_of kind)) (λ kind. Asserts (name_of kind.0) kind.1)
      (λ kind. FaultThen (WordFaults (IsTest (name_of kind.0)) false kind.1) (Takes (IsTest (name_of kind.0)) kind.1) (λ t. EndFaults t.1))
      (λ kind is. tested_settles kind.0 kind.1)

-- what is tested can be

test_can : (device : Name) (text : List ℕ) (x : Item × Condition) → IsTest device text x → IsTested x.0
test_can device text x (compared name digits item rel value is can number) = can

tested_keeps : (line text : List ℕ) (kind : Option Kind) (v : Verb) → assert_of (kind, text) ≡ Ok v → Keeps line v
tested_keeps line text kind v h =
    let device = name_of kind in
    bind_keeps (Keeps line) (needed false (test_of device) text) (λ t. ended (verb.Assert (test_with device t.0)) t.1) v h (λ t is last.
    let there : Takes (IsTest device) text t = sound_of (Takes (IsTest device) text) (WordFaults (IsTest device) false text) (needed false (test_of device) text) (Ok t) is (test_settles device text).found in
    ended_keeps (Keeps line) (verb.Assert (test_with device t.0)) t.1 v last (test_can device there.0 t.0 there.2))

pub assert_keeps : (line text : List ℕ) (v : Verb) → assert text ≡ Ok v → Keeps line v
unfolding assert
assert_keeps line text v h = tested_keeps line (maybe device_of text).1 (maybe device_of text).0 v h
