-- A step of a reader behind an operand that may be left out.
use Rattle.std.proofs.Common.{◌≡◌, ℕ, Option, None, Result, List, [], ap, ◌∙◌}
use Rattle.scp_parser.specs.declared.fault.ParseFault.{ParseFault}
use Rattle.scp_parser.specs.Grammar.{Then, MayTake}
use Rattle.scp_parser.specs.Reading.{maybe}
use Rattle.operand_forms.proofs.Decides.{Decides}
use Rattle.scp_parser.proofs.Settles.{Settles, sound_weaker}
use Rattle.scp_parser.proofs.OperandLemmas.{maybe_given, maybe_begins}

module _ {V : Type 0} (Form : List ℕ → V → Type 0) (form : List ℕ → Option V) (decides : Decides Form form) (none : form [] ≡ None) where
  pub optional_settles : {B : Type 0} (text : List ℕ) (next : Option V × List ℕ → Result B ParseFault) (Q : Option V × List ℕ → B → Type 0) (G : Option V × List ℕ → ParseFault → Type 0)
      → ((x : Option V × List ℕ) → MayTake Form text x → Settles (next x) (Q x) (G x)) → Settles (next (maybe form text)) (Then (MayTake Form text) Q) (Then (MayTake Form text) G)
  optional_settles text next Q G settles =
      let x = maybe form text in
      let takes : MayTake Form text x = maybe_begins Form form decides none text in
      let given : (y : Option V × List ℕ) → MayTake Form text y → next x ≡ next y = λ y is. ap next (maybe_given Form form decides none text y.1 y.0 is) in
      record {
        reads = λ b is. given is.0 is.1 ∙ (settles is.0 is.1).reads b is.2;
        faults = λ e is. given is.0 is.1 ∙ (settles is.0 is.1).faults e is.2;
        found = sound_weaker (Q x) (Then (MayTake Form text) Q) (G x) (Then (MayTake Form text) G) (next x) (λ b is. (x, takes, is)) (λ e is. (x, takes, is)) (settles x takes).found;
      }
