-- What ATTACH and DETACH ask for, by the operands behind their names.
use Rattle.std.proofs.Common.{ℕ, Bool, true, false, cond, Option, List, length, refl}
use Rattle.unit_trait.specs.declared.kind.UnitName.{UnitName}
use Rattle.unit_trait.specs.Kinds.{takes_file}
use Rattle.scp_parser.specs.declared.command.Verb.{Verb}
use Rattle.scp_parser.specs.declared.command.Verb.TheVariants as verb
use Rattle.scp_parser.specs.declared.names.CommandName.TheVariants.{Attach, Detach}
use Rattle.scp_parser.specs.Command.{Request, request_of}
use Rattle.scp_parser.specs.Command as request
use Rattle.operand_forms.specs.Forms.{IsDecimal}
use Rattle.scp_parser.specs.Forms.{IsOption, IsTarget, IsDetached}
use Rattle.operand_forms.specs.Operands.{decimal}
use Rattle.scp_parser.specs.Operands.{option_of, target_of, detached_of}
use Rattle.scp_parser.specs.Grammar.{Takes, Ends, option_letter, Attaches, HasTarget, Operates}
use Rattle.scp_parser.specs.Faults.{WordFaults, EndFaults, AttachFaults, TargetFaults, OperandFaults}
use Rattle.scp_parser.specs.Reading.{map_ok, needed, ended, attach_file, attach_port, attach_unit, attach_target, attach, detach}
use Rattle.scp_parser.proofs.FormsDecided.{Forms_decided}
use Rattle.operand_forms.proofs.NothingLemmas.{no_decimal}
use Rattle.scp_parser.proofs.TargetLemmas.{no_option, no_target, no_detached}
use Rattle.scp_parser.proofs.Settles.{Settles, then_seen}
use Rattle.scp_parser.proofs.OperandLemmas.{ended_seen, needed_settles}
use Rattle.scp_parser.proofs.OptionalLemmas.{optional_settles}
use Rattle.scp_parser.proofs.LastNameLemmas.{with_name_settles}
pub use Rattle.scp_parser.proofs.EndLemmas.{IsEnd, behind_part, behind_word, behind_maybe}

module _ (d : Forms_decided) (line : List ℕ) where
  abbrev see : Verb → Request
  see v = request_of line v

  abbrev bytes : ℕ
  bytes = length line

  -- a file

  file_settles : (option : ℕ) (u : UnitName) (text : List ℕ) → IsEnd line text → Settles (map_ok see (attach_file bytes option u text)) (Attaches true option u text) (AttachFaults true text)
  file_settles option u text end = with_name_settles line (λ name. verb.Attach option u name) (λ name. request.Attach option u name) text (λ p. refl) end

  -- a port

  port_settles : (option : ℕ) (u : UnitName) (text : List ℕ) → Settles (map_ok see (attach_port u.kind text)) (Attaches false option u text) (AttachFaults false text)
  port_settles option u text =
      then_seen see (Takes IsDecimal text) (WordFaults IsDecimal true text) (λ n. ended (verb.AttachPort u.kind n.0) n.1) (λ n. Ends (request.AttachPort u.kind n.0) n.1) (λ n. EndFaults n.1)
      (needed true decimal text) (needed_settles IsDecimal decimal d.decimal no_decimal true text) (λ n is. ended_seen see (verb.AttachPort u.kind n.0) n.1)

  -- either of them, behind the unit

  either_settles : (takes : Bool) (option : ℕ) (u : UnitName) (text : List ℕ) → IsEnd line text
      → Settles (map_ok see (cond takes (attach_file bytes option u text) (attach_port u.kind text))) (Attaches takes option u text) (AttachFaults takes text)
  either_settles true option u text end = file_settles option u text end
  either_settles false option u text end = port_settles option u text

  target_settles : (option : Option ℕ) (text : List ℕ) → IsEnd line text → Settles (map_ok see (attach_target bytes (option, text))) (HasTarget option text) (TargetFaults option text)
  target_settles option text end =
      then_seen see (Takes (IsTarget option) text) (WordFaults (IsTarget option) false text) (attach_unit bytes option)
      (λ u. Attaches (takes_file u.0.kind) (option_letter option) u.0 u.1) (λ u. AttachFaults (takes_file u.0.kind) u.1) (needed false (target_of option) text)
      (needed_settles (IsTarget option) (target_of option) (d.target option) (no_target option) false text)
      (λ u is. either_settles (takes_file u.0.kind) (option_letter option) u.0 u.1 (behind_word line text is.0 u.1 end is.1))

  -- behind an option, which may be left out

  pub attach_settles : (text : List ℕ) → IsEnd line text → Settles (map_ok see (attach bytes text)) (Operates Attach text) (OperandFaults Attach text)
  unfolding attach
  attach_settles text end =
      optional_settles IsOption option_of d.option no_option text (λ option. map_ok see (attach_target bytes option)) (λ option. HasTarget option.0 option.1) (λ option. TargetFaults option.0 option.1)
      (λ option is. target_settles option.0 option.1 (behind_maybe IsOption line text option.1 option.0 end is))

  pub detach_settles : (text : List ℕ) → Settles (map_ok see (detach text)) (Operates Detach text) (OperandFaults Detach text)
  unfolding detach
  detach_settles text =
      then_seen see (Takes IsDetached text) (WordFaults IsDetached false text) (λ u. ended (verb.Detach u.0) u.1) (λ u. Ends (request.Detach u.0) u.1) (λ u. EndFaults u.1) (needed false detached_of text)
      (needed_settles IsDetached detached_of d.detached no_detached false text) (λ u is. ended_seen see (verb.Detach u.0) u.1)
