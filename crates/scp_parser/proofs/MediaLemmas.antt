-- What LOAD, SAVE, DUMP and RESTORE ask for, by the operands behind their names.
use Rattle.std.specs.Prelude.{codes}
use Rattle.std.specs.Option.{is_some}
use Rattle.std.proofs.Common.{◌≡◌, ℕ, true, None, Ok, List, [], length, refl, arith}
use Rattle.scp_parser.specs.declared.command.Verb.{Verb}
use Rattle.scp_parser.specs.declared.command.Verb.TheVariants as verb
use Rattle.scp_parser.specs.declared.names.CommandName.TheVariants.{Load, Save, Dump, Restore}
use Rattle.scp_parser.specs.Command.{Request, request_of, Keeps}
use Rattle.scp_parser.specs.Command as request
use Rattle.scp_parser.specs.Forms.{IsFlag, AreAddresses}
use Rattle.scp_parser.specs.Operands.{flag_of, addresses_of}
use Rattle.scp_parser.specs.Grammar.{Takes, MayTake, Operates}
use Rattle.scp_parser.specs.Faults.{WordFaults, NameFaults, OperandFaults}
use Rattle.scp_parser.specs.Reading.{map_ok, maybe, needed, load, save, dump_to, dump, restore_from, restore}
use Rattle.scp_parser.proofs.FormsDecided.{Forms_decided}
use Rattle.scp_parser.proofs.Settles.{Settles, then_seen}
use Rattle.scp_parser.proofs.FlagLemmas.{no_flag}
use Rattle.scp_parser.proofs.SizeLemmas.{no_addresses}
use Rattle.scp_parser.proofs.OperandLemmas.{needed_settles, maybe_begins}
use Rattle.scp_parser.proofs.OptionalLemmas.{optional_settles}
use Rattle.scp_parser.proofs.StepLemmas.{bind_keeps, needed_takes}
use Rattle.scp_parser.proofs.LastNameLemmas.{Names, with_name_settles, with_name_keeps}
use Rattle.scp_parser.proofs.EndLemmas.{IsEnd, behind_word, behind_maybe}

module _ (d : Forms_decided) (line : List ℕ) where
  abbrev see : Verb → Request
  see v = request_of line v

  abbrev bytes : ℕ
  bytes = length line

  -- LOAD and SAVE

  pub load_settles : (text : List ℕ) → IsEnd line text → Settles (map_ok see (load bytes text)) (Operates Load text) (OperandFaults Load text)
  unfolding load
  load_settles text end = with_name_settles line (λ name. verb.Load name) (λ name. request.Load name) text (λ p. refl) end

  pub load_keeps : (text : List ℕ) (v : Verb) → IsEnd line text → load bytes text ≡ Ok v → Keeps line v
  unfolding load
  load_keeps text v end h = with_name_keeps line (λ name. verb.Load name) text v (λ p is. is) end h

  pub save_settles : (text : List ℕ) → IsEnd line text → Settles (map_ok see (save bytes text)) (Operates Save text) (OperandFaults Save text)
  unfolding save
  save_settles text end = with_name_settles line (λ name. verb.Save name) (λ name. request.Save name) text (λ p. refl) end

  pub save_keeps : (text : List ℕ) (v : Verb) → IsEnd line text → save bytes text ≡ Ok v → Keeps line v
  unfolding save
  save_keeps text v end h = with_name_keeps line (λ name. verb.Save name) text v (λ p is. is) end h

  -- DUMP

  abbrev At : Type 0
  At = (ℕ × ℕ) × List ℕ

  pub dump_settles : (text : List ℕ) → IsEnd line text → Settles (map_ok see (dump bytes text)) (Operates Dump text) (OperandFaults Dump text)
  unfolding dump
  dump_settles text end =
      then_seen see (Takes AreAddresses text) (WordFaults AreAddresses true text) (dump_to bytes) (λ at. Names line (λ name. request.Dump at.0.0 at.0.1 name) at.1) (λ at. NameFaults at.1)
      (needed true addresses_of text) (needed_settles AreAddresses addresses_of d.addresses no_addresses true text)
      (λ (at : At) is. with_name_settles line (λ name. verb.Dump at.0.0 at.0.1 name) (λ name. request.Dump at.0.0 at.0.1 name) at.1 (λ p. refl) (behind_word line text is.0 at.1 end is.1))

  pub dump_keeps : (text : List ℕ) (v : Verb) → IsEnd line text → dump bytes text ≡ Ok v → Keeps line v
  unfolding dump
  dump_keeps text v end h =
      bind_keeps (Keeps line) (needed true addresses_of text) (dump_to bytes) v h (λ (at : At) is last.
      let there : Takes AreAddresses text at = needed_takes AreAddresses addresses_of d.addresses no_addresses true text at is in
      with_name_keeps line (λ name. verb.Dump at.0.0 at.0.1 name) at.1 v (λ p is. is) (behind_word line text there.0 at.1 end there.1) last)

  -- RESTORE

  abbrev force_flag : List ℕ
  force_flag = codes "-F"

  no_force : flag_of force_flag [] ≡ None
  no_force = no_flag force_flag (omega arith)

  pub restore_settles : (text : List ℕ) → IsEnd line text → Settles (map_ok see (restore bytes text)) (Operates Restore text) (OperandFaults Restore text)
  unfolding restore
  restore_settles text end =
      optional_settles (IsFlag force_flag) (flag_of force_flag) (d.flag force_flag) no_force text (λ force. map_ok see (restore_from bytes force))
      (λ force. Names line (λ name. request.Restore (is_some force.0) name) force.1) (λ force. NameFaults force.1)
      (λ force is. with_name_settles line (λ name. verb.Restore (is_some force.0) name) (λ name. request.Restore (is_some force.0) name) force.1 (λ p. refl)
      (behind_maybe (IsFlag force_flag) line text force.1 force.0 end is))

  pub restore_keeps : (text : List ℕ) (v : Verb) → IsEnd line text → restore bytes text ≡ Ok v → Keeps line v
  unfolding restore
  restore_keeps text v end h =
      let force = maybe (flag_of force_flag) text in
      let there : MayTake (IsFlag force_flag) text force = maybe_begins (IsFlag force_flag) (flag_of force_flag) (d.flag force_flag) no_force text in
      with_name_keeps line (λ name. verb.Restore (is_some force.0) name) force.1 v (λ p is. is) (behind_maybe (IsFlag force_flag) line text force.1 force.0 end there) h
