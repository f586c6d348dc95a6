-- What each command asks for, by the operands behind its name.
use Rattle.std.proofs.Common.{◌≡◌, ℕ, Bool, true, false, cond, Option, Ok, List, length, inl, inr}
use Rattle.operand_forms.specs.declared.listing.Listing.{Listing}
use Rattle.scp_parser.specs.declared.command.Verb.{Verb}
use Rattle.scp_parser.specs.declared.command.Verb.TheVariants as verb
use Rattle.scp_parser.specs.declared.fault.ParseFault.{ParseFault}
use Rattle.scp_parser.specs.declared.names.AloneName.{AloneName}
use Rattle.scp_parser.specs.declared.names.AloneName.TheVariants.{Cont, Reset, NoExpect, NoSend}
use Rattle.scp_parser.specs.declared.names.CommandName.{CommandName}
use Rattle.scp_parser.specs.declared.names.CommandName.TheVariants.{Alone, Examine, Deposit, Run, Go, Step, Attach, Detach, Show, Exit}
use Rattle.scp_parser.specs.declared.names.CommandName.TheVariants.{Break, NoBreak, Expect, Send, Load, Save, Dump, Restore, Set, Do, Goto, Assert, Echo}
use Rattle.scp_parser.specs.Command.{Request, request_of}
use Rattle.scp_parser.specs.Command as request
use Rattle.scp_parser.specs.Names.{alone_verb, alone_request}
use Rattle.operand_forms.specs.Forms.{IsOctal, IsDecimal}
use Rattle.scp_parser.specs.Forms.{IsSubject}
use Rattle.operand_forms.specs.Operands.{octal, decimal}
use Rattle.scp_parser.specs.Operands.{subject_of}
use Rattle.scp_parser.specs.Grammar.{Takes, Ends, HasNumber, IsInstruction, HasValue, IsListing, Operates}
use Rattle.scp_parser.specs.Faults.{WordFaults, EndFaults, LastNumberFaults, ListFaults, FaultThen, InstructionFaults, ValueFaults, OperandFaults}
use Rattle.scp_parser.specs.Reading.{◌>>=◌, map_ok, needed, ended, last_number, numbered, listing, instruction, examine, valued, deposit, show, operands}
use Rattle.scp_parser.proofs.FormsDecided.{Forms_decided}
use Rattle.operand_forms.proofs.NothingLemmas.{no_octal, no_decimal}
use Rattle.scp_parser.proofs.NothingLemmas.{no_subject}
use Rattle.scp_parser.proofs.Settles.{Settles, then_seen, restated, settled_value}
use Rattle.scp_parser.proofs.OperandLemmas.{ended_seen, needed_settles}
use Rattle.scp_parser.proofs.LastNumberLemmas.{number_seen}
use Rattle.scp_parser.proofs.ListingLemmas.{listing_settles}
use Rattle.scp_parser.proofs.ValueLemmas.{instruction_settles}
use Rattle.scp_parser.proofs.EndLemmas.{IsEnd}
use Rattle.scp_parser.proofs.AttachLemmas.{attach_settles, detach_settles}
use Rattle.scp_parser.proofs.MediaLemmas.{load_settles, save_settles, dump_settles, restore_settles}
use Rattle.scp_parser.proofs.SettingLemmas.{set_settles, no_break_settles}
use Rattle.scp_parser.proofs.ScriptLemmas.{do_settles, goto_settles, echo_settles}
use Rattle.scp_parser.proofs.BreakLemmas.{break_settles}
use Rattle.scp_parser.proofs.WatchLemmas.{expect_settles, send_settles}
use Rattle.scp_parser.proofs.AssertLemmas.{assert_settles}

module _ (d : Forms_decided) (line : List ℕ) where
  abbrev see : Verb → Request
  see v = request_of line v

  -- the value of a DEPOSIT

  behind_word : (text : List ℕ) (e : ParseFault) → FaultThen (InstructionFaults text) (IsInstruction text) (λ w e. ⊥) e → InstructionFaults text e
  behind_word text e (inl faulty) = faulty
  behind_word text e (inr (w, is, never)) = absurd never

  symbolic_settles : (l : Listing) (text : List ℕ) → Settles (map_ok see (instruction text >>= (λ w. Ok (verb.Deposit l w)))) (HasValue true text (λ n. request.Deposit l n)) (InstructionFaults text)
  symbolic_settles l text =
      restated (HasValue true text (λ n. request.Deposit l n)) (HasValue true text (λ n. request.Deposit l n)) (FaultThen (InstructionFaults text) (IsInstruction text) (λ w e. ⊥)) (InstructionFaults text)
      (map_ok see (instruction text >>= (λ w. Ok (verb.Deposit l w))))
      (then_seen see (IsInstruction text) (InstructionFaults text) (λ w. Ok (verb.Deposit l w)) (λ w asked. asked ≡ request.Deposit l w) (λ w e. ⊥) (instruction text) (instruction_settles text)
      (λ w is. settled_value (request.Deposit l w)))
      (λ asked is. is) (λ asked is. is) (behind_word text) (λ e faulty. inl faulty)

  plain_settles : (l : Listing) (text : List ℕ)
      → Settles (map_ok see (needed true octal text >>= (λ n. ended (verb.Deposit l n.0) n.1))) (HasValue false text (λ n. request.Deposit l n)) (ValueFaults false text)
  plain_settles l text =
      then_seen see (Takes IsOctal text) (WordFaults IsOctal true text) (λ n. ended (verb.Deposit l n.0) n.1) (λ n. Ends (request.Deposit l n.0) n.1) (λ n. EndFaults n.1) (needed true octal text)
      (needed_settles IsOctal octal d.octal no_octal true text) (λ n is. ended_seen see (verb.Deposit l n.0) n.1)

  value_settles : (symbolic : Bool) (l : Listing) (text : List ℕ)
      → Settles (map_ok see (cond symbolic (instruction text >>= (λ w. Ok (verb.Deposit l w))) (needed true octal text >>= (λ n. ended (verb.Deposit l n.0) n.1))))
      (HasValue symbolic text (λ n. request.Deposit l n)) (ValueFaults symbolic text)
  value_settles true l text = symbolic_settles l text
  value_settles false l text = plain_settles l text

  -- the commands with other operands than a number

  examine_settles : (text : List ℕ) → Settles (map_ok see (examine text)) (Operates Examine text) (OperandFaults Examine text)
  unfolding examine
  examine_settles text =
      then_seen see (IsListing true text) (ListFaults true text) (λ l. ended (verb.Examine l.0) l.1) (λ l. Ends (request.Examine l.0) l.1) (λ l. EndFaults l.1) (listing true text)
      (listing_settles d true text) (λ l is. ended_seen see (verb.Examine l.0) l.1)

  deposit_settles : (text : List ℕ) → Settles (map_ok see (deposit text)) (Operates Deposit text) (OperandFaults Deposit text)
  unfolding deposit
  deposit_settles text =
      then_seen see (IsListing false text) (ListFaults false text) valued (λ l. HasValue l.0.symbolic l.1 (λ n. request.Deposit l.0 n)) (λ l. ValueFaults l.0.symbolic l.1) (listing false text)
      (listing_settles d false text) (λ l is. value_settles l.0.symbolic l.0 l.1)

  show_settles : (text : List ℕ) → Settles (map_ok see (show text)) (Operates Show text) (OperandFaults Show text)
  unfolding show
  show_settles text =
      then_seen see (Takes IsSubject text) (WordFaults IsSubject false text) (λ s. ended (verb.Show s.0) s.1) (λ s. Ends (request.Show s.0) s.1) (λ s. EndFaults s.1) (needed false subject_of text)
      (needed_settles IsSubject subject_of d.subject no_subject false text) (λ s is. ended_seen see (verb.Show s.0) s.1)

  octal_settles : (make : Option ℕ → Verb) (text : List ℕ) → Settles (map_ok see (numbered make (last_number octal text))) (HasNumber IsOctal text (λ n. see (make n))) (LastNumberFaults IsOctal text)
  octal_settles make text = number_seen see IsOctal octal d.octal no_octal make text

  decimal_settles : (make : Option ℕ → Verb) (text : List ℕ)
      → Settles (map_ok see (numbered make (last_number decimal text))) (HasNumber IsDecimal text (λ n. see (make n))) (LastNumberFaults IsDecimal text)
  decimal_settles make text = number_seen see IsDecimal decimal d.decimal no_decimal make text

  -- what a command that stands alone asks for has no text of its line
  alone_settles : (which : AloneName) (text : List ℕ) → Settles (map_ok see (ended (alone_verb which) text)) (Ends (alone_request which) text) (EndFaults text)
  alone_settles Cont text = ended_seen see verb.Cont text
  alone_settles Reset text = ended_seen see verb.Reset text
  alone_settles NoExpect text = ended_seen see verb.NoExpect text
  alone_settles NoSend text = ended_seen see verb.NoSend text

  pub operands_settle : (name : CommandName) (text : List ℕ) → IsEnd line text → Settles (map_ok see (operands (length line) name text)) (Operates name text) (OperandFaults name text)
  unfolding operands
  operands_settle (Alone which) text end = alone_settles which text
  operands_settle Examine text end = examine_settles text
  operands_settle Deposit text end = deposit_settles text
  operands_settle Run text end = octal_settles (λ n. verb.Run n) text
  operands_settle Go text end = octal_settles (λ n. verb.Go n) text
  operands_settle Step text end = decimal_settles (λ n. verb.Step n) text
  operands_settle Attach text end = attach_settles d line text end
  operands_settle Detach text end = detach_settles d line text
  operands_settle Show text end = show_settles text
  operands_settle Exit text end = decimal_settles (λ n. verb.Exit n) text
  operands_settle Break text end = break_settles line text end
  operands_settle NoBreak text end = no_break_settles d line text
  operands_settle Expect text end = expect_settles line text end
  operands_settle Send text end = send_settles line text end
  operands_settle Load text end = load_settles d line text end
  operands_settle Save text end = save_settles d line text end
  operands_settle Dump text end = dump_settles d line text end
  operands_settle Restore text end = restore_settles d line text end
  operands_settle Set text end = set_settles d line text
  operands_settle Do text end = do_settles d line text end
  operands_settle Goto text end = goto_settles d line text end
  operands_settle Assert text end = assert_settles line text
  operands_settle Echo text end = echo_settles d line text end
