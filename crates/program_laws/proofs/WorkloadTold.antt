-- The workload uses no file and no line: its three commands do not, and its run brings no further one.
use Rattle.std.proofs.Common.{◌≡◌, inl, inr, ℕ, zero, suc, Bool, false, List, [], ◌∷◌, take, drop, map, replicate, Option, Some, None, IsSome, refl, ap, sym, ◌∙◌, subst, Ok, Err, Result}
use Rattle.std.specs.List.{AllByRecursion}
use Rattle.std.proofs.lemmas.Bool.{cond_both}
use Rattle.observations.specs.Observations.{Observation}
use Rattle.file_traits.specs.Lists.{NamedBytes}
use Rattle.file_commands.specs.Notes.{Note}
use Rattle.host_lines.specs.Traffic.{Peer, Gone, Ahead}
use Rattle.host_lines.specs.Told.{ahead_of}
use Rattle.telnet_lines.specs.Line.{LineOf, unconnected, renamed}
use Rattle.line_text.specs.Words.{past_blanks, word_at}
use Rattle.nova_word.specs.Numbers.{number_read}
use Rattle.unit_files.specs.Attachments.{Held, file_units}
use Rattle.expect_actions.specs.KeysFile.{Key}
use Rattle.expect_actions.specs.Breaks.{BreakTable}
use Rattle.expect_actions.specs.Watch.{WatchState}
use Rattle.operand_forms.specs.declared.listing.Name.TheVariants as whose
use Rattle.operand_forms.specs.declared.listing.Item.TheVariants as item
use Rattle.operand_forms.specs.declared.listing.Listing.{Listing}
use Rattle.operand_forms.specs.Operands.{octal, items_of, items_up_to, item_of, named_item, register_named, condition_of, comparison_of, masked_condition, device_of, kind_named, is_name, numbered_item}
use Rattle.scp_parser.specs.declared.command.Shown.TheVariants as shown
use Rattle.scp_parser.specs.Command.{Go, Examine, Show}
use Rattle.scp_parser.specs.Names.{command_named}
use Rattle.scp_parser.specs.Operands.{subject_of, symbolic_of}
use Rattle.scp_parser.specs.Reading.{reading, verb_of, named, asks_nothing, next_word, operands, last_number, ended, examine, show, listing, choice}
use Rattle.scp_examine.specs.declared.fault.ExamineFault.{ExamineFault}
use Rattle.scp_examine.specs.Effect.{examine_fault}
use Rattle.unit_trait.specs.Calls.{UnitState}
use Rattle.nova_machine.specs.declared.machine.Stop.{Stop}
use Rattle.nova_machine.specs.declared.machine.Stop.TheVariants.{Break, Expect}
use Rattle.nova_machine.specs.Machine.{line_count, reset_devices, reset_machine, new_machine}
use Rattle.nova_machine.specs.Seen.{unnumbered}
use Rattle.nova_machine.specs.Comes.{AreFree}
use Rattle.nova_machine.specs.Run.{run}
use Rattle.program_laws.proofs.Unwatched.{IsUnwatched, empty-unwatched, run-unwatched}
use Rattle.command_session.specs.Live.{Live, Beyond, beyond}
use Rattle.command_session.specs.declared.fault.CommandFault.TheVariants.{NoSuchName}
use Rattle.command_session.specs.Reply.{Reply, refused}
use Rattle.command_session.specs.RunEffects.{run_answer, run_failure, run_from, ran, started}
use Rattle.command_session.specs.Asked.{asked}
use Rattle.plain_commands.specs.ListEffects.{lacks_device, examine_after, examine_reply}
use Rattle.plain_commands.specs.ShowEffects.{show_reply}
use Rattle.scp_commands.specs.Effect.{effect}
use Rattle.script_text.specs.Filling.{filled}
use Rattle.session_texts.specs.Scripts.{Script, still_open, text_of_line}
use Rattle.session_texts.specs.Actions.{text_of_stop}
use Rattle.scp_script.specs.Session.{State, Session, Going, step, ComesTo}
use Rattle.scp_script.specs.Used.{ports_in, NextTold}
use Rattle.program_laws.proofs.OwnScript.{HasScripts, IsPlain, AnswersPlainly, done-told, line-told, line-goes, done-stops, each-text}
use Rattle.command_words.specs.declared.options.Options.{Options}
use Rattle.command_words.specs.Words.{keys_name, script_name, script_words}
use Rattle.program_start.specs.Workload.{workload_text, first_text}
use Rattle.program_start.specs.Start.{Denial, Start, Begins, start_by, start_of, taken_keys, taken_script}
use Rattle.nova_top.specs.Outside.{session_with, opening}
use Rattle.nova_top.specs.Ends.{HasWorkload, HasScript}
use Rattle.nova_top.specs.Resumption.{Reaches}
use Rattle.program_laws.specs.WorkloadUse.{WorkloadUsesNothing}
use Rattle.program_laws.proofs.WorkloadWords.{workload-or-script}

-- ---- its lines

-- its commands as a script that is open, at that place
abbrev pub commands_at : List (List ℕ) → ℕ → Script
commands_at arguments place = record { text = workload_text; place = place; arguments = arguments; echo = false; strict = false }

abbrev registers : Listing
registers = record { symbolic = false; device = whose.Cpu; condition = None; items = item.Reg 0 ∷ item.Reg 1 ∷ item.Reg 2 ∷ item.Reg 3 ∷ item.Reg 4 ∷ [] }

reads-go : (arguments : List (List ℕ)) → asked (text_of_line (commands_at arguments 0)) ≡ Ok (Go (Some 0o1000))
unfolding filled asked reading verb_of named asks_nothing next_word past_blanks word_at command_named operands last_number octal number_read ended
reads-go arguments = refl

reads-examine : (arguments : List (List ℕ)) → asked (text_of_line (commands_at arguments 8)) ≡ Ok (Examine registers)
unfolding filled asked reading verb_of named asks_nothing next_word past_blanks word_at command_named operands examine listing choice symbolic_of device_of kind_named condition_of comparison_of masked_condition items_of items_up_to item_of named_item register_named is_name numbered_item octal number_read ended
reads-examine arguments = refl

reads-show : (arguments : List (List ℕ)) → asked (text_of_line (commands_at arguments 34)) ≡ Ok (Show shown.Time)
unfolding filled asked reading verb_of named asks_nothing next_word past_blanks word_at command_named operands show subject_of ended
reads-show arguments = refl

first-open : (arguments : List (List ℕ)) → still_open (commands_at arguments 0 ∷ []) ≡ commands_at arguments 0 ∷ []
unfolding still_open
first-open arguments = refl

second-open : (arguments : List (List ℕ)) → still_open (commands_at arguments 8 ∷ []) ≡ commands_at arguments 8 ∷ []
unfolding still_open
second-open arguments = refl

third-open : (arguments : List (List ℕ)) → still_open (commands_at arguments 34 ∷ []) ≡ commands_at arguments 34 ∷ []
unfolding still_open
third-open arguments = refl

none-open : (arguments : List (List ℕ)) → still_open (commands_at arguments 44 ∷ []) ≡ []
unfolding still_open
none-open arguments = refl

empty-open : still_open [] ≡ []
unfolding still_open
empty-open = refl

-- ---- its commands

-- no break and no text has stopped the run, so that its stop brings no actions
stop-silent : (stop : Stop) (w : WatchState) → IsUnwatched w → text_of_stop stop w ≡ []
stop-silent (Break place) w is = ap (λ (t : BreakTable). t.actions) is.breaks
stop-silent (Expect place) w is = is.actions
stop-silent stop w is = refl

run-plain : (stop : Option Stop) (w : WatchState) → IsUnwatched w → IsPlain (run_answer stop) w
run-plain None w is = tt
run-plain (Some stop) w is = stop-silent stop w is

go-plain : (s : Session) → IsUnwatched s.live.watch → AnswersPlainly s (Go (Some 0o1000))
unfolding effect run_from ran
go-plain s is limit notes =
    let at = started false (Some 0o1000) s.live in
    let p = run (run_failure notes) false limit at in
    run-plain p.stop p.after.watch (run-unwatched (run_failure notes) false limit at is)

examined-plain : (fault : Option ExamineFault) (live : Live) (l : Listing) → IsPlain (examine_after fault live l).answer (examine_after fault live l).after.live.watch
examined-plain None live l = tt
examined-plain (Some fault) live l = tt

examine-plain : (s : Session) (l : Listing) → AnswersPlainly s (Examine l)
unfolding effect examine_reply
examine-plain s l limit notes =
    cond_both (lacks_device s.live.machine l.device) (refused NoSuchName s.live) (examine_after (examine_fault s.live.machine l) s.live l)
    (λ (r : Reply). IsPlain r.answer r.after.live.watch) (λ _. tt) (λ _. examined-plain (examine_fault s.live.machine l) s.live l)

show-plain : (s : Session) → AnswersPlainly s (Show shown.Time)
unfolding effect show_reply
show-plain s limit notes = tt

-- ---- where the session may come

-- before its run: nothing is watched, no file is attached, and no line has a port
record IsReady (arguments : List (List ℕ)) (s : Session) : Type 0 where
  has : HasScripts (commands_at arguments 0 ∷ []) s
  unwatched : IsUnwatched s.live.watch
  free : AreFree s.live.machine.slots
  none : AllByRecursion (λ (port : Option ℕ). port ≡ None) (ports_in s.live)

-- before one of its commands, or behind the last
data Stands (arguments : List (List ℕ)) (s : Session) : Type 0 where
  Runs : IsReady arguments s → Stands arguments s
  Examines : HasScripts (commands_at arguments 8 ∷ []) s → Stands arguments s
  Shows : HasScripts (commands_at arguments 34 ∷ []) s → Stands arguments s
  IsDone : (scripts : List Script) → HasScripts scripts s → still_open scripts ≡ [] → Stands arguments s

stands-told : (files lines : Bool) (arguments : List (List ℕ)) (s : Session) → Stands arguments s → NextTold files lines s
stands-told files lines arguments s (Runs ready) =
    line-told files lines s (commands_at arguments 0) (Go (Some 0o1000)) ready.has (first-open arguments) (reads-go arguments) (λ _. refl) (inr ready.free, inr ready.none)
stands-told files lines arguments s (Examines has) =
    line-told files lines s (commands_at arguments 8) (Examine registers) has (second-open arguments) (reads-examine arguments) (λ _. refl) (tt, tt)
stands-told files lines arguments s (Shows has) =
    line-told files lines s (commands_at arguments 34) (Show shown.Time) has (third-open arguments) (reads-show arguments) (λ _. refl) (tt, tt)
stands-told files lines arguments s (IsDone scripts has none) = done-told files lines s scripts has none

-- the scripts are gone where a command that failed has ended them
scripts-ended : (arguments : List (List ℕ)) (t : Session) → HasScripts [] t → Stands arguments t
scripts-ended arguments t has = IsDone [] has empty-open

stands-next : (arguments : List (List ℕ)) (s t : Session) → Stands arguments s → (step s).next ≡ Going t → Stands arguments t
stands-next arguments s t (Runs ready) goes =
    elim (line-goes s t (commands_at arguments 0) (Go (Some 0o1000)) ready.has (first-open arguments) (reads-go arguments) (λ _. refl) (go-plain s ready.unwatched) goes) [
      | inl has ↦ Examines has
      | inr none ↦ scripts-ended arguments t none
    ]
stands-next arguments s t (Examines has) goes =
    elim (line-goes s t (commands_at arguments 8) (Examine registers) has (second-open arguments) (reads-examine arguments) (λ _. refl) (examine-plain s registers) goes) [
      | inl has ↦ Shows has
      | inr none ↦ scripts-ended arguments t none
    ]
stands-next arguments s t (Shows has) goes =
    elim (line-goes s t (commands_at arguments 34) (Show shown.Time) has (third-open arguments) (reads-show arguments) (λ _. refl) (show-plain s) goes) [
      | inl has ↦ IsDone (commands_at arguments 44 ∷ []) has (none-open arguments)
      | inr none ↦ scripts-ended arguments t none
    ]
stands-next arguments s t (IsDone scripts has none) goes = absurd (done-stops s t scripts has none goes)

-- ---- the session that the program begins

no-files-free : (count : ℕ) → AreFree (map unnumbered (replicate {A = Option Held} count None))
no-files-free zero = tt
no-files-free (suc count) = (refl, no-files-free count)

-- no line of a new machine has a port
no-ports : (n : ℕ) → AllByRecursion (λ (port : Option ℕ). port ≡ None) (map (λ (line : LineOf Peer). line.port) (map (renamed {P = ℕ} {Q = Peer} (λ _. Gone)) (replicate {A = LineOf ℕ} n (unconnected None))))
no-ports zero = tt
no-ports (suc n) = (refl, no-ports n)

chosen-ready : (units : List UnitState) (words : List (List ℕ)) (options : Options) (number : ℕ) (keys : List Key) (files : List NamedBytes) (ahead : Ahead) (input : List ℕ) (notes : List Note)
    → IsReady (take 10 (script_words words options)) (opening units words (record options { workload = Some number }) keys (Some workload_text) files ahead input notes)
unfolding session_with new_machine reset_machine reset_devices
chosen-ready units words options number keys files ahead input notes = record {
  has = record { unread = refl; actions = refl; scripts = refl };
  unwatched = empty-unwatched;
  free = no-files-free file_units;
  none = no-ports (suc (line_count units));
}

opening-ready : (units : List UnitState) (words : List (List ℕ)) (options : Options) (number : ℕ) (keys : List Key) (files : List NamedBytes) (ahead : Ahead) (input : List ℕ) (notes : List Note) → options.workload ≡ Some number
    → IsReady (take 10 (script_words words options)) (opening units words options keys (Some workload_text) files ahead input notes)
opening-ready units words options number keys files ahead input notes is =
    subst (λ (w : Option ℕ). IsReady (take 10 (script_words words options)) (opening units words (record options { workload = w }) keys (Some workload_text) files ahead input notes)) (sym is)
    (chosen-ready units words options number keys files ahead input notes)

-- a program that begins does so with the options of its words, and with the commands of the workload, where there is one
record BeginsWith (chosen options : Options) (script : Option (List ℕ)) : Type 0 where
  same : options ≡ chosen
  own : Option (List ℕ)
  is : script ≡ first_text chosen.workload own

begins-with : (chosen options : Options) (keys : List Key) (script : Option (List ℕ)) (used : ℕ) (read : Result (List Key) Denial × ℕ) (taken : Result (Option (List ℕ)) Denial × ℕ)
    → start_by chosen read taken ≡ (Begins options keys script, used) → BeginsWith chosen options script
begins-with chosen options keys script used (Err denial, first) taken is = let e = ap (λ (x : Start × ℕ). x.0) is in absurd (cc)
begins-with chosen options keys script used (Ok own, first) (Err denial, more) is = let e = ap (λ (x : Start × ℕ). x.0) is in absurd (cc)
begins-with chosen options keys script used (Ok own, first) (Ok text, more) is =
    let e : Begins chosen own (first_text chosen.workload text) ≡ Begins options keys script = ap (λ (x : Start × ℕ). x.0) is in
    record { same = cc; own = text; is = cc }

some-number : (o : Option ℕ) → IsSome o → (number : ℕ) × (o ≡ Some number)
some-number None some = absurd (cc)
some-number (Some number) some = (number, refl)

reached-told : (files lines : Bool) (units : List UnitState) (words : List (List ℕ)) (input : List ℕ) (old : Beyond) (notes : List Note) (front : List (Observation State)) (at : Session) → HasWorkload words
    → Reaches units words input old notes front at → NextTold files lines at
reached-told files lines units words input old notes front at work reaches =
    let chosen = work.options in
    let ahead = ahead_of old.lines.told old.whole in
    let number = some-number chosen.workload work.given in
    let starts = ap (λ (c : Option Options). start_of c words old.files notes) (sym work.words_are) ∙ reaches.starts in
    let keys = taken_keys (keys_name words chosen) old.files notes in
    let begins = begins-with chosen reaches.options reaches.keys reaches.script reaches.used keys (taken_script (script_name words chosen) old.files (drop keys.1 notes)) starts in
    let script : reaches.script ≡ Some workload_text = begins.is ∙ ap (λ (w : Option ℕ). first_text w begins.own) number.1 in
    let start : Options → Option (List ℕ) → Session = λ options text. opening units words options reaches.keys text old.files ahead input (drop reaches.used notes) in
    let same : start reaches.options reaches.script ≡ start chosen (Some workload_text) = ap (λ (o : Options). start o reaches.script) begins.same ∙ ap (start chosen) script in
    let arguments = take 10 (script_words words chosen) in
    let ready = opening-ready units words chosen number.0 reaches.keys old.files ahead input (drop reaches.used notes) number.1 in
    let comes = subst (λ (s : Session). ComesTo reaches.count s front at) same reaches.comes in
    stands-told files lines arguments at (each-text (Stands arguments) (stands-next arguments) reaches.count (start chosen (Some workload_text)) at front (Runs ready) comes)

pub workload-uses-nothing : WorkloadUsesNothing
workload-uses-nothing files lines units words input named outside work keys = record {
  names = λ some. elim some [
    | inl named ↦ keys named
    | inr script ↦ absurd (no-script words work script)
  ];
  texts = λ whole notes front at reaches. reached-told files lines units words input (beyond named outside whole) notes front at work reaches;
}
  where
    no-script : (words : List (List ℕ)) → HasWorkload words → HasScript words → ⊥
    no-script words work script =
        let none = workload-or-script words script.options script.words_are script.named in
        let same : Some work.options ≡ Some script.options = sym work.words_are ∙ script.words_are in
        let given = work.given in
        absurd (cc)
