-- DO (SIMH Users' Guide, "Executing Command Files").
use Rattle.std.specs.Prelude.{ℕ, Bool, List, [], Ok}
use Rattle.file_commands.specs.declared.note.Subject.TheVariants as subject
use Rattle.file_commands.specs.Notes.{CommandNote}
use Rattle.whole_files.specs.Whole.{WholeSaid, whole_act}
use Rattle.command_session.specs.declared.next.Next.TheVariants.{Do}
use Rattle.command_session.specs.Live.{Live, standing}
use Rattle.command_session.specs.Reply.{Answer, Reply}
use Rattle.command_session.specs.WholeCalls.{whole_calls, said_answer}

-- a script's bytes, and how its lines are done
abbrev pub script_of : Bool → Bool → List ℕ → Answer
script_of echo strict bytes = Ok (Do (record { text = bytes; echo = echo; strict = strict }))

abbrev pub do_answer : Bool → Bool → WholeSaid → Answer
do_answer echo strict said = said_answer subject.Script (script_of echo strict) said

-- DO reads a script whole, and closes it again. It prints nothing and changes nothing: who asked for it does its lines.
unfoldable pub do_reply : List CommandNote → Live → Bool → Bool → List ℕ → Reply
do_reply notes live echo strict name =
    let read = whole_act (whole_calls subject.Script live.machine.time notes) name live.files in
    record { made = []; answer = do_answer echo strict read.0; after = standing read.1 live }
