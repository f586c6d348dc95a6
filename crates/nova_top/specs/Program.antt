-- A session of the program: how it is opened, and how it ends.
use Rattle.std.specs.Prelude.{◌≡◌, ℕ, List, Option, Some, option_map, is_none, false}
use Rattle.expect_actions.specs.Watch.{WatchState}
use Rattle.nova_machine.specs.Machine.{MachineState}
use Rattle.command_session.specs.declared.do_file.DoFile.{DoFile}
use Rattle.scp_script.specs.declared.perform_session.Opening.{Opening}
use Rattle.scp_script.specs.declared.progress.Finish.{Finish}
use Rattle.scp_script.specs.Loop.{status_of}
use Rattle.session_texts.specs.Scripts.{first_script}
use Rattle.command_words.specs.declared.options.Options.{Options}
use Rattle.command_words.specs.Words.{script_words}
use Rattle.nova_top.specs.Outside.{first_scripts}

-- a script's text, with which a session begins
abbrev pub as_file : List ℕ → DoFile
as_file text = record { text = text; echo = false; strict = false }

abbrev pub script_text : Opening → Option (List ℕ)
script_text opening = option_map (λ (file : DoFile). file.text) opening.script

-- a session is opened as the words say
pub record OpensAs (words : List (List ℕ)) (options : Options) (opening : Opening) : Type 0 where
  pub reads : opening.reads ≡ is_none options.workload
  pub prompt : opening.prompt ≡ options.prompt
  pub budget : opening.budget ≡ options.budget
  pub scripts : first_script opening.script opening.arguments.items ≡ first_scripts (script_text opening) (script_words words options)

-- a session that ended: by that finish, with that machine and those watch tables
abbrev pub SessionEnds : ℕ → Option MachineState → (Finish → WatchState → MachineState → Type 0) → (Finish → Type 0) → Type 0
SessionEnds status machine Told Cause =
    (finish : Finish) × (watch : WatchState) × (now : MachineState) × (status ≡ status_of finish) × (machine ≡ Some now) × Told finish watch now × Cause finish
