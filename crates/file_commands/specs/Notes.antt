-- The calls on files that fail in a session, and how its commands take them. The numbers of open files are no part of this.
use Rattle.std.specs.Prelude.{ℕ, ◌<◌, ◌==◌, ◌&&◌, Bool, true, false, List, [], ◌∷◌, map, Option, Some, None, if◌then◌else◌}
use Rattle.unit_trait.specs.Kinds.{same_unit}
use Rattle.unit_files.specs.Acts.{Failure}
use Rattle.file_commands.specs.declared.note.Subject.{Subject}
use Rattle.file_commands.specs.declared.note.Subject.TheVariants.{Script, Keys, State, Load, Dump}
use Rattle.file_commands.specs.declared.note.Subject.TheVariants as subject
use Rattle.file_commands.specs.declared.note.FaultNote.{FaultNote}

-- a failing call of a command: its time, for whom it was, and the call
pub record CommandNote : Type 0 where
  pub time : ℕ
  pub subject : Subject
  pub failure : Failure

-- the same with the number of the command
pub record Note : Type 0 where
  pub command : ℕ
  pub note : CommandNote

-- whether two subjects are one
abbrev pub same_subject : Subject → Subject → Bool
same_subject (subject.Unit a) (subject.Unit b) = same_unit a b
same_subject Script Script = true
same_subject Keys Keys = true
same_subject State State = true
same_subject Load Load = true
same_subject Dump Dump = true
same_subject a b = false

-- the notes of the command with that number
abbrev pub numbered : ℕ → List CommandNote → List Note
numbered number notes = map (λ (n : CommandNote). record { command = number; note = n }) notes

-- the leading notes that have this number, without it
abbrev pub handed : ℕ → List Note → List CommandNote
handed number [] = []
handed number (n ∷ notes) = if n.command == number then n.note ∷ handed number notes else []

-- the first of these notes, if there is one, has a greater number
abbrev pub Follow : ℕ → List Note → Type 0
Follow number [] = Unit {0}
Follow number (n ∷ notes) = number < n.command

-- the first of a command's notes, where it is of this time and subject, is what fails of an act
abbrev pub failure_now : ℕ → Subject → List CommandNote → Option Failure
failure_now time subject [] = None
failure_now time subject (n ∷ notes) = if (n.time == time) && same_subject n.subject subject then Some n.failure else None

-- what a kept note says
abbrev pub said_of : FaultNote → Note
said_of n = record { command = n.command; note = record { time = n.time; subject = n.subject; failure = record { call = n.call; done = n.done } } }

abbrev pub notes_said : List FaultNote → List Note
notes_said notes = map said_of notes
