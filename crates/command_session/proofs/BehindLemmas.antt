-- What a command is handed where its own notes have closings behind them.
use Rattle.std.proofs.Common.{◌≡◌, ◌==◌, ℕ, Bool, true, false, List, [], ◌∷◌, ◌++◌, Option, Some, None}
use Rattle.std.proofs.Common.{refl, ap, sym, ◌∙◌}
use Rattle.unit_trait.specs.declared.kind.UnitName.{UnitName}
use Rattle.unit_files.specs.declared.faults.UnitFault.{UnitFault}
use Rattle.unit_files.specs.Attachments.{attachment_at}
use Rattle.file_commands.specs.declared.note.Subject.TheVariants as subject
use Rattle.file_commands.specs.declared.note.FaultNote.{FaultNote}
use Rattle.file_commands.specs.Notes.{CommandNote, Note, same_subject, numbered, failure_now, notes_said}
use Rattle.file_commands.specs.declared.stamp.Stamp.{Stamp}
use Rattle.file_commands.specs.Kept.{kept_of, own_of}
use Rattle.nova_machine.specs.Seen.{attached_in}
use Rattle.command_session.specs.Live.{Live, CommandState}
use Rattle.command_session.specs.Doing.{ComeBehind}
use Rattle.command_session.proofs.CloseLemmas.{is-of-unit, some-none, said-append}
use Rattle.file_commands.proofs.Emptying.{none-and}

-- the notes that are kept for a fault of a unit's file, as the command's own
pub kept-said : (stamp : Stamp) (fault : Option UnitFault) (before after : List FaultNote) → after ≡ before ++ kept_of stamp fault
    → notes_said after ≡ notes_said before ++ numbered stamp.command (own_of stamp.time fault)
kept-said stamp fault before after is =
    ap notes_said is ∙ said-append before (kept_of stamp fault) ∙ ap (λ (l : List Note). notes_said before ++ l) (own-said fault)
  where
    own-said : (fault : Option UnitFault) → notes_said (kept_of stamp fault) ≡ numbered stamp.command (own_of stamp.time fault)
    own-said None = refl
    own-said (Some f) = refl

same-units : (v u : UnitName) → subject.Unit v ≡ subject.Unit u → v ≡ u
same-units v u is = cc

-- a closing that comes behind a command is none of a unit that has no file there
pub none-behind : (live : Live) (unit : UnitName) (time : ℕ) (behind : List CommandNote) → attachment_at (attached_in live.machine) unit ≡ None → ComeBehind live behind
    → failure_now time (subject.Unit unit) behind ≡ None
none-behind live unit time [] none come = refl
none-behind live unit time (n ∷ behind) none come =
    none-and (n.time == time) (same_subject n.subject (subject.Unit unit)) n.failure (other (same_subject n.subject (subject.Unit unit)) refl)
  where
    other : (b : Bool) → same_subject n.subject (subject.Unit unit) ≡ b → b ≡ false
    other false is = refl
    other true is =
        let same : come.0.unit ≡ unit = same-units come.0.unit unit (sym come.0.subject_is ∙ is-of-unit n.subject unit is) in
        absurd (some-none (attachment_at (attached_in live.machine) come.0.unit) (ap (λ (u : UnitName). attachment_at (attached_in live.machine) u) same ∙ none) come.0.there)

pub handed-own : (time : ℕ) (unit : UnitName) (fault : Option UnitFault) (behind : List CommandNote) → failure_now time (subject.Unit unit) behind ≡ None
    → failure_now time (subject.Unit unit) (own_of time fault ++ behind) ≡ failure_now time (subject.Unit unit) (own_of time fault)
handed-own time unit None behind none = none
handed-own time unit (Some f) behind none = refl

-- what stands on the notes of a command
abbrev pub stamp_in : CommandState → Stamp
stamp_in s = record { command = s.command; time = s.machine.time }
