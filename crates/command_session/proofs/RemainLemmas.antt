-- What remains where nothing was changed, for every command.
use Rattle.std.proofs.Common.{◌≡◌, ℕ, Bool, true, false, IsTrue, List, [], Option, Some, None, refl, ap, sym, ◌∙◌, subst, inl, append-nil}
use Rattle.file_traits.specs.State.{FileState}
use Rattle.file_commands.specs.declared.note.Subject.{Subject}
use Rattle.file_commands.specs.declared.note.FaultNote.{FaultNote}
use Rattle.expect_actions.specs.Watch.{WatchState}
use Rattle.nova_machine.specs.Machine.{MachineState}
use Rattle.command_session.specs.Live.{Live, CommandState, Beyond, beyond, live_in}
use Rattle.command_session.specs.Remains.{MachineRemains, Remains, AreLeft}
use Rattle.command_session.specs.Doing.{NotesRemain, IsUndone}

pub machine-remains : (flushes : Bool) (old new : MachineState) → new ≡ old → MachineRemains flushes old new
machine-remains false old new same = same
machine-remains true old new same = inl same

pub remains : (flushes : Bool) (old new : Live) → new ≡ old → Remains flushes old new
remains false old new same = same
remains true old new same = inl same

-- what stays where a command that does not flush leaves it, stays so for every command
pub all-left : (flushes : Bool) (old new : CommandState) → AreLeft false old new → AreLeft flushes old new
all-left flushes old new left = record { machine = machine-remains flushes old.machine new.machine left.machine; watch = left.watch }

-- what was left as it was
pub leaves : (flushes : Bool) (old new : CommandState) → new.machine ≡ old.machine → new.watch ≡ old.watch → AreLeft flushes old new
leaves flushes old new machine watch = record { machine = machine-remains flushes old.machine new.machine machine; watch = watch }

pub same-live : (old new : CommandState) (files files' : Beyond) → new.machine ≡ old.machine → new.watch ≡ old.watch → new.keys ≡ old.keys
    → files' ≡ files → live_in new files' ≡ live_in old files
same-live old new files files' machine watch keys same =
    ap (λ (m : MachineState). live_in (record new { machine = m }) files') machine
    ∙ ap (λ (w : WatchState). live_in (record new { machine = old.machine; watch = w }) files') watch
    ∙ ap (λ (k : List (ℕ × ℕ)). live_in (record old { keys = k }) files') keys
    ∙ ap (λ (l : Beyond). live_in old l) same

pub notes-remain : (reads : Option Subject) (number time : ℕ) (notes notes' : List FaultNote) → notes' ≡ notes → NotesRemain reads number time notes notes'
notes-remain None number time notes notes' same = same
notes-remain (Some who) number time notes notes' same = ([], same ∙ sym (append-nil notes), tt)

-- nothing was done at all
pub undone-none : (flushes : Bool) (reads : Option Subject) (says : Bool) (old new : CommandState) (text : List ℕ) (files : FileState) → new.machine ≡ old.machine → new.watch ≡ old.watch
    → new.keys ≡ old.keys → new.notes ≡ old.notes → IsUndone flushes reads says old new text text files files
undone-none flushes reads says old new text files machine watch keys notes = record {
  left = leaves flushes old new machine watch;
  notes = notes-remain reads old.command old.machine.time old.notes new.notes notes;
  written = refl;
  lines = ap (λ (m : MachineState). m.lines) machine;
  live = λ told steps lines whole.
      let around = beyond files.files lines whole in
      remains flushes (live_in old around) (live_in new around) (same-live old new around around machine watch keys refl);
}

-- the same of a command that does not flush, where less is said
pub undone-as : (flushes : Bool) (reads now : Option Subject) (says less : Bool) (old new : CommandState) (before after : List ℕ) (files files' : FileState) → now ≡ reads
    → (IsTrue less → IsTrue says) → IsUndone false reads says old new before after files files' → IsUndone flushes now less old new before after files files'
undone-as flushes reads now says less old new before after files files' same fewer undone = record {
  left = all-left flushes old new undone.left;
  notes = subst (λ (r : Option Subject). NotesRemain r old.command old.machine.time old.notes new.notes) (sym same) undone.notes;
  written = undone.written;
  lines = undone.lines;
  live = λ told steps lines whole.
      remains flushes (live_in old (beyond files.files lines whole)) (live_in new (beyond files'.files lines whole)) (undone.live (fewer told) tt lines whole);
}
