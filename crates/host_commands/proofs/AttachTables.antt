-- The answers of ATTACH that come by the tables of a session.
use Rattle.std.proofs.Common.{◌≡◌, ◌≢◌, ℕ, arith, Bool, true, false, List, if◌then◌else◌, Option, Some, Result, Ok, Err, refl, sym, ◌∙◌, subst}
use Rattle.unit_trait.specs.declared.kind.UnitName.{UnitName}
use Rattle.unit_files.specs.declared.faults.AttachFault.{AttachFault}
use Rattle.unit_files.specs.declared.faults.AttachFault.TheVariants as attach
use Rattle.unit_files.specs.declared.modes.AttachMode.{AttachMode}
use Rattle.unit_files.specs.Attachments.{Attachment, attachment_at}
use Rattle.unit_files.specs.Acts.{AttachSaid, refused_first}
use Rattle.file_traits.specs.State.{FileState}
use Rattle.unit_files.specs.Answers.{first_refusal}
use Rattle.unit_files.specs.Causes.{AttachCause}
use Rattle.nova_machine.specs.Machine.{MachineState}
use Rattle.nova_machine.specs.Seen.{attached_in}
use Rattle.command_session.specs.declared.next.Next.TheVariants.{Go}
use Rattle.command_session.specs.declared.fault.CommandFault.{CommandFault}
use Rattle.command_session.specs.declared.fault.CommandFault.TheVariants.{NoSuchName, OutOfMemory}
use Rattle.command_session.specs.FaultText.{attach_fault}
use Rattle.command_session.specs.FileEffects.{lacks_unit, mode_of}
use Rattle.command_session.specs.Reply.{Answer}
use Rattle.command_session.specs.Refusals.{WasOpened}
use Rattle.command_session.specs.Answers.{IsByTables, first_fault, attach_refusal}

abbrev pub answer_of_attach : Result ℕ AttachFault → Answer
answer_of_attach (Ok count) = Ok Go
answer_of_attach (Err f) = Err (attach_fault f)

by-said : (r : Result ℕ AttachFault) → answer_of_attach r ≢ Err OutOfMemory → IsByTables (first_fault (first_refusal r)) (answer_of_attach r)
by-said (Ok count) some = tt
by-said (Err attach.AlreadyAttached) some = refl
by-said (Err attach.ReadOnly) some = refl
by-said (Err attach.NoFile) some = refl
by-said (Err attach.TooLong) some = refl
by-said (Err (attach.Failed f)) some = refl
by-said (Err attach.OutOfMemory) some = absurd (some refl)

pub attached-by-tables : (r : Result ℕ AttachFault) (said : Option AttachSaid) (a : Answer) → first_refusal r ≡ said → a ≡ answer_of_attach r → a ≢ Err OutOfMemory
    → IsByTables (first_fault said) a
attached-by-tables r said a first is some =
    subst (λ (x : Option AttachSaid). IsByTables (first_fault x) a) first
    (subst (λ (x : Answer). IsByTables (first_fault (first_refusal r)) x) (sym is) (by-said r (subst (λ (x : Answer). x ≢ Err OutOfMemory) is some)))

-- its file is too long only where it was opened
pub opened-by-cause : (tells : Bool) (r : Result ℕ AttachFault) (unit : UnitName) (a : Answer) (old new : FileState) → AttachCause tells r unit old new → a ≡ answer_of_attach r
    → WasOpened a old new
opened-by-cause tells r unit a old new cause is = subst (λ (x : Answer). WasOpened x old new) (sym is) (by-cause r cause)
  where
    by-cause : (r : Result ℕ AttachFault) → AttachCause tells r unit old new → WasOpened (answer_of_attach r) old new
    by-cause (Ok count) h = tt
    by-cause (Err attach.AlreadyAttached) h = tt
    by-cause (Err attach.ReadOnly) h = tt
    by-cause (Err attach.NoFile) h = tt
    by-cause (Err attach.TooLong) ((id, refused), stand) = let low = refused.rising in let high = refused.given in omega (arith, low, high)
    by-cause (Err (attach.Failed f)) h = tt
    by-cause (Err attach.OutOfMemory) h = tt

by-lacking : (lacks : Bool) (other : Option CommandFault) (a : Answer) → lacks ≡ false → IsByTables other a → IsByTables (if lacks then Some NoSuchName else other) a
by-lacking false other a is h = h
by-lacking true other a is h = absurd (cc)

lacking : (lacks : Bool) (other : Option CommandFault) → lacks ≡ true → IsByTables (if lacks then Some NoSuchName else other) (Err NoSuchName)
lacking true other is = refl
lacking false other is = absurd (cc)

pub lacking-by-tables : (m : MachineState) (option : ℕ) (unit : UnitName) → lacks_unit m unit ≡ true → IsByTables (attach_refusal m option unit) (Err NoSuchName)
lacking-by-tables m option unit is = lacking (lacks_unit m unit) (first_fault (refused_first (attachment_at (attached_in m) unit) unit (mode_of option))) is

pub built-by-tables : (m : MachineState) (option : ℕ) (unit : UnitName) (a : Answer) → lacks_unit m unit ≡ false
    → IsByTables (first_fault (refused_first (attachment_at (attached_in m) unit) unit (mode_of option))) a → IsByTables (attach_refusal m option unit) a
built-by-tables m option unit a is h = by-lacking (lacks_unit m unit) (first_fault (refused_first (attachment_at (attached_in m) unit) unit (mode_of option))) a is h

pub attach-tables : (m : MachineState) (option : ℕ) (unit : UnitName) (mode : AttachMode) (attached : List (Option Attachment)) (r : Result ℕ AttachFault) (a : Answer)
    → attached ≡ attached_in m → mode ≡ mode_of option → lacks_unit m unit ≡ false → first_refusal r ≡ refused_first (attachment_at attached unit) unit mode
    → a ≡ answer_of_attach r → a ≢ Err OutOfMemory → IsByTables (attach_refusal m option unit) a
attach-tables m option unit mode attached r a are by built first is some =
    built-by-tables m option unit a built
    (attached-by-tables r (refused_first (attachment_at (attached_in m) unit) unit (mode_of option)) a (first ∙ (λ i. refused_first (attachment_at (are i) unit) unit (by i))) is some)
