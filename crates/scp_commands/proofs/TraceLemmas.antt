-- ATTACH changes files only where it is done, or where a call on the file fails.
use Rattle.std.proofs.Common.{◌≡◌, ◌&&◌, ℕ, Bool, true, false, List, [], ◌∷◌, length, is_some, nat_lt, unwrap_or, Option, Some, None, Err, refl, ap, subst, ◌∙◌, if◌then◌else◌, arith}
use Rattle.std.proofs.lemmas.Bool.Decides.{nat_tests}
use Rattle.std.specs.Prelude.{bytes_eq}
use Rattle.file_traits.specs.declared.files.FileCall.TheVariants.{Opening, Length, Read}
use Rattle.file_traits.specs.Lists.{NamedBytes, find_file, bytes_of, with_file}
use Rattle.unit_trait.specs.declared.kind.UnitName.{UnitName}
use Rattle.unit_files.specs.declared.modes.AttachMode.{AttachMode}
use Rattle.unit_files.specs.declared.modes.AttachMode.TheVariants.{Any, MustExist, New, ReadOnly}
use Rattle.unit_files.specs.Attachments.{Attachment, attachment_at, is_disk, longest_file}
use Rattle.unit_files.specs.Acts.{Failure, AttachSaid, Attached, UnitHasFile, OnlyWrites, NotThere, TooLong, CallFailed, failure_at, refused_first, opened_files}
use Rattle.unit_files.specs.Acts.{measured_as, reading_failure, read_whole, opened_said, opening_said, said_unless, attach_said, files_where, files_unless_opening, files_unless, attach_files}
use Rattle.scp_parser.specs.Command as request
use Rattle.file_commands.specs.declared.note.Subject.TheVariants as subject
use Rattle.command_session.specs.declared.fault.CommandFault.{CommandFault}
use Rattle.command_session.specs.declared.fault.CommandFault.TheVariants.{FileFailed}
use Rattle.command_session.specs.FileEffects.{attach_answer}
use Rattle.scp_commands.specs.Traces.{LeavesTraces}

-- a refusal that is not of a failed call
abbrev IsPlainRefusal : AttachSaid → Type 0
IsPlainRefusal (Attached count) = ⊥
IsPlainRefusal (CallFailed f) = ⊥
IsPlainRefusal said = Unit {0}

abbrev no_bytes : List ℕ
no_bytes = []

-- a file that was made or emptied has no bytes
made-empty : (files : List NamedBytes) (name : List ℕ) → bytes_of (with_file files name []) name ≡ []
made-empty [] name = by-test (bytes_eq name name)
  where
    by-test : (b : Bool) → unwrap_or (if b then Some no_bytes else None) [] ≡ []
    by-test true = refl
    by-test false = refl
made-empty (f ∷ files) name = by-test (bytes_eq f.0 name) refl (made-empty files name)
  where
    by-test : (b : Bool) → bytes_eq f.0 name ≡ b → bytes_of (with_file files name []) name ≡ []
        → bytes_of (if b then (f.0, []) ∷ files else f ∷ with_file files name []) name ≡ []
    by-test true is later = ap (λ (b : Bool). unwrap_or (if b then Some no_bytes else find_file files name) []) is
    by-test false is later = ap (λ (b : Bool). unwrap_or (if b then Some f.1 else find_file (with_file files name []) name) []) is ∙ later

-- an empty file is not too long, and nothing of it is read
fits-empty : (fault : Option Failure) (unit : UnitName) (files : List NamedBytes) (name : List ℕ)
    → IsPlainRefusal (measured_as None fault unit (length (bytes_of (with_file files name []) name))) → ⊥
fits-empty fault unit files name refusal =
    by-test (nat_lt (longest_file unit.kind) 0) (grind (arith, nat_tests))
    (subst (λ (bytes : List ℕ). IsPlainRefusal (measured_as None fault unit (length bytes))) (made-empty files name) refusal)
  where
    by-disk : (b : Bool) → IsPlainRefusal (read_whole (if b && nat_lt 0 0 then failure_at Read fault else None) 0) → ⊥
    by-disk true refusal = refusal
    by-disk false refusal = refusal

    by-test : (b : Bool) → b ≡ false → IsPlainRefusal (if b then TooLong else read_whole (reading_failure fault unit 0) 0) → ⊥
    by-test true is refusal = cc
    by-test false is refusal = by-disk (is_disk unit.kind) refusal

made-fits : (fault : Option Failure) (unit : UnitName) (name : List ℕ) (files : List NamedBytes) → IsPlainRefusal (opened_said fault unit name (Some (with_file files name []))) → ⊥
made-fits fault unit name files refusal = by-failure (failure_at Length fault) refusal
  where
    by-failure : (o : Option Failure) → IsPlainRefusal (measured_as o fault unit (length (bytes_of (with_file files name []) name))) → ⊥
    by-failure (Some f) refusal = refusal
    by-failure None refusal = fits-empty fault unit files name refusal

where-there : (b : Bool) (files : List NamedBytes) → files_where (if b then Some files else None) files ≡ files
where-there true files = refl
where-there false files = refl

-- a file that was opened and is too long was there before
opened-kept : (fault : Option Failure) (unit : UnitName) (name : List ℕ) (files : List NamedBytes) (mode : AttachMode)
    → IsPlainRefusal (opened_said fault unit name (opened_files mode name files)) → files_where (opened_files mode name files) files ≡ files
opened-kept fault unit name files Any refusal = by-there (is_some (find_file files name)) refusal
  where
    by-there : (b : Bool) → IsPlainRefusal (opened_said fault unit name (if b then Some files else Some (with_file files name [])))
        → files_where (if b then Some files else Some (with_file files name [])) files ≡ files
    by-there true refusal = refl
    by-there false refusal = absurd (made-fits fault unit name files refusal)
opened-kept fault unit name files New refusal = absurd (made-fits fault unit name files refusal)
opened-kept fault unit name files MustExist refusal = where-there (is_some (find_file files name)) files
opened-kept fault unit name files ReadOnly refusal = where-there (is_some (find_file files name)) files

pub files-kept : (fault : Option Failure) (mode : AttachMode) (unit : UnitName) (name : List ℕ) (option : ℕ) (attached : List (Option Attachment)) (files : List NamedBytes) (other : CommandFault)
    → attach_answer unit (attach_said fault mode unit name attached files) ≡ Err other → (LeavesTraces (request.Attach option unit name) other → ⊥)
    → attach_files fault mode unit name attached files ≡ files
unfolding attach_said attach_files
files-kept fault mode unit name option attached files other h none =
    let first = refused_first (attachment_at attached unit) unit mode in
    by-first first (plain (said_unless first fault mode unit name files) h)
  where
    plain : (said : AttachSaid) → attach_answer unit said ≡ Err other → IsPlainRefusal said
    plain (Attached count) h = absurd (cc)
    plain (CallFailed f) h =
        let same : FileFailed (subject.Unit unit) ≡ other = cc in
        none (subst (λ (x : CommandFault). LeavesTraces (request.Attach option unit name) x) same tt)
    plain UnitHasFile h = tt
    plain OnlyWrites h = tt
    plain NotThere h = tt
    plain TooLong h = tt

    by-opening : (o : Option Failure) → IsPlainRefusal (opening_said o fault mode unit name files) → files_unless_opening o mode name files ≡ files
    by-opening (Some f) refusal = refl
    by-opening None refusal = opened-kept fault unit name files mode refusal

    by-first : (o : Option AttachSaid) → IsPlainRefusal (said_unless o fault mode unit name files) → files_unless o fault mode name files ≡ files
    by-first (Some said) refusal = refl
    by-first None refusal = by-opening (failure_at Opening fault) refusal
