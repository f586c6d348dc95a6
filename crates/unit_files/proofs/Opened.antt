-- The file of a unit is open, under its name, and what a byte act comes to there.
use Rattle.std.proofs.Common.{◌≡◌, ◌≢◌, ℕ, ◌<◌, Bool, true, false, List, [], Option, Some, IsSome, option_map}
use Rattle.std.proofs.Common.{unwrap_or, nat_lt, refl, ap, sym, ◌∙◌, subst, arith, if◌then◌else◌}
use Rattle.std.proofs.lemmas.Bool.Decides.{nat_tests}
use Rattle.file_traits.specs.declared.files.OpenMode.{OpenMode}
use Rattle.file_traits.specs.declared.files.OpenMode.TheVariants.{Read}
use Rattle.file_traits.specs.declared.files.FileCall.TheVariants as call
use Rattle.file_traits.specs.declared.files.FileId.{FileId}
use Rattle.file_traits.specs.Lists.{NamedBytes, bytes_of, changed}
use Rattle.file_traits.specs.State.{Opened, opened_at, name_at, mode_at}
use Rattle.unit_trait.specs.declared.kind.UnitName.{UnitName}
use Rattle.unit_files.specs.Attachments.{Attachment, Held, file_place, read_only_of, read_only_at}
use Rattle.unit_files.specs.Acts.{Failure, failure_at, read_act, read_said, write_files, byte_written, most_bytes}
use Rattle.unit_files.specs.Acts.{AtEnd, is_due_back}
use Rattle.unit_files.specs.InStep.{pages_back, pages_flushed}
use Rattle.unit_files.specs.Buffer.{Buffer}
use Rattle.unit_files.specs.Open.{is_reading, AllOpen, IsHeldOpen}
use Rattle.unit_files.specs.View.{HoldsFile}

-- an entry of an open file, by its number
module _ (opened : List Opened) (file : ℕ) (entry : Opened) (there : opened_at opened file ≡ Some entry) where
  pub entry-open : IsSome (opened_at opened file)
  entry-open = subst IsSome (sym there) refl

  pub entry-name : name_at opened file ≡ entry.name
  entry-name = ap (λ (o : Option Opened). unwrap_or (option_map (λ (p : Opened). p.name) o) []) there

  pub entry-mode : mode_at opened file ≡ Some entry.mode
  entry-mode = ap (λ (o : Option Opened). option_map (λ (p : Opened). p.mode) o) there

-- what is known of the number of a unit's file
pub record IsFileOf (slots : List (Option Held)) (unit : UnitName) (id : FileId) (opened : List Opened) (held : Held) :
    Type 0 where
  pub is_open : IsSome (opened_at opened id.0)
  pub name : name_at opened id.0 ≡ held.attachment.name
  pub writable : read_only_at slots unit ≡ false → mode_at opened id.0 ≢ Some Read

pub file-of : (slots : List (Option Held)) (unit : UnitName) (id : FileId) (opened : List Opened) → AllOpen slots opened
    → (holds : HoldsFile slots unit id) → IsFileOf slots unit id opened holds.held
file-of slots unit id opened all holds =
    let held = holds.held in
    let at : IsHeldOpen held opened = all.there (file_place unit) held holds.there in
    let there : opened_at opened id.0 ≡ Some at.entry = ap (λ (n : ℕ). opened_at opened n) (sym holds.number)
    ∙ at.there in
    record {
      is_open = entry-open opened id.0 at.entry there;
      name = entry-name opened id.0 at.entry there ∙ at.name;
      writable = λ writes reads.
          let only : held.attachment.read_only ≡ false = ap read_only_of (sym holds.there) ∙ writes in
          let mode : Some at.entry.mode ≡ Some Read = sym (entry-mode opened id.0 at.entry there) ∙ reads in
          let reading : is_reading at.entry.mode ≡ true =
          ap (λ (m : Option OpenMode). is_reading (unwrap_or m Read)) mode in
          let other : is_reading at.entry.mode ≡ false = at.mode ∙ only in
          absurd (cc);
    }

pub read-at-file : (fault : Option Failure) (a : Option Attachment) (b : Attachment) (place : ℕ) (files : List
    NamedBytes) (name : List ℕ) → a ≡ Some b → name ≡ b.name → place < most_bytes
    → read_act fault a place files ≡ read_said (failure_at call.Read fault) (bytes_of files name) place
unfolding read_act
read-at-file fault a b place files name is same within =
    let before : nat_lt place most_bytes ≡ true = grind (arith, nat_tests) in
    ap (λ (x : Option Attachment). read_act fault x place files) is
    ∙ ap (λ (t : Bool). if t then read_said (failure_at call.Read fault) (bytes_of files b.name) place else AtEnd)
    before
    ∙ ap (λ (n : List ℕ). read_said (failure_at call.Read fault) (bytes_of files n) place) (sym same)

pub written-back-file : (fault : Option Failure) (unit : UnitName) (a : Option Attachment) (b : Attachment)
    (disk : Buffer) (marks : List Bool) (files : List NamedBytes) (name : List ℕ) → a ≡ Some b → name ≡ b.name
    → is_due_back unit disk ≡ true → pages_flushed fault unit a disk marks files ≡ changed files name (pages_back fault disk marks)
unfolding pages_flushed
written-back-file fault unit a b disk marks files name is same due =
    ap (λ (x : Option Attachment). pages_flushed fault unit x disk marks files) is
    ∙ ap (λ (t : Bool). if t then changed files b.name (pages_back fault disk marks) else files) due
    ∙ ap (λ (n : List ℕ). changed files n (pages_back fault disk marks)) (sym same)

pub written-at-file : (fault : Option Failure) (a : Option Attachment) (b : Attachment) (place byte : ℕ)
    (files : List NamedBytes) (name : List ℕ) → a ≡ Some b → name ≡ b.name → place < most_bytes
    → write_files fault a place byte files ≡ changed files name (byte_written fault place byte)
unfolding write_files
written-at-file fault a b place byte files name is same within =
    let before : nat_lt place most_bytes ≡ true = grind (arith, nat_tests) in
    ap (λ (x : Option Attachment). write_files fault x place byte files) is
    ∙ ap (λ (t : Bool). if t then changed files b.name (byte_written fault place byte) else files) before
    ∙ ap (λ (n : List ℕ). changed files n (byte_written fault place byte)) (sym same)
