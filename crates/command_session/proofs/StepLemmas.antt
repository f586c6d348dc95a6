-- The disk's file stays in step with the copy of it where nothing else has changed it.
use Rattle.std.specs.Prelude.{bytes_eq, nat_le}
use Rattle.std.proofs.Common.{◌≡◌, ◌<◌, ◌≤◌, ◌+◌, ◌*◌, ◌&&◌, ◌||◌, ◌⊎◌, ℕ, zero, suc, Bool, true, false, List, [], ◌∷◌, length, drop, get_or, slice_get, Option, Some, None, IsSome, unwrap_or, inl, inr, refl, ap, sym, ◌∙◌, subst, arith, if◌then◌else◌}
use Rattle.std.proofs.lemmas.Bool.{cases_lt, false≢true}
use Rattle.std.proofs.lemmas.Bool.Decides.{Decides-eqb, leb_tells}
use Rattle.std.proofs.lemmas.Option.{slice_get_past}
use Rattle.std.proofs.lemmas.Slice.Eq.{bytes_eq-Decides}
use Rattle.file_traits.specs.Lists.{NamedBytes, find_file, bytes_of}
use Rattle.unit_files.specs.Attachments.{Attachment, attachment_at}
use Rattle.unit_files.specs.Pages.{page_bytes}
use Rattle.unit_files.specs.Buffer.{AttachedFiles, disk_unit}
use Rattle.unit_files.specs.InStep.{IsCopyOutside, IsInStep, StepAt, InStep, MarksCover}
use Rattle.unit_files.proofs.InStep.{copy-same, covers-same}
use Rattle.nova_machine.specs.Machine.{attached_files}
use Rattle.nova_machine.specs.Seen.{erased, attached_in}
use Rattle.command_session.specs.Live.{CommandState}
use Rattle.command_session.specs.DiskFile.{begins_with, is_of_both, is_left_by_disk, is_by_disk_at, disk_alone, StaysInStep, StaysWhereAlone}
use Rattle.command_session.proofs.SeenLemmas.{attached-erased}

-- ---- what the test says of bytes

both : (a b : Bool) → (a && b) ≡ true → (a ≡ true) × (b ≡ true)
both true b is = (refl, is)
both false b is = absurd (false≢true is)

either : (a b : Bool) → (a || b) ≡ true → (a ≡ true) ⊎ (b ≡ true)
either true b is = inl refl
either false b is = inr is

first-is : (byte : ℕ) (bytes : List ℕ) → begins_with byte bytes ≡ true → slice_get (byte ∷ []) 0 ≡ slice_get bytes 0
first-is byte [] is = absurd (false≢true is)
first-is byte (first ∷ bytes) is = ap (λ (b : ℕ). Some b) ((Decides-eqb byte first).0 is)

behind-first : (bytes : List ℕ) (i : ℕ) → slice_get (drop 1 bytes) i ≡ slice_get bytes (suc i)
behind-first [] i = refl
behind-first (first ∷ bytes) i = refl

-- each byte is that of one of both
of-both : (now old copy : List ℕ) (i : ℕ) → is_of_both now old copy ≡ true → i < length now
    → (slice_get now i ≡ slice_get old i) ⊎ (slice_get now i ≡ slice_get copy i)
of-both [] old copy i is within = absurd (omega (arith, within))
of-both (byte ∷ now) old copy zero is within =
    elim (either (begins_with byte old) (begins_with byte copy) (both (begins_with byte old || begins_with byte copy) (is_of_both now (drop 1 old) (drop 1 copy)) is).0) [
      | inl of_old ↦ inl (first-is byte old of_old)
      | inr of_copy ↦ inr (first-is byte copy of_copy)
    ]
of-both (byte ∷ now) old copy (suc i) is within =
    elim (of-both now (drop 1 old) (drop 1 copy) i (both (begins_with byte old || begins_with byte copy) (is_of_both now (drop 1 old) (drop 1 copy)) is).1 (omega (arith, within))) [
      | inl of_old ↦ inl (of_old ∙ behind-first old i)
      | inr of_copy ↦ inr (of_copy ∙ behind-first copy i)
    ]

at-most : (a b : ℕ) → nat_le a b ≡ true → a ≤ b
at-most a b is = elim (leb_tells a b) [ inl low ↦ low.1 | inr high ↦ absurd (false≢true (sym high.0 ∙ is)) ]

-- A file that was the copy outside the marked pages, and has at each place the byte that it had or that of the copy, is so
-- too.
both-outside : (copy : List ℕ) (aside : List Bool) (old now : List ℕ)
    → ((page k : ℕ) → k < page_bytes → get_or aside page false ≡ false → slice_get old (page * page_bytes + k) ≡ slice_get copy (page * page_bytes + k))
    → length old ≤ length now → length now ≤ length copy → is_of_both now old copy ≡ true → IsCopyOutside copy aside now
both-outside copy aside old now was grown short is = record {
  short = short;
  same = λ page k low not. elim (cases_lt (page * page_bytes + k) (length now)) [
    | inl within ↦ elim (of-both now old copy (page * page_bytes + k) is within) [
      | inl of_old ↦ of_old ∙ was page k low not
      | inr of_copy ↦ of_copy
    ]
    | inr past ↦
        slice_get_past now (page * page_bytes + k) past
        ∙ sym (slice_get_past old (page * page_bytes + k) (omega (arith, past, grown)))
        ∙ was page k low not
  ];
}

-- ---- the disk's file

module _ (a : Attachment) (old new : AttachedFiles) (covers : MarksCover old new) (files files' : List NamedBytes)
    (step : IsInStep a old.disk old.aside files) where
  was-outside : (page k : ℕ) → k < page_bytes → get_or new.aside page false ≡ false
      → slice_get (bytes_of files a.name) (page * page_bytes + k) ≡ slice_get new.disk.bytes (page * page_bytes + k)
  was-outside page k low not = step.outside.same page k low (covers.kept page not) ∙ covers.same page k low not

  by-written : (now : List ℕ) (b : Bool)
      → (if b then nat_le (length (bytes_of files a.name)) (length now) && nat_le (length now) (length new.disk.bytes) && is_of_both now (bytes_of files a.name) new.disk.bytes
      else bytes_eq now new.disk.bytes) ≡ true
      → IsCopyOutside new.disk.bytes new.aside now
  by-written now true is =
      let old_bytes : List ℕ = bytes_of files a.name in
      let first = both (nat_le (length old_bytes) (length now) && nat_le (length now) (length new.disk.bytes)) (is_of_both now old_bytes new.disk.bytes) is in
      let lengths = both (nat_le (length old_bytes) (length now)) (nat_le (length now) (length new.disk.bytes)) first.0 in
      both-outside new.disk.bytes new.aside old_bytes now was-outside (at-most _ _ lengths.0) (at-most _ _ lengths.1) first.1
  by-written now false is =
      subst (λ (bytes : List ℕ). IsCopyOutside new.disk.bytes new.aside bytes) (sym ((bytes_eq-Decides now new.disk.bytes).0 is))
      (copy-same new.disk.bytes new.aside)

  by-found : (found : Option (List ℕ)) → find_file files' a.name ≡ found
      → is_left_by_disk new.disk (bytes_of files a.name) found ≡ true → IsInStep a new.disk new.aside files'
  by-found None is left = absurd (false≢true left)
  by-found (Some now) is left = record {
    there = subst IsSome (sym is) refl;
    outside =
        subst (λ (o : Option (List ℕ)). IsCopyOutside new.disk.bytes new.aside (unwrap_or o [])) (sym is)
        (by-written now new.disk.written left);
    unmarked = λ none. (covers.unwritten none).1 ∙ step.unmarked (covers.unwritten none).0;
  }

by-file : (o : Option Attachment) (old new : AttachedFiles) (covers : MarksCover old new) (files files' : List NamedBytes)
    → StepAt o old.disk old.aside files → is_by_disk_at o o new.disk files files' ≡ true → StepAt o new.disk new.aside files'
by-file None old new covers files files' step is = tt
by-file (Some a) old new covers files files' step is =
    by-found a old new covers files files' step (find_file files' a.name) refl is

-- The marks cover what has changed of the copy, and nothing else has changed the file: it stays in step.
pub step-alone : (old new : CommandState) (files files' : List NamedBytes)
    → attachment_at (attached_in new.machine) disk_unit ≡ attachment_at (attached_in old.machine) disk_unit
    → MarksCover (attached_files old.machine) (attached_files new.machine) → StaysWhereAlone old new files files'
unfolding disk_alone
step-alone old new files files' same covers = λ step lines lines' whole whole' alone.
    let was : Option Attachment = attachment_at (attached_in old.machine) disk_unit in
    let seen_old : attachment_at (attached_in (erased old.machine)) disk_unit ≡ was =
    ap (λ (l : List (Option Attachment)). attachment_at l disk_unit) (attached-erased old.machine) in
    let seen_new : attachment_at (attached_in (erased new.machine)) disk_unit ≡ was =
    ap (λ (l : List (Option Attachment)). attachment_at l disk_unit) (attached-erased new.machine) ∙ same in
    let is : is_by_disk_at was was new.machine.disk files files' ≡ true =
    (λ i. is_by_disk_at (sym seen_old i) (sym seen_new i) new.machine.disk files files') ∙ alone in
    subst (λ (o : Option Attachment). StepAt o new.machine.disk new.machine.aside files') (sym same)
    (by-file was (attached_files old.machine) (attached_files new.machine) covers files files' step is)

-- what changes nothing of it but for the files
pub step-beside : (old new : CommandState) (files files' : List NamedBytes)
    → attachment_at (attached_in new.machine) disk_unit ≡ attachment_at (attached_in old.machine) disk_unit
    → new.machine.disk ≡ old.machine.disk → new.machine.aside ≡ old.machine.aside → StaysWhereAlone old new files files'
step-beside old new files files' same copy aside =
    step-alone old new files files' same (covers-same (attached_files old.machine) (attached_files new.machine) copy aside)

-- what changes none of it
pub step-unchanged : (old new : CommandState) (files files' : List NamedBytes)
    → attached_files new.machine ≡ attached_files old.machine → files' ≡ files → StaysInStep old new files files'
step-unchanged old new files files' same left = λ step.
    subst (λ (x : AttachedFiles × List NamedBytes). InStep x.0 x.1) (λ i. (sym same i, sym left i)) step

-- what stays in step whatever is done beside it
pub stays-alone : (old new : CommandState) (files files' : List NamedBytes) → StaysInStep old new files files' → StaysWhereAlone old new files files'
stays-alone old new files files' stays = λ step lines lines' whole whole' alone. stays step
