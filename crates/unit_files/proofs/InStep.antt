-- The disk's file stays in step with the copy of it.
use Rattle.std.specs.Prelude.{bytes_eq}
use Rattle.std.proofs.Common.{◌≡◌, ◌<◌, ◌≤◌, ◌+◌, ◌-◌, ◌*◌, ◌&&◌, ℕ, Bool, true, false, IsTrue, List, [], ◌∷◌, ◌++◌, length, take, drop, get_or, set, slice_get, Option, Some, None, IsSome, IfSome, is_some, option_map, unwrap_or, inl, inr, refl, ap, sym, ◌∙◌, subst, arith, if◌then◌else◌}
use Rattle.std.proofs.lemmas.Bool.{cases_Bool, cases_lt}
use Rattle.std.proofs.lemmas.List.{get_or-set_other, get_or-take, get_or-drop, get_or_append_left, get_or-append_right, length-map}
use Rattle.std.proofs.lemmas.Option.{slice_get_past}
use Rattle.file_traits.specs.declared.files.FileCall.TheVariants.{Write}
use Rattle.file_traits.specs.Lists.{NamedBytes, find_file, bytes_of, with_file, changed}
use Rattle.file_traits.proofs.Changes.{changed_bytes, test-same}
use Rattle.unit_trait.specs.declared.kind.UnitName.{UnitName}
use Rattle.unit_files.specs.declared.modes.AttachMode.{AttachMode}
use Rattle.unit_files.specs.declared.modes.AttachMode.TheVariants.{Any, MustExist, New, ReadOnly}
use Rattle.unit_files.specs.Attachments.{Attachment, Held, file_place, takes_attachment, is_disk, attachments_of, attachment_at, with_attachment}
use Rattle.unit_files.specs.Pages.{page_bytes, no_marks}
use Rattle.unit_files.specs.Buffer.{Buffer, AttachedFiles, disk_unit, no_buffer}
use Rattle.unit_files.specs.Acts.{Failure, failure_at, is_due_back, written_over, written_back, FlushSaid, HasNone, NotFlushed, Flushed, flushed_as, flush_said, flush_files, buffer_flushed, detached}
use Rattle.unit_files.specs.Acts.{Attached, opened_files, opened_said, opening_said, files_where, files_unless_opening}
use Rattle.unit_files.specs.Shapes.{IsPart}
use Rattle.unit_files.specs.InStep.{marks_flushed, IsCopyOutside, IsInStep, StepAt, InStep, MarksCover}
use Rattle.unit_files.proofs.Overwriting.{at}
use Rattle.unit_files.proofs.FlushLaws.{some-same, slice-same, part-long, joined-long, part-met}
use Rattle.unit_files.proofs.Copies.{first-of, not-first}

-- ---- what a file has to be

-- a file that is the copy is the copy outside any pages
pub copy-same : (bytes : List ℕ) (marks : List Bool) → IsCopyOutside bytes marks bytes
copy-same bytes marks = record { short = omega arith; same = λ page k low not. refl }

-- a file of which the first bytes were written is so where it was
module _ (bytes : List ℕ) (marks : List Bool) (old : List ℕ) (outside : IsCopyOutside bytes marks old) (n : ℕ) (within : n ≤ length bytes) where
  abbrev joined : List ℕ
  joined = take n bytes ++ drop n old

  long : length joined ≡ n + (length old - n)
  long = joined-long bytes marks old outside n within

  front-long : length (take n bytes) ≡ n
  front-long = part-long bytes marks old outside n within

  in-front : (i : ℕ) → i < n → slice_get joined i ≡ slice_get bytes i
  in-front i below =
      some-same joined bytes i (omega (arith, below, long)) (omega (arith, below, within))
      (get_or_append_left (take n bytes) (drop n old) 0 i (omega (arith, below, front-long)) ∙ get_or-take n bytes i 0 below)

  at-rest : (i : ℕ) → n ≤ i → at joined i ≡ at old i
  at-rest i past =
      get_or-append_right (take n bytes) (drop n old) n i 0 front-long past
      ∙ get_or-drop n old (i - n) 0
      ∙ ap (λ (j : ℕ). at old j) {x = n + (i - n)} {y = i} (omega (arith, past))

  behind : (i : ℕ) → n ≤ i → slice_get old i ≡ slice_get bytes i → slice_get joined i ≡ slice_get bytes i
  behind i past same = elim (cases_lt i (length old)) [
    | inl in_old ↦
        let short = outside.short in
        some-same joined bytes i (omega (arith, in_old, past, long)) (omega (arith, in_old, short))
        (at-rest i past ∙ sym (slice-same old bytes i in_old same))
    | inr out ↦ slice_get_past joined i (omega (arith, out, past, long)) ∙ sym (slice_get_past old i out) ∙ same
  ]

  pub part-outside : IsCopyOutside bytes marks joined
  part-outside = record {
    short = let short = outside.short in omega (arith, short, long, within);
    same = λ page k low not. elim (cases_lt (page * page_bytes + k) n) [
      | inl below ↦ in-front (page * page_bytes + k) below
      | inr past ↦ behind (page * page_bytes + k) past (outside.same page k low not)
    ];
  }

-- a file that was there is there once it was changed
pub changed-there : (files : List NamedBytes) (name : List ℕ) (step : List ℕ → List ℕ) → IsSome (find_file files name)
    → IsSome (find_file (changed files name step) name)
changed-there [] name step there = there
changed-there (f ∷ rest) name step there = by-test (bytes_eq f.0 name) refl (changed-there rest name step) there
  where
    by-test : (b : Bool) → bytes_eq f.0 name ≡ b → (IsSome (find_file rest name) → IsSome (find_file (changed rest name step) name))
        → IsSome (if b then Some f.1 else find_file rest name)
        → IsSome (find_file (if b then (f.0, step f.1) ∷ rest else f ∷ changed rest name step) name)
    by-test true is later there = subst (λ (c : Bool). IsSome (if c then Some (step f.1) else find_file rest name)) (sym is) refl
    by-test false is later there =
        subst (λ (c : Bool). IsSome (if c then Some f.1 else find_file (changed rest name step) name)) (sym is) (later there)

-- ---- a writing back

module _ (a : Attachment) (disk : Buffer) (marks : List Bool) (files : List NamedBytes) (step : IsInStep a disk marks files) where
  whole-step : IsInStep a (record disk { written = false }) no_marks (changed files a.name (written_over None disk.bytes))
  whole-step = record {
    there = changed-there files a.name (written_over None disk.bytes) step.there;
    outside =
        subst (λ (new : List ℕ). IsCopyOutside disk.bytes no_marks new)
        (sym (changed_bytes files a.name (written_over None disk.bytes) step.there)) (copy-same disk.bytes no_marks);
    unmarked = λ _. refl;
  }

  part-step : (f : Failure) → f.done ≤ length disk.bytes → IsInStep a disk marks (changed files a.name (written_over (Some f) disk.bytes))
  part-step f within = record {
    there = changed-there files a.name (written_over (Some f) disk.bytes) step.there;
    outside =
        subst (λ (new : List ℕ). IsCopyOutside disk.bytes marks new)
        (sym (changed_bytes files a.name (written_over (Some f) disk.bytes) step.there))
        (part-outside disk.bytes marks (bytes_of files a.name) step.outside f.done within);
    unmarked = step.unmarked;
  }

  unwritten-step : disk.written ≡ false → IsInStep a (record disk { written = false }) no_marks files
  unwritten-step is = record {
    there = step.there;
    outside =
        subst (λ (l : List Bool). IsCopyOutside disk.bytes l (bytes_of files a.name)) (step.unmarked is) step.outside;
    unmarked = λ _. refl;
  }

  module _ (unit : UnitName) (is : is_disk unit.kind ≡ true) where
    written-step : (o : Option Failure) → IfSome o (λ f. f.done ≤ length disk.bytes)
        → IsInStep a (buffer_flushed (flushed_as o) unit disk) (marks_flushed (flushed_as o) unit marks)
        (changed files a.name (written_over o disk.bytes))
    written-step None part =
        subst (λ (b : Bool). IsInStep a (if b then record disk { written = false } else disk) (if b then no_marks else marks) (changed files a.name (written_over None disk.bytes)))
        (sym is) whole-step
    written-step (Some f) part = part-step f part

    kept-step : disk.written ≡ false → IsInStep a (buffer_flushed Flushed unit disk) (marks_flushed Flushed unit marks) files
    kept-step none =
        subst (λ (b : Bool). IsInStep a (if b then record disk { written = false } else disk) (if b then no_marks else marks) files)
        (sym is) (unwritten-step none)

    by-due : (fault : Option Failure) (b w : Bool) → is_disk unit.kind ≡ b → disk.written ≡ w
        → IfSome (failure_at Write fault) (λ f. f.done ≤ length disk.bytes)
        → IsInStep a (buffer_flushed (flushed_as (if b && w then failure_at Write fault else None)) unit disk)
        (marks_flushed (flushed_as (if b && w then failure_at Write fault else None)) unit marks)
        (if b && w then changed files a.name (written_back fault disk) else files)
    by-due fault true true same was part = written-step (failure_at Write fault) part
    by-due fault true false same was part = kept-step was
    by-due fault false w same was part = absurd (cc)

    pub flushed-step : (fault : Option Failure) → IsPart fault disk
        → IsInStep a (buffer_flushed (flush_said fault unit (Some a) disk) unit disk)
        (marks_flushed (flush_said fault unit (Some a) disk) unit marks) (flush_files fault unit (Some a) disk files)
    unfolding flush_files
    flushed-step fault part =
        by-due fault (is_disk unit.kind) disk.written refl refl (part-met fault (length disk.bytes) part)

flushed-at : (fault : Option Failure) (unit : UnitName) (o : Option Attachment) (disk : Buffer) (marks : List Bool)
    (files : List NamedBytes) → is_disk unit.kind ≡ true → IsPart fault disk → StepAt o disk marks files
    → StepAt o (buffer_flushed (flush_said fault unit o disk) unit disk) (marks_flushed (flush_said fault unit o disk) unit marks)
    (flush_files fault unit o disk files)
flushed-at fault unit None disk marks files is part step = tt
flushed-at fault unit (Some a) disk marks files is part step = flushed-step a disk marks files step unit is fault part

-- ---- the attachment of the disk

-- a unit that is the disk has the disk's file
pub disk-file : (attached : List (Option Attachment)) (unit : UnitName) → IsTrue (takes_attachment unit) → is_disk unit.kind ≡ true
    → attachment_at attached unit ≡ attachment_at attached disk_unit
disk-file attached unit takes is = ap (λ (place : ℕ). get_or attached place None) (first-of unit.kind unit.unit is takes)

-- another unit's attaching or detaching is none of the disk
other-file : (attached : List (Option Attachment)) (unit : UnitName) (x : Option Attachment) → is_disk unit.kind ≡ false
    → attachment_at (with_attachment attached unit x) disk_unit ≡ attachment_at attached disk_unit
other-file attached unit x other =
    get_or-set_other attached (file_place unit) 0 x None (λ first. not-first unit.kind unit.unit other (sym first))

abbrev of-disk : AttachedFiles → Option Attachment
of-disk a = attachment_at (attachments_of a.slots) disk_unit

-- the same of equal parts
step-moved : (o o' : Option Attachment) (disk disk' : Buffer) (marks marks' : List Bool) (files files' : List NamedBytes)
    → o' ≡ o → disk' ≡ disk → marks' ≡ marks → files' ≡ files → StepAt o disk marks files → StepAt o' disk' marks' files'
step-moved o o' disk disk' marks marks' files files' of copy marked left =
    subst (λ (x : Option Attachment × Buffer × List Bool × List NamedBytes). StepAt x.0 x.1 x.2 x.3)
    (λ i. (sym of i, sym copy i, sym marked i, sym left i))

other-buffer : (said : FlushSaid) (unit : UnitName) (disk : Buffer) → is_disk unit.kind ≡ false → buffer_flushed said unit disk ≡ disk
other-buffer HasNone unit disk other = refl
other-buffer (NotFlushed f) unit disk other = refl
other-buffer Flushed unit disk other = ap (λ (b : Bool). if b then record disk { written = false } else disk) other

other-marks : (said : FlushSaid) (unit : UnitName) (marks : List Bool) → is_disk unit.kind ≡ false → marks_flushed said unit marks ≡ marks
other-marks HasNone unit marks other = refl
other-marks (NotFlushed f) unit marks other = refl
other-marks Flushed unit marks other = ap (λ (b : Bool). if b then no_marks else marks) other

pub other-files : (fault : Option Failure) (unit : UnitName) (o : Option Attachment) (disk : Buffer) (files : List NamedBytes)
    → is_disk unit.kind ≡ false → flush_files fault unit o disk files ≡ files
unfolding flush_files
other-files fault unit None disk files other = refl
other-files fault unit (Some a) disk files other =
    ap (λ (b : Bool). if b && disk.written then changed files a.name (written_back fault disk) else files) other

pub not-due-files : (fault : Option Failure) (unit : UnitName) (o : Option Attachment) (disk : Buffer) (files : List NamedBytes)
    → is_due_back unit disk ≡ false → flush_files fault unit o disk files ≡ files
unfolding flush_files
not-due-files fault unit None disk files not_due = refl
not-due-files fault unit (Some a) disk files not_due =
    ap (λ (b : Bool). if b then changed files a.name (written_back fault disk) else files) not_due

pub no-files : (fault : Option Failure) (unit : UnitName) (o : Option Attachment) (disk : Buffer) (files : List NamedBytes)
    → o ≡ None → flush_files fault unit o disk files ≡ files
unfolding flush_files
no-files fault unit o disk files none = ap (λ (x : Option Attachment). flush_files fault unit x disk files) none

-- ---- the calls

module _ (fault : Option Failure) (unit : UnitName) (said : FlushSaid) (old new : AttachedFiles) (files files' : List NamedBytes)
    (takes : IsTrue (takes_attachment unit)) (slots : new.slots ≡ old.slots)
    (says : said ≡ flush_said fault unit (attachment_at (attachments_of old.slots) unit) old.disk)
    (copy : new.disk ≡ buffer_flushed said unit old.disk) (marks : new.aside ≡ marks_flushed said unit old.aside)
    (left : files' ≡ flush_files fault unit (attachment_at (attachments_of old.slots) unit) old.disk files)
    (part : IsPart fault old.disk) (step : InStep old files) where
  same-disk : of-disk new ≡ of-disk old
  same-disk = ap (λ (l : List (Option Held)). attachment_at (attachments_of l) disk_unit) slots

  at-disk : is_disk unit.kind ≡ true → InStep new files'
  at-disk is =
      let here = disk-file (attachments_of old.slots) unit takes is in
      let told = says ∙ ap (λ (o : Option Attachment). flush_said fault unit o old.disk) here in
      step-moved (of-disk old) (of-disk new) (buffer_flushed (flush_said fault unit (of-disk old) old.disk) unit old.disk) new.disk
      (marks_flushed (flush_said fault unit (of-disk old) old.disk) unit old.aside) new.aside
      (flush_files fault unit (of-disk old) old.disk files) files' same-disk
      (copy ∙ ap (λ (s : FlushSaid). buffer_flushed s unit old.disk) told)
      (marks ∙ ap (λ (s : FlushSaid). marks_flushed s unit old.aside) told)
      (left ∙ ap (λ (o : Option Attachment). flush_files fault unit o old.disk files) here)
      (flushed-at fault unit (of-disk old) old.disk old.aside files is part step)

  elsewhere : is_disk unit.kind ≡ false → InStep new files'
  elsewhere other =
      step-moved (of-disk old) (of-disk new) old.disk new.disk old.aside new.aside files files' same-disk
      (copy ∙ other-buffer said unit old.disk other) (marks ∙ other-marks said unit old.aside other)
      (left ∙ other-files fault unit (attachment_at (attachments_of old.slots) unit) old.disk files other) step

  -- behind a writing back
  pub step-flushed : InStep new files'
  step-flushed = elim (cases_Bool (is_disk unit.kind)) [ inl is ↦ at-disk is | inr other ↦ elsewhere other ]

-- what a writing back does by content, from what it does by pages
pub step-content : (fault : Option Failure) (unit : UnitName) (a : AttachedFiles) (files : List NamedBytes)
    → IsTrue (takes_attachment unit) → InStep a files → is_disk unit.kind ≡ true
    → StepAt (attachment_at (attachments_of a.slots) unit) a.disk a.aside files
step-content fault unit a files takes step is =
    subst (λ (o : Option Attachment). StepAt o a.disk a.aside files) (sym (disk-file (attachments_of a.slots) unit takes is)) step

emptied-at : (attached : List (Option Attachment)) → get_or (set attached 0 None) 0 None ≡ None
emptied-at [] = refl
emptied-at (x ∷ attached) = refl

-- behind a detaching
pub step-released : (unit : UnitName) (old new : AttachedFiles) (files files' : List NamedBytes) → IsTrue (takes_attachment unit)
    → attachments_of new.slots ≡ detached unit (attachments_of old.slots)
    → new.disk ≡ (if is_disk unit.kind then no_buffer else old.disk) → new.aside ≡ (if is_disk unit.kind then no_marks else old.aside)
    → files' ≡ files → InStep old files → InStep new files'
step-released unit old new files files' takes attached copy marks left step = elim (cases_Bool (is_disk unit.kind)) [
  | inl is ↦
      let none : of-disk new ≡ None =
      ap (λ (l : List (Option Attachment)). attachment_at l disk_unit) attached
      ∙ ap (λ (place : ℕ). get_or (set (attachments_of old.slots) place None) 0 None) (first-of unit.kind unit.unit is takes)
      ∙ emptied-at (attachments_of old.slots) in
      subst (λ (o : Option Attachment). StepAt o new.disk new.aside files') (sym none) tt
  | inr other ↦
      step-moved (of-disk old) (of-disk new) old.disk new.disk old.aside new.aside files files'
      (ap (λ (l : List (Option Attachment)). attachment_at l disk_unit) attached ∙ other-file (attachments_of old.slots) unit None other)
      (copy ∙ ap (λ (b : Bool). if b then no_buffer else old.disk) other)
      (marks ∙ ap (λ (b : Bool). if b then no_marks else old.aside) other) left step
]

filled-at : (a : Attachment) (attached : List (Option Attachment)) → 0 < length attached → get_or (set attached 0 (Some a)) 0 None ≡ Some a
filled-at a [] some = absurd (omega (arith, some))
filled-at a (x ∷ attached) some = refl

-- behind an attaching to the disk
pub step-attached : (unit : UnitName) (a : Attachment) (old new : AttachedFiles) (files : List NamedBytes) → IsTrue (takes_attachment unit)
    → is_disk unit.kind ≡ true → 0 < length old.slots
    → attachments_of new.slots ≡ with_attachment (attachments_of old.slots) unit (Some a)
    → new.disk.bytes ≡ bytes_of files a.name → new.aside ≡ no_marks → IsSome (find_file files a.name) → InStep new files
step-attached unit a old new files takes is some attached bytes marks there =
    let here : of-disk new ≡ Some a =
    ap (λ (l : List (Option Attachment)). attachment_at l disk_unit) attached
    ∙ ap (λ (place : ℕ). get_or (set (attachments_of old.slots) place (Some a)) 0 None) (first-of unit.kind unit.unit is takes)
    ∙ filled-at a (attachments_of old.slots) (omega (arith, some, length-map old.slots (λ (slot : Option Held). option_map (λ (h : Held). h.attachment) slot))) in
    let same : IsInStep a new.disk new.aside files = record {
      there = there;
      outside = subst (λ (copy : List ℕ). IsCopyOutside copy new.aside (bytes_of files a.name)) (sym bytes) (copy-same (bytes_of files a.name) new.aside);
      unmarked = λ _. marks;
    } in
    subst (λ (o : Option Attachment). StepAt o new.disk new.aside files) (sym here) same

-- ---- between calls

-- the disk's file stays as it is
pub step-kept : (o : Option Attachment) (disk : Buffer) (marks : List Bool) (files files' : List NamedBytes)
    → ((a : Attachment) → o ≡ Some a → find_file files' a.name ≡ find_file files a.name) → StepAt o disk marks files → StepAt o disk marks files'
step-kept None disk marks files files' same step = tt
step-kept (Some a) disk marks files files' same step = record {
  there = subst IsSome (sym (same a refl)) step.there;
  outside = subst (λ (found : Option (List ℕ)). IsCopyOutside disk.bytes marks (unwrap_or found [])) (sym (same a refl)) step.outside;
  unmarked = step.unmarked;
}

-- the marks cover what has changed of the copy
pub step-covered : (old new : AttachedFiles) (files : List NamedBytes) → new.slots ≡ old.slots → MarksCover old new → InStep old files → InStep new files
step-covered old new files slots covers step =
    subst (λ (l : List (Option Held)). StepAt (attachment_at (attachments_of l) disk_unit) new.disk new.aside files) (sym slots)
    (by-file (of-disk old) step)
  where
    by-file : (o : Option Attachment) → StepAt o old.disk old.aside files → StepAt o new.disk new.aside files
    by-file None was = tt
    by-file (Some a) was = record {
      there = was.there;
      outside = record {
        short = let short = was.outside.short in let grown = covers.no_shorter in omega (arith, short, grown);
        same = λ page k low not. was.outside.same page k low (covers.kept page not) ∙ covers.same page k low not;
      };
      unmarked = λ none. (covers.unwritten none).1 ∙ was.unmarked (covers.unwritten none).0;
    }

pub covers-same : (old new : AttachedFiles) → new.disk ≡ old.disk → new.aside ≡ old.aside → MarksCover old new
covers-same old new copy marks = record {
  no_shorter = let long = ap (λ (d : Buffer). length d.bytes) copy in omega (arith, long);
  kept = λ page not. ap (λ (l : List Bool). get_or l page false) (sym marks) ∙ not;
  same = λ page k low not. ap (λ (d : Buffer). slice_get d.bytes (page * page_bytes + k)) (sym copy);
  unwritten = λ none. (ap (λ (d : Buffer). d.written) (sym copy) ∙ none, marks);
}

pub covers-both : (old mid new : AttachedFiles) → MarksCover old mid → MarksCover mid new → MarksCover old new
covers-both old mid new first last = record {
  no_shorter = let one = first.no_shorter in let two = last.no_shorter in omega (arith, one, two);
  kept = λ page not. first.kept page (last.kept page not);
  same = λ page k low not. first.same page k low (last.kept page not) ∙ last.same page k low not;
  unwritten = λ none. ((first.unwritten (last.unwritten none).0).0, (last.unwritten none).1 ∙ (first.unwritten (last.unwritten none).0).1);
}

-- ---- a file is there once it was opened for a unit

made-there : (files : List NamedBytes) (name bytes : List ℕ) → IsSome (find_file (with_file files name bytes) name)
made-there [] name bytes = subst (λ (b : Bool). IsSome (if b then Some bytes else None)) (sym (test-same name)) refl
made-there (f ∷ rest) name bytes = by-test (bytes_eq f.0 name) refl (made-there rest name bytes)
  where
    by-test : (b : Bool) → bytes_eq f.0 name ≡ b → IsSome (find_file (with_file rest name bytes) name)
        → IsSome (find_file (if b then (f.0, bytes) ∷ rest else f ∷ with_file rest name bytes) name)
    by-test true is later = subst (λ (c : Bool). IsSome (if c then Some bytes else find_file rest name)) (sym is) refl
    by-test false is later =
        subst (λ (c : Bool). IsSome (if c then Some f.1 else find_file (with_file rest name bytes) name)) (sym is) later

module _ (name : List ℕ) (files made : List NamedBytes) where
  there-as : (left : List NamedBytes) → Some left ≡ Some made → IsSome (find_file left name) → IsSome (find_file made name)
  there-as left is = let same : left ≡ made = cc in subst (λ (l : List NamedBytes). IsSome (find_file l name)) same

  found-there : (b : Bool) → is_some (find_file files name) ≡ b → (if b then Some files else None) ≡ Some made → IsSome (find_file made name)
  found-there true found is = there-as files is found
  found-there false found is = absurd (cc)

  any-there : (b : Bool) → is_some (find_file files name) ≡ b
      → (if b then Some files else Some (with_file files name [])) ≡ Some made → IsSome (find_file made name)
  any-there true found is = there-as files is found
  any-there false found is = there-as (with_file files name []) is (made-there files name [])

  opened-there : (mode : AttachMode) → opened_files mode name files ≡ Some made → IsSome (find_file made name)
  opened-there Any is = any-there (is_some (find_file files name)) refl is
  opened-there New is = there-as (with_file files name []) is (made-there files name [])
  opened-there MustExist is = found-there (is_some (find_file files name)) refl is
  opened-there ReadOnly is = found-there (is_some (find_file files name)) refl is

pub opening-there : (mode : AttachMode) (unit : UnitName) (name : List ℕ) (files new : List NamedBytes) (count : ℕ)
    → Attached count ≡ opening_said None None mode unit name files → new ≡ files_unless_opening None mode name files
    → IsSome (find_file new name)
opening-there mode unit name files new count = by-opened (opened_files mode name files) refl
  where
    by-opened : (o : Option (List NamedBytes)) → opened_files mode name files ≡ o → Attached count ≡ opened_said None unit name o
        → new ≡ files_where o files → IsSome (find_file new name)
    by-opened None is said left = absurd (cc)
    by-opened (Some made) is said left =
        subst (λ (l : List NamedBytes). IsSome (find_file l name)) (sym left) (opened-there name files made mode is)
