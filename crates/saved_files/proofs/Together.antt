-- Files that are attached one behind another.
use Rattle.std.proofs.Common.{◌≡◌, ◌≢◌, inl, inr, ℕ, ◌+◌, ◌<◌, Bool, true, false, cond, zero, suc, get_or, List, []}
use Rattle.std.proofs.Common.{◌∷◌}
use Rattle.std.proofs.Common.{length, Option, Some, None, Result, Err, refl, sym, ap, subst, ◌∙◌, arith}
use Rattle.std.specs.Prelude.{slice_set, replicate, IsTrue, is_some, ◌==◌}
use Rattle.std.specs.List.{AllByRecursion}
use Rattle.std.proofs.lemmas.List.{get_or-set_other}
use Rattle.std.proofs.lemmas.Bool.{and_parts, eqb-true}
use Rattle.file_traits.specs.Lists.{NamedBytes, bytes_of}
use Rattle.file_traits.specs.State.{Opened}
use Rattle.unit_trait.specs.declared.kind.Kind.{Kind}
use Rattle.unit_trait.specs.declared.kind.Kind.TheVariants.{Dsk, Mta, Lpt, Ptr, Ptp, Clk, Tti, Tto, Tti1, Tto1, Qty}
use Rattle.unit_trait.specs.declared.kind.UnitName.{UnitName}
use Rattle.unit_trait.specs.Kinds.{same_unit, code_of}
use Rattle.unit_trait.proofs.Codes.{same-self, same-code}
use Rattle.unit_files.specs.Answers.{failure_in}
use Rattle.unit_files.specs.Open.{Around, without_held}
use Rattle.unit_files.proofs.Attaching.{around-none}
use Rattle.unit_files.specs.Attachments.{Held, attachments_of, no_files, file_units, Attachment, attachment_at}
use Rattle.unit_files.specs.Attachments.{file_place}
use Rattle.unit_files.specs.Attachments.{is_disk, takes_attachment}
use Rattle.unit_files.specs.Acts.{Failure}
use Rattle.unit_files.specs.Buffer.{Buffer, no_buffer, disk_unit}
use Rattle.saved_session.specs.declared.saved.SavedFile.{SavedFile}
use Rattle.saved_files.specs.declared.file_faults.RestoreFault.{RestoreFault}
use Rattle.saved_files.specs.declared.file_faults.RestoreFault.TheVariants as fault
use Rattle.saved_session.specs.Parts.{FilePart, file_in}
use Rattle.saved_session.specs.Ranges.{kind_at}
use Rattle.saved_files.specs.Putting.{files_in, unit_of, FileRefusal, IsMissing, IsTooLong, HasChanged, CallFails}
use Rattle.saved_files.specs.Putting.{refusal_of}
use Rattle.saved_files.specs.Putting.{attachment_of, with_file, at_unit, first_of, first_refused, claim_in, Says}
use Rattle.saved_files.specs.Putting.{IsUnitOf}
use Rattle.saved_files.specs.Putting.{IsOfThese, copy_of}
use Rattle.saved_files.specs.PuttingOne.{CanAttach, IsFree, AreOfTwo, AreApart, IsClean, IsAsRead, IsOf, failure_of, SaysOne}

-- ---- what is said

pub none-said : (fails : Option (UnitName × Failure)) (force : Bool) (all : List FilePart)
    (attached : List (Option Attachment)) (files : List NamedBytes) → all ≡ []
    → first_refused fails force all attached files ≡ None
unfolding first_refused
none-said fails force all attached files is = ap (λ
    (fs : List FilePart). first_refused fails force fs attached files) is

-- what is said where a file was refused that
module _ (force : Bool) (f : FilePart) (fs all : List FilePart) (attached : List (Option Attachment))
    (files : List NamedBytes) (is : all ≡ f ∷ fs) where
  stopped : (fails : Option (UnitName × Failure)) (one : Option Failure) (refusal : FileRefusal)
      → at_unit (unit_of f) fails ≡ one → refusal_of one force f attached files ≡ Some refusal
      → first_refused fails force all attached files ≡ Some (unit_of f, refusal)
  unfolding first_refused
  stopped fails one refusal mine said =
      ap (λ (l : List FilePart). first_refused fails force l attached files) is
      ∙ ap (λ (x : Option Failure). first_of (refusal_of x force f attached files) (unit_of f)
      (first_refused fails force fs (with_file attached f) files)) mine
      ∙ ap (λ (x : Option FileRefusal). first_of x (unit_of f) (first_refused fails force fs
      (with_file attached f) files))
      said

  pub first-said : (e : RestoreFault) → IsOf (unit_of f) e
      → SaysOne (Err e) (refusal_of (failure_of (Err e)) force f attached files)
      → Says (Err e) (first_refused (claim_in (Err e)) force all attached files)
  first-said (fault.NoFile u) mine said =
      stopped None None IsMissing refl said ∙ ap (λ (x : UnitName). Some (x, IsMissing)) (sym mine)
  first-said (fault.TooLong u) mine said =
      stopped None None IsTooLong refl said ∙ ap (λ (x : UnitName). Some (x, IsTooLong)) (sym mine)
  first-said (fault.Changed u) mine said =
      stopped None None HasChanged refl said ∙ ap (λ (x : UnitName). Some (x, HasChanged)) (sym mine)
  first-said (fault.Failed x) mine said =
      let same : same_unit (unit_of f) x.unit ≡ true =
      ap (λ (u : UnitName). same_unit (unit_of f) u) mine ∙ same-self (unit_of f) in
      stopped (Some (x.unit, failure_in x)) (Some (failure_in x)) (CallFails (failure_in x))
      (ap (λ (b : Bool). cond b (Some (failure_in x)) None) same) said
      ∙ ap (λ (u : UnitName). Some (u, CallFails (failure_in x))) (sym mine)
  first-said fault.MissingUnit mine said = absurd mine
  first-said fault.Port mine said = absurd mine
  first-said fault.OutOfMemory mine said = tt

  -- a file that was attached says nothing
  passed : (fails : Option (UnitName × Failure)) → at_unit (unit_of f) fails ≡ None
      → refusal_of None force f attached files ≡ None
      → first_refused fails force all attached files ≡ first_refused fails force fs (with_file attached f) files
  unfolding first_refused
  passed fails none said =
      ap (λ (l : List FilePart). first_refused fails force l attached files) is
      ∙ ap (λ (x : Option Failure). first_of (refusal_of x force f attached files) (unit_of f)
      (first_refused fails force fs (with_file attached f) files)) none
      ∙ ap (λ (x : Option FileRefusal). first_of x (unit_of f) (first_refused fails force fs
      (with_file attached f) files))
      said

  pub others-said : (result : Result (Unit {0}) RestoreFault) (mid : List (Option Attachment)) (now : List NamedBytes)
      → at_unit (unit_of f) (claim_in result) ≡ None → refusal_of None force f attached files ≡ None
      → mid ≡ with_file attached f → now ≡ files → Says result (first_refused (claim_in result) force fs mid now)
      → Says result (first_refused (claim_in result) force all attached files)
  others-said result mid now none said put same h =
      let e : first_refused (claim_in result) force all attached files
      ≡ first_refused (claim_in result) force fs mid now =
      passed (claim_in result) none said ∙ (λ i. first_refused (claim_in result) force fs (sym put i) (sym same i)) in
      subst (λ (x : Option (UnitName × FileRefusal)). Says result x) (sym e) h

-- ---- whose refusal it is

pub first-of-these : (f : FilePart) (fs all : List FilePart) (e : RestoreFault) → all ≡ f ∷ fs → IsOf (unit_of f) e
    → IsOfThese all e
first-of-these f fs all e is mine = subst (λ (l : List FilePart). IsOfThese l e) (sym is) (here e mine)
  where
    here : (e : RestoreFault) → IsOf (unit_of f) e → IsOfThese (f ∷ fs) e
    here (fault.NoFile u) mine = inl mine
    here (fault.TooLong u) mine = inl mine
    here (fault.Changed u) mine = inl mine
    here (fault.Failed x) mine = inl mine
    here fault.MissingUnit mine = mine
    here fault.Port mine = mine
    here fault.OutOfMemory mine = tt

pub others-of-these : (f : FilePart) (fs all : List FilePart) (e : RestoreFault) → all ≡ f ∷ fs → IsOfThese fs e
    → IsOfThese all e
others-of-these f fs all e is these = subst (λ (l : List FilePart). IsOfThese l e) (sym is) (there e these)
  where
    there : (e : RestoreFault) → IsOfThese fs e → IsOfThese (f ∷ fs) e
    there (fault.NoFile u) these = inr these
    there (fault.TooLong u) these = inr these
    there (fault.Changed u) these = inr these
    there (fault.Failed x) these = inr these
    there fault.MissingUnit these = these
    there fault.Port these = these
    there fault.OutOfMemory these = tt

same-name : (a b : UnitName) → same_unit a b ≡ true → a ≡ b
same-name a b is =
    let parts = and_parts (code_of a.kind == code_of b.kind) (a.unit == b.unit) is in
    let kind = same-code a.kind b.kind (eqb-true (code_of a.kind) (code_of b.kind) parts.0) in
    let unit = eqb-true a.unit b.unit parts.1 in
    λ i. record { kind = kind i; unit = unit i }

-- names of one unit have one place
same-place : (a b : UnitName) → same_unit a b ≡ true → file_place a ≡ file_place b
same-place a b is = ap file_place (same-name a b is)

-- a claim of a unit that is not that one
not-its : (f g : FilePart) (u : UnitName) (x : Failure) → AreOfTwo f g → u ≡ unit_of g
    → at_unit (unit_of f) (Some (u, x)) ≡ None
not-its f g u x two is = by-test (same_unit (unit_of f) u) refl
  where
    by-test : (b : Bool) → same_unit (unit_of f) u ≡ b → at_unit (unit_of f) (Some (u, x)) ≡ None
    by-test true e = absurd (two (same-place (unit_of f) u e ∙ ap file_place is))
    by-test false e = ap (λ (b : Bool). cond b (Some x) None) e

not-theirs : (f : FilePart) (fs : List FilePart) (u : UnitName) (x : Failure) → AllByRecursion (AreOfTwo f) fs
    → IsUnitOf fs u → at_unit (unit_of f) (Some (u, x)) ≡ None
not-theirs f [] u x apart these = absurd these
not-theirs f (g ∷ fs) u x apart (inl is) = not-its f g u x apart.0 is
not-theirs f (g ∷ fs) u x apart (inr these) = not-theirs f fs u x apart.1 these

-- a refusal of other files claims no call on this one
pub not-claimed : (f : FilePart) (fs : List FilePart) (e : RestoreFault) → AllByRecursion (AreOfTwo f) fs
    → IsOfThese fs e
    → at_unit (unit_of f) (claim_in (Err e)) ≡ None
not-claimed f fs (fault.NoFile u) apart these = refl
not-claimed f fs (fault.TooLong u) apart these = refl
not-claimed f fs (fault.Changed u) apart these = refl
not-claimed f fs (fault.Failed x) apart these = not-theirs f fs x.unit (failure_in x) apart these
not-claimed f fs fault.MissingUnit apart these = refl
not-claimed f fs fault.Port apart these = refl
not-claimed f fs fault.OutOfMemory apart these = refl

-- ---- the others

pub still-free : (f : FilePart) (fs : List FilePart) (attached mid : List (Option Attachment))
    → mid ≡ with_file attached f
    → AllByRecursion (AreOfTwo f) fs → AllByRecursion (IsFree attached) fs → AllByRecursion (IsFree mid) fs
still-free f [] attached mid put apart free = tt
still-free f (g ∷ fs) attached mid put apart free = (
  ap (λ (l : List (Option Attachment)). attachment_at l (unit_of g)) put
      ∙ get_or-set_other attached (file_place (unit_of f)) (file_place (unit_of g)) (Some (attachment_of f)) None
      (λ same. apart.0 (sym same)) ∙ free.0,
  still-free f fs attached mid put apart.1 free.1,
)

pub disk-place : (kind : Kind) (unit : ℕ) → is_disk kind ≡ true
    → IsTrue (takes_attachment (record { kind = kind; unit = unit }))
    → file_place (record { kind = kind; unit = unit }) ≡ 0
disk-place Dsk unit is takes = ap (λ (b : Bool). cond b 0 12) takes
disk-place Mta unit is takes = absurd cc
disk-place Lpt unit is takes = absurd cc
disk-place Ptr unit is takes = absurd cc
disk-place Ptp unit is takes = absurd cc
disk-place Clk unit is takes = absurd cc
disk-place Tti unit is takes = absurd cc
disk-place Tto unit is takes = absurd cc
disk-place Tti1 unit is takes = absurd cc
disk-place Tto1 unit is takes = absurd cc
disk-place Qty unit is takes = absurd cc

pub still-clean : (f : FilePart) (fs : List FilePart) (old mid : Buffer) → CanAttach f → AllByRecursion CanAttach fs
    → AllByRecursion (AreOfTwo f) fs → (is_disk (kind_at f.position) ≡ false → mid ≡ old)
    → AllByRecursion (IsClean old) fs → AllByRecursion (IsClean mid) fs
still-clean f [] old mid can cans apart other clean = tt
still-clean f (g ∷ fs) old mid can cans apart other clean = (
  λ disk. by-disk (is_disk
      (kind_at f.position)) refl disk,
  still-clean f fs old mid can cans.1 apart.1 other clean.1,
)
  where
    by-disk : (b : Bool) → is_disk (kind_at f.position) ≡ b → is_disk (kind_at g.position) ≡ true → mid ≡ no_buffer
    by-disk true is disk =
        absurd (apart.0 (disk-place (kind_at f.position) f.unit is can.unit
        ∙ sym (disk-place (kind_at g.position) g.unit disk cans.0.unit)))
    by-disk false is disk = other is ∙ clean.0 disk

-- ---- the disk's copy

pub set-in : (xs : List (Option Attachment)) (place : ℕ) (a : Attachment)
    → IsTrue (is_some (get_or (slice_set xs place (Some a)) place None))
    → get_or (slice_set xs place (Some a)) place None ≡ Some a
set-in [] place a there = absurd (cc)
set-in (y ∷ xs) zero a there = refl
set-in (y ∷ xs) (suc place) a there = set-in xs place a there

not-zero : (n : ℕ) (b : Bool) → b ≡ true → 0 < n → cond b n 12 ≡ 0 → ⊥
not-zero n true is some e = omega (arith, some, e)
not-zero n false is some e = omega (arith, e)

other-place : (kind : Kind) (unit : ℕ) → is_disk kind ≡ false
    → IsTrue (takes_attachment (record { kind = kind; unit = unit }))
    → file_place (record { kind = kind; unit = unit }) ≢ 0
other-place Dsk unit is takes = absurd cc
other-place Mta unit is takes = λ e. not-zero (1 + unit) (takes_attachment
    (record { kind = Mta; unit = unit })) takes (omega arith) e
other-place Lpt unit is takes = λ e. not-zero 9 (takes_attachment (record { kind = Lpt; unit = unit })) takes
    (omega arith) e
other-place Ptr unit is takes = λ e. not-zero 10 (takes_attachment (record { kind = Ptr; unit = unit })) takes
    (omega arith) e
other-place Ptp unit is takes = λ e. not-zero 11 (takes_attachment (record { kind = Ptp; unit = unit })) takes
    (omega arith) e
other-place Clk unit is takes = absurd cc
other-place Tti unit is takes = absurd cc
other-place Tto unit is takes = absurd cc
other-place Tti1 unit is takes = absurd cc
other-place Tto1 unit is takes = absurd cc
other-place Qty unit is takes = absurd cc

-- it stays the copy of the disk's file where one more file is attached
pub copy-stays : (f : FilePart) (attached mid : List (Option Attachment)) (old disk : Buffer) (files : List NamedBytes)
    → CanAttach f → mid ≡ with_file attached f → IsTrue (is_some (attachment_at mid (unit_of f)))
    → (is_disk (kind_at f.position) ≡ true → IsAsRead disk)
    → (is_disk (kind_at f.position) ≡ true → disk.bytes ≡ bytes_of files f.name)
    → (is_disk (kind_at f.position) ≡ false → disk ≡ old) → old ≡ copy_of (attachment_at attached disk_unit) files
    → disk ≡ copy_of (attachment_at mid disk_unit) files
copy-stays f attached mid old disk files can put there unwritten bytes other is = by-disk (is_disk
    (kind_at f.position)) refl
  where
    by-disk : (b : Bool) → is_disk (kind_at f.position) ≡ b → disk ≡ copy_of (attachment_at mid disk_unit) files
    by-disk true at =
        let place = disk-place (kind_at f.position) f.unit at can.unit in
        let some : attachment_at mid (unit_of f) ≡ Some (attachment_of f) =
        ap (λ (l : List (Option Attachment)). attachment_at l (unit_of f)) put
        ∙ set-in attached (file_place (unit_of f)) (attachment_of f)
        (subst (λ (l : List (Option Attachment)). IsTrue (is_some (attachment_at l (unit_of f)))) put there) in
        let here : attachment_at mid disk_unit ≡ Some (attachment_of f) =
        ap (λ (n : ℕ). get_or mid n None) (sym place) ∙ some in
        (λ i. record { bytes = bytes at i; written = unwritten at i })
        ∙ ap (λ (a : Option Attachment). copy_of a files) (sym here)
    by-disk false at =
        let apart = other-place (kind_at f.position) f.unit at can.unit in
        let same : attachment_at mid disk_unit ≡ attachment_at attached disk_unit =
        ap (λ (l : List (Option Attachment)). attachment_at l disk_unit) put
        ∙ get_or-set_other attached (file_place (unit_of f)) 0 (Some (attachment_of f)) None (λ e. apart (sym e)) in
        other at ∙ is ∙ ap (λ (a : Option Attachment). copy_of a files) (sym same)

-- ---- lists

pub all-of : (saved : List SavedFile) (first : SavedFile) (others : List SavedFile) → saved ≡ first ∷ others
    → files_in saved ≡ file_in first ∷ files_in others
all-of saved first others is = ap files_in is

pub head-of : (P : FilePart → Type 0) (f : FilePart) (fs all : List FilePart) → all ≡ f ∷ fs
    → AllByRecursion P all → P f
head-of P f fs all is h = (subst (λ (l : List FilePart). AllByRecursion P l) is h).0

pub tail-of : (P : FilePart → Type 0) (f : FilePart) (fs all : List FilePart) → all ≡ f ∷ fs → AllByRecursion P all
    → AllByRecursion P fs
tail-of P f fs all is h = (subst (λ (l : List FilePart). AllByRecursion P l) is h).1

pub apart-of : (f : FilePart) (fs all : List FilePart) → all ≡ f ∷ fs → AreApart all
    → AllByRecursion (AreOfTwo f) fs × AreApart fs
apart-of f fs all is h = subst (λ (l : List FilePart). AreApart l) is h

pub none-in : (saved : List SavedFile) → length saved ≡ 0 → saved ≡ []
none-in [] e = refl
none-in (f ∷ fs) e = absurd (omega (arith, e))

-- ---- where nothing is attached

pub none-at : (n place : ℕ) → get_or (attachments_of (replicate n None)) place None ≡ None
none-at zero place = refl
none-at (suc n) zero = refl
none-at (suc n) (suc place) = none-at n place

pub all-free : (slots : List (Option Held)) (fs : List FilePart) → slots ≡ no_files
    → AllByRecursion (IsFree (attachments_of slots)) fs
all-free slots [] is = tt
all-free slots (f ∷ fs) is = (
  ap (λ (l : List (Option Held)). attachment_at (attachments_of l) (unit_of f)) is
      ∙ none-at file_units (file_place (unit_of f)),
  all-free slots fs is,
)

pub all-clean : (disk : Buffer) (fs : List FilePart) → disk ≡ no_buffer → AllByRecursion (IsClean disk) fs
all-clean disk [] is = tt
all-clean disk (f ∷ fs) is = (λ its. is, all-clean disk fs is)

unheld : (n : ℕ) (slots : List (Option Held)) → attachments_of slots ≡ attachments_of (replicate n None)
    → slots ≡ replicate n None
unheld zero [] e = refl
unheld zero (x ∷ slots) e = absurd (cc)
unheld (suc n) [] e = absurd (cc)
unheld (suc n) (Some h ∷ slots) e = absurd (cc)
unheld (suc n) (None ∷ slots) e = ap (λ (l : List (Option Held)). None ∷ l) (unheld n slots (rest e))
  where
    rest : (None ∷ attachments_of slots) ≡ (None ∷ attachments_of (replicate n None))
        → attachments_of slots ≡ attachments_of (replicate n None)
    rest h = cc

pub nothing-held : (slots old : List (Option Held)) → old ≡ no_files → attachments_of slots ≡ attachments_of old
    → slots ≡ no_files
nothing-held slots old is same = unheld file_units slots (same ∙ ap attachments_of is)

without-none : (n : ℕ) (opened : List Opened) → without_held (replicate n None) opened ≡ opened
without-none zero opened = refl
without-none (suc n) opened = without-none n opened

pub only-base : (slots : List (Option Held)) (base opened : List Opened) → slots ≡ no_files → Around slots base opened
    → opened ≡ base
only-base slots base opened is around =
    sym (without-none file_units opened) ∙ ap (λ (l : List (Option Held)). without_held l opened) (sym is) ∙ around.rest

pub around-nothing : (slots : List (Option Held)) (opened : List Opened) → slots ≡ no_files → Around slots opened opened
around-nothing slots opened is =
    subst (λ (l : List (Option Held)). Around l opened opened) (sym is) (around-none file_units opened)
