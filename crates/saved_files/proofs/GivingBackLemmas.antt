-- Files that were attached are given back, and all is as it was.
use Rattle.std.proofs.Common.{◌≡◌, Bool, true, false, cond, IsTrue, is_some, List, [], ◌∷◌, Option, Some, None, refl, sym, ap, subst, ◌∙◌}
use Rattle.std.specs.List.{AllByRecursion}
use Rattle.std.proofs.lemmas.List.{get_or-set_other}
use Rattle.unit_files.specs.Attachments.{Attachment, attachments_of, attachment_at, is_disk, file_place, no_attachments, no_files}
use Rattle.unit_files.specs.Acts.{detached}
use Rattle.unit_files.specs.Aside.{nothing_aside}
use Rattle.unit_files.specs.Buffer.{AttachedFiles, Buffer, no_buffer, nothing_attached}
use Rattle.saved_files.specs.GivingBack.{IsHeldIn, IsNoDisk, without_all, copy_behind}
use Rattle.saved_session.specs.Parts.{FilePart}
use Rattle.saved_session.specs.Ranges.{kind_at}
use Rattle.saved_files.specs.Putting.{unit_of, attachment_of, with_file, with_all}
use Rattle.saved_files.specs.PuttingOne.{AreOfTwo, AreApart, IsAsRead, IsFree}
use Rattle.saved_files.proofs.Attaching.{set-back}
use Rattle.saved_files.proofs.Together.{still-free, all-free, nothing-held}

-- the disk's copy is not to be written back, where one more file was attached
pub one-unwritten : (disk : Bool) (old mid : Buffer) → (disk ≡ true → IsAsRead mid) → (disk ≡ false → mid ≡ old)
    → old.written ≡ false → mid.written ≡ false
one-unwritten true old mid here other is = here refl
one-unwritten false old mid here other is = ap (λ (b : Buffer). b.written) (other refl) ∙ is

-- a unit keeps its file where those of others are given back
pub others-held : (f : FilePart) (fs : List FilePart) (attached : List (Option Attachment)) → AllByRecursion (AreOfTwo f) fs
    → attachment_at (without_all attached fs) (unit_of f) ≡ attachment_at attached (unit_of f)
others-held f [] attached apart = refl
others-held f (g ∷ fs) attached apart =
    get_or-set_other (without_all attached fs) (file_place (unit_of g)) (file_place (unit_of f)) None None apart.0
    ∙ others-held f fs attached apart.1

pub still-held : (f : FilePart) (fs : List FilePart) (attached mid : List (Option Attachment))
    → mid ≡ without_all attached fs → AllByRecursion (AreOfTwo f) fs → IsHeldIn attached f → IsHeldIn mid f
still-held f fs attached mid is apart held =
    subst (λ (a : Option Attachment). IsTrue (is_some a))
    (sym (ap (λ (l : List (Option Attachment)). attachment_at l (unit_of f)) is ∙ others-held f fs attached apart)) held

by-kind : (b : Bool) (x : Buffer) → x.written ≡ false → (cond b no_buffer x).written ≡ false
by-kind true x is = refl
by-kind false x is = is

pub copy-clean : (disk : Buffer) (fs : List FilePart) → disk.written ≡ false → (copy_behind disk fs).written ≡ false
copy-clean disk [] is = is
copy-clean disk (f ∷ fs) is = by-kind (is_disk (kind_at f.position)) (copy_behind disk fs) (copy-clean disk fs is)

-- what was attached is given back
pub all-given-back : (fs : List FilePart) (base : List (Option Attachment)) → AreApart fs → AllByRecursion (IsFree base) fs
    → without_all (with_all base fs) fs ≡ base
all-given-back [] base apart free = refl
all-given-back (f ∷ fs) base apart free =
    ap (detached (unit_of f)) (all-given-back fs (with_file base f) apart.1
    (still-free f fs base (with_file base f) refl apart.0 free.1))
    ∙ set-back base (file_place (unit_of f)) (Some (attachment_of f)) free.0

-- and the disk has no copy then
pub no-copy : (disk : Buffer) (fs : List FilePart) → (AllByRecursion IsNoDisk fs → disk ≡ no_buffer)
    → copy_behind disk fs ≡ no_buffer
no-copy disk [] is = is tt
no-copy disk (f ∷ fs) is =
    by-test (is_disk (kind_at f.position)) refl (λ (e : is_disk (kind_at f.position) ≡ false). no-copy disk fs (λ all. is (e, all)))
  where
    by-test : (b : Bool) → is_disk (kind_at f.position) ≡ b
        → (is_disk (kind_at f.position) ≡ false → copy_behind disk fs ≡ no_buffer)
        → cond b no_buffer (copy_behind disk fs) ≡ no_buffer
    by-test true e rest = refl
    by-test false e rest = rest e

-- a unit keeps its file where others are given theirs
others-put : (f : FilePart) (fs : List FilePart) (attached : List (Option Attachment)) → AllByRecursion (AreOfTwo f) fs
    → attachment_at (with_all attached fs) (unit_of f) ≡ attachment_at attached (unit_of f)
others-put f [] attached apart = refl
others-put f (g ∷ fs) attached apart =
    others-put f fs (with_file attached g) apart.1
    ∙ get_or-set_other attached (file_place (unit_of g)) (file_place (unit_of f)) (Some (attachment_of g)) None
    apart.0

pub all-held : (f : FilePart) (fs all : List FilePart) (mid new : List (Option Attachment)) → all ≡ f ∷ fs
    → AllByRecursion (AreOfTwo f) fs → new ≡ with_all mid fs → IsHeldIn mid f → AllByRecursion (IsHeldIn new) fs
    → AllByRecursion (IsHeldIn new) all
all-held f fs all mid new is apart put held others =
    let here : IsHeldIn new f =
    subst (λ (a : Option Attachment). IsTrue (is_some a))
    (sym (ap (λ (l : List (Option Attachment)). attachment_at l (unit_of f)) put ∙ others-put f fs mid apart)) held in
    subst (λ (l : List FilePart). AllByRecursion (IsHeldIn new) l) (sym is) (here, others)

-- nothing is attached once all files were given back, which alone were attached
pub given-back : (lent given back : AttachedFiles) (fs : List FilePart) → given ≡ lent → AreApart fs
    → attachments_of lent.slots ≡ with_all no_attachments fs → (AllByRecursion IsNoDisk fs → lent.disk ≡ no_buffer)
    → attachments_of back.slots ≡ without_all (attachments_of given.slots) fs → back.disk ≡ copy_behind given.disk fs
    → back.aside ≡ nothing_aside → back ≡ nothing_attached
given-back lent given back fs same apart attached other slots disk aside =
    let none : attachments_of back.slots ≡ no_attachments =
    slots ∙ ap (λ (a : AttachedFiles). without_all (attachments_of a.slots) fs) same
    ∙ ap (λ (l : List (Option Attachment)). without_all l fs) attached
    ∙ all-given-back fs no_attachments apart (all-free no_files fs refl) in
    let held : back.slots ≡ no_files = nothing-held back.slots no_files refl none in
    let copy : back.disk ≡ no_buffer =
    disk ∙ ap (λ (a : AttachedFiles). copy_behind a.disk fs) same ∙ no-copy lent.disk fs other in
    λ i. record { slots = held i; disk = copy i; aside = aside i }
