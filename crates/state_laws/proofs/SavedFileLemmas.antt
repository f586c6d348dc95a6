-- The attached files are valid as they are saved.
use Rattle.std.proofs.Common.{◌≡◌, ℕ, zero, suc, ◌+◌, ◌<◌, ◌≤◌, ◌^◌, ◌&&◌, Bool, true, false, List, [], ◌∷◌, ◌++◌, length, Option, Some, None, refl, sym, subst, ap, ◌∙◌, arith}
use Rattle.std.specs.Prelude.{not, nat_lt, slice_index, IfSome}
use Rattle.std.specs.Int.{w32, to_be_bytes}
use Rattle.std.proofs.lemmas.Bool.{and_from, and_parts, le-leb, ltb-true}
use Rattle.std.proofs.lemmas.List.Concat.{flat_map-cons}
use Rattle.sha2.specs.Sha256.{digest_bytes, sha256}
use Rattle.sha2.proofs.Facts256.{length-sha256}
use Rattle.file_traits.specs.Lists.{NamedBytes, bytes_of}
use Rattle.unit_trait.specs.declared.kind.Kind.{Kind}
use Rattle.unit_trait.proofs.EveryKind.{every-kind}
use Rattle.unit_files.specs.Attachments.{Attachment, attachment_at, longest_file}
use Rattle.unit_files.specs.Attachments as unit_files
use Rattle.saved_session.specs.Parts.{FilePart}
use Rattle.saved_session.specs.Ranges.{kind_at, FilePlace, takes_file_at, is_next_unit, only_writes, is_read_only_of, is_name_length, longest_file_of}
use Rattle.state_text.proofs.LooseLaws.{FileHasWidths}
use Rattle.saved_session.specs.Valid.{AreBytes, Follow, IsFile, AreFiles}
use Rattle.saved_session.specs.Order.{place_of as file_place, behind_file}
use Rattle.saved_files.specs.declared.taking.UnitPlace.{UnitPlace}
use Rattle.saved_files.specs.Taking.{unit_at, file_places, flag_of, saved_file, saved_at, saved_files}
use Rattle.state_transfer.specs.SavedValid.{IsTaken, AreTaken}

-- ---- digests

pub bytes-both : (xs ys : List ℕ) → AreBytes xs → AreBytes ys → AreBytes (xs ++ ys)
bytes-both [] ys first second = second
bytes-both (x ∷ xs) ys first second = (first.0, bytes-both xs ys first.1 second)

word-bytes : (n : ℕ) → AreBytes (to_be_bytes w32 n)
word-bytes n = (omega arith, (omega arith, (omega arith, (omega arith, tt))))

digest-bytes : (h : List ℕ) (n : ℕ) → AreBytes (digest_bytes h n)
unfolding digest_bytes
digest-bytes h zero = tt
digest-bytes h (suc n) = bytes-both (digest_bytes h n) (to_be_bytes w32 (slice_index h n)) (digest-bytes h n)
    (word-bytes (slice_index h n))

pub sha256-bytes : (m : List ℕ) → AreBytes (sha256 m)
unfolding sha256
sha256-bytes m = digest-bytes _ 8

-- ---- a file

same-writes : (k : Kind) → only_writes k ≡ unit_files.only_writes k
same-writes k =
    every-kind (λ (x : Kind). only_writes x ≡ unit_files.only_writes x)
    (refl, refl, refl, refl, refl, refl, refl, refl, refl, refl, refl) k

same-longest : (k : Kind) → longest_file_of k ≡ longest_file k
unfolding longest_file_of longest_file
same-longest k =
    every-kind (λ (x : Kind). longest_file_of x ≡ longest_file x)
    (refl, refl, refl, refl, refl, refl, refl, refl, refl, refl, refl) k

-- a unit can have the next file, from a place on
is_next : FilePlace → UnitPlace → Bool
is_next least p =
    nat_lt p.position (2 ^ 8) && (takes_file_at least p.position && is_next_unit least p.position p.unit)

not-writes : (b : Bool) → (b ≡ true → true ≡ false) → not b ≡ true
not-writes false writes = refl
not-writes true writes = sym (writes refl)

mode-is : (k : Kind) (only : Bool) → (unit_files.only_writes k ≡ true → only ≡ false)
    → is_read_only_of k (flag_of only) ≡ true
mode-is k false writes = refl
mode-is k true writes = not-writes (only_writes k) (λ is. writes (sym (same-writes k) ∙ is))

name-length-is : (n : ℕ) → 1 ≤ n → n ≤ 255 → is_name_length n ≡ true
name-length-is n some few = and_from _ _ (le-leb 1 n some) (le-leb n 255 few)

file-is : (files : List NamedBytes) (least : FilePlace) (p : UnitPlace) (a : Attachment) → is_next least p ≡ true
    → IsTaken files (unit_at p) a → IsFile least (saved_file p a (bytes_of files a.name))
unfolding is_next
file-is files least p a next taken =
    let low = and_parts (nat_lt p.position (2 ^ 8))
    (takes_file_at least p.position && is_next_unit least p.position p.unit) next in
    let parts = and_parts (takes_file_at least p.position) (is_next_unit least p.position p.unit) low.1 in
    record {
      byte = ltb-true p.position (2 ^ 8) low.0;
      position = parts.0;
      unit = parts.1;
      read_only = mode-is (kind_at p.position) a.read_only taken.writes;
      long = name-length-is (length a.name) taken.long.0 taken.long.1;
      name = taken.bytes;
      utf8 = taken.utf8;
      size = le-leb (length (bytes_of files a.name)) (longest_file_of (kind_at p.position))
          (subst (λ (n : ℕ). length (bytes_of files a.name) ≤ n) (sym (same-longest (kind_at p.position))) taken.size);
      digest = length-sha256 (bytes_of files a.name);
      bytes = sha256-bytes (bytes_of files a.name);
    }

small-flag : (b : Bool) → flag_of b < 2 ^ 8
small-flag true = omega arith
small-flag false = omega arith

-- each field takes what is saved of a file whose name is of bytes, and short, and whose length can be told
pub file-widths : (p : UnitPlace) (a : Attachment) (bytes : List ℕ) → p.position < 2 ^ 8 → p.unit < 2 ^ 8
    → length a.name < 2 ^ 16 → AreBytes a.name → length bytes < 2 ^ 64 → FileHasWidths (saved_file p a bytes)
file-widths p a bytes position unit short name size = (
  (position, refl),
  (
    (unit, refl),
    (
      (small-flag a.read_only, refl),
      (((short, refl), (name, refl)), ((size, refl), ((length-sha256 bytes, sha256-bytes bytes), refl))),
    ),
  ),
)

-- ---- all of them

-- each of these units can have the next file
all_next : FilePlace → List UnitPlace → Bool
all_next least [] = true
all_next least (p ∷ places) = is_next least p && all_next least places

place-behind : UnitPlace → FilePlace
place-behind p = file_place p.position (p.unit + 1)

-- each of these units can have the next file behind each that stands before it
in_order : List UnitPlace → Bool
in_order [] = true
in_order (p ∷ places) = all_next (place-behind p) places && in_order places

slot-follows : (files : List NamedBytes) (least : FilePlace) (p : UnitPlace) (a : Option Attachment)
    (rest : List FilePart) → is_next least p ≡ true → IfSome a (IsTaken files (unit_at p))
    → Follow IsFile behind_file least rest → Follow IsFile behind_file (place-behind p) rest
    → Follow IsFile behind_file least (saved_at files p a ++ rest)
unfolding place-behind
slot-follows files least p None rest next taken without with = without
slot-follows files least p (Some a) rest next taken without with = (file-is files least p a next taken, with)

-- the files behind the first place, and of that
one-more : (files : List NamedBytes) (attached : List (Option Attachment)) (p : UnitPlace) (places : List UnitPlace)
    → saved_files files attached (p ∷ places)
    ≡ saved_at files p (attachment_at attached (unit_at p)) ++ saved_files files attached places
one-more files attached p places =
    flat_map-cons (λ (q : UnitPlace). saved_at files q (attachment_at attached (unit_at q))) p places

files-follow : (files : List NamedBytes) (attached : List (Option Attachment)) (least : FilePlace)
    (places : List UnitPlace) → all_next least places ≡ true → in_order places ≡ true → AreTaken files attached places
    → Follow IsFile behind_file least (saved_files files attached places)
unfolding all_next in_order
files-follow files attached least [] next order taken = tt
files-follow files attached least (p ∷ places) next order taken =
    let here = and_parts (is_next least p) (all_next least places) next in
    let behind = and_parts (all_next (place-behind p) places) (in_order places) order in
    subst (λ (l : List FilePart). Follow IsFile behind_file least l) (sym (one-more files attached p places))
    (slot-follows files least p (attachment_at attached (unit_at p)) (saved_files files attached places) here.0 taken.0
    (files-follow files attached least places here.1 behind.1 taken.1)
    (files-follow files attached (place-behind p) places behind.0 behind.1 taken.1))

slot-adds : (files : List NamedBytes) (p : UnitPlace) (a : Option Attachment) (rest : List FilePart)
    → length (saved_at files p a ++ rest) ≤ length rest + 1
slot-adds files p None rest = omega arith
slot-adds files p (Some a) rest = omega arith

as-most : (files : List NamedBytes) (attached : List (Option Attachment)) (places : List UnitPlace)
    → length (saved_files files attached places) ≤ length places
as-most files attached [] = omega arith
as-most files attached (p ∷ places) =
    let more = as-most files attached places in
    let here = slot-adds files p (attachment_at attached (unit_at p)) (saved_files files attached places) in
    let one = ap (λ (l : List FilePart). length l) (one-more files attached p places) in
    omega (arith, more, here, one)

-- twelve units, one behind another
twelve : length file_places ≡ 12
unfolding file_places
twelve = refl

ordered : (all_next (file_place 0 0) file_places && in_order file_places) ≡ true
unfolding file_places kind_at is_next all_next in_order place-behind
ordered = refl

pub few-saved : (files : List NamedBytes) (attached : List (Option Attachment))
    → length (saved_files files attached file_places) < 2 ^ 8
few-saved files attached =
    let most = as-most files attached file_places in
    let all = twelve in
    omega (arith, most, all)

pub files-valid : (files : List NamedBytes) (attached : List (Option Attachment))
    → AreTaken files attached file_places → AreFiles (saved_files files attached file_places)
files-valid files attached taken =
    let order = and_parts (all_next (file_place 0 0) file_places) (in_order file_places) ordered in
    record {
      few = few-saved files attached;
      each = files-follow files attached (file_place 0 0) file_places order.0 order.1 taken;
    }
