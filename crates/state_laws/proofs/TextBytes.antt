-- The text of a session in range is of bytes.
use Rattle.std.proofs.Common.{ℕ, zero, suc, List, [], ◌∷◌, ◌++◌, map, Option, Some, None, IfSome, get_or, sym, subst}
use Rattle.std.specs.List.{AllByRecursion}
use Rattle.std.proofs.lemmas.List.Concat.{flat_map-cons}
use Rattle.file_traits.specs.Lists.{NamedBytes, bytes_of}
use Rattle.unit_files.specs.Attachments.{Attachment, Held, attachments_of, attachment_at, file_place}
use Rattle.expect_actions.specs.declared.breaks.Break.{Break}
use Rattle.expect_actions.specs.declared.expects.Expect.{Expect}
use Rattle.nova_machine.specs.Seen.{Seen}
use Rattle.nova_machine.specs.Valid.{HasByteName, ValidBreak, ValidExpect, Valid as ValidSeen}
use Rattle.saved_session.specs.Parts.{BreakPart}
use Rattle.saved_files.specs.declared.taking.UnitPlace.{UnitPlace}
use Rattle.saved_files.specs.Taking.{unit_at, file_places, saved_at, saved_files}
use Rattle.state_transfer.specs.Session.{saved}
use Rattle.saved_session.specs.SavedWatch.{saved_break, saved_expect, saved_watch}
use Rattle.state_text.specs.Rows.{this_version}
use Rattle.state_text.specs.Text.{text}
use Rattle.state_text.proofs.ByteLaws.{FileIsOfBytes, ExpectIsOfBytes, StateIsOfBytes, text_bytes}
use Rattle.saved_session.specs.Valid.{AreBytes}
use Rattle.state_laws.proofs.SavedFileLemmas.{sha256-bytes}

-- ---- the attached files

all-both : {A : Type 0} (P : A → Type 0) (xs ys : List A) → AllByRecursion P xs → AllByRecursion P ys → AllByRecursion P (xs ++ ys)
all-both P [] ys first second = second
all-both P (x ∷ xs) ys first second = (first.0, all-both P xs ys first.1 second)

name-at : (slots : List (Option Held)) (place : ℕ) → AllByRecursion HasByteName slots
    → IfSome (get_or (attachments_of slots) place None) (λ (a : Attachment). AreBytes a.name)
name-at [] place all = tt
name-at (None ∷ slots) zero all = tt
name-at (Some h ∷ slots) zero all = all.0.bytes
name-at (slot ∷ slots) (suc place) all = name-at slots place all.1

saved-files : (slots : List (Option Held)) (files : List NamedBytes) (ps : List UnitPlace) → AllByRecursion HasByteName slots
    → AllByRecursion FileIsOfBytes (saved_files files (attachments_of slots) ps)
saved-files slots files [] all = tt
saved-files slots files (p ∷ ps) all =
    subst (AllByRecursion FileIsOfBytes) (sym (flat_map-cons (λ (q : UnitPlace). saved_at files q (attachment_at (attachments_of slots) (unit_at q))) p ps))
    (all-both FileIsOfBytes (saved_at files p (attachment_at (attachments_of slots) (unit_at p))) (saved_files files (attachments_of slots) ps)
    (one (attachment_at (attachments_of slots) (unit_at p)) (name-at slots (file_place (unit_at p)) all)) (saved-files slots files ps all))
  where
    one : (a : Option Attachment) → IfSome a (λ (b : Attachment). AreBytes b.name) → AllByRecursion FileIsOfBytes (saved_at files p a)
    one None named = tt
    one (Some a) named = (record { name = named; digest = sha256-bytes (bytes_of files a.name) }, tt)

-- ---- what a run watches

breaks-have : (bs : List Break) → AllByRecursion ValidBreak bs → AllByRecursion (λ (b : BreakPart). AreBytes b.actions) (map saved_break bs)
breaks-have [] all = tt
breaks-have (b ∷ bs) all = (all.0.actions.bytes, breaks-have bs all.1)

expects-have : (es : List Expect) → AllByRecursion ValidExpect es → AllByRecursion ExpectIsOfBytes (map saved_expect es)
expects-have [] all = tt
expects-have (e ∷ es) all = (record { text = all.0.text; actions = all.0.actions.bytes }, expects-have es all.1)

-- ---- all of it

of-bytes : (s : Seen) → ValidSeen s → StateIsOfBytes (saved s)
unfolding saved_watch
of-bytes s is = record {
  files = saved-files s.machine.slots s.files file_places is.machine.names;
  breaks = breaks-have s.watch.breaks.list is.watch.each;
  expects = expects-have s.watch.expects.list is.watch.texts;
  tail = is.watch.printed;
}

pub text-bytes : (s : Seen) → ValidSeen s → AreBytes (text (saved s))
text-bytes s is = text_bytes this_version (saved s) (of-bytes s is)
