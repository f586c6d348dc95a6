-- The files that kept notes name: of calls one behind another, and of one call.
use Rattle.std.proofs.Common.{◌≡◌, ◌⊎◌, inl, inr, ℕ, ◌≤◌, List, [], ◌∷◌, ◌++◌, Option, Some, None, Result, Ok, Err, ap, sym, ◌∙◌, subst, arith, append-nil, append_assoc}
use Rattle.std.specs.List.{AllByRecursion}
use Rattle.file_traits.specs.declared.files.FileCall.{FileCall}
use Rattle.file_traits.specs.declared.files.FileCall.TheVariants as call
use Rattle.file_traits.specs.declared.files.FileId.{FileId}
use Rattle.file_traits.specs.State.{FileState}
use Rattle.unit_trait.specs.declared.kind.UnitName.{UnitName}
use Rattle.unit_files.specs.declared.faults.UnitFault.{UnitFault}
use Rattle.unit_files.specs.declared.faults.DetachFault.{DetachFault}
use Rattle.unit_files.specs.declared.faults.DetachFault.TheVariants as detach
use Rattle.unit_files.specs.Attachments.{Held, held_at}
use Rattle.unit_files.specs.Causes.{IsNewId, OnlyKept, AreFrom, IsFaultOf, DetachCause}
use Rattle.file_commands.specs.declared.note.Subject.{Subject}
use Rattle.file_commands.specs.declared.note.Subject.TheVariants as subject
use Rattle.file_commands.specs.declared.note.FaultNote.{FaultNote}
use Rattle.file_commands.specs.declared.stamp.Stamp.{Stamp}
use Rattle.file_commands.specs.Kept.{fault_note}
use Rattle.file_commands.specs.OwnFiles.{IsHeldBy, OwnFile, IsOwnNote, AreOwn}

-- nothing was called
pub unused : (slots slots' : List (Option Held)) (notes notes' : List FaultNote) (state : FileState) → slots' ≡ slots → notes' ≡ notes
    → AreOwn slots slots' notes notes' state state
unused slots slots' notes notes' state held same = record {
  kept = [];
  added = same ∙ sym (append-nil notes);
  own = tt;
  from = λ unit h is. inl (ap (λ (l : List (Option Held)). held_at l unit) (sym held) ∙ is);
  ids = omega arith;
}

-- none was noted
pub unnoted : (slots slots' : List (Option Held)) (notes : List FaultNote) (old new : FileState) → AreFrom slots slots' old new → old.given ≤ new.given
    → AreOwn slots slots' notes notes old new
unnoted slots slots' notes old new from ids = record { kept = []; added = sym (append-nil notes); own = tt; from = from; ids = ids }

-- ---- over two spans

newer : (old old' new new' : FileState) (file : ℕ) → old.given ≤ old'.given → new'.given ≤ new.given → IsNewId old' new' file → IsNewId old new file
newer old old' new new' file first last is = let low = is.0 in let high = is.1 in (omega (arith, first, low), omega (arith, last, high))

still-held : (a b : List (Option Held)) (who : Subject) (file : ℕ) (old mid new : FileState) → mid.given ≤ new.given → AreFrom a b old mid → IsHeldBy b who file
    → IsHeldBy a who file ⊎ IsNewId old new file
still-held a b (subject.Unit unit) file old mid new later from (h, there, is) = elim (from unit h there) [
  | inl before ↦ inl (h, before, is)
  | inr fresh ↦ inr (newer old old new mid file (omega arith) later (subst (λ (n : ℕ). IsNewId old mid n) is fresh))
]
still-held a b subject.Script file old mid new later from held = absurd held
still-held a b subject.Keys file old mid new later from held = absurd held
still-held a b subject.State file old mid new later from held = absurd held
still-held a b subject.Load file old mid new later from held = absurd held
still-held a b subject.Dump file old mid new later from held = absurd held

-- a note of the first span, and one of the second
note-first : (a : List (Option Held)) (old mid new : FileState) (file : Option FileId) (c : FileCall) (who : Subject) → mid.given ≤ new.given
    → OwnFile file c who a old mid → OwnFile file c who a old new
note-first a old mid new None c who later own = own
note-first a old mid new (Some id) c who later own = (
  own.0,
  elim own.1 [
    | inl held ↦ inl held
    | inr fresh ↦ inr (newer old old new mid id.0 (omega arith) later fresh)
  ],
)

note-second : (a b : List (Option Held)) (old mid new : FileState) (file : Option FileId) (c : FileCall) (who : Subject) → old.given ≤ mid.given → mid.given ≤ new.given
    → AreFrom a b old mid → OwnFile file c who b mid new → OwnFile file c who a old new
note-second a b old mid new None c who first later from own = own
note-second a b old mid new (Some id) c who first later from own = (
  own.0,
  elim own.1 [
    | inl held ↦ still-held a b who id.0 old mid new later from held
    | inr fresh ↦ inr (newer old mid new new id.0 first (omega arith) fresh)
  ],
)

all-first : (a : List (Option Held)) (old mid new : FileState) (kept : List FaultNote) → mid.given ≤ new.given → AllByRecursion (IsOwnNote a old mid) kept
    → AllByRecursion (IsOwnNote a old new) kept
all-first a old mid new [] later all = tt
all-first a old mid new (n ∷ kept) later all = (note-first a old mid new n.file n.call n.subject later all.0, all-first a old mid new kept later all.1)

all-second : (a b : List (Option Held)) (old mid new : FileState) (kept : List FaultNote) → old.given ≤ mid.given → mid.given ≤ new.given → AreFrom a b old mid
    → AllByRecursion (IsOwnNote b mid new) kept → AllByRecursion (IsOwnNote a old new) kept
all-second a b old mid new [] first later from all = tt
all-second a b old mid new (n ∷ kept) first later from all =
    (note-second a b old mid new n.file n.call n.subject first later from all.0, all-second a b old mid new kept first later from all.1)

all-both : (P : FaultNote → Type 0) (one two : List FaultNote) → AllByRecursion P one → AllByRecursion P two → AllByRecursion P (one ++ two)
all-both P [] two all more = more
all-both P (n ∷ one) two all more = (all.0, all-both P one two all.1 more)

from-both : (a b d : List (Option Held)) (old mid new : FileState) → old.given ≤ mid.given → mid.given ≤ new.given → AreFrom a b old mid → AreFrom b d mid new
    → AreFrom a d old new
from-both a b d old mid new first later one two = λ unit h is. elim (two unit h is) [
  | inl held ↦ elim (one unit h held) [ inl before ↦ inl before | inr fresh ↦ inr (newer old old new mid h.file (omega arith) later fresh) ]
  | inr fresh ↦ inr (newer old mid new new h.file first (omega arith) fresh)
]

pub own-both : (a b d : List (Option Held)) (notes notes' notes'' : List FaultNote) (old mid new : FileState) → AreOwn a b notes notes' old mid
    → AreOwn b d notes' notes'' mid new → AreOwn a d notes notes'' old new
own-both a b d notes notes' notes'' old mid new one two =
    let first = one.ids in
    let later = two.ids in
    record {
      kept = one.kept ++ two.kept;
      added = two.added ∙ ap (λ (l : List FaultNote). l ++ two.kept) one.added ∙ append_assoc notes one.kept two.kept;
      own = all-both (IsOwnNote a old new) one.kept two.kept (all-first a old mid new one.kept later one.own) (all-second a b old mid new two.kept first later one.from two.own);
      from = from-both a b d old mid new first later one.from two.from;
      ids = omega (arith, first, later);
    }

-- all notes, where there were none before
pub all-own : (slots slots' : List (Option Held)) (notes : List FaultNote) (old new : FileState) → AreOwn slots slots' [] notes old new
    → AllByRecursion (IsOwnNote slots old new) notes
all-own slots slots' notes old new a = subst (λ (l : List FaultNote). AllByRecursion (IsOwnNote slots old new) l) (sym a.added) a.own

-- ---- of one call

-- a note of a call on an attached file
pub fault-own : (stamp : Stamp) (f : UnitFault) (unit : UnitName) (slots : List (Option Held)) (old new : FileState) → IsFaultOf f unit slots old new → (f.call ≡ call.Opening → ⊥)
    → IsOwnNote slots old new (fault_note stamp f)
fault-own stamp f unit slots old new is other =
    subst (λ (file : Option FileId). OwnFile file f.call (subject.Unit f.unit) slots old new) (sym is.file_is)
    (other, inl (is.held, ap (λ (u : UnitName). held_at slots u) is.unit_is ∙ is.there, sym is.id_is))

pub kept-from : (slots slots' : List (Option Held)) (old new : FileState) → OnlyKept slots slots' → AreFrom slots slots' old new
kept-from slots slots' old new kept = λ unit h is. inl (kept unit h is)

-- a detaching opens nothing
pub detach-ids : (r : Result (Option UnitFault) DetachFault) (unit : UnitName) (slots : List (Option Held)) (old new : FileState) → DetachCause r unit slots old new
    → old.given ≤ new.given
detach-ids (Ok None) unit slots old new cause = let same = cause.ids in omega (arith, same)
detach-ids (Ok (Some f)) unit slots old new cause = let same = cause.2.ids in omega (arith, same)
detach-ids (Err detach.NotAttached) unit slots old new cause = let same = cause.ids in omega (arith, same)
detach-ids (Err (detach.Failed f)) unit slots old new cause = let same = cause.fault.ids in omega (arith, same)
