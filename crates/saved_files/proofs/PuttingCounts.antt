-- The counts of failing calls where files are attached one behind another, and given back.
use Rattle.std.proofs.Common.{◌≡◌, ◌⊎◌, inl, inr, ⊎_elim, ℕ, ◌<◌, ◌≤◌, zero, suc, Bool, false, get_or, List, [], ◌∷◌}
use Rattle.std.proofs.Common.{Option, Some, None, is_some, IsTrue, Ok, Err}
use Rattle.std.proofs.Common.{refl, sym, ap, subst, ◌∙◌, arith}
use Rattle.std.specs.List.{AllByRecursion}
use Rattle.std.specs.Prelude.{option_map}
use Rattle.fault_counts.specs.Faults.{raised, Rose}
use Rattle.file_traits.specs.declared.files.FileId.{FileId}
use Rattle.file_traits.specs.declared.files.FileCall.{FileCall}
use Rattle.file_traits.specs.declared.files.FileCall.TheVariants.{Opening, Length, Read}
use Rattle.file_traits.specs.State.{FileState}
use Rattle.unit_trait.specs.declared.kind.UnitName.{UnitName}
use Rattle.unit_files.specs.declared.faults.UnitFault.{UnitFault}
use Rattle.unit_files.specs.Attachments.{Attachment, Held, held_at, attachments_of, attachment_at, file_place}
use Rattle.unit_files.specs.Causes.{OnlyNewCounts, AreFrom, OnlyKept, IsNewId, IsRefusedFile}
use Rattle.saved_files.specs.declared.file_faults.RestoreFault.{RestoreFault}
use Rattle.saved_files.specs.declared.file_faults.RestoreFault.TheVariants as fault
use Rattle.saved_files.specs.GivingBack.{IsNotItsFile, OnlyTheirCounts}
use Rattle.saved_session.specs.Parts.{FilePart}
use Rattle.saved_files.specs.Putting.{unit_of}
use Rattle.saved_files.specs.PuttingOne.{IsFree, OnlyItsCount, CompareCalls, CompareCause, IsReadingFault}
use Rattle.saved_files.specs.PuttingCauses.{RestoreCause, SessionCause, IsRestoreFault, IsNewFileFault, OpeningsStand}
use Rattle.saved_files.specs.PuttingCauses.{IsCompared, WasOpened}

-- ---- whose files are attached

get-attached : (slots : List (Option Held)) (place : ℕ)
    → get_or (attachments_of slots) place None ≡ option_map (λ (h : Held). h.attachment) (get_or slots place None)
get-attached [] place = refl
get-attached (slot ∷ slots) zero = refl
get-attached (slot ∷ slots) (suc place) = get-attached slots place

-- what is attached to a unit
held-there : (slots : List (Option Held)) (unit : UnitName) → IsTrue (is_some (attachment_at (attachments_of slots) unit))
    → (h : Held) × (held_at slots unit ≡ Some h)
held-there slots unit there = by (held_at slots unit) refl
  where
    by : (o : Option Held) → held_at slots unit ≡ o → (h : Held) × (held_at slots unit ≡ Some h)
    by None is =
        let none : attachment_at (attachments_of slots) unit ≡ None =
        get-attached slots (file_place unit) ∙ ap (λ (o : Option Held). option_map (λ (x : Held). x.attachment) o) is in
        let e = subst (λ (a : Option Attachment). IsTrue (is_some a)) none there in absurd cc
    by (Some h) is = (h, is)

pub none-held : (slots : List (Option Held)) (unit : UnitName) (h : Held) → attachment_at (attachments_of slots) unit ≡ None
    → held_at slots unit ≡ Some h → ⊥
none-held slots unit h none there =
    let some : attachment_at (attachments_of slots) unit ≡ Some h.attachment =
    get-attached slots (file_place unit) ∙ ap (λ (o : Option Held). option_map (λ (x : Held). x.attachment) o) there in
    let e : None ≡ Some h.attachment = sym none ∙ some in
    absurd cc

-- what is attached to a unit that had nothing was opened in between
pub opened-since : (slots slots' : List (Option Held)) (unit : UnitName) (h : Held) (old new : FileState)
    → attachment_at (attachments_of slots) unit ≡ None → AreFrom slots slots' old new → held_at slots' unit ≡ Some h
    → IsNewId old new h.file
opened-since slots slots' unit h old new none from there =
    ⊎_elim (λ before. absurd (none-held slots unit h none before)) (λ fresh. fresh) (from unit h there)

-- a unit has a file that had none: one was opened in between
unit-opened : (slots slots' : List (Option Held)) (unit : UnitName) (old new : FileState)
    → attachment_at (attachments_of slots) unit ≡ None → AreFrom slots slots' old new
    → IsTrue (is_some (attachment_at (attachments_of slots') unit)) → WasOpened old new
unit-opened slots slots' unit old new none from there =
    let held = held-there slots' unit there in
    let fresh = opened-since slots slots' unit held.0 old new none from held.1 in
    let low = fresh.0 in let high = fresh.1 in omega (arith, low, high)

-- a file that was refused was opened in between
pub refused-opened : (id : FileId) (failed : ℕ) (old new : FileState) → IsRefusedFile id failed old new → WasOpened old new
refused-opened id failed old new is = let low = is.rising in let high = is.given in omega (arith, low, high)

pub from-both : (a b c : List (Option Held)) (old mid new : FileState) → AreFrom a b old mid → AreFrom b c mid new
    → old.given ≤ mid.given → mid.given ≤ new.given → AreFrom a c old new
from-both a b c old mid new one two early late = λ unit h there.
    ⊎_elim
    (λ before. ⊎_elim (λ first. inl first) (λ fresh. inr (first-new h fresh)) (one unit h before))
    (λ fresh. inr (then-new h fresh)) (two unit h there)
  where
    first-new : (h : Held) → IsNewId old mid h.file → IsNewId old new h.file
    first-new h fresh = let low = fresh.0 in let high = fresh.1 in (low, omega (arith, high, late))

    then-new : (h : Held) → IsNewId mid new h.file → IsNewId old new h.file
    then-new h fresh = let low = fresh.0 in let high = fresh.1 in (omega (arith, low, early), high)

pub from-kept : (a b c : List (Option Held)) (old mid new : FileState) → AreFrom a b old mid → OnlyKept b c
    → mid.given ≤ new.given → AreFrom a c old new
from-kept a b c old mid new one kept late = λ unit h there.
    ⊎_elim (λ before. inl before)
    (λ (fresh : IsNewId old mid h.file). let low = fresh.0 in let high = fresh.1 in inr (
      low,
      omega
          (arith, high, late),
    ))
    (one unit h (kept unit h there))

-- ---- which counts stand

pub new-counts : (a b c : FileState) → OnlyNewCounts a b → OnlyNewCounts b c → OnlyNewCounts a c
new-counts a b c one two = record {
  before = λ file known. let ids = one.ids in two.before file (omega (arith, known, ids)) ∙ one.before file known;
  later = λ file. let first = one.later file in let then = two.later file in omega (arith, first, then);
  openings = let first = one.openings in let then = two.openings in omega (arith, first, then);
  ids = let first = one.ids in let then = two.ids in omega (arith, first, then);
}

-- a call on a file that was opened in between
pub new-counts-behind : (slots slots' : List (Option Held)) (unit : UnitName) (a b c : FileState)
    → attachment_at (attachments_of slots) unit ≡ None → AreFrom slots slots' a b → OnlyNewCounts a b
    → OnlyItsCount slots' unit b c → OnlyNewCounts a c
new-counts-behind slots slots' unit a b c none from one two = record {
  before = λ file known. two.others file (λ h there same. earlier file h known there same) ∙ one.before file known;
  later = λ file. let first = one.later file in let then = two.later file in omega (arith, first, then);
  openings = let first = one.openings in let then = two.openings in omega (arith, first, then);
  ids = let first = one.ids in let then = two.ids in omega (arith, first, then);
}
  where
    earlier : (file : ℕ) (h : Held) → file < a.given → held_at slots' unit ≡ Some h → file ≡ h.file → ⊥
    earlier file h known there same =
        let fresh = opened-since slots slots' unit h a b none from there in
        let low = fresh.0 in omega (arith, known, low, same)

-- files that were opened in between are given back
pub new-counts-behind-all : (slots slots' : List (Option Held)) (fs : List FilePart) (a b c : FileState)
    → AllByRecursion (IsFree (attachments_of slots)) fs → AreFrom slots slots' a b → OnlyNewCounts a b
    → OnlyTheirCounts slots' fs b c → OnlyNewCounts a c
new-counts-behind-all slots slots' all a b c free from one two = record {
  before = λ file known. two.others file (not-theirs file all known free) ∙ one.before file known;
  later = λ file. let first = one.later file in let then = two.later file in omega (arith, first, then);
  openings = let first = one.openings in let then = two.openings in omega (arith, first, then);
  ids = let first = one.ids in let then = two.ids in omega (arith, first, then);
}
  where
    earlier : (file : ℕ) (f : FilePart) (h : Held) → file < a.given → IsFree (attachments_of slots) f
        → held_at slots' (unit_of f) ≡ Some h → file ≡ h.file → ⊥
    earlier file f h known none there same =
        let fresh = opened-since slots slots' (unit_of f) h a b none from there in
        let low = fresh.0 in omega (arith, known, low, same)

    not-theirs : (file : ℕ) (fs : List FilePart) → file < a.given → AllByRecursion (IsFree (attachments_of slots)) fs
        → AllByRecursion (IsNotItsFile slots' file) fs
    not-theirs file [] known none = tt
    not-theirs file (f ∷ fs) known none =
        (λ h there same. earlier file f h known none.0 there same, not-theirs file fs known none.1)

-- of no files no count has changed
pub no-counts : (slots : List (Option Held)) (all : List FilePart) (a : FileState) → OnlyTheirCounts slots all a a
no-counts slots all a = record {
  others = λ file apart. refl;
  later = λ file. omega arith;
  openings = refl;
  ids = refl;
}

-- the first of the files is given back behind the others
pub their-counts : (slots mid : List (Option Held)) (f : FilePart) (fs all : List FilePart) (unit : UnitName)
    (a b c : FileState) → all ≡ f ∷ fs → unit ≡ unit_of f → OnlyKept slots mid → OnlyTheirCounts slots fs a b
    → OnlyItsCount mid unit b c → OnlyTheirCounts slots all a c
their-counts slots mid f fs all unit a b c is of kept one two =
    subst (λ (l : List FilePart). OnlyTheirCounts slots l a c) (sym is) (record {
      others = λ file apart.
          its.others file (λ h there. apart.0 h (kept (unit_of f) h there)) ∙ one.others file apart.1;
      later = λ file. let first = one.later file in let then = two.later file in omega (arith, first, then);
      openings = two.openings ∙ one.openings;
      ids = two.ids ∙ one.ids;
    })
  where
    its : OnlyItsCount mid (unit_of f) b c
    its = subst (λ (u : UnitName). OnlyItsCount mid u b c) of two

from-wider : (slots slots' : List (Option Held)) (a b c : FileState) → AreFrom slots slots' a b → c.given ≡ b.given
    → AreFrom slots slots' a c
from-wider slots slots' a b c from same = from-kept slots slots' slots' a b c from (λ unit h there. there) (omega
    (arith, same))

-- a file that was opened in between is compared, and given back
pub counts-given-back : (slots mid back : List (Option Held)) (unit other : UnitName) (a b c d : FileState)
    → attachment_at (attachments_of slots) unit ≡ None → AreFrom slots mid a b → OnlyNewCounts a b
    → OnlyItsCount mid unit b c → back ≡ mid → other ≡ unit → OnlyItsCount back other c d → OnlyNewCounts a d
counts-given-back slots mid back unit other a b c d none from one two is same three =
    new-counts-behind slots mid unit a c d none (from-wider slots mid a b c from two.ids)
    (new-counts-behind slots mid unit a b c none from one two)
    (subst (λ (u : UnitName). OnlyItsCount mid u c d) same (subst (λ (s : List
    (Option Held)). OnlyItsCount s other c d) is three))

-- ---- their causes

earlier-rose : (a b c : ℕ) → a ≤ b → Rose b c → Rose a c
earlier-rose a b c low rose = omega (arith, low, rose)

later-rose : (a b c : ℕ) → b ≤ c → Rose a b → Rose a c
later-rose a b c high rose = omega (arith, high, rose)

-- a file was attached before that, and others are given back behind it
module _ (tells : Bool) (a b c d : FileState) (first : RestoreCause tells (Ok tt) a b) (news : OnlyNewCounts a b)
    (counts : OnlyNewCounts b c) (later : (file : ℕ) → c.faults file ≤ d.faults file)
    (openings : d.open_faults ≡ c.open_faults) (ids : d.given ≡ c.given) where
  wider-rose : Rose b.open_faults c.open_faults → Rose a.open_faults d.open_faults
  wider-rose rose =
      let low = news.openings in
      subst (λ (n : ℕ). Rose a.open_faults n) (sym openings)
      (earlier-rose a.open_faults b.open_faults c.open_faults low rose)

  wider-stand : OpeningsStand tells b c → OpeningsStand tells a d
  wider-stand stand = λ t. openings ∙ stand t ∙ first.1 t

  wider-opened : WasOpened b c → WasOpened a d
  wider-opened more = let early = news.ids in omega (arith, more, early, ids)

  wider-file : (f : UnitFault) → IsNewFileFault f b c → IsNewFileFault f a d
  wider-file f h = record {
    id = h.id;
    file_is = h.file_is;
    fresh =
        let low = h.fresh.0 in let high = h.fresh.1 in let early = news.ids in
        (omega (arith, low, early), omega (arith, high, ids));
    rose =
        let same = ap (λ (g : ℕ → ℕ). g h.id.0) first.0 in
        later-rose (a.faults h.id.0) (c.faults h.id.0) (d.faults h.id.0) (later h.id.0)
        (subst (λ (n : ℕ). Rose n (c.faults h.id.0)) same h.rose);
  }

  pub cause-behind : (e : RestoreFault) → RestoreCause tells (Err e) b c → RestoreCause tells (Err e) a d
  cause-behind (fault.Failed f) h = record {
    none_done = h.none_done;
    calls = h.calls;
    opening = λ is. ((h.opening is).0, wider-rose (h.opening is).1);
    other = λ is. wider-file f (h.other is);
  }
  cause-behind (fault.NoFile unit) h = (λ untold. wider-rose (h.0 untold), wider-stand h.1)
  cause-behind (fault.TooLong unit) h = (wider-opened h.0, wider-stand h.1)
  cause-behind (fault.Changed unit) h = (wider-opened h.0, wider-stand h.1)
  cause-behind fault.MissingUnit h = h
  cause-behind fault.Port h = h
  cause-behind fault.OutOfMemory h = tt

not-opening : (call : FileCall) → (call ≡ Length) ⊎ (call ≡ Read) → call ≡ Opening → ⊥
not-opening call (inl is) other = let e : Length ≡ Opening = sym is ∙ other in absurd cc
not-opening call (inr is) other = let e : Read ≡ Opening = sym is ∙ other in absurd cc

-- a file was attached, and is given back behind a comparing that refused it
module _ (tells : Bool) (slots slots' : List (Option Held)) (unit : UnitName) (a b c d : FileState)
    (none : attachment_at (attachments_of slots) unit ≡ None) (from : AreFrom slots slots' a b)
    (there : IsTrue (is_some (attachment_at (attachments_of slots') unit))) (first : RestoreCause tells (Ok tt) a b)
    (later : (file : ℕ) → c.faults file ≤ d.faults file) (openings : d.open_faults ≡ c.open_faults)
    (ids : d.given ≡ c.given) where
  reading-fault : (f : UnitFault) → IsReadingFault f unit slots' b c → IsRestoreFault f a d
  reading-fault f h =
      let its = h.fault in
      let fresh = opened-since slots slots' unit its.held a b none from its.there in
      let same = ap (λ (g : ℕ → ℕ). g its.held.file) first.0 in
      let high = later its.held.file in
      let rose : Rose (a.faults its.held.file) (d.faults its.held.file) =
      later-rose (a.faults its.held.file) (c.faults its.held.file) (d.faults its.held.file) high
      (subst (λ (n : ℕ). raised n ≤ c.faults its.held.file) same (omega (arith, its.rose))) in
      record {
        none_done = h.calls.1;
        calls = inr h.calls.0;
        opening = λ is. absurd (not-opening f.call h.calls.0 is);
        other = λ is. record {
          id = its.id;
          file_is = its.file_is;
          fresh = subst (λ (n : ℕ). IsNewId a d n) (sym its.id_is) (wider fresh its.ids);
          rose = subst (λ (n : ℕ). Rose (a.faults n) (d.faults n)) (sym its.id_is) rose;
        };
      }
    where
      wider : {n : ℕ} → IsNewId a b n → c.given ≡ b.given → IsNewId a d n
      wider fresh same = let low = fresh.0 in let high = fresh.1 in (low, omega (arith, high, same, ids))

  still-opened : c.given ≡ b.given → WasOpened a d
  still-opened same =
      let more = unit-opened slots slots' unit a b none from there in omega (arith, more, same, ids)

  pub cause-compared : (e : RestoreFault) → CompareCalls (Err e) → CompareCause (Err e) unit slots' b c
      → RestoreCause tells (Err e) a d
  cause-compared (fault.Failed f) calls h = reading-fault f h
  cause-compared (fault.NoFile u) calls h = absurd calls
  cause-compared (fault.TooLong u) calls h = absurd calls
  cause-compared (fault.Changed u) calls h = (still-opened h.ids, λ t. openings ∙ h.openings ∙ first.1 t)
  cause-compared fault.MissingUnit calls h = absurd calls
  cause-compared fault.Port calls h = absurd calls
  cause-compared fault.OutOfMemory calls h = absurd calls

-- ---- where files are compared

-- a refusal where the comparing is not left out
pub compared-plainly : (force : Bool) (e : RestoreFault) → force ≡ false → IsCompared force (Err e)
compared-plainly force (fault.Failed f) is = tt
compared-plainly force (fault.NoFile unit) is = tt
compared-plainly force (fault.TooLong unit) is = tt
compared-plainly force (fault.Changed unit) is = is
compared-plainly force fault.MissingUnit is = tt
compared-plainly force fault.Port is = tt
compared-plainly force fault.OutOfMemory is = tt

-- ---- all of a session

-- behind its files
pub session-cause : (tells : Bool) (e : RestoreFault) (old new : FileState) → RestoreCause tells (Err e) old new
    → SessionCause tells (Err e) old new
session-cause tells (fault.Failed f) old new h = h
session-cause tells (fault.NoFile unit) old new h = h
session-cause tells (fault.TooLong unit) old new h = h
session-cause tells (fault.Changed unit) old new h = h
session-cause tells fault.MissingUnit old new h = absurd h
session-cause tells fault.Port old new h = absurd h
session-cause tells fault.OutOfMemory old new h = h
