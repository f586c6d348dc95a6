-- How many openings failed where the files of a saved session are attached, and how many ids were given.
use Rattle.std.proofs.Common.{◌≡◌, ◌⊎◌, inl, inr, ℕ, suc, ◌+◌, Bool, true, false, List, ◌∷◌, length, Result, Ok, Err, OnOk, refl, ap, sym, ◌∙◌, arith}
use Rattle.file_traits.specs.declared.files.FileCall.{FileCall}
use Rattle.file_traits.specs.declared.files.FileCall.TheVariants as call
use Rattle.file_traits.specs.State.{FileState}
use Rattle.whole_files.specs.Claims.{raised_by}
use Rattle.unit_files.specs.declared.modes.AttachMode.{AttachMode}
use Rattle.unit_files.specs.declared.faults.AttachFault.{AttachFault}
use Rattle.unit_files.specs.Causes.{CountsAttach, most_unnamed, openings_in, files_opened}
use Rattle.unit_files.specs.Causes as causes
use Rattle.unit_files.proofs.OpeningCounts.{one-opened}
use Rattle.saved_session.specs.Parts.{FilePart}
use Rattle.saved_files.specs.declared.file_faults.RestoreFault.{RestoreFault}
use Rattle.saved_files.specs.declared.file_faults.RestoreFault.TheVariants as fault
use Rattle.saved_files.specs.Putting.{mode_of}
use Rattle.saved_files.specs.PuttingOne.{CompareCalls}
use Rattle.saved_files.specs.PuttingCauses.{OpensEach, openings_named}

-- ---- one file is attached

-- one that is there is opened in one call
looks-not : (read_only tells : Bool) → most_unnamed (mode_of read_only) tells ≡ 0
looks-not true tells = refl
looks-not false tells = refl

module _ (mode : AttachMode) (read_only tells : Bool) (r : Result ℕ AttachFault) (old new : FileState) (how : mode ≡ mode_of read_only)
    (counts : CountsAttach mode tells r old new) where
  named : new.open_faults ≡ raised_by (causes.openings_named tells r) old.open_faults
  named =
      let none : most_unnamed mode tells ≡ 0 = ap (λ (m : AttachMode). most_unnamed m tells) how ∙ looks-not read_only tells in
      let few = counts.few in
      let all : counts.unnamed + causes.openings_named tells r ≡ causes.openings_named tells r = omega (arith, none, few) in
      counts.openings ∙ ap (λ (n : ℕ). raised_by n old.open_faults) all

  pub opens-one : causes.openings_named tells r ≡ 0 → files_opened r ≡ 1 → OpensEach tells 1 (Ok tt) old new
  opens-one none one =
      let ids = counts.ids in
      let given : new.given ≡ old.given + 1 = omega (arith, ids, one) in
      record { openings = named ∙ ap (λ (n : ℕ). raised_by n old.open_faults) none; given = given; most = omega (arith, given) }

  pub opens-refused : (e : RestoreFault) → causes.openings_named tells r ≡ openings_named tells (Err e) → OpensEach tells 1 (Err e) old new
  opens-refused e same =
      let ids = counts.ids in
      let most = one-opened r in
      record { openings = named ∙ ap (λ (n : ℕ). raised_by n old.open_faults) same; given = tt; most = omega (arith, ids, most) }

-- ---- and compared

-- the length and a read are no openings
reading-named : (c : FileCall) → (c ≡ call.Length) ⊎ (c ≡ call.Read) → openings_in c ≡ 0
reading-named c (inl is) = ap openings_in is
reading-named c (inr is) = ap openings_in is

compared-named : (tells : Bool) (e : RestoreFault) → CompareCalls (Err e) → openings_named tells (Err e) ≡ 0
compared-named tells (fault.Failed f) calls = reading-named f.call calls.0
compared-named tells (fault.Changed unit) calls = refl
compared-named tells (fault.NoFile unit) calls = absurd calls
compared-named tells (fault.TooLong unit) calls = absurd calls
compared-named tells fault.MissingUnit calls = absurd calls
compared-named tells fault.Port calls = absurd calls
compared-named tells fault.OutOfMemory calls = absurd calls

-- behind calls that open nothing
pub opens-then : (tells : Bool) (all : ℕ) (old mid new : FileState) → OpensEach tells all (Ok tt) old mid → new.open_faults ≡ mid.open_faults → new.given ≡ mid.given
    → OpensEach tells all (Ok tt) old new
opens-then tells all old mid new opens same ids =
    let given = opens.given in
    record { openings = same ∙ opens.openings; given = ids ∙ given; most = omega (arith, ids, given) }

-- which come to a refusal that names none
pub opens-named : (tells : Bool) (all : ℕ) (e : RestoreFault) (old mid new : FileState) → openings_named tells (Err e) ≡ 0 → OpensEach tells all (Ok tt) old mid
    → new.open_faults ≡ mid.open_faults → new.given ≡ mid.given → OpensEach tells all (Err e) old new
opens-named tells all e old mid new none opens same ids =
    let given = opens.given in
    record {
      openings = same ∙ opens.openings ∙ ap (λ (n : ℕ). raised_by n old.open_faults) (sym none);
      given = tt;
      most = omega (arith, ids, given);
    }

pub opens-compared : (tells : Bool) (all : ℕ) (e : RestoreFault) (old mid new : FileState) → CompareCalls (Err e) → OpensEach tells all (Ok tt) old mid
    → new.open_faults ≡ mid.open_faults → new.given ≡ mid.given → OpensEach tells all (Err e) old new
opens-compared tells all e old mid new calls opens same ids = opens-named tells all e old mid new (compared-named tells e calls) opens same ids

-- ---- one behind another

pub opens-none : (tells : Bool) (all : ℕ) (state : FileState) → all ≡ 0 → OpensEach tells all (Ok tt) state state
opens-none tells all state none = record { openings = refl; given = omega (arith, none); most = omega arith }

-- the first is refused
pub opens-first : (tells : Bool) (f : FilePart) (fs all : List FilePart) (e : RestoreFault) (old new : FileState) → all ≡ f ∷ fs → OpensEach tells 1 (Err e) old new
    → OpensEach tells (length all) (Err e) old new
opens-first tells f fs all e old new is opens =
    let most = opens.most in
    let long : length all ≡ suc (length fs) = ap (λ (l : List FilePart). length l) is in
    record { openings = opens.openings; given = tt; most = omega (arith, most, long) }

-- the first was attached
pub opens-all : (tells : Bool) (f : FilePart) (fs all : List FilePart) (r : Result (Unit {0}) RestoreFault) (old mid new behind : FileState) → all ≡ f ∷ fs
    → OpensEach tells 1 (Ok tt) old mid → OpensEach tells (length fs) r mid new → behind.open_faults ≡ new.open_faults → behind.given ≡ new.given
    → OpensEach tells (length all) r old behind
opens-all tells f fs all r old mid new behind is first opens same ids =
    let long : length all ≡ suc (length fs) = ap (λ (l : List FilePart). length l) is in
    let one = first.given in
    let most = opens.most in
    record {
      openings = same ∙ opens.openings ∙ ap (raised_by (openings_named tells r)) first.openings;
      given = by r opens.given;
      most = omega (arith, long, one, most, ids);
    }
  where
    by : (r : Result (Unit {0}) RestoreFault) → OnOk r (new.given ≡ mid.given + length fs) → OnOk r (behind.given ≡ old.given + length all)
    by (Ok u) given =
        let long : length all ≡ suc (length fs) = ap (λ (l : List FilePart). length l) is in
        let one = first.given in
        omega (arith, long, one, given, ids)
    by (Err e) given = tt

-- memory ran out before
pub opens_nothing : (tells : Bool) (all : ℕ) (state : FileState) → OpensEach tells all (Err fault.OutOfMemory) state state
opens_nothing tells all state = record { openings = refl; given = tt; most = omega arith }
