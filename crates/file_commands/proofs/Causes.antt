-- A failed call of a unit's file is one note, and the count of that file, or of openings, has risen for it.
use Rattle.std.proofs.Common.{◌≡◌, ◌⊎◌, inl, inr, ℕ, ◌+◌, ◌-◌, ◌^◌, ◌<◌, ◌≤◌, Bool, true, false, [], nat_le, refl, ap, arith}
use Rattle.std.proofs.lemmas.Bool.Decides.{nat_tests}
use Rattle.fault_counts.specs.Faults.{Rose}
use Rattle.file_traits.specs.State.{FileState}
use Rattle.unit_files.specs.Causes.{IsQuiet, OnlyNewCounts}
use Rattle.file_commands.specs.Counts.{RoseBy, AreCounted}

pub same-rose : (before now : ℕ) → now ≡ before → RoseBy 0 before now
same-rose before now same = (omega (arith, same), inl (omega (arith, same)))

rose-end : (b : Bool) (before now : ℕ) → nat_le (2 ^ 64 - 1) now ≡ b → Rose before now → (before + 1 ≤ now) ⊎ (2 ^ 64 - 1 ≤ now)
rose-end true before now end rose = inr (grind (arith, nat_tests))
rose-end false before now end rose =
    let below : now < 2 ^ 64 - 1 = grind (arith, nat_tests) in
    inl (omega (arith, below, rose))

pub rose-one : (before now : ℕ) → Rose before now → RoseBy 1 before now
rose-one before now rose = (omega (arith, rose), rose-end (nat_le (2 ^ 64 - 1) now) before now refl rose)

pub counted-quiet : (old new : FileState) → IsQuiet old new → AreCounted [] old new
counted-quiet old new quiet = record {
  files = λ file. same-rose (old.faults file) (new.faults file) (ap (λ (f : ℕ → ℕ). f file) quiet.counts);
  openings = same-rose old.open_faults new.open_faults quiet.openings;
  possible = tt;
}

pub counted-only : (old new : FileState) → OnlyNewCounts old new → AreCounted [] old new
counted-only old new only = record {
  files = λ file. let later = only.later file in (later, inl (omega (arith, later)));
  openings = let later = only.openings in (later, inl (omega (arith, later)));
  possible = tt;
}
