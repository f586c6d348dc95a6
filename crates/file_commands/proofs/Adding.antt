-- Counts over two spans.
use Rattle.std.proofs.Common.{◌≡◌, inl, inr, ℕ, zero, suc, ◌+◌, List, [], ◌∷◌, ◌++◌, refl, ap, sym, ◌∙◌, subst, arith}
use Rattle.fault_counts.specs.Faults.{raised}
use Rattle.file_traits.specs.State.{FileState}
use Rattle.file_commands.specs.declared.note.FaultNote.{FaultNote}
use Rattle.whole_files.specs.Claims.{raised_by}
use Rattle.file_commands.specs.Counts.{noted, openings_noted, RoseBy, AreCounted, AreAll}
use Rattle.file_commands.specs.Laws.{CountsAddUp}
use Rattle.file_commands.proofs.Possible.{possible-both}

pub noted-append : (file : ℕ) (first second : List FaultNote) → noted file (first ++ second) ≡ noted file first + noted file second
noted-append file [] second = omega arith
noted-append file (n ∷ first) second =
    let more = noted-append file first second in
    omega (arith, more)

pub openings-append : (first second : List FaultNote) → openings_noted (first ++ second) ≡ openings_noted first + openings_noted second
openings-append [] second = omega arith
openings-append (n ∷ first) second =
    let more = openings-append first second in
    omega (arith, more)

pub rose-both : (m n old mid new : ℕ) → RoseBy m old mid → RoseBy n mid new → RoseBy (m + n) old new
rose-both m n old mid new (later, inl rise) (after, inl more) = (omega (arith, later, after), inl (omega (arith, rise, more)))
rose-both m n old mid new (later, inl rise) (after, inr end) = (omega (arith, later, after), inr end)
rose-both m n old mid new (later, inr end) (after, more) = (omega (arith, later, after), inr (omega (arith, end, after)))

pub rose-none : (n : ℕ) → RoseBy 0 n n
rose-none n = (omega arith, inl (omega arith))

pub counted-both : (first second : List FaultNote) (old mid new : FileState) → AreCounted first old mid → AreCounted second mid new → AreCounted (first ++ second) old new
counted-both first second old mid new a b = record {
  files = λ file.
      let both = rose-both (noted file first) (noted file second) (old.faults file) (mid.faults file) (new.faults file) (a.files file) (b.files file) in
      subst (λ (n : ℕ). RoseBy n (old.faults file) (new.faults file)) (sym (noted-append file first second)) both;
  openings =
      let both = rose-both (openings_noted first) (openings_noted second) old.open_faults mid.open_faults new.open_faults a.openings b.openings in
      subst (λ (n : ℕ). RoseBy n old.open_faults new.open_faults) (sym (openings-append first second)) both;
  possible = possible-both first second a.possible b.possible;
}

pub counted-none : (s : FileState) → AreCounted [] s s
counted-none s = record { files = λ file. rose-none (s.faults file); openings = rose-none s.open_faults; possible = tt }

pub counts-add : CountsAddUp
counts-add = record { both = counted-both; none = counted-none }

raised-behind : (more faults count : ℕ) → raised_by (more + faults) count ≡ raised_by more (raised_by faults count)
raised-behind zero faults count =
    let none : zero + faults ≡ faults = omega arith in
    ap (λ (n : ℕ). raised_by n count) none
raised-behind (suc more) faults count =
    let next : suc more + faults ≡ suc (more + faults) = omega arith in
    ap (λ (n : ℕ). raised_by n count) next ∙ ap raised (raised-behind more faults count)

pub raised-both : (faults more count : ℕ) → raised_by (faults + more) count ≡ raised_by more (raised_by faults count)
raised-both faults more count =
    let turned : faults + more ≡ more + faults = omega arith in
    ap (λ (n : ℕ). raised_by n count) turned ∙ raised-behind more faults count

pub all-both : (first second : List FaultNote) (old mid new : FileState) → AreAll first old mid → AreAll second mid new → AreAll (first ++ second) old new
all-both first second old mid new a b = record {
  files = λ file. b.files file ∙ ap (raised_by (noted file second)) (a.files file) ∙ sym (raised-both (noted file first) (noted file second) (old.faults file))
      ∙ sym (ap (λ (n : ℕ). raised_by n (old.faults file)) (noted-append file first second));
  openings = b.openings ∙ a.openings;
  ids = b.ids ∙ a.ids;
}

pub all-none : (s : FileState) → AreAll [] s s
all-none s = record { files = λ file. refl; openings = refl; ids = refl }
