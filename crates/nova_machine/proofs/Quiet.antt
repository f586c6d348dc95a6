-- Counts of faults over several calls.
use Rattle.std.proofs.Common.{◌≡◌, ℕ, Bool, List, ap, sym, subst, ◌∙◌, Option, Some, None, refl}
use Rattle.fault_counts.specs.Faults.{raised}
use Rattle.file_traits.specs.State.{FileState}
use Rattle.unit_files.specs.Attachments.{Held}
use Rattle.unit_files.specs.Causes.{IsQuiet, IsFaultOf}
use Rattle.nova_machine.specs.declared.machine.Stop.{Stop}
use Rattle.nova_machine.specs.declared.machine.Stop.TheVariants.{FileFault}
use Rattle.nova_machine.specs.Comes.{FileCause, AreTold}

pub told-same : (tells : Bool) (before now : List (Option Held)) → now ≡ before → AreTold tells before → AreTold tells now
told-same tells before now same told = subst (λ (x : List (Option Held)). AreTold tells x) (sym same) told

pub quiet-same : (s : FileState) → IsQuiet s s
quiet-same s = record { counts = refl; openings = refl; ids = refl }

pub quiet-then : (first second third : FileState) → IsQuiet first second → IsQuiet second third → IsQuiet first third
quiet-then first second third a b = record { counts = b.counts ∙ a.counts; openings = b.openings ∙ a.openings; ids = b.ids ∙ a.ids }

pub quiet-none : (r : Option Stop) (slots : List (Option Held)) (old new : FileState) → r ≡ None → FileCause r slots old new → IsQuiet old new
quiet-none None slots old new none cause = cause
quiet-none (Some stop) slots old new none cause = absurd (cc)

-- a cause behind calls that counted nothing
pub cause-behind : (r : Option Stop) (slots slots' : List (Option Held)) (first second third : FileState) → slots' ≡ slots → IsQuiet first second
    → FileCause r slots' second third → FileCause r slots first third
cause-behind (Some (FileFault f)) slots slots' first second third same quiet cause =
    subst (λ (x : List (Option Held)). IsFaultOf f f.unit x first third) same (record {
      unit_is = cause.unit_is;
      held = cause.held;
      there = cause.there;
      id = cause.id;
      file_is = cause.file_is;
      id_is = cause.id_is;
      rose = cause.rose ∙ ap (λ (count : ℕ → ℕ). raised (count cause.held.file)) quiet.counts;
      others = λ other different. cause.others other different ∙ ap (λ (count : ℕ → ℕ). count other) quiet.counts;
      openings = cause.openings ∙ quiet.openings;
      ids = cause.ids ∙ quiet.ids;
    })
cause-behind r slots slots' first second third same quiet cause = quiet-then first second third quiet cause
