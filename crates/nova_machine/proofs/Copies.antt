-- What leaves the disk's copy of its file, with its marks, as it was, and what goes on with marks that cover its changes.
use Rattle.std.proofs.Common.{◌≡◌, ℕ, refl, ap, sym, subst, ◌∙◌}
use Rattle.unit_trait.specs.declared.kind.UnitName.{UnitName}
use Rattle.unit_trait.specs.declared.calls.Got.{Got}
use Rattle.unit_files.specs.Buffer.{AttachedFiles}
use Rattle.unit_files.specs.InStep.{MarksCover}
use Rattle.unit_files.proofs.InStep.{covers-same, covers-both}
use Rattle.nova_processor.specs.declared.burst.BurstEnd.{BurstEnd}
use Rattle.nova_processor.specs.declared.burst.BurstEnd.TheVariants as burst_end
use Rattle.nova_machine.specs.Machine.{MachineState, attached_files}
use Rattle.nova_machine.specs.Service.{asked, answered}
use Rattle.nova_machine.specs.Turn.{fetch, interrupt}
use Rattle.nova_machine.specs.Bursts.{passed_by}
use Rattle.nova_machine.specs.Looks.{idled_by, looked_at, idle_end}
use Rattle.nova_machine.proofs.Leaves.{Leaves, leaves-fetch, leaves-interrupt}

-- ---- the attached files stay

leaves-attached : (before after : MachineState) → Leaves before after → attached_files after ≡ attached_files before
leaves-attached before after leaves = λ i. record { slots = leaves.slots i; disk = leaves.disk i; aside = leaves.aside i }

pub fetched-attached : (m : MachineState) → attached_files (fetch m).machine ≡ attached_files m
fetched-attached m = leaves-attached m (fetch m).machine (leaves-fetch m)

pub entered-attached : (m : MachineState) → attached_files (interrupt m).machine ≡ attached_files m
entered-attached m = leaves-attached m (interrupt m).machine (leaves-interrupt m)

pub asked-attached : (unit : UnitName) (m : MachineState) → attached_files (asked unit m) ≡ attached_files m
unfolding asked
asked-attached unit m = refl

pub answered-attached : (unit : UnitName) (answer : Got) (m : MachineState) → attached_files (answered unit answer m).machine ≡ attached_files m
unfolding answered
answered-attached unit answer m = refl

pub passed-attached : (count : ℕ) (m : MachineState) → attached_files (passed_by count m) ≡ attached_files m
unfolding passed_by
passed-attached count m = refl

pub idled-attached : (period count : ℕ) (m : MachineState) → attached_files (idled_by period count m) ≡ attached_files m
unfolding idled_by
idled-attached period count m = refl

pub looked-attached : (period : ℕ) (m : MachineState) → attached_files (looked_at period m) ≡ attached_files m
unfolding looked_at
looked-attached period m = refl

pub end-attached : (end : BurstEnd) (period : ℕ) (m : MachineState) → attached_files (idle_end end period m) ≡ attached_files m
end-attached burst_end.ChainLimit period m = looked-attached period m
end-attached burst_end.Spent period m = refl
end-attached burst_end.Transfer period m = refl
end-attached burst_end.AtStop period m = refl

-- ---- marks that cover what has changed

pub covers-still : (old new : AttachedFiles) → new ≡ old → MarksCover old new
covers-still old new same = covers-same old new (ap (λ (a : AttachedFiles). a.disk) same) (ap (λ (a : AttachedFiles). a.aside) same)

-- nothing has changed before, or behind
pub covers-from : (old mid new : AttachedFiles) → mid ≡ old → MarksCover mid new → MarksCover old new
covers-from old mid new same = subst (λ (a : AttachedFiles). MarksCover a new) same

pub covers-to : (old mid new : AttachedFiles) → MarksCover old mid → new ≡ mid → MarksCover old new
covers-to old mid new covers same = subst (λ (a : AttachedFiles). MarksCover old a) (sym same) covers

-- a unit was asked and nothing was done with the copy, or it was, and it may be answered
module _ (unit : UnitName) (m n k : MachineState) (asks : n ≡ asked unit m) (lines : attached_files k ≡ attached_files n) where
  before : attached_files k ≡ attached_files m
  before = lines ∙ ap attached_files asks ∙ asked-attached unit m

  pub lined-covers : (answer : Got) (last : MachineState) → last ≡ (answered unit answer k).machine → MarksCover (attached_files m) (attached_files last)
  lined-covers answer last answers =
      covers-still (attached_files m) (attached_files last) (ap attached_files answers ∙ answered-attached unit answer k ∙ before)

  pub hosted-covers : (h : MachineState) → MarksCover (attached_files k) (attached_files h) → MarksCover (attached_files m) (attached_files h)
  hosted-covers h = covers-from (attached_files m) (attached_files k) (attached_files h) before

  pub served-covers : (answer : Got) (h last : MachineState) → MarksCover (attached_files k) (attached_files h)
      → last ≡ (answered unit answer h).machine → MarksCover (attached_files m) (attached_files last)
  served-covers answer h last covers answers =
      covers-to (attached_files m) (attached_files h) (attached_files last) (hosted-covers h covers)
      (ap attached_files answers ∙ answered-attached unit answer h)

-- two pieces, one behind the other
pub covers-then : (old mid new : MachineState) → MarksCover (attached_files old) (attached_files mid) → MarksCover (attached_files mid) (attached_files new)
    → MarksCover (attached_files old) (attached_files new)
covers-then old mid new = covers-both (attached_files old) (attached_files mid) (attached_files new)
