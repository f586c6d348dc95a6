-- A RESTORE leaves the units of a machine the kinds that they have.
use Rattle.std.proofs.Common.{◌≡◌, ◌⊎◌, ◌&&◌, not, inl, inr, ap, sym, ◌∙◌, Bool, true, false, List, [], ◌∷◌, ◌++◌, ℕ, length, map, append-nil, Ok, Err, OnOk, if◌then◌else◌}
use Rattle.std.proofs.lemmas.Bool.{false≢true}
use Rattle.file_traits.specs.Lists.{NamedBytes}
use Rattle.unit_trait.specs.Calls.{UnitState}
use Rattle.unit_list.specs.Bus.{kinds_of}
use Rattle.nova_machine.specs.Machine.{MachineState, has_multiplexer}
use Rattle.saved_session.specs.Parts.{MachinePart}
use Rattle.saved_session.specs.Ranges.{standard_kinds, most_kinds}
use Rattle.saved_session.specs.Valid.{IsMachine}
use Rattle.state_transfer.specs.PutBack.{unit_from, first_multiplexer, lack_multiplexer, misses_unit, units_from}
use Rattle.state_transfer.specs.SavedValid.{AreStandard}
use Rattle.state_transfer.proofs.TakingLemmas.{ten-lack, eleven-have}
use Rattle.state_transfer.proofs.PutBackMachineLemmas.{are-ten, are-eleven, ten-or-eleven, ten-more}
use Rattle.command_session.specs.declared.fault.CommandFault.TheVariants.{Console}
use Rattle.command_session.specs.Live.{CommandState}
use Rattle.command_session.specs.Reply.{Answer}
use Rattle.command_session.specs.Doing.{IsRefused, IsRestoreAnswer}
use Rattle.state_commands.specs.StateAnswers.{PutsBack}

-- the units of a valid machine, put among these, of which none is missing
module _ (present : List UnitState) (m : MachinePart) (valid : IsMachine m) (found : misses_unit m present ≡ false) where
  abbrev us : List UnitState
  us = map unit_from m.units

  put-by : (b : Bool) → lack_multiplexer us present ≡ b → units_from m.units present ≡ us ++ (if b then first_multiplexer ∷ [] else [])
  put-by b same = ap (λ (x : Bool). us ++ (if x then first_multiplexer ∷ [] else [])) same

  stay-by : AreStandard present → (length m.units ≡ standard_kinds) ⊎ (length m.units ≡ most_kinds) → kinds_of (units_from m.units present) ≡ kinds_of present
  stay-by (inl ten) (inl few) =
      let lack : lack_multiplexer us present ≡ false = ap (λ (b : Bool). b && not (has_multiplexer us)) (ten-lack present ten) in
      ap kinds_of (put-by false lack ∙ append-nil us) ∙ are-ten m.units few valid.units ∙ sym ten
  stay-by (inl ten) (inr many) =
      let has = eleven-have us (are-eleven m.units many valid.units) in
      let lack : lack_multiplexer present us ≡ true = (λ i. has i && not (ten-lack present ten i)) in
      absurd (false≢true (sym found ∙ lack))
  stay-by (inr eleven) (inl few) =
      let kinds = are-ten m.units few valid.units in
      let lack : lack_multiplexer us present ≡ true = (λ i. eleven-have present eleven i && not (ten-lack us kinds i)) in
      ap kinds_of (put-by true lack) ∙ ten-more us kinds ∙ sym eleven
  stay-by (inr eleven) (inr many) =
      let kinds = are-eleven m.units many valid.units in
      let lack : lack_multiplexer us present ≡ false = (λ i. eleven-have present eleven i && not (eleven-have us kinds i)) in
      ap kinds_of (put-by false lack ∙ append-nil us) ∙ kinds ∙ sym eleven

  kinds-stay : AreStandard present → kinds_of (units_from m.units present) ≡ kinds_of present
  kinds-stay standard = stay-by standard (ten-or-eleven (length m.units) valid.all)

-- behind a RESTORE, whatever it answers
pub kinds-left : (tells : Bool) (files : List NamedBytes) (name : List ℕ) (answer : Answer) (old new : CommandState) → AreStandard old.machine.units → IsRestoreAnswer answer
    → OnOk answer (PutsBack tells files name old new) → (IsRefused answer → (new.machine ≡ old.machine) × (new.watch ≡ old.watch))
    → kinds_of new.machine.units ≡ kinds_of old.machine.units
kinds-left tells files name (Ok next) old new standard own back left =
    ap (λ (m : MachineState). kinds_of m.units) back.machine ∙ kinds-stay old.machine.units back.saved.machine back.valid.machine back.found standard
kinds-left tells files name (Err Console) old new standard own back left = absurd own
kinds-left tells files name (Err fault) old new standard own back left = ap (λ (m : MachineState). kinds_of m.units) (left tt).0

-- units of the kinds of a standard machine's are those of one
pub standard-by : (old new : List UnitState) → AreStandard old → kinds_of new ≡ kinds_of old → AreStandard new
standard-by old new (inl ten) same = inl (same ∙ ten)
standard-by old new (inr eleven) same = inr (same ∙ eleven)
