-- Every turn and run goes from a valid state to valid ones.
use Rattle.std.proofs.Common.{ℕ, ◌<◌, Bool, List, [], ◌∷◌, Option, Some, None, refl, sym, subst, arith}
use Rattle.std.specs.List.{AllByRecursion}
use Rattle.nova_memory.proofs.Blank.{IsMemory-blank}
use Rattle.unit_trait.specs.declared.kind.UnitName.{UnitName}
use Rattle.unit_trait.specs.Kinds.{units_of}
use Rattle.unit_trait.specs.Calls.{UnitState}
use Rattle.event_queue.specs.EventList.{dues}
use Rattle.event_queue.proofs.SoundLists.{sound-none}
use Rattle.unit_list.specs.Bus.{AllFit}
use Rattle.unit_list.specs.Reset.{reset_events}
use Rattle.unit_list.proofs.Resets.{reset-fits, reset-kinds, sound-resets}
use Rattle.expect_actions.specs.Watch.{empty_watch}
use Rattle.nova_machine.specs.declared.machine.Stop.{Stop}
use Rattle.nova_machine.specs.declared.machine.Stop.TheVariants.{ConsoleFault}
use Rattle.nova_machine.specs.Comes.{Output, Comes}
use Rattle.nova_machine.specs.Core.{AreListed}
use Rattle.nova_machine.specs.Machine.{new_machine, reset_machine, reset_devices}
use Rattle.nova_machine.specs.Notes.{UnitNote, RunNote, at_unit}
use Rattle.nova_machine.specs.Seen.{Seen}
use Rattle.nova_machine.specs.Parts.{Part}
use Rattle.nova_machine.specs.Service.{service, services, serving, taken}
use Rattle.nova_machine.specs.Turn.{breaks_tested, turn}
use Rattle.nova_machine.specs.Run.{run}
use Rattle.nova_machine.specs.Valid.{HasByteName, ValidMachine, ValidWatch, Valid}
use Rattle.nova_machine.proofs.Each.{every-replicate}
use Rattle.machine_laws.specs.ValidLaws.{IsValidPart}
use Rattle.nova_machine.proofs.Opened.{serving-is, services-none, services-some}
use Rattle.nova_machine.proofs.Walks.{OfStages, OfEach, each-turn, each-run}
use Rattle.nova_machine.proofs.Listed.{listed-reset, times_later}
use Rattle.machine_laws.proofs.ValidInstruction.{fetched-valid, interrupted-valid}
use Rattle.machine_laws.proofs.ValidWatch.{watch-tested}
use Rattle.machine_laws.proofs.ValidService.{valid-silent, valid-then, valid-taken, valid-service, dues-low}

valid-services : (note : Option UnitNote) (us : List UnitName) (s : Seen) → AllByRecursion (λ (u : UnitName). u.unit < units_of u.kind) us → Valid s → IsValidPart (services note us s)
valid-services note [] s low is = subst IsValidPart (sym (services-none note s)) (valid-silent None s is)
valid-services note (u ∷ us) s low is =
    subst IsValidPart (sym (services-some note u us s))
    (valid-then (service (at_unit u note) u (taken s)) (λ next. services note us next) (valid-service (at_unit u note) u (taken s) low.0 (valid-taken s is))
    (λ next valid. valid-services note us next low.1 valid))

valid-serving : (note : Option UnitNote) (s : Seen) → Valid s → IsValidPart (serving note s)
valid-serving note s is =
    subst IsValidPart (sym (serving-is note s)) (valid-services note (dues s.machine.events) s (dues-low s.machine.events is.machine.core.sound.units) is)

valid-tested : (s : Seen) → Valid s → IsValidPart (breaks_tested s)
unfolding breaks_tested
valid-tested s is =
    valid-silent _ _ (record { machine = is.machine; watch = watch-tested s.machine.processor.cpu.pc s.watch is.watch; taken = is.taken; known = is.known; keys = is.keys; files = is.files; lines = is.lines; ahead = is.ahead })

-- a part leads from a valid state to valid ones
abbrev StaysValid : Seen → Part → Type 0
StaysValid s p = Valid s → IsValidPart p

stages-valid : OfStages StaysValid
stages-valid = record {
  none = λ s is. valid-silent None s is;
  both = λ s p goes_on first more is. valid-then p goes_on (first is) more;
  served = valid-serving;
  interrupted = λ s is. valid-silent _ _ (interrupted-valid s is);
  tested = valid-tested;
}

each-valid : OfEach StaysValid
each-valid = record {
  stages = stages-valid;
  fetched = λ s is. valid-silent _ _ (fetched-valid s is);
}

pub turn-valid : (note : Option UnitNote) (first : Bool) (s : Seen) → Valid s → IsValidPart (turn note first s)
turn-valid note first s = each-turn StaysValid each-valid note first s

pub run-valid : (note : Option RunNote) (step : Bool) (n : ℕ) (s : Seen) → Valid s → IsValidPart (run note step n s)
run-valid note step n s = each-run StaysValid each-valid (λ s stop limit is. valid-silent (Some stop) s is) note step n s

-- what a call has come to that does such a part
pub left-valid : (p : Part) (stop : Option Stop) (t : Seen) (tells : Bool) (before after : Output) → IsValidPart p → Comes p stop t tells before after → Valid t
left-valid p (Some ConsoleFault) t tells before after is comes = is.made t comes.stands
left-valid p stop t tells before after is comes = subst Valid (sym comes.after_is) is.after

-- ---- the beginning

pub new-valid : (us : List UnitState) → AllFit us → ValidMachine (new_machine us)
unfolding new_machine reset_machine reset_devices
new-valid us fit = record {
  memory = IsMemory-blank;
  size = record { step = refl; least = omega arith; most = omega arith };
  cpu = record { four = refl; words = (omega arith, (omega arith, (omega arith, (omega arith, tt)))); pc = omega arith };
  mask = omega arith;
  switches = omega arith;
  core = record {
    registers = reset-fits us fit;
    sound = sound-resets us [] fit sound-none;
    listed = subst (λ ks. AreListed ks (reset_events us [])) (sym (reset-kinds us)) (listed-reset us);
    times = times_later 0 (reset_events us []);
  };
  places = refl;
  names = every-replicate HasByteName 12 None tt;
  disk = tt;
}

pub empty-valid : ValidWatch empty_watch
empty-valid = record {
  breaks = omega arith;
  rising = tt;
  each = tt;
  expects = omega arith;
  texts = tt;
  tail = omega arith;
  printed = tt;
  sends = omega arith;
  in_time = tt;
  bytes = tt;
  broke = tt;
  matched = tt;
}
