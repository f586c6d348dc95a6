-- The stops of an instruction, and of an interrupt, and their causes.
use Rattle.std.proofs.Common.{◌≡◌, ◌≢◌, ◌↔◌, ◌⊎◌, inl, inr, ℕ, ◌+◌, ◌<◌, ◌≤◌, ◌==◌, Bool, true, false, Option, Some, None, is_some, refl, ap, sym, ◌∙◌, nat_lt, if◌then◌else◌, arith}
use Rattle.std.proofs.lemmas.Bool.Decides.{nat_tests}
use Rattle.nova_word.specs.Bits.{bits}
use Rattle.nova_memory.specs.Memory.{get}
use Rattle.nova_memory.specs.Address.{Reference, address}
use Rattle.unit_trait.specs.declared.kind.UnitName.{UnitName}
use Rattle.unit_list.specs.Bus.{unit_at}
use Rattle.nova_interrupts.specs.Interrupts.{enabled, disabled}
use Rattle.nova_machine.specs.declared.machine.Stop.TheVariants.{Halt, ChainLimit, UnknownDevice, Break, Expect, UnitEnd, UnitNone, BadImage, FileFault, Wru}
use Rattle.nova_machine.specs.Machine.{MachineState, on_processor}
use Rattle.nova_processor.specs.Processor.{ProcessorState}
use Rattle.unit_files.specs.declared.faults.UnitFault.{UnitFault}
use Rattle.nova_machine.specs.Turned.{Turned, begun, ticked, goes_on}
use Rattle.nova_processor.specs.Instruction.{advanced}
use Rattle.nova_processor.specs.InputOutput.{past}
use Rattle.nova_machine.specs.Transfer.{central_function, central_pulse, central, to_processor, to_device, transfer}
use Rattle.nova_machine.specs.Turn.{with_memory, refer_to, refer, execute, fetch, is_interrupted, jump_to, interrupt_reference, enter, interrupt}
use Rattle.nova_machine.specs.StopLaws.{fetched, IsTransfer, IsHalt, IsUnknown, IsEndless, IsHalted, behind_entry}

-- ---- an instruction

-- the laws, at a word and what its instruction comes to
pub record StopsAt (w : ℕ) (m : MachineState) (t : Turned) : Type 0 where
  pub halt : (t.stop ≡ Some Halt) ↔ IsHalt w
  pub chain_limit : (t.stop ≡ Some ChainLimit) ↔ IsEndless w m
  pub unknown : (t.stop ≡ Some UnknownDevice) ↔ IsUnknown w m
  pub not_units : (u : UnitName) → (t.stop ≢ Some (UnitEnd u)) × (t.stop ≢ Some (UnitNone u))
  pub not_images : (u : UnitName) (place : ℕ) → t.stop ≢ Some (BadImage u place)
  pub not_files : (f : UnitFault) → t.stop ≢ Some (FileFault f)
  pub not_key : t.stop ≢ Some Wru
  pub not_break : (k : ℕ) → t.stop ≢ Some (Break k)
  pub not_expect : (k : ℕ) → t.stop ≢ Some (Expect k)
  pub halted_is : t.stop ≡ Some Halt → IsHalted m t.machine
  pub unended : t.stop ≡ Some ChainLimit → t.machine ≡ with_memory m (address m.processor.memory w m.processor.cpu.pc m.processor.cpu.accumulators).memory
  pub unknown_is : t.stop ≡ Some UnknownDevice → t.machine ≡ m

-- a word that is executed
stops-none : (w : ℕ) (m after : MachineState) → ¬ IsHalt w → ¬ IsEndless w m → ¬ IsUnknown w m → StopsAt w m (goes_on after)
stops-none w m after no_halt ends known = record {
  halt = ((λ h. absurd (cc)), (λ e. absurd (no_halt e)));
  chain_limit = ((λ h. absurd (cc)), (λ e. absurd (ends e)));
  unknown = ((λ h. absurd (cc)), (λ e. absurd (known e)));
  not_units = λ u. ((λ h. absurd (cc)), (λ h. absurd (cc)));
  not_images = λ u place h. absurd (cc);
  not_files = λ f h. absurd (cc);
  not_key = λ h. absurd (cc);
  not_break = λ k h. absurd (cc);
  not_expect = λ k h. absurd (cc);
  halted_is = λ h. absurd (cc);
  unended = λ h. absurd (cc);
  unknown_is = λ h. absurd (cc);
}

stops-refer_to : (w : ℕ) (m : MachineState) (r : Reference) (a : Option ℕ) → w < 0o60000 → r ≡ address m.processor.memory w m.processor.cpu.pc m.processor.cpu.accumulators → r.address ≡ a
    → StopsAt w m (refer_to w a (with_memory m r.memory))
stops-refer_to w m r None low formed endless = record {
  halt = ((λ h. absurd (cc)), (λ e. let least = e.transfer.least in absurd (omega (arith, least, low))));
  chain_limit = ((λ h. record { memory_reference = low; chain = sym (ap (λ (x : Reference). x.address) formed) ∙ endless }), (λ e. refl));
  unknown = ((λ h. absurd (cc)), (λ e. let least = e.transfer.least in absurd (omega (arith, least, low))));
  not_units = λ u. ((λ h. absurd (cc)), (λ h. absurd (cc)));
  not_images = λ u place h. absurd (cc);
  not_files = λ f h. absurd (cc);
  not_key = λ h. absurd (cc);
  not_break = λ k h. absurd (cc);
  not_expect = λ k h. absurd (cc);
  halted_is = λ h. absurd (cc);
  unended = λ h. ap (λ (x : Reference). with_memory m x.memory) formed;
  unknown_is = λ h. absurd (cc);
}
stops-refer_to w m r (Some a) low formed ends =
    stops-none w m _ (λ e. let least = e.transfer.least in omega (arith, least, low)) (λ e. let none = e.chain in absurd (cc))
    (λ e. let least = e.transfer.least in omega (arith, least, low))

stops-refer : (w : ℕ) (m : MachineState) → w < 0o60000 → StopsAt w m (refer w m)
unfolding refer
stops-refer w m low =
    let r = address m.processor.memory w m.processor.cpu.pc m.processor.cpu.accumulators in
    stops-refer_to w m r r.address low refl refl

at-if : (b : Bool) (w : ℕ) (m : MachineState) (x y : Turned) → (b ≡ true → StopsAt w m x) → (b ≡ false → StopsAt w m y) → StopsAt w m (if b then x else y)
at-if true w m x y first second = first refl
at-if false w m x y first second = second refl

pulse-processor : (b : ℕ) (m : MachineState) → (central_pulse b m).processor ≡ m.processor
unfolding central_pulse
pulse-processor b m = by-test (b == 1) (record m { ints = enabled m.ints }) _ refl (by-test (b == 2) (record m { ints = disabled m.ints }) m refl refl)
  where
    by-test : (c : Bool) (x y : MachineState) → x.processor ≡ m.processor → y.processor ≡ m.processor → (if c then x else y).processor ≡ m.processor
    by-test true x y first second = first
    by-test false x y first second = second

pulse-time : (b : ℕ) (m : MachineState) → (central_pulse b m).time ≡ m.time
unfolding central_pulse
pulse-time b m = by-test (b == 1) (record m { ints = enabled m.ints }) _ refl (by-test (b == 2) (record m { ints = disabled m.ints }) m refl refl)
  where
    by-test : (c : Bool) (x y : MachineState) → x.time ≡ m.time → y.time ≡ m.time → (if c then x else y).time ≡ m.time
    by-test true x y first second = first
    by-test false x y first second = second

output-c : (k : ℕ) (m : MachineState) → central_function 6 k m ≡ on_processor past m
unfolding central_function
output-c k m = refl

central-c : (w : ℕ) (m : MachineState) → bits 5 7 w ≡ 6 → central w m ≡ central_pulse (bits 8 9 w) (on_processor past m)
unfolding central
central-c w m is = ap (λ (f : ℕ). central_pulse (bits 8 9 w) (central_function f (bits 3 4 w) m)) is ∙ ap (central_pulse (bits 8 9 w)) (output-c (bits 3 4 w) m)

halted-c : (w : ℕ) (m : MachineState) → bits 5 7 w ≡ 6 → IsHalted m (ticked (central w (begun m)))
unfolding ticked begun past advanced
halted-c w m is =
    let at = on_processor past (begun m) in
    let c = central-c w (begun m) is in
    record {
      time = ap (λ (x : MachineState). x.time + 1) c ∙ ap (λ (n : ℕ). n + 1) (pulse-time (bits 8 9 w) at);
      pc = ap (λ (x : MachineState). x.processor.cpu.pc) c ∙ ap (λ (p : ProcessorState). p.cpu.pc) (pulse-processor (bits 8 9 w) at);
    }

stops-to_processor : (w : ℕ) (m : MachineState) → IsTransfer w → bits 10 15 w ≡ 0o77 → StopsAt w m (to_processor w m)
unfolding to_processor
stops-to_processor w m transfer device =
    let low = transfer.least in
    let ends : ¬ IsEndless w m = λ e. let below = e.memory_reference in omega (arith, below, low) in
    let known : ¬ IsUnknown w m = λ e. e.processor device in
    at-if (bits 5 7 w == 7) w m _ _
    (λ yes. let skip : bits 5 7 w ≡ 7 = grind (arith, nat_tests) in stops-none w m _ (λ e. let other = e.function in omega (arith, other, skip)) ends known)
    (λ other. at-if (bits 5 7 w == 6) w m _ _
    (λ yes. let is : bits 5 7 w ≡ 6 = grind (arith, nat_tests) in
    record {
      halt = ((λ h. record { transfer = transfer; device = device; function = is }), (λ e. refl));
      chain_limit = ((λ h. absurd (cc)), (λ e. absurd (ends e)));
      unknown = ((λ h. absurd (cc)), (λ e. absurd (known e)));
      not_units = λ u. ((λ h. absurd (cc)), (λ h. absurd (cc)));
      not_images = λ u place h. absurd (cc);
      not_files = λ f h. absurd (cc);
      not_key = λ h. absurd (cc);
      not_break = λ k h. absurd (cc);
      not_expect = λ k h. absurd (cc);
      halted_is = λ h. halted-c w m is;
      unended = λ h. absurd (cc);
      unknown_is = λ h. absurd (cc);
    })
    (λ another. stops-none w m _ (λ e. let is = e.function in grind (arith, nat_tests)) ends known))

some-none : {A : Type 0} (o : Option A) → is_some o ≡ true → o ≢ None
some-none None is e = absurd (cc)
some-none (Some x) is e = absurd (cc)

none-none : {A : Type 0} (o : Option A) → is_some o ≡ false → o ≡ None
none-none None is = refl
none-none (Some x) is = absurd (cc)

stops-to_device : (w : ℕ) (m : MachineState) → IsTransfer w → bits 10 15 w ≢ 1 → bits 10 15 w ≢ 0o77 → StopsAt w m (to_device (bits 10 15 w) w m)
unfolding to_device
stops-to_device w m transfer multiplier processor =
    let low = transfer.least in
    let ends : ¬ IsEndless w m = λ e. let below = e.memory_reference in omega (arith, below, low) in
    let runs : ¬ IsHalt w = λ e. processor e.device in
    at-if (is_some (unit_at (bits 10 15 w) m.units)) w m _ _
    (λ there. stops-none w m _ runs ends (λ e. some-none (unit_at (bits 10 15 w) m.units) there e.absent))
    (λ gone. at-if m.stop_dev w m _ _
    (λ on.
    record {
      halt = ((λ h. absurd (cc)), (λ e. absurd (runs e)));
      chain_limit = ((λ h. absurd (cc)), (λ e. absurd (ends e)));
      unknown = ((λ h. record { transfer = transfer; multiplier = multiplier; processor = processor; absent = none-none (unit_at (bits 10 15 w) m.units) gone; stops = on }), (λ e. refl));
      not_units = λ u. ((λ h. absurd (cc)), (λ h. absurd (cc)));
      not_images = λ u place h. absurd (cc);
      not_files = λ f h. absurd (cc);
      not_key = λ h. absurd (cc);
      not_break = λ k h. absurd (cc);
      not_expect = λ k h. absurd (cc);
      halted_is = λ h. absurd (cc);
      unended = λ h. absurd (cc);
      unknown_is = λ h. refl;
    })
    (λ off. stops-none w m _ runs ends (λ e. let on = e.stops in absurd (cc))))

stops-transfer : (w : ℕ) (m : MachineState) → IsTransfer w → StopsAt w m (transfer w m)
unfolding transfer
stops-transfer w m is =
    let low = is.least in
    at-if (bits 10 15 w == 1) w m _ _
    (λ yes. let one : bits 10 15 w ≡ 1 = grind (arith, nat_tests) in
    stops-none w m _ (λ e. let other = e.device in omega (arith, one, other)) (λ e. let below = e.memory_reference in omega (arith, below, low)) (λ e. e.multiplier one))
    (λ no_one. let other : bits 10 15 w ≢ 1 = grind (arith, nat_tests) in
    at-if (bits 10 15 w == 0o77) w m _ _
    (λ yes. stops-to_processor w m is (grind (arith, nat_tests)))
    (λ another. stops-to_device w m is other (grind (arith, nat_tests))))

stops-execute : (w : ℕ) (m : MachineState) → StopsAt w m (execute w m)
unfolding execute
stops-execute w m =
    at-if (nat_lt w 0o60000) w m _ _
    (λ yes. stops-refer w m (grind (arith, nat_tests)))
    (λ above. let low : 0o60000 ≤ w = grind (arith, nat_tests) in
    at-if (nat_lt w 0o100000) w m _ _
    (λ yes. stops-transfer w m (record { least = low; most = grind (arith, nat_tests) }))
    (λ another. let high : 0o100000 ≤ w = grind (arith, nat_tests) in
    stops-none w m _ (λ e. let most = e.transfer.most in omega (arith, most, high)) (λ e. let below = e.memory_reference in omega (arith, below, low))
    (λ e. let most = e.transfer.most in omega (arith, most, high))))

pub stops-fetch : (m : MachineState) → StopsAt (fetched m) m (fetch m)
unfolding fetch
stops-fetch m = stops-execute (get m.processor.memory m.processor.cpu.pc) m

-- what the interrupt comes to
pub record EntersAt (m : MachineState) (t : Turned) : Type 0 where
  pub cases : (t.stop ≡ None) ⊎ ((t.stop ≡ Some ChainLimit) × (is_interrupted m ≡ true) × ((interrupt_reference m).address ≡ None))
  pub endless : is_interrupted m ≡ true → (interrupt_reference m).address ≡ None → (t.stop ≡ Some ChainLimit) × (t.machine ≡ behind_entry m)

enters-jump : (m : MachineState) (a : Option ℕ) → (interrupt_reference m).address ≡ a → is_interrupted m ≡ true → EntersAt m (jump_to a (behind_entry m))
enters-jump m None is comes = record { cases = inr (refl, comes, is); endless = λ _ _. (refl, refl) }
enters-jump m (Some a) is comes = record { cases = inl refl; endless = λ _ none. absurd (cc) }

enters-enter : (m : MachineState) → is_interrupted m ≡ true → EntersAt m (enter m)
unfolding enter
enters-enter m comes = enters-jump m (interrupt_reference m).address refl comes

enters-if : (b : Bool) (m : MachineState) → is_interrupted m ≡ b → EntersAt m (if b then enter m else goes_on m)
enters-if true m comes = enters-enter m comes
enters-if false m comes = record { cases = inl refl; endless = λ h none. absurd (cc) }

pub enters-interrupt : (m : MachineState) → EntersAt m (interrupt m)
unfolding interrupt
enters-interrupt m = enters-if (is_interrupted m) m refl
