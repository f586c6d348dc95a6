-- Why an instruction or an interrupt's entry stops, and that neither takes a key.
use Rattle.std.proofs.Common.{◌-◌, ◌≡◌, inl, inr, ℕ, ◌+◌, ◌<◌, ◌≤◌, ◌==◌, Bool, true, false, Option, Some, None, is_some, refl, ap, sym, subst, ◌∙◌, nat_lt, if◌then◌else◌, arith}
use Rattle.std.proofs.lemmas.Bool.Decides.{nat_tests}
use Rattle.nova_word.specs.Bits.{bits}
use Rattle.nova_memory.specs.Memory.{MemoryState, get}
use Rattle.nova_memory.specs.Address.{address}
use Rattle.unit_list.specs.Bus.{unit_at}
use Rattle.nova_interrupts.specs.Interrupts.{enabled, disabled}
use Rattle.nova_processor.specs.declared.burst.Step.TheVariants as step_end
use Rattle.nova_processor.specs.declared.burst.BurstEnd.{BurstEnd}
use Rattle.nova_processor.specs.declared.burst.BurstEnd.TheVariants as burst_end
use Rattle.nova_processor.specs.Processor.{ProcessorState}
use Rattle.nova_processor.specs.Instruction.{memory_reference, arithmetic}
use Rattle.nova_processor.specs.InputOutput.{multiply_divide, unanswered, tested, past}
use Rattle.nova_processor.specs.Burst.{Stepped, steps, refers_to, refers, passes, step_of, step, IsBurst}
use Rattle.nova_machine.specs.declared.machine.Stop.{Stop}
use Rattle.nova_machine.specs.declared.machine.Stop.TheVariants.{Halt, UnknownDevice}
use Rattle.nova_machine.specs.declared.instruction_end.InstructionEnd.{InstructionEnd}
use Rattle.nova_machine.specs.declared.instruction_end.InstructionEnd.TheVariants as ends
use Rattle.nova_machine.specs.Ends.{end_stop}
use Rattle.nova_machine.specs.Machine.{MachineState, reset_devices}
use Rattle.nova_machine.specs.Turned.{Turned, begun, ticked, executed, goes_on, stops}
use Rattle.nova_machine.specs.Transfer.{central_function, central_pulse, central, asked_unit, to_unit, to_device, to_processor, transfer}
use Rattle.nova_machine.specs.Turn.{with_memory, refer_to, refer, execute, fetch, is_interrupted, enter, interrupt}
use Rattle.nova_machine.specs.Run.{last_time}
use Rattle.nova_machine.specs.Bursts.{passed_by}
use Rattle.nova_machine.specs.StopLaws.{fetched, IsTransfer, IsHalt, IsUnknown, behind_chain, behind_entry}
use Rattle.nova_machine.specs.Looks.{idled_by, looked_at, idle_end}
use Rattle.nova_machine.specs.StopCauses.{EntryCause, InstructionCause, BurstCause}
use Rattle.nova_machine.proofs.Stops.{stops-fetch, enters-interrupt}
use Rattle.nova_machine.proofs.Turns.{turns-fetch}

-- ---- a HALT changes no word of memory

-- the second of two, where a test fails, and the first where it holds
chosen : {A : Type 0} (b : Bool) (x y : A) → b ≡ false → (if b then x else y) ≡ y
chosen true x y is = absurd (cc)
chosen false x y is = refl

taken-one : {A : Type 0} (b : Bool) (x y : A) → b ≡ true → (if b then x else y) ≡ x
taken-one true x y is = refl
taken-one false x y is = absurd (cc)

memory-pulse : (bits : ℕ) (m : MachineState) → (central_pulse bits m).processor ≡ m.processor
unfolding central_pulse
memory-pulse bits m = by-test (bits == 1) (record m { ints = enabled m.ints }) _ refl (by-test (bits == 2) (record m { ints = disabled m.ints }) m refl refl)
  where
    by-test : (c : Bool) (x y : MachineState) → x.processor ≡ m.processor → y.processor ≡ m.processor → (if c then x else y).processor ≡ m.processor
    by-test true x y first second = first
    by-test false x y first second = second

memory-output : (k : ℕ) (m : MachineState) → (central_function 6 k m).processor.memory ≡ m.processor.memory
unfolding central_function past
memory-output k m = refl

memory-central : (w : ℕ) (m : MachineState) → bits 5 7 w ≡ 6 → (central w m).processor.memory ≡ m.processor.memory
unfolding central
memory-central w m is =
    let at = central_function (bits 5 7 w) (bits 3 4 w) m in
    ap (λ (p : ProcessorState). p.memory) (memory-pulse (bits 8 9 w) at)
    ∙ ap (λ (f : ℕ). (central_function f (bits 3 4 w) m).processor.memory) is ∙ memory-output (bits 3 4 w) m

begun-memory : (m : MachineState) → (begun m).processor.memory ≡ m.processor.memory
unfolding begun
begun-memory m = refl

ticked-memory : (m : MachineState) → (ticked m).processor.memory ≡ m.processor.memory
unfolding ticked
ticked-memory m = refl

processor-halts : (w : ℕ) (m : MachineState) → bits 5 7 w ≡ 6 → (to_processor w m).machine ≡ ticked (central w (begun m))
unfolding to_processor
processor-halts w m is =
    let skip : (bits 5 7 w == 7) ≡ false = grind (arith, nat_tests) in
    let output : (bits 5 7 w == 6) ≡ true = grind (arith, nat_tests) in
    ap (λ (t : Turned). t.machine) (chosen (bits 5 7 w == 7) _ _ skip ∙ taken-one (bits 5 7 w == 6) _ _ output)

transfer-halts : (w : ℕ) (m : MachineState) → bits 10 15 w ≡ 0o77 → transfer w m ≡ to_processor w m
unfolding transfer
transfer-halts w m is =
    let other : (bits 10 15 w == 1) ≡ false = grind (arith, nat_tests) in
    let device : (bits 10 15 w == 0o77) ≡ true = grind (arith, nat_tests) in
    chosen (bits 10 15 w == 1) _ _ other ∙ taken-one (bits 10 15 w == 0o77) _ _ device

execute-halts : (w : ℕ) (m : MachineState) → IsTransfer w → execute w m ≡ transfer w m
unfolding execute
execute-halts w m is =
    let least = is.least in
    let most = is.most in
    let low : nat_lt w 0o60000 ≡ false = grind (arith, nat_tests) in
    let high : nat_lt w 0o100000 ≡ true = grind (arith, nat_tests) in
    chosen (nat_lt w 0o60000) _ _ low ∙ taken-one (nat_lt w 0o100000) _ _ high

fetch-is : (m : MachineState) → fetch m ≡ execute (fetched m) m
unfolding fetch
fetch-is m = refl

memory-halts : (m : MachineState) → IsHalt (fetched m) → (fetch m).machine.processor.memory ≡ m.processor.memory
memory-halts m halt =
    let w = fetched m in
    let all : (fetch m).machine ≡ ticked (central w (begun m)) =
    ap (λ (t : Turned). t.machine) (fetch-is m ∙ execute-halts w m halt.transfer ∙ transfer-halts w m halt.device) ∙ processor-halts w m halt.function in
    ap (λ (x : MachineState). x.processor.memory) all ∙ ticked-memory (central w (begun m)) ∙ memory-central w (begun m) halt.function ∙ begun-memory m

-- ---- the stop of an instruction

-- a HALT stands where there is memory
halt-if : (b : Bool) (word : ℕ) → IsHalt (if b then word else 0) → b ≡ true
halt-if true word halt = refl
halt-if false word halt = let least = halt.transfer.least in absurd (omega (arith, least))

halt-within : (memory : MemoryState) (at : ℕ) → IsHalt (get memory at) → at < memory.size
halt-within memory at halt = let yes : nat_lt at memory.size ≡ true = halt-if (nat_lt at memory.size) _ halt in grind (arith, nat_tests)

-- by what it came to
cause-of : (e : InstructionEnd) (m now : MachineState) → end_stop e ≡ (fetch m).stop → now ≡ (fetch m).machine → InstructionCause (end_stop e) m.time now
cause-of ends.Executed m now at is = ap (λ (y : MachineState). y.time) is ∙ (turns-fetch m).goes (sym at)
cause-of ends.Halt m now at is =
    let halted = (stops-fetch m).halted_is (sym at) in
    let halt = (stops-fetch m).halt.0 (sym at) in
    let memory : now.processor.memory ≡ m.processor.memory = ap (λ (y : MachineState). y.processor.memory) is ∙ memory-halts m halt in (
      record {
        at = m.processor.cpu.pc;
        within = subst (λ (y : MemoryState). m.processor.cpu.pc < y.size) (sym memory) (halt-within m.processor.memory m.processor.cpu.pc halt);
        next = ap (λ (y : MachineState). y.processor.cpu.pc) is ∙ halted.pc;
        halt = subst (λ (y : MemoryState). IsHalt (get y m.processor.cpu.pc)) (sym memory) halt;
      },
      ap (λ (y : MachineState). y.time) is ∙ halted.time,
    )
cause-of ends.ChainLimit m now at is =
    let left : now ≡ behind_chain m = is ∙ (stops-fetch m).unended (sym at) in
    (record { before = m; chain = (stops-fetch m).chain_limit.0 (sym at); left = left }, ap (λ (y : MachineState). y.time) left)
cause-of ends.UnknownDevice m now at is =
    let left : now ≡ m = is ∙ (stops-fetch m).unknown_is (sym at) in
    (subst (λ (y : MachineState). IsUnknown (fetched y) y) (sym left) ((stops-fetch m).unknown.0 (sym at)), ap (λ (y : MachineState). y.time) left)

pub instruction-cause : (w : ℕ) (e : InstructionEnd) (m now : MachineState) → w ≡ fetched m → end_stop e ≡ (execute w m).stop → now ≡ (execute w m).machine
    → InstructionCause (end_stop e) m.time now
instruction-cause w e m now word answers is =
    let same : execute w m ≡ fetch m = ap (λ (n : ℕ). execute n m) word ∙ sym (fetch-is m) in
    cause-of e m now (answers ∙ ap (λ (t : Turned). t.stop) same) (is ∙ ap (λ (t : Turned). t.machine) same)

-- ---- the stop of an entry

entry-cause : (m now : MachineState) (stop : Option Stop) → stop ≡ (interrupt m).stop → now ≡ (interrupt m).machine → EntryCause stop now
entry-cause m now stop stops is =
    let e = enters-interrupt m in
    elim e.cases [
      | inl none ↦ subst (λ (o : Option Stop). EntryCause o now) (sym (stops ∙ none)) tt
      | inr w ↦
          let left : now ≡ behind_entry m = is ∙ (e.endless w.1 w.2).1 in
          subst (λ (o : Option Stop). EntryCause o now) (sym (stops ∙ w.0)) (record { before = m; comes = w.1; chain = w.2; left = left })
    ]

interrupt-comes : (m : MachineState) → is_interrupted m ≡ true → interrupt m ≡ enter m
unfolding interrupt
interrupt-comes m comes = taken-one (is_interrupted m) _ _ comes

pub entered-cause : (m now : MachineState) (stop : Option Stop) → is_interrupted m ≡ true → stop ≡ (enter m).stop → now ≡ (enter m).machine → EntryCause stop now
entered-cause m now stop comes answers is =
    let same : enter m ≡ interrupt m = sym (interrupt-comes m comes) in
    entry-cause m now stop (answers ∙ ap (λ (t : Turned). t.stop) same) (is ∙ ap (λ (t : Turned). t.machine) same)

-- ---- the stop of a burst

refers-chain : (w : ℕ) (a : Option ℕ) (p q : ProcessorState) → refers_to w a p ≡ record { processor = q; end = step_end.ChainLimit } → (a ≡ None) × (p ≡ q)
refers-chain w None p q is = (refl, ap (λ (s : Stepped). s.processor) is)
refers-chain w (Some a) p q is = let e = ap (λ (s : Stepped). s.end) is in absurd (cc)

-- a step whose chain has no end
record IsChain (w : ℕ) (p q : ProcessorState) : Type 0 where
  low : w < 0o60000
  chain : (address p.memory w p.cpu.pc p.cpu.accumulators).address ≡ None
  left : q ≡ record p { memory = (address p.memory w p.cpu.pc p.cpu.accumulators).memory }

chain-refers : (w : ℕ) (p q : ProcessorState) → w < 0o60000 → refers w p ≡ record { processor = q; end = step_end.ChainLimit } → IsChain w p q
unfolding refers
chain-refers w p q low is =
    let reference = address p.memory w p.cpu.pc p.cpu.accumulators in
    let at = refers-chain w reference.address (record p { memory = reference.memory }) q is in
    record { low = low; chain = at.0; left = sym at.1 }

no-chain-passes : (b : Bool) (x p q : ProcessorState) → (if b then steps x else record { processor = p; end = step_end.Transfer }) ≡ record { processor = q; end = step_end.ChainLimit } → ⊥
no-chain-passes true x p q is = let e = ap (λ (s : Stepped). s.end) is in absurd (cc)
no-chain-passes false x p q is = let e = ap (λ (s : Stepped). s.end) is in absurd (cc)

no-chain-transfer : (w : ℕ) (p q : ProcessorState) → passes w p ≡ record { processor = q; end = step_end.ChainLimit } → ⊥
unfolding passes
no-chain-transfer w p q is = no-chain-passes (bits 10 15 w == 1) (multiply_divide w p) p q is

chain-word : (low high : Bool) (w : ℕ) (p q : ProcessorState) → nat_lt w 0o60000 ≡ low
    → (if low then refers w p else if high then passes w p else steps (arithmetic w p)) ≡ record { processor = q; end = step_end.ChainLimit } → IsChain w p q
chain-word true high w p q at is = chain-refers w p q (grind (arith, nat_tests)) is
chain-word false true w p q at is = absurd (no-chain-transfer w p q is)
chain-word false false w p q at is = let e = ap (λ (s : Stepped). s.end) is in absurd (cc)

chain-step : (p q : ProcessorState) → step p ≡ record { processor = q; end = step_end.ChainLimit } → IsChain (get p.memory p.cpu.pc) p q
unfolding step step_of
chain-step p q is = chain-word (nat_lt (get p.memory p.cpu.pc) 0o60000) (nat_lt (get p.memory p.cpu.pc) 0o100000) (get p.memory p.cpu.pc) p q refl is

passed-processor : (done : ℕ) (m : MachineState) (q : ProcessorState) → passed_by done (record m { processor = q }) ≡ record (passed_by done m) { processor = q }
unfolding passed_by
passed-processor done m q = refl

passed-time : (done : ℕ) (m : MachineState) → (passed_by done m).time ≡ m.time + done
unfolding passed_by
passed-time done m = refl

burst-cause : (stops : ℕ → Bool) (most budget done : ℕ) (old now : MachineState) (q : ProcessorState) → budget ≤ most → old.time + budget ≤ last_time
    → IsBurst stops old.processor budget done burst_end.ChainLimit q → now ≡ passed_by done (record old { processor = q }) → BurstCause burst_end.ChainLimit most done now
burst-cause stops most budget done old now q few last burst is =
    let (mid, within, reaches, passes, chain) = burst in
    let c = chain-step mid q chain in
    let before : MachineState = record (passed_by done old) { processor = mid } in
    let left : now ≡ behind_chain before = is ∙ passed-processor done old q ∙ ap (λ (p : ProcessorState). record (passed_by done old) { processor = p }) c.left in
    let time : now.time ≡ old.time + done = ap (λ (m : MachineState). m.time) is ∙ passed-time done (record old { processor = q }) in (
      record { before = before; chain = record { memory_reference = c.low; chain = c.chain }; left = left },
      omega (arith, within, few),
      omega (arith, within, last, time),
    )

pub passed-taken : (done : ℕ) (m : MachineState) → (passed_by done m).taken ≡ m.taken
unfolding passed_by
passed-taken done m = refl

pub any-burst-cause : (stops : ℕ → Bool) (most budget done : ℕ) (end : BurstEnd) (old now : MachineState) (q : ProcessorState) → budget ≤ most → old.time + budget ≤ last_time
    → IsBurst stops old.processor budget done end q → now ≡ passed_by done (record old { processor = q }) → BurstCause end most done now
any-burst-cause stops most budget done burst_end.ChainLimit old now q few last burst is = burst-cause stops most budget done old now q few last burst is
any-burst-cause stops most budget done end old now q few last burst is = tt

-- the same where looks of the keyboard have passed too
idle-cause : (stops : ℕ → Bool) (most budget done : ℕ) (old at now : MachineState) (q : ProcessorState) → budget ≤ most → old.time + budget ≤ last_time
    → IsBurst stops old.processor budget done burst_end.ChainLimit q → at.time ≡ old.time + done → now ≡ record at { processor = q } → BurstCause burst_end.ChainLimit most done now
idle-cause stops most budget done old at now q few last burst time is =
    let (mid, within, reaches, passes, chain) = burst in
    let c = chain-step mid q chain in
    let left : now ≡ behind_chain (record at { processor = mid }) = is ∙ ap (λ (p : ProcessorState). record at { processor = p }) c.left in
    let late : now.time ≡ old.time + done = ap (λ (m : MachineState). m.time) is ∙ time in (
      record { before = record at { processor = mid }; chain = record { memory_reference = c.low; chain = c.chain }; left = left },
      omega (arith, within, few),
      omega (arith, within, last, late),
    )

idled-at : (period done : ℕ) (old : MachineState) (q : ProcessorState) → looked_at period (idled_by period done (record old { processor = q })) ≡ record (looked_at period (idled_by period done old)) { processor = q }
unfolding looked_at idled_by
idled-at period done old q = refl

idled-late : (period done : ℕ) (old : MachineState) → (looked_at period (idled_by period done old)).time ≡ old.time + done
unfolding looked_at idled_by
idled-late period done old = refl

pub any-idle-cause : (stops : ℕ → Bool) (most budget done period : ℕ) (end : BurstEnd) (old now : MachineState) (q : ProcessorState) → budget ≤ most → old.time + budget ≤ last_time
    → IsBurst stops old.processor budget done end q → now ≡ idle_end end period (idled_by period done (record old { processor = q })) → BurstCause end most done now
any-idle-cause stops most budget done period burst_end.ChainLimit old now q few last burst is =
    idle-cause stops most budget done old (looked_at period (idled_by period done old)) now q few last burst (idled-late period done old) (is ∙ idled-at period done old q)
any-idle-cause stops most budget done period end old now q few last burst is = tt

pub cause-behind : (end : BurstEnd) (most done more : ℕ) (m : MachineState) → done ≤ most → BurstCause end (most - done) more m → BurstCause end most (done + more) m
cause-behind burst_end.ChainLimit most done more m few cause = let before = cause.1 in (cause.0, omega (arith, before, few), cause.2)
cause-behind end most done more m few cause = tt

-- ---- no key is taken

taken-if : (b : Bool) (n : ℕ) (x y : MachineState) → x.taken ≡ n → y.taken ≡ n → (if b then x else y).taken ≡ n
taken-if true n x y first second = first
taken-if false n x y first second = second

taken-turned : (b : Bool) (n : ℕ) (x y : Turned) → x.machine.taken ≡ n → y.machine.taken ≡ n → (if b then x else y).machine.taken ≡ n
taken-turned true n x y first second = first
taken-turned false n x y first second = second

taken-executed : (f : ProcessorState → ProcessorState) (m : MachineState) → (executed f m).taken ≡ m.taken
unfolding begun ticked
taken-executed f m = refl

taken-refer_to : (w : ℕ) (a : Option ℕ) (m : MachineState) → (refer_to w a m).machine.taken ≡ m.taken
taken-refer_to w None m = refl
taken-refer_to w (Some a) m = taken-executed (memory_reference w a) m

taken-refer : (w : ℕ) (m : MachineState) → (refer w m).machine.taken ≡ m.taken
unfolding refer
taken-refer w m =
    let reference = address m.processor.memory w m.processor.cpu.pc m.processor.cpu.accumulators in
    taken-refer_to w reference.address (with_memory m reference.memory)

taken-reset : (m : MachineState) → (reset_devices m).taken ≡ m.taken
unfolding reset_devices
taken-reset m = refl

taken-function : (f k : ℕ) (m : MachineState) → (central_function f k m).taken ≡ m.taken
unfolding central_function
taken-function f k m =
    taken-if (f == 1) m.taken _ _ refl (taken-if (f == 3) m.taken _ _ refl (taken-if (f == 4) m.taken _ _ refl (taken-if (f == 5) m.taken _ _ (taken-reset m) refl)))

taken-pulse : (b : ℕ) (m : MachineState) → (central_pulse b m).taken ≡ m.taken
unfolding central_pulse
taken-pulse b m = taken-if (b == 1) m.taken (record m { ints = enabled m.ints }) _ refl (taken-if (b == 2) m.taken (record m { ints = disabled m.ints }) m refl refl)

taken-central : (w : ℕ) (m : MachineState) → (central w m).taken ≡ m.taken
unfolding central
taken-central w m = taken-pulse (bits 8 9 w) _ ∙ taken-function (bits 5 7 w) (bits 3 4 w) m

taken-late : (w : ℕ) (m : MachineState) → (ticked (central w (begun m))).taken ≡ m.taken
unfolding begun ticked
taken-late w m = taken-central w (begun m)

taken-processor : (w : ℕ) (m : MachineState) → (to_processor w m).machine.taken ≡ m.taken
unfolding to_processor
taken-processor w m =
    taken-turned (bits 5 7 w == 7) m.taken (goes_on (executed (tested (bits 8 9 w) m.ints.on false) m)) (if bits 5 7 w == 6 then stops Halt (ticked (central w (begun m))) else goes_on (ticked (central w (begun m))))
    (taken-executed (tested (bits 8 9 w) m.ints.on false) m) (taken-turned (bits 5 7 w == 6) m.taken (stops Halt (ticked (central w (begun m)))) (goes_on (ticked (central w (begun m)))) (taken-late w m) (taken-late w m))

taken-asked : (code w : ℕ) (m : MachineState) → (asked_unit code w m).taken ≡ m.taken
unfolding asked_unit
taken-asked code w m = refl

taken-unit : (code w : ℕ) (m : MachineState) → (to_unit code w m).taken ≡ m.taken
unfolding to_unit
taken-unit code w m = taken-if (bits 5 7 w == 7) m.taken _ _ refl (taken-asked code w m)

taken-answers : (code w : ℕ) (m : MachineState) → (ticked (to_unit code w (begun m))).taken ≡ m.taken
unfolding begun ticked
taken-answers code w m = taken-unit code w (begun m)

taken-device : (code w : ℕ) (m : MachineState) → (to_device code w m).machine.taken ≡ m.taken
unfolding to_device
taken-device code w m =
    taken-turned (is_some (unit_at code m.units)) m.taken (goes_on (ticked (to_unit code w (begun m))))
    (if m.stop_dev then stops UnknownDevice m else goes_on (executed (unanswered w) m)) (taken-answers code w m)
    (taken-turned m.stop_dev m.taken (stops UnknownDevice m) (goes_on (executed (unanswered w) m)) refl (taken-executed (unanswered w) m))

taken-transfer : (w : ℕ) (m : MachineState) → (transfer w m).machine.taken ≡ m.taken
unfolding transfer
taken-transfer w m =
    taken-turned (bits 10 15 w == 1) m.taken (goes_on (executed (multiply_divide w) m)) (if bits 10 15 w == 0o77 then to_processor w m else to_device (bits 10 15 w) w m) (taken-executed (multiply_divide w) m)
    (taken-turned (bits 10 15 w == 0o77) m.taken (to_processor w m) (to_device (bits 10 15 w) w m) (taken-processor w m) (taken-device (bits 10 15 w) w m))

pub taken-execute : (w : ℕ) (m : MachineState) → (execute w m).machine.taken ≡ m.taken
unfolding execute
taken-execute w m =
    taken-turned (nat_lt w 0o60000) m.taken (refer w m) (if nat_lt w 0o100000 then transfer w m else goes_on (executed (arithmetic w) m)) (taken-refer w m)
    (taken-turned (nat_lt w 0o100000) m.taken (transfer w m) (goes_on (executed (arithmetic w) m)) (taken-transfer w m) (taken-executed (arithmetic w) m))
