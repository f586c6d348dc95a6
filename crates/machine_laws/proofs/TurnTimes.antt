-- How time grows over a turn, and what it leaves.
use Rattle.std.proofs.Common.{◌≡◌, ℕ, zero, suc, ◌+◌, ◌≤◌, ◌==◌, Bool, true, false, List, Option, Some, None, option_map, Result, Ok, Err, refl, ap, ◌∙◌, if◌then◌else◌, arith}
use Rattle.observations.specs.Observations.{Observation}
use Rattle.nova_memory.specs.Memory.{MemoryState, put}
use Rattle.nova_memory.proofs.Chains.{put-size}
use Rattle.unit_trait.specs.declared.kind.UnitName.{UnitName}
use Rattle.unit_trait.specs.declared.calls.Want.{Want}
use Rattle.unit_trait.specs.declared.calls.Want.TheVariants as want
use Rattle.unit_trait.specs.declared.calls.Got.{Got}
use Rattle.unit_trait.specs.declared.calls.UnitStop.{UnitStop}
use Rattle.unit_trait.specs.declared.calls.UnitStop.TheVariants as unit_stop
use Rattle.nova_machine.specs.declared.machine.Stop.{Stop}
use Rattle.nova_machine.specs.declared.machine.Stop.TheVariants.{Break, Expect, Wru}
use Rattle.nova_machine.specs.Machine.{MachineState}
use Rattle.unit_files.specs.Attachments.{Attachment, attachment_at}
use Rattle.unit_files.specs.Buffer.{Buffer, sector_of}
use Rattle.nova_machine.specs.Sectors.{memory_with, memory_after}
use Rattle.memory_transfer.specs.Words.{sector_words, words_put}
use Rattle.unit_files.specs.Acts.{Failure}
use Rattle.nova_machine.specs.Notes.{UnitNote}
use Rattle.nova_machine.specs.Seen.{Seen, with_machine, attached_in}
use Rattle.nova_machine.specs.Parts.{Part, behind_made, followed, then_part}
use Rattle.nova_machine.specs.Turned.{Turned, goes_on, still}
use Rattle.nova_machine.specs.Wants.{prints, stop_by, key_stop, own_stop, wru, answer_to, memory_behind}
use Rattle.expect_actions.specs.Breaks.{stop_at}
use Rattle.expect_actions.specs.Expects.{ExpectTable, match_at}
use Rattle.nova_machine.specs.OnLines.{Lined, Around, lined, sends}
use Rattle.machine_laws.proofs.LineStops.{lined-stops}
use Rattle.nova_machine.specs.Service.{around, lined_at, asked, answered, first_stop, replied, hosted, want_at, key_at, own_service, behind_line, line_service, service, taken}
use Rattle.nova_machine.specs.Turn.{fetch, is_interrupted, jump_to, interrupt_reference, enter, interrupt, breaks_tested, turn}
use Rattle.nova_machine.specs.Laws.{IsLimit, Unchanged}
use Rattle.unit_trait.specs.declared.calls.TapeOrder.{TapeOrder}
use Rattle.file_traits.specs.Lists.{NamedBytes}
use Rattle.memory_transfer.specs.Tapes.{NoAnswer, FileFails, ImageIsBad, block_put, memory_read, failing_call}
use Rattle.nova_machine.specs.Drives.{tape_memory, image_of}
use Rattle.simh_tape.specs.Image.{Met}
use Rattle.simh_tape.specs.Image.Met.{BlockTo}
use Rattle.simh_tape.specs.Reading.{next_act}
use Rattle.nova_machine.proofs.Walks.{OfPieces, stages-of, walk-instruction}
use Rattle.nova_machine.proofs.EachService.{each-service}
use Rattle.nova_memory.proofs.Keeps.{address-size}
use Rattle.nova_machine.proofs.Turns.{Acts, unchanged-then, acts-same, acts-then, turns-fetch}

-- What comes before the instruction takes no time, leaves HOLD, and stops for no limit.
pub record Stays (before after : MachineState) : Type 0 where
  pub acts : Acts before after
  pub hold : after.ints.hold ≡ before.ints.hold

stays-then : (first second third : MachineState) → Stays first second → Stays second third → Stays first third
stays-then first second third a b = record { acts = acts-then first second third a.acts b.acts; hold = b.hold ∙ a.hold }

pub record Prepares (before : Seen) (p : Part) : Type 0 where
  pub stays : Stays before.machine p.after.machine
  pub other : ¬ IsLimit p.stop

followed-prepares : (s : Seen) (made : List _) (stop : Option Stop) (next : Seen) (goes_on : Seen → Part) → Stays s.machine next.machine → ¬ IsLimit stop
    → Prepares next (goes_on next) → Prepares s (followed made stop next goes_on)
followed-prepares s made (Some stop) next goes_on stays other more = record { stays = stays; other = other }
followed-prepares s made None next goes_on stays other more =
    record { stays = stays-then s.machine next.machine (goes_on next).after.machine stays more.stays; other = more.other }

then-prepares : (s : Seen) (p : Part) (goes_on : Seen → Part) → Prepares s p → ((next : Seen) → Prepares next (goes_on next)) → Prepares s (then_part p goes_on)
then-prepares s p goes_on first more = followed-prepares s p.made p.stop p.after goes_on first.stays first.other (more p.after)

stop_by-other : (u : UnitName) (stop : UnitStop) → ¬ IsLimit (stop_by u stop)
stop_by-other u unit_stop.Go limit = limit
stop_by-other u unit_stop.End limit = limit
stop_by-other u unit_stop.NoFile limit = limit

key_stop-other : (key : Option ℕ) (stop : Option Stop) → ¬ IsLimit stop → ¬ IsLimit (first_stop (key_stop key) stop)
key_stop-other None stop other = other
key_stop-other (Some key) stop other = test (key == wru)
  where
    test : (b : Bool) → ¬ IsLimit (first_stop (if b then Some Wru else None) stop)
    test true = λ limit. limit
    test false = other

match-other : (place : Option ℕ) (stop : Option Stop) → ¬ IsLimit stop → ¬ IsLimit (first_stop (option_map Expect place) stop)
match-other None stop other = other
match-other (Some k) stop other = λ limit. limit

own_stop-other : (key : Option ℕ) (expects : ExpectTable) (w : Want) (stop : Option Stop) → ¬ IsLimit stop → ¬ IsLimit (first_stop (own_stop key expects w) stop)
own_stop-other key expects want.Key stop other = key_stop-other key stop other
own_stop-other key expects (want.Console byte) stop other = match-other (match_at byte expects) stop other
own_stop-other key expects w stop other = other

replied-prepares : (u : UnitName) (key : Option ℕ) (expects : ExpectTable) (w : Want) (answer : Result Got NoAnswer) (before s : Seen) → Stays before.machine s.machine
    → Prepares before (replied u (own_stop key expects w) answer s)
unfolding answered
replied-prepares u key expects w (Ok g) before s stays = record {
  stays = record {
    acts = record { time = stays.acts.time; unchanged = record { size = stays.acts.unchanged.size; sr = stays.acts.unchanged.sr; stop_dev = stays.acts.unchanged.stop_dev; slots = stays.acts.unchanged.slots } };
    hold = stays.hold;
  };
  other = own_stop-other key expects w _ (stop_by-other u _);
}
replied-prepares u key expects w (Err (FileFails f)) before s stays = record { stays = stays; other = λ limit. limit }
replied-prepares u key expects w (Err (ImageIsBad place)) before s stays = record { stays = stays; other = λ limit. limit }

-- .. to what was done on a line
line-replied : (u : UnitName) (l : Lined) (a : Around) (w : Want) (before s : Seen) → lined w a ≡ Some l → Stays before.machine s.machine → Prepares before (replied u l.stop (Ok l.got) s)
unfolding answered
line-replied u l a w before s there stays = record {
  stays = record {
    acts = record { time = stays.acts.time; unchanged = record { size = stays.acts.unchanged.size; sr = stays.acts.unchanged.sr; stop_dev = stays.acts.unchanged.stop_dev; slots = stays.acts.unchanged.slots } };
    hold = stays.hold;
  };
  other = lined-stops (λ (o : Option Stop). ¬ IsLimit (first_stop o (answered u l.got s.machine).stop)) w a l (stop_by-other u _) (λ limit. limit) (λ k limit. limit) there;
}

prepares-behind : (s : Seen) (made : List (Observation Seen)) (p : Part) → Prepares s p → Prepares s (behind_made made p)
prepares-behind s made p prepares = record { stays = prepares.stays; other = prepares.other }

words-size : (n from : ℕ) (bytes : List ℕ) (m : MemoryState) → (words_put n from bytes m).size ≡ m.size
unfolding words_put
words-size zero from bytes m = refl
words-size (suc n) from bytes m = put-size (words_put n from bytes m) _ _ ∙ words-size n from bytes m

size-with : (write : Bool) (a : Option Attachment) (filled m : MemoryState) → filled.size ≡ m.size → (memory_with write a filled m).size ≡ m.size
size-with false (Some a) filled m same = same
size-with false None filled m same = refl
size-with true a filled m same = refl

-- a sector that is read leaves the size of memory
size-after : (a : Option Attachment) (disk : Buffer) (w : Want) (m : MemoryState) → (memory_after a disk w m).size ≡ m.size
size-after a disk (want.Sector write n from) m = size-with write a (words_put sector_words from (sector_of disk.bytes n) m) m (words-size sector_words from (sector_of disk.bytes n) m)
size-after a disk w m = refl

block-size : (n from : ℕ) (bytes : List ℕ) (m : MemoryState) → (block_put n from bytes m).size ≡ m.size
unfolding block_put
block-size zero from bytes m = refl
block-size (suc n) from bytes m = put-size (block_put n from bytes m) _ _ ∙ block-size n from bytes m

read-size : (image : List ℕ) (order : TapeOrder) (met : Met) (m : MemoryState) → (memory_read image order met m).size ≡ m.size
read-size image order (BlockTo bytes flagged behind) m = block-size _ order.address _ m
read-size image order met m = refl

-- and so does a block of a tape
tape-size : (fault : Option Failure) (a : Option Attachment) (files : List NamedBytes) (order : TapeOrder) (m : MemoryState) → (tape_memory fault a files order m).size ≡ m.size
tape-size fault None files order m = refl
tape-size fault (Some a) files order m = by_command (order.command == 0)
  where
    by_command : (b : Bool) → (if b then memory_read (image_of a files) order (next_act (image_of a files) order.place (failing_call fault)) m else m).size ≡ m.size
    by_command true = read-size (image_of a files) order (next_act (image_of a files) order.place (failing_call fault)) m
    by_command false = refl

size-behind : (fault : Option Failure) (a : Option Attachment) (files : List NamedBytes) (disk : Buffer) (w : Want) (m : MemoryState)
    → (memory_behind fault a files disk w m).size ≡ m.size
size-behind fault a files disk (want.Tape order) m = tape-size fault a files order m
size-behind fault a files disk w m = size-after a disk w m

own-prepares : (fault : Option Failure) (u : UnitName) (s : Seen) → Prepares s (own_service fault u (taken s))
unfolding own_service hosted asked
own-prepares fault u s =
    let x = taken s in
    let w = want_at u x.machine in
    prepares-behind s (prints w (with_machine x (asked u x.machine))) _
    (replied-prepares u (key_at x) x.watch.expects w (answer_to fault (attachment_at (attached_in x.machine) u) x.files (key_at x) w) s (hosted fault u x) (record { acts = record { time = refl; unchanged = record { size = size-behind fault _ x.files x.machine.disk w x.machine.processor.memory; sr = refl; stop_dev = refl; slots = refl } }; hold = refl }))

line-prepares : (u : UnitName) (l : Lined) (s : Seen) → lined_at u (taken s) ≡ Some l → Prepares s (line_service u l (taken s))
unfolding line_service asked
line-prepares u l s there =
    let x = taken s in
    prepares-behind s (sends l.sent) _
    (line-replied u l (around x) (want_at u x.machine) s (behind_line u l x) there (record { acts = record { time = refl; unchanged = record { size = refl; sr = refl; stop_dev = refl; slots = refl } }; hold = refl }))

service-prepares : (fault : Option Failure) (u : UnitName) (s : Seen) → Prepares s (service fault u (taken s))
service-prepares fault u s = each-service (Prepares s) fault u (taken s) (own-prepares fault u s) (λ l is. line-prepares u l s is)

-- the interrupt, as a piece
pub record Enters (before : MachineState) (t : Turned) : Type 0 where
  pub stays : Stays before t.machine
  pub other : ¬ IsLimit t.stop

enters-jump_to : (a : Option ℕ) (m now : MachineState) → Stays m now → Enters m (jump_to a now)
enters-jump_to None m now stays = record { stays = stays; other = λ limit. limit }
enters-jump_to (Some a) m now stays = record {
  stays = record {
    acts = record { time = stays.acts.time; unchanged = record { size = stays.acts.unchanged.size; sr = stays.acts.unchanged.sr; stop_dev = stays.acts.unchanged.stop_dev; slots = stays.acts.unchanged.slots } };
    hold = stays.hold;
  };
  other = λ limit. limit;
}

reference-size : (m : MachineState) → (interrupt_reference m).memory.size ≡ m.processor.memory.size
reference-size m =
    address-size (put m.processor.memory 0 m.processor.cpu.pc) 0o2001 m.processor.cpu.pc m.processor.cpu.accumulators ∙ put-size m.processor.memory 0 m.processor.cpu.pc

enters-enter : (m : MachineState) → Enters m (enter m)
unfolding enter
enters-enter m =
    enters-jump_to (interrupt_reference m).address m _
    (record { acts = record { time = refl; unchanged = record { size = reference-size m; sr = refl; stop_dev = refl; slots = refl } }; hold = refl })

enters-if : (b : Bool) (m : MachineState) (x y : Turned) → Enters m x → Enters m y → Enters m (if b then x else y)
enters-if true m x y first second = first
enters-if false m x y first second = second

enters-interrupt : (m : MachineState) → Enters m (interrupt m)
unfolding interrupt
enters-interrupt m = enters-if (is_interrupted m) m _ _ (enters-enter m) (record { stays = record { acts = acts-same m; hold = refl }; other = λ limit. limit })

-- a test of the breaks, as a piece
broken-other : (stop : Option ℕ) → ¬ IsLimit (option_map Break stop)
broken-other None = λ limit. limit
broken-other (Some k) = λ limit. limit

tested-prepares : (s : Seen) → Prepares s (breaks_tested s)
unfolding breaks_tested
tested-prepares s = record { stays = record { acts = acts-same s.machine; hold = refl }; other = broken-other (stop_at s.machine.processor.cpu.pc s.watch.breaks.list) }

-- all that comes before the instruction
pieces-prepare : OfPieces Prepares
pieces-prepare = record {
  services = record {
    none = λ s. record { stays = record { acts = acts-same s.machine; hold = refl }; other = λ limit. limit };
    both = then-prepares;
    one = service-prepares;
  };
  interrupted = λ s. record { stays = (enters-interrupt s.machine).stays; other = (enters-interrupt s.machine).other };
  tested = tested-prepares;
}

-- a whole turn
pub record TurnsPart (before : Seen) (p : Part) : Type 0 where
  pub goes : p.stop ≡ None → p.after.machine.time ≡ before.machine.time + 1
  pub least : before.machine.time ≤ p.after.machine.time
  pub most : p.after.machine.time ≤ before.machine.time + 1
  pub other : ¬ IsLimit p.stop
  pub unchanged : Unchanged before.machine p.after.machine
  pub held : p.after.machine.time ≡ before.machine.time → p.after.machine.ints.hold ≡ before.machine.ints.hold

turns-followed : (s : Seen) (made : List _) (stop : Option Stop) (ready : Seen) → Stays s.machine ready.machine → ¬ IsLimit stop
    → TurnsPart s (followed made stop ready (λ r. still r (fetch r.machine)))
turns-followed s made (Some stop) ready stays other = record {
  goes = λ h. absurd (cc);
  least = omega (arith, stays.acts.time);
  most = omega (arith, stays.acts.time);
  other = other;
  unchanged = stays.acts.unchanged;
  held = λ _. stays.hold;
}
turns-followed s made None ready stays other =
    let t = turns-fetch ready.machine in
    let now = stays.acts.time in
    record {
      goes = λ h. t.goes h ∙ ap (λ (n : ℕ). n + 1) now;
      least = omega (arith, t.least, now);
      most = omega (arith, t.most, now);
      other = t.other;
      unchanged = unchanged-then s.machine ready.machine (fetch ready.machine).machine stays.acts.unchanged t.unchanged;
      held = λ h. t.held (omega (arith, now, h)) ∙ stays.hold;
    }

pub turns-turn : (note : Option UnitNote) (first : Bool) (s : Seen) → TurnsPart s (turn note first s)
turns-turn note first s =
    walk-instruction Prepares TurnsPart
    (record { stages = stages-of Prepares pieces-prepare; fetched = λ s p before. turns-followed s p.made p.stop p.after before.stays before.other }) note first s
