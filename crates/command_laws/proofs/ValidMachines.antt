-- RESET, RUN, SET CPU and LOAD leave a machine in which all is in range, and bytes are read of files of bytes.
use Rattle.std.proofs.Common.{◌≡◌, inl, inr, ℕ, ◌-◌, ◌*◌, ◌%◌, ◌^◌, ◌<◌, ◌≤◌, ◌==◌, ◌&&◌, nat_le, Bool, true, false, List, [], ◌∷◌, length, take, replicate, get_or, Option, Some, None, IfSome, Result, Ok, Err, refl, sym, subst, ◌∙◌, arith, length-append}
use Rattle.std.specs.Prelude.{bytes_eq}
use Rattle.std.proofs.lemmas.Bool.{and_parts, leb-true, eqb-true, cases_lt, cond_both}
use Rattle.std.proofs.lemmas.List.{length-take-le, length-replicate, get_or-append_right, get_or-replicate, get_or_past}
use Rattle.std.proofs.lemmas.List.Elements.{All-append, All-take, All-replicate}
use Rattle.file_traits.specs.declared.files.FileCall.{FileCall}
use Rattle.file_traits.specs.declared.files.FileCall.TheVariants.{Opening, Write, Closing}
use Rattle.file_traits.specs.Lists.{NamedBytes, find_file, with_file}
use Rattle.whole_files.specs.Whole.{WholeSaid, WholeIs, NotThere, TooLong, CallFailed, whole_act}
use Rattle.whole_files.specs.Writing.{FailingCall, WriteSaid, AllWritten, WriteFailed, closed_act, made_act, write_act}
use Rattle.binary_load.specs.declared.faults.LoadFault.{LoadFault}
use Rattle.binary_load.specs.Tape.{Tape, put_all}
use Rattle.unit_list.proofs.Resets.{reset-kinds}
use Rattle.binary_load.proofs.StoreLemmas.{put_all-size}
use Rattle.binary_load.proofs.RangeLemmas.{IsTapeInRange, tape-in_range, stored-memory}
use Rattle.nova_memory.specs.Memory.{MemoryState, IsMemory, IsSize, fits_size, resized, by_rule}
use Rattle.nova_machine.specs.Machine.{MachineState, reset_devices, reset_machine}
use Rattle.nova_machine.specs.Turn.{with_memory}
use Rattle.nova_machine.specs.Registers.{with_register}
use Rattle.unit_trait.specs.declared.processor.CpuReg.{CpuReg}
use Rattle.unit_trait.specs.declared.processor.CpuReg.TheVariants.{Ac0, Ac1, Ac2, Ac3, C, Pc, Ion, Hold, Mask, Sr, StopDev, Size}
use Rattle.operand_forms.specs.declared.listing.Listing.{Listing}
use Rattle.scp_examine.specs.Shape.{shape_of}
use Rattle.scp_examine.specs.Places.{Place, Cell, Register, UnitRegister}
use Rattle.scp_examine.specs.Effect.{with_value, filled, all_places, deposited}
use Rattle.nova_machine.specs.Valid.{AreBytes, ValidMachine}
use Rattle.machine_laws.proofs.ValidInstruction.{reset-keeps}
use Rattle.machine_laws.proofs.ValidBytes.{AreFiles, bytes-take, files-with}
use Rattle.scp_examine.proofs.ValidLemmas.{LeavesRest, pc-valid}
use Rattle.command_session.specs.RunEffects.{last_address, address_fits, starting_at, reset_where}
use Rattle.plain_commands.specs.SetEffects.{sized, ruled}
use Rattle.command_session.specs.TapeEffects.{tape_in, tape_machine, loaded_machine}
use Rattle.command_laws.proofs.WholeSays.{SaysBytes, whole-says}

-- ---- another memory

pub memory-valid : (m : MachineState) (memory : MemoryState) → ValidMachine m → IsMemory memory → IsSize memory.size
    → ValidMachine (with_memory m memory)
memory-valid m memory is new size = record {
  memory = new;
  size = size;
  cpu = is.cpu;
  mask = is.mask;
  switches = is.switches;
  core = record { registers = is.core.registers; sound = is.core.sound; listed = is.core.listed; times = is.core.times };
  places = is.places;
  names = is.names;
  disk = is.disk;
}

-- ---- SET CPU

zeros-at : (count place : ℕ) → ◌≡◌ {A = ℕ} (get_or (replicate count 0) place 0) 0
zeros-at count place =
    elim (cases_lt place count) [
      | inl within ↦ get_or-replicate {A = ℕ} count place 0 0 within
      | inr past ↦ get_or_past {X = ℕ} (replicate count 0) place 0 (let many = length-replicate {A = ℕ} count 0 in omega (arith, many, past))
    ]

resized-memory : (m : MemoryState) (n : ℕ) → IsMemory m → n ≤ 2 ^ 15 → IsMemory (resized m n)
resized-memory m n is low =
    let Word : ℕ → Type 0 = λ w. w < 2 ^ 16 in
    let front = take n m.words in
    let zeros : List ℕ = replicate (2 ^ 15 - n) 0 in
    let taken : length front ≡ n = length-take-le n m.words (omega (arith, is.whole, low)) in
    let others : length zeros ≡ 2 ^ 15 - n = length-replicate (2 ^ 15 - n) 0 in
    let both = length-append front zeros in
    record {
      whole = omega (arith, taken, others, both, low);
      words = All-append Word front zeros (All-take Word n m.words is.words) (All-replicate Word (2 ^ 15 - n) 0 (omega arith));
      size = low;
      beyond = λ a past. get_or-append_right front zeros n a 0 taken past ∙ zeros-at (2 ^ 15 - n) (a - n);
    }

size-is : (k : ℕ) → fits_size k ≡ true → IsSize (1024 * k)
size-is k fits =
    let both = and_parts (nat_le 4 k && nat_le k 32) (k % 4 == 0) fits in
    let ends = and_parts (nat_le 4 k) (nat_le k 32) both.0 in
    let least = leb-true 4 k ends.0 in
    let most = leb-true k 32 ends.1 in
    let whole = eqb-true (k % 4) 0 both.1 in
    record { step = omega (arith, whole); least = omega (arith, least); most = omega (arith, most) }

pub sized-valid : (m : MachineState) (k : ℕ) → ValidMachine m → fits_size k ≡ true → ValidMachine (sized m k)
sized-valid m k is fits =
    let size = size-is k fits in
    memory-valid m (resized m.processor.memory (1024 * k)) is (resized-memory m.processor.memory (1024 * k) is.memory size.most) size

pub ruled-valid : (m : MachineState) (before : Bool) → ValidMachine m → ValidMachine (ruled m before)
ruled-valid m before is =
    let memory = is.memory in
    memory-valid m (by_rule before m.processor.memory) is (record { whole = memory.whole; words = memory.words; size = memory.size; beyond = memory.beyond }) is.size

-- ---- RESET, and where a run starts

pub reset-valid : (m : MachineState) → ValidMachine m → ValidMachine (reset_machine m)
reset-valid m is = (reset-keeps m is).valid

pub reset-leaves : (m : MachineState) → LeavesRest m (reset_machine m)
unfolding reset_machine reset_devices
reset-leaves m = record { time = refl; taken = refl; kinds = reset-kinds m.units; slots = refl; disk = refl; lines = refl }

pub starting-valid : (address : Option ℕ) (m : MachineState) → IfSome address (λ (a : ℕ). a < 2 ^ 15) → ValidMachine m → ValidMachine (starting_at address m)
starting-valid None m low is = is
starting-valid (Some a) m low is = pc-valid m a is low

starting-leaves : (address : Option ℕ) (m : MachineState) → LeavesRest m (starting_at address m)
starting-leaves None m = record { time = refl; taken = refl; kinds = refl; slots = refl; disk = refl; lines = refl }
starting-leaves (Some a) m = record { time = refl; taken = refl; kinds = refl; slots = refl; disk = refl; lines = refl }

address-low : (address : Option ℕ) → address_fits address ≡ true → IfSome address (λ (a : ℕ). a < 2 ^ 15)
address-low None fits = tt
address-low (Some a) fits = let low = leb-true a last_address fits in omega (arith, low)

-- the machine with which a run starts
pub started-valid : (resets : Bool) (address : Option ℕ) (m : MachineState) → address_fits address ≡ true → ValidMachine m → ValidMachine (starting_at address (reset_where resets m))
started-valid true address m fits is = starting-valid address (reset_machine m) (address-low address fits) (reset-valid m is)
started-valid false address m fits is = starting-valid address m (address-low address fits) is

leaves-both : (first second third : MachineState) → LeavesRest first second → LeavesRest second third → LeavesRest first third
leaves-both first second third a b = record {
  time = b.time ∙ a.time;
  taken = b.taken ∙ a.taken;
  kinds = b.kinds ∙ a.kinds;
  slots = b.slots ∙ a.slots;
  disk = b.disk ∙ a.disk;
  lines = b.lines ∙ a.lines;
}

pub started-leaves : (resets : Bool) (address : Option ℕ) (m : MachineState) → LeavesRest m (starting_at address (reset_where resets m))
started-leaves true address m = leaves-both m (reset_machine m) (starting_at address (reset_machine m)) (reset-leaves m) (starting-leaves address (reset_machine m))
started-leaves false address m = starting-leaves address m

-- ---- a file that is read whole

-- the bytes that are read are bytes
abbrev pub GivesWhole : WholeSaid → Type 0
GivesWhole said = SaysBytes AreBytes said

file-bytes : (files : List NamedBytes) (name : List ℕ) → AreFiles files → IfSome (find_file files name) AreBytes
file-bytes [] name all = tt
file-bytes (f ∷ files) name all =
    cond_both (bytes_eq f.0 name) (Some f.1) (find_file files name) (λ (o : Option (List ℕ)). IfSome o AreBytes) (λ _. all.0) (λ _. file-bytes files name all.1)

pub whole-bytes : (failing : List FileCall) (name : List ℕ) (files : List NamedBytes) → AreFiles files → GivesWhole (whole_act failing name files).0
whole-bytes failing name files all = whole-says AreBytes failing name files (file-bytes files name all)

-- ---- LOAD

tape-valid : (r : Result Tape LoadFault) (m : MachineState) → IsTapeInRange r → ValidMachine m → ValidMachine (tape_machine r m)
tape-valid (Ok says) m range is =
    let memory = put_all m.processor.memory says.stores in
    starting-valid says.start (with_memory m memory) range.1
    (memory-valid m memory is (stored-memory m.processor.memory says.stores is.memory range.0) (subst IsSize (sym (put_all-size says.stores m.processor.memory)) is.size))
tape-valid (Err fault) m range is = is

tape-leaves : (r : Result Tape LoadFault) (m : MachineState) → LeavesRest m (tape_machine r m)
tape-leaves (Ok says) m =
    let memory = put_all m.processor.memory says.stores in
    leaves-both m (with_memory m memory) (starting_at says.start (with_memory m memory)) (record { time = refl; taken = refl; kinds = refl; slots = refl; disk = refl; lines = refl }) (starting-leaves says.start (with_memory m memory))
tape-leaves (Err fault) m = record { time = refl; taken = refl; kinds = refl; slots = refl; disk = refl; lines = refl }

pub loaded-valid : (said : WholeSaid) (m : MachineState) → GivesWhole said → ValidMachine m → ValidMachine (loaded_machine said m)
loaded-valid (WholeIs bytes) m gives is = tape-valid (tape_in m bytes) m (tape-in_range m.processor.memory.size bytes gives) is
loaded-valid NotThere m gives is = is
loaded-valid TooLong m gives is = is
loaded-valid CallFailed m gives is = is

pub loaded-leaves : (said : WholeSaid) (m : MachineState) → LeavesRest m (loaded_machine said m)
loaded-leaves (WholeIs bytes) m = tape-leaves (tape_in m bytes) m
loaded-leaves NotThere m = record { time = refl; taken = refl; kinds = refl; slots = refl; disk = refl; lines = refl }
loaded-leaves TooLong m = record { time = refl; taken = refl; kinds = refl; slots = refl; disk = refl; lines = refl }
loaded-leaves CallFailed m = record { time = refl; taken = refl; kinds = refl; slots = refl; disk = refl; lines = refl }

-- ---- a file that is written whole

closed-files : (said : WriteSaid) (failing : List FailingCall) (met : ℕ) (files : List NamedBytes) → (closed_act said failing met files).files ≡ files
closed-files said [] met files = refl
closed-files said ((Closing, done) ∷ failing) met files = refl
closed-files said ((call, done) ∷ failing) met files = refl

files-closed : (said : WriteSaid) (failing : List FailingCall) (met : ℕ) (files : List NamedBytes) → AreFiles files → AreFiles (closed_act said failing met files).files
files-closed said failing met files all = subst AreFiles (sym (closed-files said failing met files)) all

files-made : (failing : List FailingCall) (name piece : List ℕ) (files : List NamedBytes) → AreBytes piece → AreFiles files → AreFiles (made_act failing name piece files).files
files-made [] name piece files bytes all = files-closed AllWritten [] 0 (with_file files name piece) (files-with files name piece bytes all)
files-made ((Write, done) ∷ failing) name piece files bytes all = files-closed WriteFailed failing 1 (with_file files name (take done piece)) (files-with files name (take done piece) (bytes-take done piece bytes) all)
files-made ((call, done) ∷ failing) name piece files bytes all = files-closed AllWritten ((call, done) ∷ failing) 0 (with_file files name piece) (files-with files name piece bytes all)

pub written-files : (failing : List FailingCall) (name piece : List ℕ) (files : List NamedBytes) → AreBytes piece → AreFiles files → AreFiles (write_act failing name piece files).files
unfolding write_act
written-files [] name piece files bytes all = files-made [] name piece files bytes all
written-files ((Opening, done) ∷ failing) name piece files bytes all = all
written-files ((call, done) ∷ failing) name piece files bytes all = files-made ((call, done) ∷ failing) name piece files bytes all

-- ---- the marks of the disk's pages stay

value-marks : (m : MachineState) (place : Place) (v : ℕ) → (with_value v m place).aside ≡ m.aside
value-marks m (Cell a) v = refl
value-marks m (Register r) v = by-register r
  where
    by-register : (r : CpuReg) → (with_register m r v).aside ≡ m.aside
    by-register Ac0 = refl
    by-register Ac1 = refl
    by-register Ac2 = refl
    by-register Ac3 = refl
    by-register C = refl
    by-register Pc = refl
    by-register Ion = refl
    by-register Hold = refl
    by-register Mask = refl
    by-register Sr = refl
    by-register StopDev = refl
    by-register Size = refl
value-marks m (UnitRegister kind i) v = refl

filled-marks : (m : MachineState) (v : ℕ) (places : List Place) → (filled v m places).aside ≡ m.aside
unfolding filled
filled-marks m v [] = refl
filled-marks m v (p ∷ more) = filled-marks (with_value v m p) v more ∙ value-marks m p v

pub deposited-marks : (m : MachineState) (l : Listing) (v : ℕ) → (deposited m l v).aside ≡ m.aside
unfolding deposited
deposited-marks m l v = filled-marks m v (all_places (shape_of m) l.device l.items)

pub reset-marks : (m : MachineState) → (reset_machine m).aside ≡ m.aside
unfolding reset_machine reset_devices
reset-marks m = refl

starting-marks : (address : Option ℕ) (m : MachineState) → (starting_at address m).aside ≡ m.aside
starting-marks None m = refl
starting-marks (Some a) m = refl

pub started-marks : (resets : Bool) (address : Option ℕ) (m : MachineState) → (starting_at address (reset_where resets m)).aside ≡ m.aside
started-marks true address m = starting-marks address (reset_machine m) ∙ reset-marks m
started-marks false address m = starting-marks address m

tape-marks : (r : Result Tape LoadFault) (m : MachineState) → (tape_machine r m).aside ≡ m.aside
tape-marks (Ok says) m = starting-marks says.start (with_memory m (put_all m.processor.memory says.stores))
tape-marks (Err fault) m = refl

pub loaded-marks : (said : WholeSaid) (m : MachineState) → (loaded_machine said m).aside ≡ m.aside
loaded-marks (WholeIs bytes) m = tape-marks (tape_in m bytes) m
loaded-marks NotThere m = refl
loaded-marks TooLong m = refl
loaded-marks CallFailed m = refl
