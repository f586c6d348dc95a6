-- SET CPU speaks of no file's number, and leaves what is not memory.
use Rattle.std.proofs.Common.{◌≡◌, ◌∙◌, ℕ, ◌-◌, ◌*◌, ◌^◌, ◌<◌, ◌≤◌, ◌%◌, ◌==◌, ◌&&◌, nat_le, nat_lt, Bool, true, false, IsTrue, List, ◌++◌, length, take, replicate, slice_index, get_or}
use Rattle.std.proofs.Common.{refl, ap, sym, subst, if◌then◌else◌, arith}
use Rattle.std.proofs.lemmas.Bool.{and_parts, leb-true, ltb-false, lt-ltb, le-ltb}
use Rattle.std.proofs.lemmas.List.{length-take-le, get_or-take, get_or_append_left}
use Rattle.nova_memory.specs.Memory.{MemoryState, IsMemory, fits_size, get, resized}
use Rattle.file_commands.specs.Notes.{CommandNote}
use Rattle.nova_machine.specs.Machine.{MachineState}
use Rattle.command_session.specs.declared.fault.CommandFault.TheVariants.{OutOfRange}
use Rattle.command_session.specs.Live.{Live, with_machine}
use Rattle.scp_parser.specs.Command.{SetSize}
use Rattle.command_session.specs.Reply.{goes, refused}
use Rattle.plain_commands.specs.SetEffects.{sized, set_size_reply}
use Rattle.scp_commands.specs.Effect.{effect}
use Rattle.command_laws.specs.Laws.{IsSized, SetCpuLeavesTheRest}

-- ---- what SET CPU leaves

fits-most : (k : ℕ) → fits_size k ≡ true → 1024 * k ≤ 2 ^ 15
fits-most k fits =
    let within = and_parts (nat_le 4 k && nat_le k 32) (k % 4 == 0) fits in
    let most = leb-true k 32 (and_parts (nat_le 4 k) (nat_le k 32) within.0).1 in
    omega (arith, most)

-- a word below the size that is given
below-stays : (m : MemoryState) (n a : ℕ) → IsMemory m → n ≤ 2 ^ 15 → a < n → get (resized m n) a ≡ get m a
below-stays m n a is most low =
    let words = take n m.words ++ replicate (2 ^ 15 - n) 0 in
    let whole = is.whole in
    let taken : length (take n m.words) ≡ n = length-take-le n m.words (omega (arith, whole, most)) in
    ap (λ (b : Bool). if b then slice_index words a else 0) (lt-ltb a n low)
    ∙ get_or_append_left (take n m.words) (replicate (2 ^ 15 - n) 0) 0 a (omega (arith, taken, low)) ∙ get_or-take n m.words a 0 low ∙ by-size (nat_lt a m.size) refl
  where
    by-size : (b : Bool) → nat_lt a m.size ≡ b → get_or m.words a 0 ≡ (if b then slice_index m.words a else 0)
    by-size true h = refl
    by-size false h = is.beyond a (ltb-false a m.size h)

others-clear : (m : MemoryState) (n a : ℕ) → n ≤ a → get (resized m n) a ≡ 0
others-clear m n a past = ap (λ (b : Bool). if b then slice_index (take n m.words ++ replicate (2 ^ 15 - n) 0) a else 0) (le-ltb a n past)

sized-machine : (m : MachineState) (k : ℕ) → IsMemory m.processor.memory → fits_size k ≡ true → IsSized k m (sized m k)
sized-machine m k is fits = record {
  size = refl;
  below = λ a low. below-stays m.processor.memory (1024 * k) a is (fits-most k fits) low;
  others = λ a past. others-clear m.processor.memory (1024 * k) a past;
  rest = refl;
}

size-leaves : (limit : ℕ) (notes : List CommandNote) (live : Live) (k : ℕ) → IsMemory live.machine.processor.memory → IsTrue (fits_size k)
    → IsSized k live.machine (effect limit notes live (SetSize k)).after.live.machine
unfolding effect set_size_reply
size-leaves limit notes live k is fits =
    subst (λ (b : Bool). IsSized k live.machine (if b then goes (with_machine live (sized live.machine k)) else refused OutOfRange live).after.live.machine) (sym fits)
    (sized-machine live.machine k is fits)

pub set-cpu-leaves-the-rest : SetCpuLeavesTheRest
set-cpu-leaves-the-rest = size-leaves
