-- An operation on a tape leaves bytes in the files and words in memory, and the tape at a place that its register can hold.
use Rattle.std.proofs.Common.{ℕ, ◌+◌, ◌%◌, ◌==◌, ◌&&◌, ◌≤◌, nat_le, min, Bool, true, false, List, [], ◌++◌, length, take, drop, replicate, Option, Some, None, Result, Ok, Err, arith, if◌then◌else◌}
use Rattle.std.proofs.lemmas.Bool.{cond_both, leb-true}
use Rattle.file_traits.specs.declared.files.FileCall.{FileCall}
use Rattle.file_traits.specs.declared.files.FileCall.TheVariants.{Write}
use Rattle.file_traits.specs.Lists.{NamedBytes, bytes_of, changed, resized}
use Rattle.file_traits.specs.OneList.{longest_list, shown}
use Rattle.nova_memory.specs.Memory.{MemoryState, IsMemory}
use Rattle.unit_trait.specs.declared.calls.TapeEnd.{TapeEnd}
use Rattle.unit_trait.specs.declared.calls.TapeEnd.TheVariants as ends
use Rattle.unit_trait.specs.declared.calls.TapeOrder.{TapeOrder}
use Rattle.unit_trait.specs.declared.calls.Got.{Got}
use Rattle.unit_trait.specs.declared.calls.Got.TheVariants as got
use Rattle.unit_files.specs.Attachments.{Attachment}
use Rattle.unit_files.specs.Acts.{Failure}
use Rattle.simh_tape.specs.declared.spacing.Spaced.{Spaced}
use Rattle.simh_tape.specs.declared.items.TapeFault.{TapeFault}
use Rattle.simh_tape.specs.declared.items.TapeFault.TheVariants.{BadImage, Failed}
use Rattle.simh_tape.specs.Image.{Met, next}
use Rattle.simh_tape.specs.Image.Met.{BlockTo, MarkTo, MediumEnds, AtLoadPoint, BadAt, CallFails}
use Rattle.simh_tape.specs.Reading.{next_calls, next_act}
use Rattle.simh_tape.specs.Spacing.{space_from, space_calls, space_act}
use Rattle.simh_tape.specs.Writing.{word_bytes, block_bytes, mark_bytes, after_fault}
use Rattle.simh_tape.proofs.PlaceLemmas.{shown-short, MetWithin, next-within, EndsWithin, space-within}
use Rattle.memory_transfer.specs.Tapes.{NoAnswer, FileFails, words_for, block_got, came_to, read_answer, space_answer, put_answer, failing_call, erasing_failure, writing_failure, block_written, mark_written, operation}
use Rattle.memory_transfer.specs.Tapes.{writes_tape, memory_read, item_written, image_operated}
use Rattle.nova_machine.specs.Drives.{image_of, tape_answer, tape_memory, tape_files}
use Rattle.nova_machine.specs.Valid.{AreBytes}
use Rattle.machine_laws.proofs.ValidBytes.{AreFiles, bytes-append, bytes-take, bytes-drop, bytes-zeros, bytes-word, bytes-resized, files-found, files-changed}
use Rattle.machine_laws.proofs.ValidMemory.{HasSize, memory-block, bytes-block}

-- ---- the image that is seen

bytes-shown : (bytes : List ℕ) → AreBytes bytes → AreBytes (shown bytes)
unfolding shown
bytes-shown bytes all = bytes-take longest_list bytes all

bytes-image : (a : Attachment) (files : List NamedBytes) → AreFiles files → AreBytes (image_of a files)
bytes-image a files all = bytes-shown (bytes_of files a.name) (files-found files a.name all)

-- ---- what is written

bytes-block-written : (bytes : List ℕ) → AreBytes bytes → AreBytes (block_bytes bytes)
bytes-block-written bytes all =
    let word = word_bytes (length bytes) in
    let pad : List ℕ = replicate (length bytes % 2) 0 in
    bytes-append (word ++ bytes ++ pad) word
    (bytes-append (word ++ bytes) pad (bytes-append word bytes (bytes-word (length bytes)) all) (bytes-zeros (length bytes % 2)))
    (bytes-word (length bytes))

bytes-fault : (old : List ℕ) (place : ℕ) (item : List ℕ) (call : FileCall) (done : ℕ) → AreBytes old → AreBytes item → AreBytes (after_fault old place item call done)
bytes-fault old place item Write done all new = bytes-append (resized old place) (take done item) (bytes-resized old place all) (bytes-take done item new)
bytes-fault old place item call done all new = all

bytes-item : (fault : Option Failure) (place : ℕ) (item old : List ℕ) → AreBytes item → AreBytes old → AreBytes (item_written fault place item old)
bytes-item None place item old new all =
    cond_both (nat_le (place + length item) longest_list) (resized old place ++ item) old AreBytes (λ _. bytes-append (resized old place) item (bytes-resized old place all) new) (λ _. all)
bytes-item (Some f) place item old new all =
    cond_both (nat_le (place + length item) longest_list) (after_fault old place item f.call f.done) old AreBytes (λ _. bytes-fault old place item f.call f.done all new) (λ _. all)

bytes-operated : (fault : Option Failure) (memory : MemoryState) (order : TapeOrder) (old : List ℕ) → IsMemory memory → AreBytes old → AreBytes (image_operated fault memory order old)
bytes-operated fault memory order old is all =
    let block = block_bytes (block_got order.count order.address memory) in
    let writing = item_written (writing_failure (block_written order.count) fault) order.place block old in
    let marking = item_written (writing_failure mark_written fault) order.place mark_bytes old in
    let erasing = item_written (erasing_failure fault) order.place [] old in
    cond_both (order.command == 5) writing (if order.command == 6 then marking else if order.command == 7 then erasing else old) AreBytes
    (λ _. bytes-item (writing_failure (block_written order.count) fault) order.place block old
    (bytes-block-written (block_got order.count order.address memory) (bytes-block order.count order.address memory is)) all)
    (λ _. cond_both (order.command == 6) marking (if order.command == 7 then erasing else old) AreBytes
    (λ _. bytes-item (writing_failure mark_written fault) order.place mark_bytes old (bytes-word 0) all)
    (λ _. cond_both (order.command == 7) erasing old AreBytes (λ _. bytes-item (erasing_failure fault) order.place [] old tt all) (λ _. all)))

pub files-tape : (fault : Option Failure) (a : Option Attachment) (memory : MemoryState) (files : List NamedBytes) (order : TapeOrder) → IsMemory memory → AreFiles files
    → AreFiles (tape_files fault a memory files order)
files-tape fault None memory files order is all = all
files-tape fault (Some a) memory files order is all =
    cond_both (writes_tape order && a.read_only) files (changed files a.name (image_operated fault memory order)) AreFiles (λ _. all)
    (λ _. files-changed files a.name (image_operated fault memory order) (λ old bytes. bytes-operated fault memory order old is bytes) all)

-- ---- what is read

memory-met : (image : List ℕ) (order : TapeOrder) (met : Met) (memory : MemoryState) → AreBytes image → HasSize memory → HasSize (memory_read image order met memory)
memory-met image order (BlockTo bytes flagged behind) memory all is =
    memory-block (min (words_for bytes) order.count) order.address (take bytes (drop (order.place + 4) image)) memory
    (bytes-take bytes (drop (order.place + 4) image) (bytes-drop (order.place + 4) image all)) is
memory-met image order met memory all is = is

pub memory-tape : (fault : Option Failure) (a : Option Attachment) (files : List NamedBytes) (order : TapeOrder) (memory : MemoryState) → AreFiles files → HasSize memory
    → HasSize (tape_memory fault a files order memory)
memory-tape fault None files order memory all is = is
memory-tape fault (Some a) files order memory all is =
    let image = image_of a files in
    let met = next_act image order.place (failing_call fault) in
    cond_both (order.command == 0) (memory_read image order met memory) memory HasSize (λ _. memory-met image order met memory (bytes-image a files all) is) (λ _. is)

-- ---- where the tape then stands

-- an answer of an operation: no byte, and the tape at a place on it
abbrev pub StandsOnTape : Result Got NoAnswer → Type 0
StandsOnTape (Ok (got.Tape g)) = g.place ≤ longest_list
StandsOnTape (Ok (got.Byte b)) = ⊥
StandsOnTape (Ok (got.Key b)) = ⊥
StandsOnTape result = Unit {0}

read-stands : (order : TapeOrder) (met : Met) (long : ℕ) → long ≤ longest_list → order.place ≤ longest_list → MetWithin long met → StandsOnTape (read_answer order met)
read-stands order (BlockTo bytes flagged behind) long short here within = omega arith
read-stands order (MarkTo behind) long short here within = omega arith
read-stands order MediumEnds long short here within = here
read-stands order AtLoadPoint long short here within = omega arith
read-stands order (BadAt place) long short here within = tt
read-stands order (CallFails call) long short here within = absurd within

next-stands : (image : List ℕ) (order : TapeOrder) (fault : Option FileCall) → length image ≤ longest_list → order.place ≤ longest_list
    → StandsOnTape (read_answer order (next_act image order.place fault))
next-stands image order None short here = read-stands order (next image order.place) (length image) short here (next-within image order.place)
next-stands image order (Some call) short here =
    cond_both (next_calls order.place call) (CallFails call) (next image order.place) (λ (met : Met). StandsOnTape (read_answer order met)) (λ _. tt)
    (λ _. read-stands order (next image order.place) (length image) short here (next-within image order.place))

space-stands : (result : Result Spaced TapeFault) → EndsWithin longest_list result → StandsOnTape (space_answer result)
space-stands (Ok s) within = within
space-stands (Err (BadImage place)) within = tt
space-stands (Err (Failed call)) within = tt

spaced-within : (image : List ℕ) (place count : ℕ) (forward : Bool) (fault : Option FileCall) → length image ≤ longest_list → place ≤ longest_list
    → EndsWithin longest_list (space_act image place count forward fault)
spaced-within image place count forward None short here = space-within count forward image place 0 longest_list short here
spaced-within image place count forward (Some call) short here =
    cond_both (space_calls count forward image place call) (Err (Failed call)) (space_from count forward image place 0) (EndsWithin longest_list) (λ _. tt)
    (λ _. space-within count forward image place 0 longest_list short here)

put-stands : (fault : Option Failure) (order : TapeOrder) (size : ℕ) (end : TapeEnd) (words : ℕ) → order.place ≤ longest_list → StandsOnTape (put_answer fault order size end words)
put-stands None order size end words here =
    cond_both (nat_le (order.place + size) longest_list) (Ok (got.Tape (came_to end (order.place + size) words 0))) (Ok (got.Tape (came_to ends.Medium order.place 0 0))) StandsOnTape
    (λ fits. leb-true (order.place + size) longest_list fits) (λ _. here)
put-stands (Some f) order size end words here =
    cond_both (nat_le (order.place + size) longest_list) (Err (FileFails f)) (Ok (got.Tape (came_to ends.Medium order.place 0 0))) StandsOnTape (λ _. tt) (λ _. here)

operation-stands : (fault : Option Failure) (image : List ℕ) (order : TapeOrder) → length image ≤ longest_list → order.place ≤ longest_list → StandsOnTape (operation fault image order)
operation-stands fault image order short here =
    let P : Result Got NoAnswer → Type 0 = StandsOnTape in
    let c = order.command in
    let call = failing_call fault in
    let size = block_written order.count in
    let r0 = read_answer order (next_act image order.place call) in
    let r1 : Result Got NoAnswer = Ok (got.Tape (came_to ends.Plain 0 0 0)) in
    let r3 = space_answer (space_act image order.place order.count true call) in
    let r4 = space_answer (space_act image order.place order.count false call) in
    let r5 = put_answer (writing_failure size fault) order size ends.Plain order.count in
    let r6 = put_answer (writing_failure mark_written fault) order mark_written ends.Mark 0 in
    let r7 = put_answer (erasing_failure fault) order 0 ends.Plain 0 in
    let none : Result Got NoAnswer = Ok got.Done in
    cond_both (c == 0) r0 _ P (λ _. next-stands image order call short here)
    (λ _. cond_both (c == 1) r1 _ P (λ _. omega arith)
    (λ _. cond_both (c == 3) r3 _ P (λ _. space-stands (space_act image order.place order.count true call) (spaced-within image order.place order.count true call short here))
    (λ _. cond_both (c == 4) r4 _ P (λ _. space-stands (space_act image order.place order.count false call) (spaced-within image order.place order.count false call short here))
    (λ _. cond_both (c == 5) r5 _ P (λ _. put-stands (writing_failure size fault) order size ends.Plain order.count here)
    (λ _. cond_both (c == 6) r6 _ P (λ _. put-stands (writing_failure mark_written fault) order mark_written ends.Mark 0 here)
    (λ _. cond_both (c == 7) r7 none P (λ _. put-stands (erasing_failure fault) order 0 ends.Plain 0 here) (λ _. tt)))))))

pub tape-stands : (fault : Option Failure) (a : Option Attachment) (files : List NamedBytes) (order : TapeOrder) → order.place ≤ longest_list → StandsOnTape (tape_answer fault a files order)
tape-stands fault None files order here = tt
tape-stands fault (Some a) files order here =
    cond_both (writes_tape order && a.read_only) (Ok got.ReadOnly) (operation fault (image_of a files) order) StandsOnTape (λ _. tt)
    (λ _. operation-stands fault (image_of a files) order (shown-short (bytes_of files a.name)) here)
