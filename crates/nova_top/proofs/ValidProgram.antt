-- The session that the program begins is what every session is, and what is left is in range.
use Rattle.std.proofs.Common.{◌≡◌, inl, inr, ℕ, zero, suc, ◌+◌, ◌^◌, ◌<◌, ◌≤◌, ◌&&◌, ◌==◌, nat_lt, nat_le, Bool, true, false, List, [], ◌∷◌, ◌++◌, length, take, drop, map, Option, Some, None, IfSome, option_map, unwrap_or, Result, Ok, Err, if◌then◌else◌, refl, sym, subst, ◌∙◌, ap, arith, length-take, replicate}
use Rattle.std.specs.List.{AllByRecursion, list_all, position}
use Rattle.std.specs.Option.{option_and_then}
use Rattle.std.proofs.lemmas.Bool.{and_parts, ltb-true}
use Rattle.std.proofs.lemmas.List.{length-map}
use Rattle.nova_word.specs.Numbers.{number_read}
use Rattle.nova_word.specs.Quoted.{quoted_read}
use Rattle.nova_memory.specs.Memory.{MemoryState, IsMemory, IsSize, put}
use Rattle.nova_memory.proofs.Keeps.{put-memory}
use Rattle.nova_memory.proofs.Chains.{put-size}
use Rattle.file_traits.specs.Lists.{NamedBytes}
use Rattle.file_commands.specs.declared.note.Subject.TheVariants as subject
use Rattle.file_commands.specs.Notes.{Note}
use Rattle.whole_files.specs.Whole.{WholeSaid, WholeIs}
use Rattle.whole_files.specs.Whole as whole
use Rattle.expect_actions.specs.KeysFile.{Key, KeysLine, keys_of, time_read, says_read, line_read, next_read, keys_from, keys_read, lines_of, most_keys, IsAnswer}
use Rattle.expect_actions.proofs.AnswerLemmas.{computed_answers}
use Rattle.host_lines.specs.Traffic.{Peer, Gone, Ahead}
use Rattle.telnet_lines.specs.Line.{LineOf, unconnected, renamed}
use Rattle.unit_files.specs.Attachments.{Held}
use Rattle.unit_trait.specs.declared.kind.Kind.TheVariants.{Qty}
use Rattle.unit_trait.specs.Calls.{UnitState}
use Rattle.nova_machine.specs.Machine.{MachineState, line_count, lines_for, place_of as line_place, reset_devices, reset_machine, new_machine}
use Rattle.nova_machine.specs.Seen.{unnumbered, erased}
use Rattle.nova_machine.specs.Valid.{AreBytes, HasByteName, ValidMachine, ValidLine, DiskIsItsFile}
use Rattle.machine_laws.proofs.StayingValid.{runs-stay-valid, kinds-begin}
use Rattle.machine_laws.proofs.ValidBytes.{AreFiles}
use Rattle.nova_machine.proofs.Each.{every-append, every-take, every-drop}
use Rattle.terminal_ports.specs.Ports.{HaveNone, HavePortsFrom, AreNumbered}
use Rattle.state_transfer.specs.SavedValid.{AreStandard}
use Rattle.command_session.proofs.PortLemmas.{apart-free}
use Rattle.command_laws.specs.Valid.{IsProgramMachine}
use Rattle.command_laws.proofs.OwnLines.{same-many, standard-by}
use Rattle.command_laws.proofs.ValidWatch.{read-bytes}
use Rattle.command_laws.proofs.ValidMachines.{GivesWhole, whole-bytes, memory-valid}
use Rattle.unit_list.specs.Bus.{kinds_of}
use Rattle.unit_list.proofs.Resets.{reset-kinds}
use Rattle.session_texts.specs.Scripts.{Script}
use Rattle.script_laws.specs.Valid.{ValidScript}
use Rattle.command_words.specs.declared.options.Options.{Options}
use Rattle.command_words.specs.Standard.{standard_kinds, standard_units, all_units, IsStandard}
use Rattle.command_words.specs.Words.{keys_name, script_name, script_words, options_of}
use Rattle.program_start.specs.Workload.{next_number, words_behind, with_words, loop_words, count_words, filled, with_workload, workload_text, first_text}
use Rattle.program_start.specs.Start as starting
use Rattle.nova_top.specs.Outside.{first_scripts, first_live, session_with}
use Rattle.program_start.specs.Start.{calls_on, word_file, Denial, or_bad_keys, taken_keys, script_from, taken_script, Start, Refused, Begins, start_by, start_of}
use Rattle.nova_top.specs.Valid.{AreHandedBytes, IsGoodOpening}
use Rattle.nova_top.proofs.PortLemmas.{begins-free}
use Rattle.command_words.proofs.WordsLemmas.{IsLimit, words-fit}

-- ---- keys

abbrev KeyByte : ℕ × ℕ → Type 0
KeyByte key = key.1 < 2 ^ 8

abbrev SaysBytes : KeysLine → Type 0
SaysBytes says = AreBytes says.1

said-bytes : (time : Option ℕ) (quoted : Option (List ℕ × List ℕ)) → IfSome quoted (λ read. AreBytes read.0) → IfSome (says_read time quoted) SaysBytes
said-bytes None quoted bytes = tt
said-bytes (Some time) None bytes = tt
said-bytes (Some time) (Some (text, [])) bytes = bytes
said-bytes (Some time) (Some (text, b ∷ more)) bytes = tt

line-says : (line : List ℕ) → IfSome (line_read line) SaysBytes
unfolding line_read
line-says line = by-place (position (λ b. b == 32) line)
  where
    by-place : (o : Option ℕ) → IfSome (option_and_then (λ n. says_read (time_read (number_read 10 (2 ^ 63) (take n line))) (quoted_read (drop (n + 1) line))) o) SaysBytes
    by-place None = tt
    by-place (Some n) = said-bytes (time_read (number_read 10 (2 ^ 63) (take n line))) (quoted_read (drop (n + 1) line)) (read-bytes (drop (n + 1) line))

next-says : (time count : ℕ) (line : List ℕ) → IfSome (next_read time count line) SaysBytes
unfolding next_read
next-says time count line = by-line (line_read line) (line-says line)
  where
    by-test : (b : Bool) (says : KeysLine) → SaysBytes says → IfSome (if b then Some says else None) SaysBytes
    by-test true says bytes = bytes
    by-test false says bytes = tt

    by-line : (o : Option KeysLine) → IfSome o SaysBytes
        → IfSome (option_and_then (λ says. if nat_le time says.0 && nat_le (count + length says.1) most_keys then Some says else None) o) SaysBytes
    by-line None bytes = tt
    by-line (Some says) bytes = by-test (nat_le time says.0 && nat_le (count + length says.1) most_keys) says bytes

timed-keys : (time : ℕ) (text : List ℕ) → AreBytes text → AllByRecursion KeyByte (map (λ b. (time, b)) text)
timed-keys time [] bytes = tt
timed-keys time (b ∷ text) bytes = (bytes.0, timed-keys time text bytes.1)

abbrev GivesKeys : Result (List Key) ℕ → Type 0
GivesKeys (Ok keys) = AllByRecursion KeyByte keys
GivesKeys (Err place) = Unit {0}

from-keys : (time : ℕ) (keys : List Key) (place : ℕ) (lines : List (List ℕ)) → AllByRecursion KeyByte keys → GivesKeys (keys_from time keys place lines)
unfolding keys_from
from-keys time keys place [] all = all
from-keys time keys place (line ∷ others) all =
    by-says (next_read time (length keys) line) (next-says time (length keys) line)
    (λ says bytes. from-keys says.0 (keys ++ keys_of says) (place + length line + 1) others (every-append KeyByte keys (keys_of says) all (timed-keys says.0 says.1 bytes)))
  where
    by-says : (o : Option KeysLine) → IfSome o SaysBytes
        → ((says : KeysLine) → SaysBytes says → GivesKeys (keys_from says.0 (keys ++ keys_of says) (place + length line + 1) others))
        → GivesKeys (elim o [
          | None ↦ Err place
          | Some says ↦ keys_from says.0 (keys ++ keys_of says) (place + length line + 1) others
        ])
    by-says None bytes more = tt
    by-says (Some says) bytes more = more says bytes

bytes-read : (bytes : List ℕ) → GivesKeys (keys_read bytes)
unfolding keys_read
bytes-read bytes = from-keys 0 [] 0 (lines_of bytes) tt

-- of bytes, and no more of them than a session takes
abbrev GoodKeys : List Key → Type 0
GoodKeys keys = AllByRecursion KeyByte keys × (length keys ≤ most_keys)

abbrev GivesGood : Result (List Key) ℕ → Type 0
GivesGood (Ok keys) = GoodKeys keys
GivesGood (Err place) = Unit {0}

good-answer : (bytes : List ℕ) (r : Result (List Key) ℕ) → GivesKeys r → IsAnswer bytes r → GivesGood r
good-answer bytes (Ok keys) gives is = (gives, subst (λ (l : List Key). length l ≤ most_keys) (sym is.give) is.kept.few)
good-answer bytes (Err place) gives is = tt

read-keys : (bytes : List ℕ) → GivesGood (keys_read bytes)
read-keys bytes = good-answer bytes (keys_read bytes) (bytes-read bytes) (computed_answers bytes)

-- ---- how it starts

abbrev HasBytes : Option (List ℕ) → Type 0
HasBytes script = IfSome script AreBytes

-- a limit and a budget in range, few enough keys, and keys and a script of bytes
abbrev pub IsGoodStart : Start → Type 0
IsGoodStart (Refused status text) = Unit {0}
IsGoodStart (Begins options keys script) = (options.budget ≤ 2 ^ 32) × IsLimit options.limit × GoodKeys keys × HasBytes script

abbrev AreKeys : Result (List Key) Denial → Type 0
AreKeys (Ok keys) = GoodKeys keys
AreKeys (Err denial) = Unit {0}

abbrev IsScript : Result (Option (List ℕ)) Denial → Type 0
IsScript (Ok script) = HasBytes script
IsScript (Err denial) = Unit {0}

or-keys : (r : Result (List Key) ℕ) → GivesGood r → AreKeys (or_bad_keys r)
or-keys (Ok keys) gives = gives
or-keys (Err place) gives = tt

keys-said : (name : List ℕ) (said : WholeSaid) → AreKeys (starting.keys_from name said)
keys-said name (WholeIs bytes) = or-keys (keys_read bytes) (read-keys bytes)
keys-said name whole.NotThere = tt
keys-said name whole.TooLong = tt
keys-said name whole.CallFailed = tt

keys-taken : (name : Option (List ℕ)) (files : List NamedBytes) (notes : List Note) → AreKeys (taken_keys name files notes).0
keys-taken None files notes = (tt, omega arith)
keys-taken (Some name) files notes = keys-said name (word_file subject.Keys name files notes).0

script-said : (name : List ℕ) (said : WholeSaid) → GivesWhole said → IsScript (script_from name said)
script-said name (WholeIs text) gives = gives
script-said name whole.NotThere gives = tt
script-said name whole.TooLong gives = tt
script-said name whole.CallFailed gives = tt

script-taken : (name : Option (List ℕ)) (files : List NamedBytes) (notes : List Note) → AreFiles files → IsScript (taken_script name files notes).0
script-taken None files notes all = tt
script-taken (Some name) files notes all = script-said name (word_file subject.Script name files notes).0 (whole-bytes (calls_on subject.Script notes) name files all)

-- bytes of a text that is written out
low-bytes : (bytes : List ℕ) → list_all (λ b. nat_lt b 256) bytes ≡ true → AreBytes bytes
low-bytes [] all = tt
low-bytes (b ∷ bytes) all = let both = and_parts (nat_lt b 256) (list_all (λ b. nat_lt b 256) bytes) all in (ltb-true b 256 both.0, low-bytes bytes both.1)

first-bytes : (workload : Option ℕ) (script : Option (List ℕ)) → HasBytes script → HasBytes (first_text workload script)
first-bytes None script bytes = bytes
first-bytes (Some number) script bytes = low-bytes workload_text refl

by-good : (options : Options) (keys : Result (List Key) Denial × ℕ) (script : Result (Option (List ℕ)) Denial × ℕ) → options.budget ≤ 2 ^ 32 → IsLimit options.limit → AreKeys keys.0 → IsScript script.0
    → IsGoodStart (start_by options keys script).0
by-good options (Err denial, used) script budget limit are is = tt
by-good options (Ok keys, used) (Err denial, more) budget limit are is = tt
by-good options (Ok keys, used) (Ok script, more) budget limit are is = (budget, limit, are, first-bytes options.workload script is)

pub good-start : (words : List (List ℕ)) (files : List NamedBytes) (notes : List Note) → AreFiles files → IsGoodStart (start_of (options_of words) words files notes).0
good-start words files notes all = by-options (options_of words) (words-fit words)
  where
    by-options : (o : Option Options) → IfSome o (λ (x : Options). (x.budget ≤ 2 ^ 32) × IsLimit x.limit) → IsGoodStart (start_of o words files notes).0
    by-options None fits = tt
    by-options (Some options) fits =
        let keys = taken_keys (keys_name words options) files notes in
        by-good options keys (taken_script (script_name words options) files (drop keys.1 notes)) fits.0 fits.1
        (keys-taken (keys_name words options) files notes) (script-taken (script_name words options) files (drop keys.1 notes) all)

-- ---- the machine

abbrev IsWord : ℕ → Type 0
IsWord w = w < 2 ^ 16

behind-words : (x count : ℕ) → AllByRecursion IsWord (words_behind x count)
unfolding words_behind
behind-words x zero = tt
behind-words x (suc count) = (omega arith, behind-words (next_number x) count)

-- a memory of the same size
record IsLike (before after : MemoryState) : Type 0 where
  memory : IsMemory after
  size : after.size ≡ before.size

words-put : (before m : MemoryState) (at : ℕ) (words : List ℕ) → IsLike before m → AllByRecursion IsWord words → IsLike before (with_words m at words)
words-put before m at [] is all = is
words-put before m at (w ∷ words) is all =
    words-put before (put m at w) (at + 1) words (record { memory = put-memory m at w is.memory all.0; size = put-size m at w ∙ is.size }) all.1

filled-like : (number : ℕ) (m : MemoryState) → IsMemory m → IsLike m (filled number m)
unfolding filled
filled-like number m is =
    let first = with_words m 0o1000 (words_behind number 4096) in
    let second = with_words first 0o11000 loop_words in
    words-put m second 0o76 count_words
    (words-put m first 0o11000 loop_words (words-put m m 0o1000 (words_behind number 4096) (record { memory = is; size = refl }) (behind-words number 4096))
    (omega arith, (omega arith, (omega arith, (omega arith, tt)))))
    (omega arith, (omega arith, tt))

workload-valid : (workload : Option ℕ) (m : MachineState) → ValidMachine m → ValidMachine (with_workload workload m)
workload-valid None m is = is
workload-valid (Some number) m is =
    let like = filled-like number m.processor.memory is.memory in
    memory-valid m (filled number m.processor.memory) is like.memory (subst IsSize (sym like.size) is.size)

erased-names : (slots : List (Option Held)) → AllByRecursion HasByteName slots → AllByRecursion HasByteName (map unnumbered slots)
erased-names [] all = tt
erased-names (None ∷ slots) all = (tt, erased-names slots all.1)
erased-names (Some h ∷ slots) all = (all.0, erased-names slots all.1)

erased-valid : (m : MachineState) → ValidMachine m → ValidMachine (erased m)
erased-valid m is = record {
  memory = is.memory;
  size = is.size;
  cpu = is.cpu;
  mask = is.mask;
  switches = is.switches;
  core = record { registers = is.core.registers; sound = is.core.sound; listed = is.core.listed; times = is.core.times };
  places = length-map m.slots unnumbered ∙ is.places;
  names = erased-names m.slots is.names;
  disk = is.disk;
}

first_machine : Option ℕ → List UnitState → MachineState
first_machine workload units = with_workload workload (new_machine units)

first-valid : (workload : Option ℕ) (units : List UnitState) → IsStandard units → ValidMachine (first_machine workload units)
unfolding first_machine
first-valid workload units (inl ten) =
    subst (λ (us : List UnitState). ValidMachine (with_workload workload (new_machine us))) (sym ten) (workload-valid workload (new_machine standard_units) (kinds-begin standard_kinds))
first-valid workload units (inr all) =
    subst (λ (us : List UnitState). ValidMachine (with_workload workload (new_machine us))) (sym all) (workload-valid workload (new_machine all_units) (kinds-begin (standard_kinds ++ Qty ∷ [])))

first-standard : (units : List UnitState) → IsStandard units → AreStandard units
first-standard units (inl ten) = inl (ap kinds_of ten)
first-standard units (inr all) = inr (ap kinds_of all)

empty-line : ValidLine (unconnected None)
empty-line = record { port = tt; nothing = λ none. refl; keys = tt; output = tt; few_keys = omega arith; few_bytes = omega arith }

none-seen : (lines : List (LineOf ℕ)) → HaveNone lines → HaveNone (map (renamed {Q = Peer} (λ _. Gone)) lines)
none-seen [] none = tt
none-seen (line ∷ lines) none = (none.0, none-seen lines none.1)

-- no time has passed, no key is taken, no file is attached, and no line has a port
record IsFresh (m : MachineState) : Type 0 where
  time : m.time ≡ 0
  taken : m.taken ≡ 0
  disk : (files : List NamedBytes) (keys : List Key) (ahead : Ahead) → DiskIsItsFile (first_live m keys files ahead)
  lines : AllByRecursion ValidLine (map (renamed {Q = Peer} (λ _. Gone)) m.lines)
  own : IsProgramMachine (erased m)
  count : length m.lines ≡ length (lines_for m.units)
  free : HaveNone m.lines
  numbered : AreNumbered (drop (line_place 1) (map (renamed {Q = Peer} (λ _. Gone)) m.lines))

-- lines without a port, behind which nobody is
abbrev free_lines : ℕ → List (LineOf Peer)
free_lines n = map (renamed {P = ℕ} (λ _. Gone)) (replicate {A = LineOf ℕ} n (unconnected None))

free-valid : (n : ℕ) → AllByRecursion ValidLine (free_lines n)
free-valid zero = tt
free-valid (suc n) = (empty-line, free-valid n)

free-ports : (n : ℕ) → HavePortsFrom None (free_lines n)
free-ports zero = tt
free-ports (suc n) = (refl, free-ports n)

free-numbered : (n : ℕ) → AreNumbered (free_lines n)
free-numbered zero = tt
free-numbered (suc n) = free-ports n

numbered-behind : (n : ℕ) → AreNumbered (drop 1 (free_lines n))
numbered-behind zero = tt
numbered-behind (suc n) = free-numbered n

first-fresh : (workload : Option ℕ) (units : List UnitState) → IsStandard units → IsFresh (first_machine workload units)
unfolding first_machine new_machine reset_machine reset_devices
first-fresh None units is = record {
  time = refl;
  taken = refl;
  disk = λ files keys ahead. refl;
  lines = free-valid (suc (line_count units));
  own = record { units = standard-by units _ (reset-kinds units) (first-standard units is); numbers = refl; aside = refl; lines = refl };
  count = same-many units _ (sym (reset-kinds units));
  free = begins-free (suc (line_count units));
  numbered = numbered-behind (line_count units);
}
first-fresh (Some number) units is = record {
  time = refl;
  taken = refl;
  disk = λ files keys ahead. refl;
  lines = free-valid (suc (line_count units));
  own = record { units = standard-by units _ (reset-kinds units) (first-standard units is); numbers = refl; aside = refl; lines = refl };
  count = same-many units _ (sym (reset-kinds units));
  free = begins-free (suc (line_count units));
  numbered = numbered-behind (line_count units);
}

-- ---- the session

words-bytes : (words : List (List ℕ)) (options : Options) → AllByRecursion AreBytes words → AllByRecursion AreBytes (script_words words options)
words-bytes words options all = by-script options.script
  where
    by-script : (o : Option ℕ) → AllByRecursion AreBytes (unwrap_or (option_map (λ (place : ℕ). drop place words) o) [])
    by-script None = tt
    by-script (Some place) = every-drop AreBytes place words all

-- the scripts with which it begins
record AreFirst (scripts : List Script) : Type 0 where
  few : length scripts ≤ 10
  each : AllByRecursion ValidScript scripts

first-script : (script : Option (List ℕ)) (words : List (List ℕ)) → HasBytes script → AllByRecursion AreBytes words → AreFirst (first_scripts script words)
first-script None words bytes all = record { few = omega arith; each = tt }
first-script (Some text) words bytes all =
    let many = length-take 10 words in
    record {
      few = omega arith;
      each = (record { text = bytes; place = omega arith; few = omega (arith, many); arguments = every-take AreBytes 10 words all }, tt);
    }

pub opening-good : (units : List UnitState) (words : List (List ℕ)) (options : Options) (keys : List Key) (script : Option (List ℕ)) (files : List NamedBytes) (ahead : Ahead) (input : List ℕ) (notes : List Note)
    → IsStandard units → AreHandedBytes words input files ahead → IsGoodStart (Begins options keys script) → IsGoodOpening units words options keys script files ahead input notes
unfolding session_with first_machine
opening-good units words options keys script files ahead input notes standard handed good =
    let m = first_machine options.workload units in
    let fresh = first-fresh options.workload units standard in
    let first = first-script script (script_words words options) good.3 (words-bytes words options handed.each_word) in
    let taken = fresh.taken in
    let time = fresh.time in
    let budget = good.0 in
    record {
      valid = record {
        live = record {
          valid = record {
            machine = erased-valid m (first-valid options.workload units standard);
            watch = runs-stay-valid.nothing_watched;
            taken = omega (arith, taken);
            known = good.2.1;
            keys = good.2.0;
            files = handed.each_file;
            lines = fresh.lines;
            ahead = handed.comes;
          };
          time = omega (arith, time);
          machine = fresh.own;
          count = length-map m.lines (renamed {Q = Peer} (λ _. Gone)) ∙ fresh.count;
          ports = apart-free (map (renamed {Q = Peer} (λ _. Gone)) m.lines) (none-seen m.lines fresh.free);
          numbered = fresh.numbered;
        };
        texts = record { few = omega arith; actions = tt; open_ = first.few; scripts = first.each };
        input = handed.read;
        least = good.1.0;
        limit = good.1.1;
        budget = omega (arith, budget);
        spent = omega arith;
      };
      disk = fresh.disk files keys ahead;
    }

-- ---- the session that the program begins

pub program-begins-valid : (units : List UnitState) (words : List (List ℕ)) (input : List ℕ) (files : List NamedBytes) (ahead : Ahead) (notes more : List Note)
    (options : Options) (keys : List Key) (script : Option (List ℕ)) → IsStandard units → AreHandedBytes words input files ahead
    → (start_of (options_of words) words files notes).0 ≡ Begins options keys script
    → IsGoodOpening units words options keys script files ahead input more
program-begins-valid units words input files ahead notes more options keys script standard handed is =
    opening-good units words options keys script files ahead input more standard handed (subst IsGoodStart is (good-start words files notes handed.each_file))
