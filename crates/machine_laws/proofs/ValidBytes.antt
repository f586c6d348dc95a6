-- Bytes stay bytes, in a list and in files.
use Rattle.std.proofs.Common.{ℕ, zero, suc, ◌+◌, ◌-◌, ◌<◌, ◌^◌, List, [], ◌∷◌, ◌++◌, length, take, drop, replicate, slice_index, Option, unwrap_or, Some, arith}
use Rattle.std.specs.Prelude.{bytes_eq}
use Rattle.std.specs.List.{AllByRecursion}
use Rattle.std.specs.Int.{w32, to_le_bytes}
use Rattle.std.proofs.lemmas.Bool.{cond_both}
use Rattle.file_traits.specs.Lists.{NamedBytes, filled, overwritten, resized, find_file, bytes_of, with_file, changed}
use Rattle.unit_trait.specs.declared.calls.Want.{Want}
use Rattle.unit_trait.specs.declared.calls.Want.TheVariants as want
use Rattle.nova_machine.specs.Valid.{AreBytes}
use Rattle.nova_machine.proofs.Each.{every-append, every-take, every-drop, every-replicate}

-- ---- bytes

-- the one at a place, where a place past the end has 0
pub byte-low : (bytes : List ℕ) (n : ℕ) → AreBytes bytes → slice_index bytes n < 2 ^ 8
byte-low [] n all = omega arith
byte-low (b ∷ bytes) zero all = all.0
byte-low (b ∷ bytes) (suc n) all = byte-low bytes n all.1

abbrev pub IsByte : ℕ → Type 0
IsByte b = b < 2 ^ 8

-- a unit that prints prints a byte
abbrev pub PrintsByte : Want → Type 0
PrintsByte (want.Console byte) = byte < 2 ^ 8
PrintsByte w = Unit {0}

pub bytes-append : (xs ys : List ℕ) → AreBytes xs → AreBytes ys → AreBytes (xs ++ ys)
bytes-append xs ys first second = every-append IsByte xs ys first second

pub bytes-take : (n : ℕ) (xs : List ℕ) → AreBytes xs → AreBytes (take n xs)
bytes-take n xs all = every-take IsByte n xs all

pub bytes-drop : (n : ℕ) (xs : List ℕ) → AreBytes xs → AreBytes (drop n xs)
bytes-drop n xs all = every-drop IsByte n xs all

pub bytes-zeros : (n : ℕ) → AreBytes (replicate n 0)
bytes-zeros n = every-replicate IsByte n 0 (omega arith)

-- the bytes of a word of 32 bits
pub bytes-word : (word : ℕ) → AreBytes (to_le_bytes w32 word)
bytes-word word = (omega arith, (omega arith, (omega arith, (omega arith, tt))))

bytes-filled : (bytes : List ℕ) (place : ℕ) → AreBytes bytes → AreBytes (filled bytes place)
bytes-filled bytes place all = bytes-append bytes (replicate (place - length bytes) 0) all (bytes-zeros (place - length bytes))

pub bytes-resized : (bytes : List ℕ) (n : ℕ) → AreBytes bytes → AreBytes (resized bytes n)
bytes-resized bytes n all = bytes-take n (filled bytes n) (bytes-filled bytes n all)

pub bytes-overwritten : (bytes : List ℕ) (place : ℕ) (piece : List ℕ) → AreBytes bytes → AreBytes piece → AreBytes (overwritten bytes place piece)
bytes-overwritten bytes place [] all new = all
bytes-overwritten bytes place (b ∷ piece) all new =
    bytes-append (take place (filled bytes place) ++ (b ∷ piece)) (drop (place + length (b ∷ piece)) bytes)
    (bytes-append (take place (filled bytes place)) (b ∷ piece) (bytes-take place (filled bytes place) (bytes-filled bytes place all)) new)
    (bytes-drop (place + length (b ∷ piece)) bytes all)

-- ---- files

abbrev pub AreFiles : List NamedBytes → Type 0
AreFiles files = AllByRecursion (λ (f : NamedBytes). AreBytes f.1) files

pub files-found : (files : List NamedBytes) (name : List ℕ) → AreFiles files → AreBytes (bytes_of files name)
files-found [] name all = tt
files-found (f ∷ files) name all =
    cond_both (bytes_eq f.0 name) (Some f.1) (find_file files name) (λ (o : Option (List ℕ)). AreBytes (unwrap_or o [])) (λ _. all.0) (λ _. files-found files name all.1)

pub files-changed : (files : List NamedBytes) (name : List ℕ) (step : List ℕ → List ℕ) → ((bytes : List ℕ) → AreBytes bytes → AreBytes (step bytes))
    → AreFiles files → AreFiles (changed files name step)
files-changed [] name step keeps all = tt
files-changed (f ∷ files) name step keeps all =
    cond_both (bytes_eq f.0 name) ((f.0, step f.1) ∷ files) (f ∷ changed files name step) AreFiles (λ _. (keeps f.1 all.0, all.1)) (λ _. (all.0, files-changed files name step keeps all.1))

pub files-with : (files : List NamedBytes) (name bytes : List ℕ) → AreBytes bytes → AreFiles files → AreFiles (with_file files name bytes)
files-with [] name bytes new all = (new, tt)
files-with (f ∷ files) name bytes new all =
    cond_both (bytes_eq f.0 name) ((f.0, bytes) ∷ files) (f ∷ with_file files name bytes) AreFiles (λ _. (new, all.1)) (λ _. (all.0, files-with files name bytes new all.1))
