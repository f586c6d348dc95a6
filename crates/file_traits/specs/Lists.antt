-- The bytes of one file, and a list of files by their names.
use Rattle.std.specs.Prelude.{ℕ, ◌+◌, ◌-◌, List, [], ◌∷◌, ◌++◌, length, take, drop, replicate, Option, Some, None, unwrap_or, bytes_eq, if◌then◌else◌}

-- the bytes, with zero bytes up to a place past their end
abbrev pub filled : List ℕ → ℕ → List ℕ
filled bytes place = bytes ++ replicate (place - length bytes) 0

-- the bytes after a piece was written at a place. An empty piece changes nothing.
abbrev pub overwritten : List ℕ → ℕ → List ℕ → List ℕ
overwritten bytes place [] = bytes
overwritten bytes place (b ∷ piece) = take place (filled bytes place) ++ (b ∷ piece) ++ drop (place + length (b ∷ piece)) bytes

-- the bytes cut to a length, or filled up to it with zero bytes
abbrev pub resized : List ℕ → ℕ → List ℕ
resized bytes n = take n (filled bytes n)

-- a file: its name and its bytes
abbrev pub NamedBytes : Type 0
NamedBytes = List ℕ × List ℕ

-- the bytes of the file of this name
abbrev pub find_file : List NamedBytes → List ℕ → Option (List ℕ)
find_file [] name = None
find_file (f ∷ files) name = if bytes_eq f.0 name then Some f.1 else find_file files name

-- the bytes of the file of this name, or none
abbrev pub bytes_of : List NamedBytes → List ℕ → List ℕ
bytes_of files name = unwrap_or (find_file files name) []

-- the files with these bytes under this name
abbrev pub with_file : List NamedBytes → List ℕ → List ℕ → List NamedBytes
with_file [] name bytes = (name, bytes) ∷ []
with_file (f ∷ files) name bytes = if bytes_eq f.0 name then (f.0, bytes) ∷ files else f ∷ with_file files name bytes

-- the files with the bytes under one name changed. A name that is not there changes nothing.
abbrev pub changed : List NamedBytes → List ℕ → (List ℕ → List ℕ) → List NamedBytes
changed [] name step = []
changed (f ∷ files) name step = if bytes_eq f.0 name then (f.0, step f.1) ∷ files else f ∷ changed files name step
