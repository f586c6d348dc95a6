-- A file is read piece by piece.
use Rattle.std.proofs.Common.{◌≡◌, ℕ, ◌+◌, ◌≤◌, List, ◌++◌, length, take, drop, ap, sym, ◌∙◌}
use Rattle.std.proofs.Math.Seq.{take-append-add}
use Rattle.std.proofs.lemmas.List.{take-append-drop, take-append-le, length-take-le}
use Rattle.file_traits.specs.Lists.{bytes_of}
use Rattle.file_traits.specs.State.{FileState, content, name_at}

pub next-piece : (all : List ℕ) (place count : ℕ) (buf rest : List ℕ) → place ≤ length all → count ≤ length buf
    → take count buf ≡ take count (drop place all)
    → take place all ++ take count (buf ++ rest) ≡ take (place + count) all
next-piece all place count buf rest within fits same =
    let size = length-take-le place all within in
    ap (λ (l : List ℕ). take place all ++ l) (take-append-le count buf rest fits ∙ same)
    ∙ sym (take-append-add (take place all) (drop place all) count)
    ∙ ap (λ (l : List ℕ). take (length (take place all) + count) l) (take-append-drop place all)
    ∙ ap (λ (n : ℕ). take (n + count) all) size

pub same-content : (a b : FileState) (file : ℕ) → a.files ≡ b.files → a.opened ≡ b.opened
    → content a file ≡ content b file
same-content a b file f o = λ i. bytes_of (f i) (name_at (o i) file)
