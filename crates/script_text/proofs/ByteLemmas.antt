-- What is made of a script of bytes, with arguments of bytes, is of bytes; and a label stands within it.
use Rattle.std.proofs.Common.{ℕ, zero, suc, ◌+◌, ◌-◌, ◌<◌, ◌≤◌, ◌^◌, ◌==◌, ◌&&◌, not, nat_eq, Bool, true, false, List, [], ◌∷◌, ◌++◌, length, take, slice_index, Option, Some, None, IfSome, option_map, if◌then◌else◌, subst, arith, length-append}
use Rattle.std.specs.Prelude.{slice_index_or}
use Rattle.std.specs.List.{AllByRecursion, concat}
use Rattle.std.proofs.lemmas.List.Elements.{All-from_recursion, recursion_from_All, All-append, All-take}
use Rattle.line_text.specs.Words.{is_blank}
use Rattle.script_text.specs.Arguments.{ends_word, words_of}
use Rattle.script_text.specs.Filling.{is_name, named_text, filled}
use Rattle.script_text.specs.Labels.{is_label, label_place}
use Rattle.script_text.specs.Lines.{first_line, has_lf, without_cr, command_line, with_front, lines_of}
use Rattle.script_text.proofs.LawLemmas.{lines_whole}

abbrev IsByte : ℕ → Type 0
IsByte b = b < 2 ^ 8

abbrev AreBytes : List ℕ → Type 0
AreBytes bytes = AllByRecursion (λ (b : ℕ). b < 2 ^ 8) bytes

bytes_taken : (n : ℕ) (bytes : List ℕ) → AreBytes bytes → AreBytes (take n bytes)
bytes_taken n bytes all = recursion_from_All IsByte (take n bytes) (All-take IsByte n bytes (All-from_recursion IsByte bytes all))

bytes_both : (xs ys : List ℕ) → AreBytes xs → AreBytes ys → AreBytes (xs ++ ys)
bytes_both xs ys first second =
    recursion_from_All IsByte (xs ++ ys) (All-append IsByte xs ys (All-from_recursion IsByte xs first) (All-from_recursion IsByte ys second))

bytes_if : (b : Bool) (xs ys : List ℕ) → AreBytes xs → AreBytes ys → AreBytes (if b then xs else ys)
bytes_if true xs ys first second = first
bytes_if false xs ys first second = second

-- ---- lines

first_bytes : (script : List ℕ) → AreBytes script → AreBytes (first_line script)
first_bytes script all = bytes_taken _ script all

without_cr_bytes : (line : List ℕ) → AreBytes line → AreBytes (without_cr line)
without_cr_bytes line all =
    bytes_if (not (nat_eq (length line) 0) && slice_index line (length line - 1) == 13) (take (length line - 1) line) line (bytes_taken (length line - 1) line all) all

pub line_bytes : (script : List ℕ) → AreBytes script → AreBytes (command_line script)
line_bytes script all =
    let first = first_bytes script all in
    bytes_if (has_lf script) (without_cr (first_line script)) (first_line script) (without_cr_bytes (first_line script) first) first

-- ---- arguments

fronted_bytes : (b : ℕ) (words : List (List ℕ)) → b < 2 ^ 8 → AllByRecursion AreBytes words → AllByRecursion AreBytes (with_front b words)
fronted_bytes b [] byte all = ((byte, tt), tt)
fronted_bytes b (word ∷ words) byte all = ((byte, all.0), all.1)

words_if : (b : Bool) (xs ys : List (List ℕ)) → AllByRecursion AreBytes xs → AllByRecursion AreBytes ys → AllByRecursion AreBytes (if b then xs else ys)
words_if true xs ys first second = first
words_if false xs ys first second = second

pub words_bytes : (text : List ℕ) → AreBytes text → AllByRecursion AreBytes (words_of text)
unfolding words_of
words_bytes [] all = tt
words_bytes (b ∷ rest) all =
    let more = words_bytes rest all.1 in
    words_if (is_blank b) (words_of rest) _ more
    (words_if (ends_word rest) ((b ∷ []) ∷ words_of rest) (with_front b (words_of rest)) ((all.0, tt), more) (fronted_bytes b (words_of rest) all.0 more))

-- ---- filled lines

at_bytes : (arguments : List (List ℕ)) (n : ℕ) → AllByRecursion AreBytes arguments → AreBytes (slice_index_or arguments n [])
at_bytes [] n all = tt
at_bytes (a ∷ arguments) zero all = all.0
at_bytes (a ∷ arguments) (suc n) all = at_bytes arguments n all.1

named_bytes : (arguments : List (List ℕ)) (b : ℕ) → AllByRecursion AreBytes arguments → AreBytes (named_text arguments b)
named_bytes arguments b all = bytes_if (b == 37) (37 ∷ []) (slice_index_or arguments (b - 48) []) (omega arith, tt) (at_bytes arguments (b - 48) all)

pub filled_bytes : (arguments : List (List ℕ)) (line : List ℕ) → AllByRecursion AreBytes arguments → AreBytes line → AreBytes (filled arguments line)
unfolding filled
filled_bytes arguments [] given all = tt
filled_bytes arguments (a ∷ []) given all = (all.0, tt)
filled_bytes arguments (a ∷ b ∷ rest) given all =
    bytes_if (a == 37 && is_name b) (named_text arguments b ++ filled arguments rest) (a ∷ filled arguments (b ∷ rest))
    (bytes_both (named_text arguments b) (filled arguments rest) (named_bytes arguments b given) (filled_bytes arguments rest given all.1.1))
    (all.0, filled_bytes arguments (b ∷ rest) given all.1)

-- ---- labels

place_within : (label : List ℕ) (lines : List (List ℕ)) → IfSome (label_place label lines) (λ (place : ℕ). place ≤ length (concat lines))
unfolding label_place
place_within label [] = tt
place_within label (line ∷ lines) = by_test (is_label label line) (label_place label lines) (place_within label lines)
  where
    by_test : (b : Bool) (later : Option ℕ) → IfSome later (λ (place : ℕ). place ≤ length (concat lines))
        → IfSome (if b then Some 0 else option_map (λ place. length line + place) later) (λ (place : ℕ). place ≤ length (line ++ concat lines))
    by_test true later within = omega arith
    by_test false None within = tt
    by_test false (Some place) within = let both = length-append line (concat lines) in omega (arith, both, within)

-- the place of a label is one of the script
pub label_within : (label script : List ℕ) → IfSome (label_place label (lines_of script)) (λ (place : ℕ). place ≤ length script)
label_within label script =
    subst (λ (s : List ℕ). IfSome (label_place label (lines_of script)) (λ (place : ℕ). place ≤ length s)) (lines_whole script) (place_within label (lines_of script))
