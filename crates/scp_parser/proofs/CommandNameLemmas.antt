-- No word is an abbreviation of two commands.
use Rattle.std.specs.Prelude.{nat_le}
use Rattle.std.proofs.Common.{◌≡◌, ℕ, ◌≤◌, Bool, true, cond, Some, List, length, take, refl, ap, sym, ◌∙◌, arith}
use Rattle.std.specs.Char.{to_ascii_uppercase}
use Rattle.std.specs.Option.{option_map}
use Rattle.std.proofs.lemmas.Bool.{and_parts, and_from, leb-true, le-leb}
use Rattle.std.proofs.lemmas.Bool.Decides.{nat_tests}
use Rattle.std.proofs.lemmas.List.{take-map, take-take}
use Rattle.line_text.specs.Words.{IsSpelled, is_spelled}
use Rattle.line_text.proofs.SpellingLemmas.{spelled_is, is_spelled_so, spelled_alike}
use Rattle.scp_parser.specs.declared.names.CommandName.{CommandName}
use Rattle.operand_forms.specs.Names.{first_of}
use Rattle.scp_parser.specs.Names.{CommandRow, command_rows, IsRowName, IsCommandName, is_row_name, command_named}
use Rattle.operand_forms.proofs.ChoiceLemmas.{mapped}
use Rattle.operand_forms.proofs.ListLemmas.{are_apart, first_found, first_is}

row_is : (word : List ℕ) (of : CommandRow) → is_row_name word of ≡ true → IsRowName word of
row_is word of h =
    let parts = and_parts (nat_le of.letters (length word)) (is_spelled word (take (length word) of.name)) h in
    record { enough = leb-true of.letters (length word) parts.0; spelled = spelled_is word (take (length word) of.name) parts.1 }

row_passes : (word : List ℕ) (of : CommandRow) → IsRowName word of → is_row_name word of ≡ true
row_passes word of h =
    and_from (nat_le of.letters (length word)) (is_spelled word (take (length word) of.name))
    (le-leb of.letters (length word) h.enough) (is_spelled_so word (take (length word) of.name) h.spelled)

abbrev larger : ℕ → ℕ → ℕ
larger a b = cond (nat_le a b) b a

larger_fits : (a b n : ℕ) → a ≤ n → b ≤ n → larger a b ≤ n
larger_fits a b n first second = grind (arith, nat_tests)

-- two names have one first part of the greater of their least lengths
abbrev share : CommandRow → CommandRow → Bool
share a b = let n = larger a.letters b.letters in is_spelled (take n a.name) (take n b.name)

-- a first part of a first part
part_of : (word name : List ℕ) (n : ℕ) → n ≤ length word → IsSpelled word (take (length word) name) → IsSpelled (take n word) (take n name)
part_of word name n short is = sym (take-map to_ascii_uppercase n word) ∙ ap (take n) is ∙ take-take n (length word) name short

two_share : (word : List ℕ) (a b : CommandRow) → is_row_name word a ≡ true → is_row_name word b ≡ true → share a b ≡ true
two_share word a b first second =
    let one = row_is word a first in
    let two = row_is word b second in
    let n = larger a.letters b.letters in
    let short = larger_fits a.letters b.letters (length word) one.enough two.enough in
    spelled_alike (take n word) (take n a.name) (take n b.name) (part_of word a.name n short one.spelled) (part_of word b.name n short two.spelled)

rows_apart : are_apart share command_rows ≡ true
rows_apart = refl

pub name_found : (word : List ℕ) (command : CommandName) → command_named word ≡ Some command → IsCommandName word command
unfolding command_named
name_found word command h =
    let (of, found, means) = mapped (λ (r : CommandRow). r.command) (first_of (is_row_name word) command_rows) command h in
    let first = first_found (is_row_name word) command_rows of found in
    record { of = of; listed = first.0; means = means; names = row_is word of first.1 }

pub name_reads : (word : List ℕ) (command : CommandName) → IsCommandName word command → command_named word ≡ Some command
unfolding command_named
name_reads word command h =
    ap (option_map (λ (r : CommandRow). r.command)) (first_is (is_row_name word) share command_rows h.of (two_share word) rows_apart h.listed (row_passes word h.of h.names))
    ∙ ap (λ (c : CommandName). Some c) h.means
