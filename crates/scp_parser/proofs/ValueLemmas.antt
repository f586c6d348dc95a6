-- The value of a DEPOSIT as symbolic text, which goes up to the end of the line.
use Rattle.std.proofs.Common.{◌≡◌, ℕ, ◌<◌, Result, Ok, Err, List, [], ◌∷◌, ◌++◌, length, drop, refl, ap, sym, subst, ◌∙◌, arith, length-append}
use Rattle.line_text.specs.Words.{past_blanks, trimmed}
use Rattle.nova_symbols.specs.declared.fault.SymbolFault.{SymbolFault}
use Rattle.nova_symbols.specs.Reading as symbols
use Rattle.nova_symbols.specs.Forms.{Reads}
use Rattle.nova_symbols.proofs.LawLemmas.{answers_word}
use Rattle.scp_parser.specs.declared.fault.ParseFault.{ParseFault}
use Rattle.scp_parser.specs.Grammar.{IsInside, IsInstruction}
use Rattle.scp_parser.specs.declared.fault.ParseFault.TheVariants.{BadSymbol}
use Rattle.scp_parser.specs.Faults.{InstructionFaults, no_instruction, bad_symbol}
use Rattle.scp_parser.specs.Reading.{instruction_found, instruction_in, instruction}
use Rattle.scp_parser.proofs.WordLemmas.{past_of_blanks, blanks_from_past}
use Rattle.scp_parser.proofs.InsideLemmas.{kept, trimmed_at, inside_there, inside_past}
use Rattle.scp_parser.proofs.Settles.{Sound, Settles}

-- the instruction

instruction_some : (text : List ℕ) → 0 < length text → instruction_in text ≡ instruction_found (symbols.reading (trimmed text)) (length text)
instruction_some [] some = absurd (omega arith)
instruction_some (b ∷ more) some = refl

instruction_of : (text inside behind : List ℕ) → IsInside text inside behind → instruction text ≡ instruction_found (symbols.reading inside) (length (inside ++ behind))
unfolding instruction
instruction_of text inside behind is =
    let some : 0 < length (inside ++ behind) = omega (arith, is.some, length-append inside behind) in
    ap instruction_in (inside_past text inside behind is) ∙ instruction_some (inside ++ behind) some
    ∙ ap (λ (t : List ℕ). instruction_found (symbols.reading t) (length (inside ++ behind))) (trimmed_at inside behind is.blank_behind is.ends)

instruction_reads : (text : List ℕ) (w : ℕ) → IsInstruction text w → instruction text ≡ Ok w
instruction_reads text w is =
    instruction_of text is.inside is.behind is.there
    ∙ ap (λ (r : Result ℕ SymbolFault). instruction_found r (length (is.inside ++ is.behind))) ((answers_word is.inside (symbols.reading is.inside) refl w).1 is.reads)

-- a text of no word is read as a fault
no_word : (inside : List ℕ) (left : ℕ) (r : Result ℕ SymbolFault) → symbols.reading inside ≡ r → ((w : ℕ) → Reads inside w → ⊥) → instruction_found r left ≡ Err (BadSymbol left)
no_word inside left (Ok w) read never = absurd (never w ((answers_word inside (symbols.reading inside) refl w).0 read))
no_word inside left (Err fault) read never = refl

-- and one that is read as a fault is a text of no word
never_reads : (inside : List ℕ) (fault : SymbolFault) → symbols.reading inside ≡ Err fault → (w : ℕ) → Reads inside w → ⊥
never_reads inside fault read w reads = let some = (answers_word inside (symbols.reading inside) refl w).1 reads in cc

instruction_faults : (text : List ℕ) (e : ParseFault) → InstructionFaults text e → instruction text ≡ Err e
unfolding instruction
instruction_faults text e (no_instruction are) = ap instruction_in (past_of_blanks text are)
instruction_faults text e (bad_symbol inside behind is never) =
    instruction_of text inside behind is ∙ no_word inside (length (inside ++ behind)) (symbols.reading inside) refl never

instruction_read : (text inside behind : List ℕ) → IsInside text inside behind → (r : Result ℕ SymbolFault) → symbols.reading inside ≡ r
    → Sound (IsInstruction text) (InstructionFaults text) (instruction_found r (length (inside ++ behind)))
instruction_read text inside behind is (Ok w) read = record { inside = inside; behind = behind; there = is; reads = (answers_word inside (symbols.reading inside) refl w).0 read }
instruction_read text inside behind is (Err fault) read = bad_symbol inside behind is (never_reads inside fault read)

instruction_cases : (text past : List ℕ) → past_blanks text ≡ past → Sound (IsInstruction text) (InstructionFaults text) (instruction text)
unfolding instruction
instruction_cases text [] none = subst (λ (t : List ℕ). Sound (IsInstruction text) (InstructionFaults text) (instruction_in t)) (sym none) (no_instruction (blanks_from_past text none))
instruction_cases text (b ∷ more) is =
    let inside = trimmed (b ∷ more) in
    let behind = drop (kept (b ∷ more)) (b ∷ more) in
    let there = inside_there text b more is in
    subst (Sound (IsInstruction text) (InstructionFaults text)) (sym (instruction_of text inside behind there))
    (instruction_read text inside behind there (symbols.reading inside) refl)

pub instruction_settles : (text : List ℕ) → Settles (instruction text) (IsInstruction text) (InstructionFaults text)
instruction_settles text = record {
  reads = instruction_reads text;
  faults = instruction_faults text;
  found = instruction_cases text (past_blanks text) refl;
}
