-- The name of a file that goes up to the end of the line.
use Rattle.std.specs.Prelude.{nat_le, nat_lt}
use Rattle.std.proofs.Common.{◌≡◌, ℕ, ◌+◌, ◌-◌, ◌<◌, Bool, true, false, cond, ◌&&◌, Some, None, Result, Ok, Err, List, [], ◌∷◌, ◌++◌, length, take, drop, refl, ap, sym, subst, ◌∙◌, inl, inr, arith, length-append}
use Rattle.std.specs.Str.{IsUtf8, is_utf8}
use Rattle.std.proofs.lemmas.Bool.{and_parts, leb-true, le-leb, ltb-true, lt-ltb, cases_Bool, false≢true, false_from_ne_true}
use Rattle.std.proofs.lemmas.List.{take_at, drop_at}
use Rattle.std.proofs.lemmas.Str.{IsUtf8-from_is_utf8, is_utf8-from_IsUtf8}
use Rattle.line_text.specs.Words.{IsBlanks}
use Rattle.scp_parser.specs.declared.fault.ParseFault.{ParseFault}
use Rattle.scp_parser.specs.declared.fault.ParseFault.TheVariants.{Missing}
use Rattle.scp_parser.specs.Command.{IsFileName, IsPiece, IsNamePiece, piece_of}
use Rattle.scp_parser.specs.Grammar.{IsInside, IsLastName}
use Rattle.scp_parser.specs.Faults.{bad_word, NameFaults, no_name, no_file_name}
use Rattle.scp_parser.specs.Operands.{is_file_name, as_file_name}
use Rattle.scp_parser.specs.Reading.{needed_found, last_name, piece_before}
use Rattle.scp_parser.proofs.InsideLemmas.{inside_given, inside_of_blanks, blanks_or_inside}
use Rattle.scp_parser.proofs.Settles.{Sound, Settles}

pub are_utf8 : (text : List ℕ) → IsUtf8 text → is_utf8 text ≡ true
are_utf8 text is = is_utf8-from_IsUtf8 text is

pub not_utf8 : (text : List ℕ) → (IsUtf8 text → ⊥) → is_utf8 text ≡ false
not_utf8 text never = false_from_ne_true (is_utf8 text) (λ is. never (IsUtf8-from_is_utf8 text is))

-- the test of a file name decides

pub name_is : (text : List ℕ) → is_file_name text ≡ true → IsFileName text
unfolding is_file_name
name_is text h =
    let some = and_parts (nat_lt 0 (length text)) (nat_le (length text) 255 && is_utf8 text) h in
    let short = and_parts (nat_le (length text) 255) (is_utf8 text) some.1 in
    (ltb-true 0 (length text) some.0, leb-true (length text) 255 short.0, IsUtf8-from_is_utf8 text short.1)

pub name_passes : (text : List ℕ) → IsFileName text → is_file_name text ≡ true
unfolding is_file_name
name_passes text is = rw (lt-ltb 0 (length text) is.0, le-leb (length text) 255 is.1, are_utf8 text is.2) refl

-- what is read of a text without blanks round it

abbrev name_at : Bool → List ℕ → List ℕ → Result (List ℕ × List ℕ) ParseFault
name_at is inside behind = needed_found false (cond is (Some inside) None) inside behind

name_by : (text inside behind : List ℕ) (is : Bool) → IsInside text inside behind → is_file_name inside ≡ is → last_name text ≡ name_at is inside behind
unfolding last_name
name_by text inside behind is there so =
    ap (λ (x : List ℕ × List ℕ). needed_found false (as_file_name x.0) x.0 x.1) (inside_given text inside behind there) ∙ ap (λ (b : Bool). name_at b inside behind) so

no_name_given : (text : List ℕ) → IsBlanks text → last_name text ≡ Err Missing
unfolding last_name is_file_name
no_name_given text are = ap (λ (x : List ℕ × List ℕ). needed_found false (as_file_name x.0) x.0 x.1) (inside_of_blanks text are)

bad_name_at : (inside behind : List ℕ) → 0 < length inside → name_at false inside behind ≡ Err (bad_word false inside (length (inside ++ behind)))
bad_name_at [] behind some = absurd (omega arith)
bad_name_at (b ∷ more) behind some = refl

bad_name_given : (text inside behind : List ℕ) → IsInside text inside behind → (IsFileName inside → ⊥) → last_name text ≡ Err (bad_word false inside (length (inside ++ behind)))
bad_name_given text inside behind there never =
    name_by text inside behind false there (false_from_ne_true (is_file_name inside) (λ is. never (name_is inside is))) ∙ bad_name_at inside behind there.some

name_reads : (text : List ℕ) (name : List ℕ × List ℕ) → IsLastName text name → last_name text ≡ Ok name
name_reads text name is = name_by text name.0 name.1 true is.0 (name_passes name.0 is.1)

name_faults : (text : List ℕ) (e : ParseFault) → NameFaults text e → last_name text ≡ Err e
name_faults text e (no_name are) = no_name_given text are
name_faults text e (no_file_name inside behind there never) = bad_name_given text inside behind there never

name_found : (text : List ℕ) → Sound (IsLastName text) (NameFaults text) (last_name text)
name_found text =
    elim (blanks_or_inside text) [
      | inl are ↦ subst (Sound (IsLastName text) (NameFaults text)) (sym (no_name_given text are)) (no_name are)
      | inr (x, there) ↦
          elim (cases_Bool (is_file_name x.0)) [
            | inl is ↦ subst (Sound (IsLastName text) (NameFaults text)) (sym (name_by text x.0 x.1 true there is)) (there, name_is x.0 is)
            | inr not ↦
                let never : IsFileName x.0 → ⊥ = λ is. false≢true (sym not ∙ name_passes x.0 is) in
                subst (Sound (IsLastName text) (NameFaults text)) (sym (bad_name_given text x.0 x.1 there never)) (no_file_name x.0 x.1 there never)
          ]
    ]

pub name_settles : (text : List ℕ) → Settles (last_name text) (IsLastName text) (NameFaults text)
name_settles text = record { reads = name_reads text; faults = name_faults text; found = name_found text }

-- the place of a name in its line

module _ (line start word rest : List ℕ) (spelled : line ≡ start ++ (word ++ rest)) where
  whole : length line ≡ length start + (length word + length rest)
  whole = omega (arith, ap length spelled, length-append start (word ++ rest), length-append word rest)

  from_start : length start ≡ length line - length (word ++ rest)
  from_start = omega (arith, whole, length-append word rest)

  long : length word ≡ (length line - length rest) - (length line - length (word ++ rest))
  long = omega (arith, whole, length-append word rest)

  pub piece_is : piece_of line (piece_before (length line) word rest) ≡ word
  piece_is =
      let from = length line - length (word ++ rest) in
      let count = (length line - length rest) - from in
      ap (λ (t : List ℕ). take count (drop from t)) spelled
      ∙ ap (λ (t : List ℕ). take count t) (drop_at start (word ++ rest) from from_start)
      ∙ take_at word rest count long

  pub is_piece : IsPiece line (piece_before (length line) word rest)
  is_piece = (omega (arith, whole, length-append word rest), omega (arith, whole, length-append word rest))

  pub name_piece : IsFileName word → IsNamePiece line (piece_before (length line) word rest)
  name_piece is = (is_piece, subst IsFileName (sym piece_is) is)
