-- Which line is which command and which fault: the function of lines gives exactly what the grammar says.
use Rattle.std.proofs.Common.{◌≡◌, ◌↔◌, ℕ, ◌<◌, ◌≤◌, suc, Bool, true, false, ◌||◌, cond, eqb, leb, Option, Some, None, Result, Ok, Err, List, [], ◌∷◌, ◌++◌, length, take, refl, ap, sym, subst, ◌∙◌, inl, inr, arith}
use Rattle.std.specs.Char.{to_ascii_uppercase}
use Rattle.std.specs.Prelude.{nat_le}
use Rattle.std.specs.List.{list_all}
use Rattle.std.proofs.lemmas.Bool.{leb-true, eqb-true, eq-eqb, le-leb, lt-leb, cases_Bool, cases_lt, or_cases, or_left, or_right, cond-true, cond-false, false_from_ne_true}
use Rattle.std.proofs.lemmas.List.{nil_from_length}
use Rattle.std.proofs.lemmas.List.Elements.{All-nil, All-contains}
use Rattle.std.proofs.lemmas.List.Sums.{AllPass-from_list_all}
use Rattle.line_text.specs.Words.{IsBlank, Begins, past_blanks}
use Rattle.scp_parser.specs.declared.command.Verb.{Verb}
use Rattle.scp_parser.specs.declared.command.Verb.TheVariants as verb
use Rattle.scp_parser.specs.declared.fault.ParseFault.{ParseFault}
use Rattle.scp_parser.specs.declared.fault.ParseFault.TheVariants.{Unknown, TooLong}
use Rattle.scp_parser.specs.declared.names.CommandName.{CommandName}
use Rattle.scp_parser.specs.Command.{Request, request_of}
use Rattle.scp_parser.specs.Command as request
use Rattle.scp_parser.specs.Names.{CommandRow, command_rows, IsCommandName, command_named}
use Rattle.scp_parser.specs.Grammar.{longest_line, IsMark, BeginsWithMark, AsksNothing, Operates, Parses, nothing as nothing_form, command as command_form}
use Rattle.scp_parser.specs.Faults.{placed, Faults, too_long, unknown, OperandFaults, operands as operands_form}
use Rattle.scp_parser.specs.Reading.{next_word, operands, is_mark, begins_with_mark, asks_nothing, command_found, named, placed_in, verb_of, map_ok, reading}
use Rattle.scp_parser.proofs.FormsDecided.{Forms_decided}
use Rattle.scp_parser.proofs.WordLemmas.{first_word, begins_next, begins_past, begins_not_blank, past_blanks_split, past_of_blanks, blanks_from_past}
use Rattle.scp_parser.proofs.Settles.{Sound, Settles}
use Rattle.scp_parser.proofs.EndLemmas.{IsEnd, behind_word}
use Rattle.scp_parser.proofs.OperatesLemmas.{operands_settle}

-- a line that asks for nothing

mark_is : (b : ℕ) → is_mark b ≡ true → IsMark b
mark_is b h =
    elim (or_cases (eqb b 59) (eqb b 35 || eqb b 58) h) [
      | inl semicolon ↦ inl (eqb-true b 59 semicolon)
      | inr other ↦ inr (elim (or_cases (eqb b 35) (eqb b 58) other) [ inl hash ↦ inl (eqb-true b 35 hash) | inr colon ↦ inr (eqb-true b 58 colon) ])
    ]

mark_passes : (b : ℕ) → IsMark b → is_mark b ≡ true
mark_passes b (inl semicolon) = subst (λ (c : ℕ). is_mark c ≡ true) (sym semicolon) refl
mark_passes b (inr (inl hash)) = subst (λ (c : ℕ). is_mark c ≡ true) (sym hash) refl
mark_passes b (inr (inr colon)) = subst (λ (c : ℕ). is_mark c ≡ true) (sym colon) refl

begins_is : (line : List ℕ) → begins_with_mark line ≡ true → BeginsWithMark line
begins_is [] h = absurd (cc)
begins_is (b ∷ more) h = mark_is b h

begins_passes : (line : List ℕ) → BeginsWithMark line → begins_with_mark line ≡ true
begins_passes [] h = absurd h
begins_passes (b ∷ more) h = mark_passes b h

asks_is : (line : List ℕ) → asks_nothing line ≡ true → AsksNothing line
unfolding asks_nothing
asks_is line h =
    elim (or_cases (begins_with_mark line) (eqb (length (past_blanks line)) 0) h) [
      | inl mark ↦ inr (begins_is line mark)
      | inr blank ↦ inl (blanks_from_past line (nil_from_length (past_blanks line) (eqb-true (length (past_blanks line)) 0 blank)))
    ]

asks_passes : (line : List ℕ) → AsksNothing line → asks_nothing line ≡ true
unfolding asks_nothing
asks_passes line (inl are) = or_right (begins_with_mark line) (eqb (length (past_blanks line)) 0) (eq-eqb (length (past_blanks line)) 0 (ap length (past_of_blanks line are)))
asks_passes line (inr mark) = or_left (begins_with_mark line) (eqb (length (past_blanks line)) 0) (begins_passes line mark)

-- no command's name begins with a mark

abbrev begins_in_letter : List ℕ → Bool
begins_in_letter [] = false
begins_in_letter (b ∷ more) = nat_le 65 b

rows_begin_in_letters : list_all (λ (of : CommandRow). begins_in_letter of.name) command_rows ≡ true
rows_begin_in_letters = refl

first_letter : (name more : List ℕ) (b n : ℕ) → begins_in_letter name ≡ true → b ∷ more ≡ take (suc n) name → 65 ≤ b
first_letter [] more b n h same = absurd (cc)
first_letter (c ∷ rest) more b n h same =
    let first : b ≡ c = cc in
    omega (arith, leb-true 65 c h, first)

mark_low : (b : ℕ) → IsMark b → to_ascii_uppercase b < 65
mark_low b (inl semicolon) = subst (λ (c : ℕ). to_ascii_uppercase c < 65) (sym semicolon) (omega arith)
mark_low b (inr (inl hash)) = subst (λ (c : ℕ). to_ascii_uppercase c < 65) (sym hash) (omega arith)
mark_low b (inr (inr colon)) = subst (λ (c : ℕ). to_ascii_uppercase c < 65) (sym colon) (omega arith)

mark_not_blank : (b : ℕ) → IsMark b → IsBlank b → ⊥
mark_not_blank b mark blank = omega (arith, mark, blank)

name_not_mark : (b : ℕ) (more : List ℕ) (name : CommandName) → IsCommandName (b ∷ more) name → IsMark b → ⊥
name_not_mark b more name is mark =
    let begins = All-contains (λ (of : CommandRow). begins_in_letter of.name ≡ true) command_rows is.of
    (AllPass-from_list_all (λ (of : CommandRow). begins_in_letter of.name) command_rows rows_begin_in_letters) is.listed in
    let letter : 65 ≤ to_ascii_uppercase b = first_letter is.of.name _ (to_ascii_uppercase b) (length more) begins is.names.spelled in
    omega (arith, letter, mark_low b mark)

-- a word at the front of a line that begins with a mark
word_mark : (b : ℕ) (more word rest : List ℕ) (name : CommandName) → IsMark b → word ++ rest ≡ b ∷ more → 0 < length word → IsCommandName word name → ⊥
word_mark b more [] rest name mark same some is = omega arith
word_mark b more (c ∷ word) rest name mark same some is =
    let first : c ≡ b = cc in
    name_not_mark c word name is (subst IsMark (sym first) mark)

command_no_mark : (line word rest : List ℕ) (name : CommandName) → Begins line word rest → IsCommandName word name → BeginsWithMark line → ⊥
command_no_mark [] word rest name begins is mark = mark
command_no_mark (b ∷ more) word rest name begins is mark =
    let past : past_blanks (b ∷ more) ≡ b ∷ more = past_blanks_split [] (b ∷ more) (All-nil IsBlank) (mark_not_blank b mark) in
    word_mark b more word rest name mark (sym (begins_past (b ∷ more) word rest begins) ∙ past) begins.is.some is

command_asks : (line word rest : List ℕ) (name : CommandName) → Begins line word rest → IsCommandName word name → AsksNothing line → ⊥
command_asks line word rest name begins is (inl are) = begins_not_blank line word rest begins are
command_asks line word rest name begins is (inr mark) = command_no_mark line word rest name begins is mark

-- the verb of a line

-- a reading by its place from the beginning of its line
placed_ok : (line : List ℕ) (n : ℕ) (r : Result Verb ParseFault) (what : Request) → map_ok (request_of line) r ≡ Ok what → map_ok (request_of line) (placed_in n r) ≡ Ok what
placed_ok line n (Ok v) what h = h
placed_ok line n (Err e) what h = absurd (cc h)

placed_err : (line : List ℕ) (n : ℕ) (r : Result Verb ParseFault) (e : ParseFault) → map_ok (request_of line) r ≡ Err e → map_ok (request_of line) (placed_in n r) ≡ Err (placed n e)
placed_err line n (Ok v) e h = absurd (cc h)
placed_err line n (Err f) e h = let same : f ≡ e = cc h in ap (λ (g : ParseFault). Err (placed n g)) same

abbrev short_verb : List ℕ → Result Verb ParseFault
short_verb line = cond (asks_nothing line) (Ok verb.Nothing) (placed_in (length line) (named line))

-- a line that is too long, whatever stands in it
pub long-line : (line : List ℕ) → longest_line < length line → reading line ≡ Err TooLong
unfolding reading verb_of
long-line line long = ap (map_ok (request_of line)) (cond-false (leb (length line) longest_line) (short_verb line) (Err TooLong) (lt-leb (length line) longest_line long))

short_line : (line : List ℕ) → length line ≤ longest_line → reading line ≡ map_ok (request_of line) (short_verb line)
unfolding reading verb_of
short_line line short = ap (map_ok (request_of line)) (cond-true (leb (length line) longest_line) (short_verb line) (Err TooLong) (le-leb (length line) longest_line short))

nothing_line : (line : List ℕ) → length line ≤ longest_line → AsksNothing line → reading line ≡ Ok request.Nothing
nothing_line line short asks =
    short_line line short ∙ ap (map_ok (request_of line)) (cond-true (asks_nothing line) (Ok verb.Nothing) (placed_in (length line) (named line)) (asks_passes line asks))

named_line : (line : List ℕ) → length line ≤ longest_line → (AsksNothing line → ⊥) → reading line ≡ map_ok (request_of line) (placed_in (length line) (named line))
named_line line short asks =
    let none : asks_nothing line ≡ false = false_from_ne_true (asks_nothing line) (λ e. asks (asks_is line e)) in
    short_line line short ∙ ap (map_ok (request_of line)) (cond-false (asks_nothing line) (Ok verb.Nothing) (placed_in (length line) (named line)) none)

named_by : (line word rest : List ℕ) (o : Option CommandName) → Begins line word rest → command_named word ≡ o → named line ≡ command_found (length line) o rest
unfolding named
named_by line word rest o begins is =
    ap (λ (n : List ℕ × List ℕ). command_found (length line) (command_named n.0) n.1) (begins_next line word rest begins) ∙ ap (λ (p : Option CommandName). command_found (length line) p rest) is

-- a line whose word names no command
unknown_line : (line word rest : List ℕ) → length line ≤ longest_line → (AsksNothing line → ⊥) → Begins line word rest → command_named word ≡ None → reading line ≡ Err Unknown
unknown_line line word rest short asks begins is = named_line line short asks ∙ ap (λ (r : Result Verb ParseFault). map_ok (request_of line) (placed_in (length line) r)) (named_by line word rest None begins is)

behind_name : (line word rest : List ℕ) → Begins line word rest → IsEnd line rest
behind_name line word rest begins = behind_word line line word rest ([], refl) begins

-- a line by the operands behind its command's name
operands_line : (line word rest : List ℕ) (name : CommandName) → length line ≤ longest_line → Begins line word rest → IsCommandName word name → command_named word ≡ Some name
    → reading line ≡ map_ok (request_of line) (placed_in (length line) (operands (length line) name rest))
operands_line line word rest name short begins is some =
    named_line line short (command_asks line word rest name begins is) ∙ ap (λ (r : Result Verb ParseFault). map_ok (request_of line) (placed_in (length line) r)) (named_by line word rest (Some name) begins some)

none_named : (word : List ℕ) (o : Option CommandName) → Forms_decided → command_named word ≡ o → ((name : CommandName) → IsCommandName word name → ⊥) → o ≡ None
none_named word None d is never = refl
none_named word (Some name) d is never = absurd (never name ((d.command word name).0 is))

module _ (d : Forms_decided) where
  parses_given : (line : List ℕ) (c : Request) → Parses line c → reading line ≡ Ok c
  parses_given line c (nothing_form _ short asks) = nothing_line line short asks
  parses_given line c (command_form _ word rest name what short begins is operates) =
      operands_line line word rest name short begins is ((d.command word name).1 is)
      ∙ placed_ok line (length line) (operands (length line) name rest) what ((operands_settle d line name rest (behind_name line word rest begins)).reads what operates)

  faults_given : (line : List ℕ) (e : ParseFault) → Faults line e → reading line ≡ Err e
  faults_given line e (too_long _ long) = long-line line long
  faults_given line e (unknown _ word rest short asks begins never) = unknown_line line word rest short asks begins (none_named word (command_named word) d refl never)
  faults_given line e (operands_form _ word rest name fault short begins is faulty) =
      operands_line line word rest name short begins is ((d.command word name).1 is)
      ∙ placed_err line (length line) (operands (length line) name rest) fault ((operands_settle d line name rest (behind_name line word rest begins)).faults fault faulty)

  abbrev IsFound : List ℕ → Result Request ParseFault → Type 0
  IsFound line r = Sound (Parses line) (Faults line) r

  operands_found : (line word rest : List ℕ) (name : CommandName) → length line ≤ longest_line → Begins line word rest → IsCommandName word name → (r : Result Verb ParseFault)
      → Sound (Operates name rest) (OperandFaults name rest) (map_ok (request_of line) r) → IsFound line (map_ok (request_of line) (placed_in (length line) r))
  operands_found line word rest name short begins is (Ok v) operates = command_form line word rest name (request_of line v) short begins is operates
  operands_found line word rest name short begins is (Err e) faulty = operands_form line word rest name e short begins is faulty

  word_found : (line word rest : List ℕ) (o : Option CommandName) → length line ≤ longest_line → (AsksNothing line → ⊥) → Begins line word rest → command_named word ≡ o → IsFound line (reading line)
  word_found line word rest (Some name) short asks begins named_so =
      let is = (d.command word name).0 named_so in
      subst (IsFound line) (sym (operands_line line word rest name short begins is named_so)) (operands_found line word rest name short begins is (operands (length line) name rest) (operands_settle d line name rest (behind_name line word rest begins)).found)
  word_found line word rest None short asks begins named_so =
      let never : (name : CommandName) → IsCommandName word name → ⊥ = λ name is. let some = (d.command word name).1 is in cc in
      subst (IsFound line) (sym (unknown_line line word rest short asks begins named_so)) (unknown line word rest short asks begins never)

  short_found : (line : List ℕ) → length line ≤ longest_line → IsFound line (reading line)
  short_found line short =
      elim (cases_Bool (asks_nothing line)) [
        | inl asks ↦ subst (IsFound line) (sym (nothing_line line short (asks_is line asks))) (nothing_form line short (asks_is line asks))
        | inr some ↦
            let never : AsksNothing line → ⊥ = λ asks. let yes = asks_passes line asks in cc in
            elim (first_word line) [
              | inl are ↦ absurd (never (inl are))
              | inr begins ↦ word_found line (next_word line).0 (next_word line).1 (command_named (next_word line).0) short never begins refl
            ]
      ]

  line_found : (line : List ℕ) → IsFound line (reading line)
  line_found line =
      elim (cases_lt longest_line (length line)) [
        | inl long ↦ subst (IsFound line) (sym (long-line line long)) (too_long line long)
        | inr short ↦ short_found line short
      ]

  line_settles : (line : List ℕ) → Settles (reading line) (Parses line) (Faults line)
  line_settles line = record { reads = parses_given line; faults = faults_given line; found = line_found line }

  -- a line is that command exactly where it is read as that command
  pub parses_reading : (line : List ℕ) (c : Request) → (reading line ≡ Ok c) ↔ Parses line c
  parses_reading line c = ((λ is. subst (IsFound line) is (line_found line)), parses_given line c)

  -- a line has that fault exactly where it is read as that fault
  pub faults_reading : (line : List ℕ) (fault : ParseFault) → (reading line ≡ Err fault) ↔ Faults line fault
  faults_reading line fault = ((λ is. subst (IsFound line) is (line_found line)), faults_given line fault)
