-- Laws of the lines of a text.
use Rattle.std.proofs.Common.{◌≡◌, ℕ, ◌+◌, ◌==◌, ◌<◌, ◌≤◌, suc, Bool, true, false, cond, ltb, not, if◌then◌else◌, List}
use Rattle.std.proofs.Common.{[], ◌∷◌, ◌++◌, length, take, drop, get_or, All, Some, None, refl, sym, ap, ◌∙◌, arith}
use Rattle.std.specs.List.{position, position_or_len}
use Rattle.std.proofs.lemmas.List.{take_all, drop_all, length-append, take-append-drop, drop_more}
use Rattle.std.proofs.lemmas.List.Quantifiers.{position-Some}
use Rattle.std.proofs.lemmas.Bool.{eqb-true, eq-eqb}
use Rattle.std.proofs.lemmas.Bool.Decides.{nat_tests}
use Rattle.nova_word.specs.Numbers.{IsDigit}
use Rattle.nova_word.specs.Quoted.{Stands, itself, carriage_return, line_feed, tab, backslash, quote, octal, StandFor}
use Rattle.nova_word.specs.Quoted.{none, more}
use Rattle.expect_actions.specs.KeysFile.{first_line, behind_line, lines_of, with_front}

-- no byte of a text is this one
abbrev pub Without : ℕ → List ℕ → Type 0
Without c [] = Unit {0}
Without c (b ∷ rest) = ((b == c) ≡ false) × Without c rest

pub without_append : (c : ℕ) (xs ys : List ℕ) → Without c xs → Without c ys → Without c (xs ++ ys)
without_append c [] ys first second = second
without_append c (x ∷ xs) ys first second = (first.0, without_append c xs ys first.1 second)

apart : (b c : ℕ) → c < b → (b == c) ≡ false
apart b c above = grind (arith, nat_tests)

pub without_digits : (c : ℕ) (xs : List ℕ) → c < 48 → All (IsDigit 10) xs → Without c xs
without_digits c [] low digits = tt
without_digits c (x ∷ xs) low digits =
    let first : IsDigit 10 x = digits 0 0 (omega arith) in
    (apart x c (omega (arith, first.0)), without_digits c xs low (λ k d h. digits (suc k) d (omega arith)))

without_byte : (front : List ℕ) (b : ℕ) → Stands front b → Without 10 front
without_byte front byte (itself b low high no_quote no_slash) = (apart b 10 (omega arith), tt)
without_byte front byte carriage_return = (refl, (refl, tt))
without_byte front byte line_feed = (refl, (refl, tt))
without_byte front byte tab = (refl, (refl, tt))
without_byte front byte backslash = (refl, (refl, tt))
without_byte front byte quote = (refl, (refl, tt))
without_byte front byte (octal a b c first second third) =
    (refl, (apart (48 + a) 10 (omega arith), (apart (48 + b) 10 (omega arith), (apart (48 + c) 10 (omega arith), tt))))

pub without_text : (inside text : List ℕ) → StandFor inside text → Without 10 inside
without_text inside text none = tt
without_text inside text (more front later others b stands stand) =
    without_append 10 front later (without_byte front b stands) (without_text later others stand)

-- the first such byte

abbrev pub place : ℕ → List ℕ → ℕ
place c text = position_or_len (λ b. b == c) text

one_add : (n : ℕ) → 1 + n ≡ suc n
one_add n = omega arith

place_behind : (c : ℕ) (front rest : List ℕ) → Without c front → place c (front ++ c ∷ rest) ≡ length front
place_behind c [] rest apart_from = ap (λ (t : Bool). cond (not t) (1 + place c rest) 0) (eq-eqb c c refl)
place_behind c (b ∷ front) rest apart_from =
    ap (λ (t : Bool). cond (not t) (1 + place c (front ++ c ∷ rest)) 0) apart_from.0
    ∙ one_add (place c (front ++ c ∷ rest)) ∙ ap suc (place_behind c front rest apart_from.1)

place_within : (front : List ℕ) (c : ℕ) (rest : List ℕ) → ltb (length front) (length (front ++ c ∷ rest)) ≡ true
place_within front c rest =
    let within : length front < length (front ++ c ∷ rest) = omega (arith, length-append front (c ∷ rest)) in
    grind (arith, nat_tests)

pub position_behind : (c : ℕ) (front rest : List ℕ) → Without c front →
    position (λ b. b == c) (front ++ c ∷ rest) ≡ Some (length front)
position_behind c front rest apart_from =
    ap (λ (n : ℕ). cond (ltb n (length (front ++ c ∷ rest))) (Some n) None) (place_behind c front rest apart_from)
    ∙ ap (λ (t : Bool). cond t (Some (length front)) None) (place_within front c rest)

cond_some : (t : Bool) (a n : ℕ) → cond t (Some a) None ≡ Some n → (t ≡ true) × (a ≡ n)
cond_some true a n h = (refl, cc)
cond_some false a n h = cc

cond_none : (t : Bool) (a : ℕ) → cond t (Some a) None ≡ None → t ≡ false
cond_none true a h = cc
cond_none false a h = refl

pub position_is_place : (c : ℕ) (text : List ℕ) (n : ℕ) → position (λ b. b == c) text ≡ Some n → place c text ≡ n
position_is_place c text n h = (cond_some (ltb (place c text) (length text)) (place c text) n h).1

pub no_position : (c : ℕ) (text : List ℕ) → position (λ b. b == c) text ≡ None → length text ≤ place c text
no_position c text h =
    let past = cond_none (ltb (place c text) (length text)) (place c text) h in
    grind (arith, nat_tests)

pub parts_at : (c : ℕ) (text : List ℕ) (n : ℕ) → position (λ b. b == c) text ≡ Some n →
    text ≡ take n text ++ c ∷ drop (n + 1) text
parts_at c text n h =
    let found = position-Some (λ b. b == c) text n 0 h in
    sym (take-append-drop n text) ∙ ap (λ (x : List ℕ). take n text ++ x) (drop_more text n 0 found.0
    ∙ ap (λ (x : ℕ). x ∷ drop (n + 1) text) (eqb-true (get_or text n 0) c found.1))

-- the first line

abbrev IsCut : ℕ → List ℕ → List ℕ → List ℕ → Type 0
IsCut n text line behind = (take n text ≡ line) × (drop (n + 1) text ≡ behind)

two_more : (n : ℕ) → 1 + n + 1 ≡ suc (n + 1)
two_more n = omega arith

cut_more : (b : ℕ) (rest : List ℕ) (n : ℕ) (t : Bool) → IsCut n rest (first_line rest) (behind_line rest) →
    IsCut (cond (not t) (1 + n) 0) (b ∷ rest) (if t then [] else b ∷ first_line rest) (if t then rest else
    behind_line rest)
cut_more b rest n true cut = (refl, refl)
cut_more b rest n false cut = (
  ap (λ (k : ℕ). take k (b ∷ rest)) (one_add n) ∙ ap (λ (x : List ℕ). b ∷ x) cut.0,
  ap (λ (k : ℕ). drop k (b ∷ rest)) (two_more n) ∙ cut.1,
)

pub first_is_cut : (text : List ℕ) → IsCut (place 10 text) text (first_line text) (behind_line text)
first_is_cut [] = (refl, refl)
first_is_cut (b ∷ rest) = cut_more b rest (place 10 rest) (b == 10) (first_is_cut rest)

pub line_at : (text : List ℕ) (n : ℕ) → position (λ b. b == 10) text ≡ Some n → take n text ≡ first_line text
line_at text n h = ap (λ (k : ℕ). take k text) (sym (position_is_place 10 text n h)) ∙ (first_is_cut text).0

pub behind_at : (text : List ℕ) (n : ℕ) → position (λ b. b == 10) text ≡ Some n → drop (n + 1) text ≡ behind_line text
behind_at text n h =
    ap (λ (k : ℕ). drop (k + 1) text) (sym (position_is_place 10 text n h)) ∙ (first_is_cut text).1

pub line_alone : (text : List ℕ) → position (λ b. b == 10) text ≡ None → text ≡ first_line text
line_alone text h = sym (take_all (place 10 text) text (no_position 10 text h)) ∙ (first_is_cut text).0

pub nothing_behind : (text : List ℕ) → position (λ b. b == 10) text ≡ None → [] ≡ behind_line text
nothing_behind text h =
    let past = no_position 10 text h in
    sym (drop_all (place 10 text + 1) text (omega arith)) ∙ (first_is_cut text).1

-- a text is its first line, with an LF and more lines behind it or alone

pub data Joins (text line behind : List ℕ) : Type 0 where
  with_feed : text ≡ line ++ 10 ∷ behind → Joins text line behind
  alone : text ≡ line → behind ≡ [] → Joins text line behind

front_joins : (b : ℕ) (text line behind : List ℕ) → Joins text line behind → Joins (b ∷ text) (b ∷ line) behind
front_joins b text line behind (with_feed whole) = with_feed (ap (λ (x : List ℕ). b ∷ x) whole)
front_joins b text line behind (alone whole nothing) = alone (ap (λ (x : List ℕ). b ∷ x) whole) nothing

joins_more : (b : ℕ) (rest : List ℕ) (t : Bool) → (b == 10) ≡ t → Joins rest (first_line rest) (behind_line rest) →
    Joins (b ∷ rest) (if t then [] else b ∷ first_line rest) (if t then rest else behind_line rest)
joins_more b rest true is joins = with_feed (ap (λ (x : ℕ). x ∷ rest) (eqb-true b 10 is))
joins_more b rest false is joins = front_joins b rest (first_line rest) (behind_line rest) joins

pub joins : (text : List ℕ) → Joins text (first_line text) (behind_line text)
joins [] = alone refl refl
joins (b ∷ rest) = joins_more b rest (b == 10) refl (joins rest)

abbrev SplitsAs : List (List ℕ) → List ℕ → List ℕ → Type 0
SplitsAs lines line behind = lines ≡ line ∷ lines_of behind

splits_more : (b : ℕ) (rest : List ℕ) (t : Bool) → SplitsAs (lines_of rest) (first_line rest) (behind_line rest) →
    SplitsAs (if t then [] ∷ lines_of rest else with_front b (lines_of rest)) (if t then [] else
    b ∷ first_line rest) (if t then rest else behind_line rest)
splits_more b rest true splits = refl
splits_more b rest false splits = ap (with_front b) splits

splits_last : (b : ℕ) (t : Bool) → SplitsAs (if t then [] ∷ [] else (b ∷ []) ∷ []) (if t then [] else b ∷ []) (if t then
    [] else [])
splits_last b true = refl
splits_last b false = refl

pub splits : (text : List ℕ) → 0 < length text → lines_of text ≡ first_line text ∷ lines_of (behind_line text)
splits [] some = absurd (omega arith)
splits (b ∷ []) some = splits_last b (b == 10)
splits (b ∷ c ∷ rest) some = splits_more b (c ∷ rest) (b == 10) (splits (c ∷ rest) (omega arith))

pub lines_of_more : (line rest : List ℕ) → Without 10 line → lines_of (line ++ 10 ∷ rest) ≡ line ∷ lines_of rest
lines_of_more [] rest apart_from = refl
lines_of_more (b ∷ line) rest apart_from =
    ap (λ (t : Bool). if t then [] ∷ lines_of (line ++ 10 ∷ rest) else
    with_front b (lines_of (line ++ 10 ∷ rest))) apart_from.0
    ∙ ap (with_front b) (lines_of_more line rest apart_from.1)

pub lines_of_last : (line : List ℕ) → 0 < length line → Without 10 line → lines_of line ≡ line ∷ []
lines_of_last [] some apart_from = absurd (omega arith)
lines_of_last (b ∷ []) some apart_from = ap (λ (t : Bool). if t then [] ∷ [] else (b ∷ []) ∷ []) apart_from.0
lines_of_last (b ∷ c ∷ line) some apart_from =
    ap (λ (t : Bool). if t then [] ∷ lines_of (c ∷ line) else with_front b (lines_of (c ∷ line))) apart_from.0
    ∙ ap (with_front b) (lines_of_last (c ∷ line) (omega arith) apart_from.1)

-- lengths

fits : (text line behind : List ℕ) → Joins text line behind → 0 < length behind →
    length line + 1 + length behind ≤ length text
fits text line behind (with_feed whole) some = omega (arith, ap length whole, length-append line (10 ∷ behind))
fits text line behind (alone whole nothing) some = absurd (omega (arith, ap length nothing))

less : (text line behind : List ℕ) → Joins text line behind → 0 < length text →
    (length behind < length text) × (length line ≤ length text)
less text line behind (with_feed whole) some =
    let long = length-append line (10 ∷ behind) in
    (omega (arith, ap length whole, long), omega (arith, ap length whole, long))
less text line behind (alone whole nothing) some =
    (omega (arith, ap length nothing), omega (arith, ap length whole))

pub behind_less : (text : List ℕ) → 0 < length text →
    (length (behind_line text) < length text) × (length (first_line text) ≤ length text)
behind_less text some = less text (first_line text) (behind_line text) (joins text) some

pub behind_fits : (text : List ℕ) → 0 < length (behind_line text) →
    length (first_line text) + 1 + length (behind_line text) ≤ length text
behind_fits text some = fits text (first_line text) (behind_line text) (joins text) some
