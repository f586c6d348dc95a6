-- The laws of scripts.
use Rattle.std.proofs.Common.{◌≡◌, ◌≢◌, ◌⊎◌, inl, inr, ⊎_elim, ℕ, ◌+◌, ◌-◌, ◌<◌, ◌≤◌, ◌==◌, ◌&&◌, Bool, true, false}
use Rattle.std.proofs.Common.{List, [], ◌∷◌, ◌++◌, length, get_or}
use Rattle.std.proofs.Common.{refl, sym, ap, ◌∙◌, arith, if◌then◌else◌, Option, Some, None, option_map}
use Rattle.std.specs.Prelude.{All}
use Rattle.std.specs.List.{concat}
use Rattle.std.proofs.lemmas.Bool.{eqb-true}
use Rattle.std.proofs.Common.{eq-eqb}
use Rattle.std.proofs.lemmas.List.{append_assoc, length-append}
use Rattle.std.proofs.lemmas.List.Elements.{All-nil, All-cons, All-head, All-tail}
use Rattle.std.proofs.lemmas.Bool.Decides.{nat_tests}
use Rattle.script_text.specs.Lines.{lines_of, with_front}
use Rattle.script_text.specs.Labels.{is_label, label_place}
use Rattle.script_text.specs.Filling.{is_name, named_text, filled}
use Rattle.script_text.specs.Laws.{LinesMakeTheScript, LinesFollow, IsFirstLabel, LabelIsFirst, PlainLinesStay, Names}
use Rattle.script_text.specs.Laws.{OthersDoNotMatter}
use Rattle.script_text.proofs.LineLemmas.{lines_first}
use Rattle.script_text.proofs.WordLemmas.{blank_or_not}

false_true : false ≡ true → ⊥
false_true h = cc

-- lines

concat-with_front : (b : ℕ) (lines : List (List ℕ)) → concat (with_front b lines) ≡ b ∷ concat lines
concat-with_front b [] = refl
concat-with_front b (line ∷ lines) = refl

pub lines_whole : LinesMakeTheScript
unfolding lines_of
lines_whole [] = refl
lines_whole (b ∷ rest) =
    elim (b == 10) as (λ t. concat (if t then (b ∷ []) ∷ lines_of rest else with_front b (lines_of rest)) ≡ b ∷ rest) [
      | true ↦ ap (λ (x : List ℕ). b ∷ x) (lines_whole rest)
      | false ↦ concat-with_front b (lines_of rest) ∙ ap (λ (x : List ℕ). b ∷ x) (lines_whole rest)
    ]

pub lines_follow : LinesFollow
lines_follow [] some = absurd (some refl)
lines_follow (b ∷ rest) some = lines_first (b ∷ rest) (omega arith)

-- labels

map_some : (n : ℕ) (found : Option ℕ) (place : ℕ) → option_map (λ k. n + k) found ≡ Some place →
    (k : ℕ) × (found ≡ Some k) × (n + k ≡ place)
map_some n None place h = cc
map_some n (Some k) place h = (k, refl, cc)

map_none : (n : ℕ) (found : Option ℕ) → option_map (λ k. n + k) found ≡ None → found ≡ None
map_none n None h = refl
map_none n (Some k) h = cc

chosen : (t : Bool) (some other : Option ℕ) → t ≡ true → (if t then some else other) ≡ some
chosen t some other is = ap (λ (t : Bool). if t then some else other) is

passed : (t : Bool) (some other : Option ℕ) → t ≡ false → (if t then some else other) ≡ other
passed t some other is = ap (λ (t : Bool). if t then some else other) is

-- a line before the others that is not the label
label_later : (label line : List ℕ) (lines : List (List ℕ)) (place k : ℕ) → is_label label line ≡ false →
    length line + k ≡ place → IsFirstLabel label lines k → IsFirstLabel label (line ∷ lines) place
label_later label line lines place k isn't sum first = record {
  before = line ∷ first.before;
  line = first.line;
  after = first.after;
  stands = ap (λ (x : List (List ℕ)). line ∷ x) first.stands;
  at = omega (arith, sum, first.at, length-append line (concat first.before));
  is = first.is;
  others = All-cons (λ (other : List ℕ). is_label label other ≡ false) line first.before isn't first.others;
}

label_found : (label : List ℕ) (lines : List (List ℕ)) (place : ℕ) → label_place label lines ≡ Some place →
    IsFirstLabel label lines place
unfolding label_place
label_found label [] place found = cc
label_found label (line ∷ lines) place found =
    let later = option_map (λ k. length line + k) (label_place label lines) in
    ⊎_elim
    (λ is.
    let here : Some 0 ≡ Some place = sym (chosen (is_label label line) (Some 0) later is) ∙ found in
    record {
      before = [];
      line = line;
      after = lines;
      stands = refl;
      at = cc (here);
      is = is;
      others = All-nil (λ (other : List ℕ). is_label label other ≡ false);
    })
    (λ isn't.
    let there = map_some (length line) (label_place label lines) place
    (sym (passed (is_label label line) (Some 0) later isn't) ∙ found) in
    label_later label line lines place there.0 isn't there.2 (label_found label lines there.0 there.1))
    (blank_or_not (is_label label line))

label_missing : (label : List ℕ) (lines : List (List ℕ)) → label_place label lines ≡ None →
    All (λ line. is_label label line ≡ false) lines
unfolding label_place
label_missing label [] missing = All-nil (λ (other : List ℕ). is_label label other ≡ false)
label_missing label (line ∷ lines) missing =
    let later = option_map (λ k. length line + k) (label_place label lines) in
    ⊎_elim
    (λ is.
    let here : Some 0 ≡ None = sym (chosen (is_label label line) (Some 0) later is) ∙ missing in
    absurd (cc (here)))
    (λ isn't.
    let none = map_none (length line) (label_place label lines)
    (sym (passed (is_label label line) (Some 0) later isn't) ∙ missing) in
    All-cons (λ (other : List ℕ). is_label label other ≡ false) line lines isn't (label_missing label lines none))
    (blank_or_not (is_label label line))

pub label_is_first : LabelIsFirst
label_is_first = record { found = label_found; missing = label_missing }

-- filling

not_percent : (a b : ℕ) → a ≢ 37 → (a == 37 && is_name b) ≡ false
not_percent a b other = grind (arith, nat_tests)

pub plain_stays : PlainLinesStay
unfolding filled
plain_stays arguments [] plain = refl
plain_stays arguments (a ∷ []) plain = refl
plain_stays arguments (a ∷ b ∷ rest) plain =
    ap (λ (t : Bool). if t then named_text arguments b ++ filled arguments rest else a ∷ filled arguments (b ∷ rest))
    (not_percent a b (All-head (λ (c : ℕ). c ≢ 37) a (b ∷ rest) plain))
    ∙ ap (λ (x : List ℕ). a ∷ x) (plain_stays arguments (b ∷ rest) (All-tail (λ (c : ℕ). c ≢ 37) a (b ∷ rest) plain))

-- what a later part of a line names, the line names
named_later : (front rest : List ℕ) (digit : ℕ) → Names rest digit → Names (front ++ rest) digit
named_later front rest digit names = record {
  front = front ++ names.front;
  rest = names.rest;
  spelled = ap (λ (x : List ℕ). front ++ x) names.spelled
      ∙ sym (append_assoc front names.front (37 ∷ (48 + digit) ∷ names.rest));
}

-- a `%` with a digit behind it
percent_there : (a b : ℕ) → (a == 37 && is_name b) ≡ true → a ≡ 37
percent_there a b named = grind (arith, nat_tests)

digit_there : (a b : ℕ) → (a == 37 && is_name b) ≡ true → b ≢ 37 → (48 ≤ b) × (b < 58)
digit_there a b named other = grind (arith, nat_tests)

digit_back : (b : ℕ) → 48 ≤ b → b ≡ 48 + (b - 48)
digit_back b high = omega arith

first_named : (a b : ℕ) (rest : List ℕ) → (a == 37 && is_name b) ≡ true → b ≢ 37 → Names (a ∷ b ∷ rest) (b - 48)
first_named a b rest named other = record {
  front = [];
  rest = rest;
  spelled = ap (λ (x : ℕ). x ∷ b ∷ rest) (percent_there a b named)
      ∙ ap (λ (x : ℕ). 37 ∷ x ∷ rest) (digit_back b (digit_there a b named other).0);
}

equal_or_not : (b c : ℕ) → (b ≡ c) ⊎ (b ≢ c)
equal_or_not b c =
    ⊎_elim (λ same. inl (eqb-true b c same))
    (λ apart. inr (λ same. absurd (false_true (sym apart ∙ eq-eqb b c same)))) (blank_or_not (b == c))

same_text : (one other : List (List ℕ)) (a b : ℕ) (rest : List ℕ) → (a == 37 && is_name b) ≡ true →
    ((digit : ℕ) → digit < 10 → Names (a ∷ b ∷ rest) digit → get_or one digit [] ≡ get_or other digit []) →
    named_text one b ≡ named_text other b
same_text one other a b rest named agree =
    ⊎_elim
    (λ same. ap (λ (x : ℕ). named_text one x) same ∙ sym (ap (λ (x : ℕ). named_text other x) same))
    (λ apart.
    let there = digit_there a b named apart in
    ap (λ (x : List ℕ). if b == 37 then 37 ∷ [] else x)
    (agree (b - 48) (omega (arith, there.0, there.1)) (first_named a b rest named apart)))
    (equal_or_not b 37)

pub others_do_not_matter : OthersDoNotMatter
unfolding filled
others_do_not_matter [] one other agree = refl
others_do_not_matter (a ∷ []) one other agree = refl
others_do_not_matter (a ∷ b ∷ rest) one other agree =
    let test = a == 37 && is_name b in
    ⊎_elim
    (λ named.
    let text = same_text one other a b rest named agree in
    let behind = others_do_not_matter rest one other
    (λ digit low names. agree digit low (named_later (a ∷ b ∷ []) rest digit names)) in
    ap (λ (t : Bool). if t then named_text one b ++ filled one rest else a ∷ filled one (b ∷ rest)) named
    ∙ ap (λ (x : List ℕ). x ++ filled one rest) text ∙ ap (λ (x : List ℕ). named_text other b ++ x) behind
    ∙ sym (ap (λ (t : Bool). if t then named_text other b ++ filled other rest else a ∷ filled other (b ∷ rest)) named))
    (λ plain.
    let behind = others_do_not_matter (b ∷ rest) one other
    (λ digit low names. agree digit low (named_later (a ∷ []) (b ∷ rest) digit names)) in
    ap (λ (t : Bool). if t then named_text one b ++ filled one rest else a ∷ filled one (b ∷ rest)) plain
    ∙ ap (λ (x : List ℕ). a ∷ x) behind
    ∙ sym (ap (λ (t : Bool). if t then named_text other b ++ filled other rest else a ∷ filled other (b ∷ rest)) plain))
    (blank_or_not test)
