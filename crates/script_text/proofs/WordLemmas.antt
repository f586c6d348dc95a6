-- Laws of the words of a text.
use Rattle.std.proofs.Common.{◌≡◌, ◌⊎◌, inl, inr, ⊎_elim, ℕ, ◌+◌, ◌<◌, ◌≤◌, ◌==◌, Bool, true, false, not, cond, suc}
use Rattle.std.proofs.Common.{List, [], ◌∷◌, ◌++◌, length, take, drop, get_or}
use Rattle.std.proofs.Common.{refl, sym, ap, ◌∙◌, subst, arith, if◌then◌else◌}
use Rattle.std.specs.List.{position_or_len}
use Rattle.std.proofs.lemmas.List.{append_assoc, append-nil, take_all, take_at, length_push, length-drop}
use Rattle.std.proofs.lemmas.List.{nil_from_length}
use Rattle.std.proofs.lemmas.Bool.Decides.{nat_tests}
use Rattle.line_text.specs.Words.{is_blank, past_blanks, word_at}
use Rattle.script_text.specs.Lines.{with_front}
use Rattle.script_text.specs.Arguments.{ends_word, words_of}
use Rattle.line_text.proofs.BlankLemmas.{past_shorter}

-- a place one further on
one_more : (n : ℕ) → 1 + n ≡ suc n
one_more n = omega arith

passed : (b : ℕ) (rest : List ℕ) → is_blank b ≡ true → past_blanks (b ∷ rest) ≡ past_blanks rest
unfolding past_blanks
passed b rest blank =
    let n = position_or_len (λ b. not (is_blank b)) rest in
    ap (λ (t : Bool). drop (cond (not (not t)) (1 + n) 0) (b ∷ rest)) blank
    ∙ ap (λ (k : ℕ). drop k (b ∷ rest)) (one_more n)

kept : (b : ℕ) (rest : List ℕ) → is_blank b ≡ false → past_blanks (b ∷ rest) ≡ b ∷ rest
unfolding past_blanks
kept b rest blank =
    let n = position_or_len (λ b. not (is_blank b)) rest in
    ap (λ (t : Bool). drop (cond (not (not t)) (1 + n) 0) (b ∷ rest)) blank

none_past : past_blanks [] ≡ []
unfolding past_blanks
none_past = refl

pub blank_or_not : (t : Bool) → (t ≡ true) ⊎ (t ≡ false)
blank_or_not true = inl refl
blank_or_not false = inr refl

-- blanks in front of a text are in none of its words
pub words_past : (text : List ℕ) → words_of (past_blanks text) ≡ words_of text
unfolding words_of
words_past [] = ap words_of none_past
words_past (b ∷ rest) =
    ⊎_elim
    (λ blank. ap words_of (passed b rest blank) ∙ words_past rest
    ∙ sym (ap (λ (t : Bool). if t then words_of rest else if ends_word rest then (b ∷ []) ∷ words_of rest
    else with_front b (words_of rest)) blank))
    (λ blank. ap words_of (kept b rest blank))
    (blank_or_not (is_blank b))

pub first_past : (text : List ℕ) → 0 < length (past_blanks text) → is_blank (get_or (past_blanks text) 0 0) ≡ false
first_past [] some = absurd (omega (arith, ap length none_past))
first_past (b ∷ rest) some =
    ⊎_elim
    (λ blank. ap (λ (x : List ℕ). is_blank (get_or x 0 0)) (passed b rest blank)
    ∙ first_past rest (omega (arith, some, ap length (passed b rest blank))))
    (λ blank. ap (λ (x : List ℕ). is_blank (get_or x 0 0)) (kept b rest blank) ∙ blank)
    (blank_or_not (is_blank b))

-- the first word of a text that begins with no blank, and the others

ends_at_once : (rest : List ℕ) → ends_word rest ≡ true → position_or_len is_blank rest ≡ 0
ends_at_once [] ends = refl
ends_at_once (b ∷ rest) ends = ap (λ (t : Bool). cond (not t) (1 + position_or_len is_blank rest) 0) ends

goes_on : (rest : List ℕ) → ends_word rest ≡ false → (0 < length rest) × (is_blank (get_or rest 0 0) ≡ false)
goes_on [] ends = cc
goes_on (b ∷ rest) ends = (omega arith, ends)

alone : (b : ℕ) (rest : List ℕ) → is_blank b ≡ false → ends_word rest ≡ true → word_at (b ∷ rest) ≡ (b ∷ [], rest)
unfolding word_at
alone b rest first ends =
    let n = position_or_len is_blank rest in
    let cut : ℕ → List ℕ × List ℕ = λ k. (take k (b ∷ rest), drop k (b ∷ rest)) in
    ap (λ (t : Bool). cut (cond (not t) (1 + n) 0)) first ∙ ap (λ (k : ℕ). cut (1 + k)) (ends_at_once rest ends)

joined : (b : ℕ) (rest : List ℕ) → is_blank b ≡ false →
    word_at (b ∷ rest) ≡ (b ∷ (word_at rest).0, (word_at rest).1)
unfolding word_at
joined b rest first =
    let n = position_or_len is_blank rest in
    let cut : ℕ → List ℕ × List ℕ = λ k. (take k (b ∷ rest), drop k (b ∷ rest)) in
    ap (λ (t : Bool). cut (cond (not t) (1 + n) 0)) first ∙ ap cut (one_more n)

split_of : List ℕ × List ℕ → List (List ℕ)
split_of split = split.0 ∷ words_of split.1

pub words_first : (text : List ℕ) → 0 < length text → is_blank (get_or text 0 0) ≡ false →
    words_of text ≡ (word_at text).0 ∷ words_of (word_at text).1
unfolding words_of split_of
words_first [] some first = absurd (omega arith)
words_first (b ∷ rest) some first =
    let word = if ends_word rest then (b ∷ []) ∷ words_of rest else with_front b (words_of rest) in
    ap (λ (t : Bool). if t then words_of rest else word) first
    ∙ ⊎_elim
    (λ ends. ap (λ (t : Bool). if t then (b ∷ []) ∷ words_of rest else with_front b (words_of rest)) ends
    ∙ sym (ap split_of (alone b rest first ends)))
    (λ ends. ap (λ (t : Bool). if t then (b ∷ []) ∷ words_of rest else with_front b (words_of rest)) ends
    ∙ ap (with_front b) (words_first rest (goes_on rest ends).0 (goes_on rest ends).1)
    ∙ sym (ap split_of (joined b rest first)))
    (blank_or_not (ends_word rest))

-- the first word has a byte

behind_shorter : (b : ℕ) (rest : List ℕ) → is_blank b ≡ false → length (word_at (b ∷ rest)).1 ≤ length rest
unfolding word_at
behind_shorter b rest first =
    let n = position_or_len is_blank rest in
    let cut : length (drop (cond (not (is_blank b)) (1 + n) 0) (b ∷ rest)) ≡ length (drop n rest) =
    ap (λ (t : Bool). length (drop (cond (not t) (1 + n) 0) (b ∷ rest))) first
    ∙ ap (λ (k : ℕ). length (drop k (b ∷ rest))) (one_more n) in
    omega (arith, cut, length-drop n rest)

pub word_shorter : (text : List ℕ) → 0 < length text → is_blank (get_or text 0 0) ≡ false →
    length (word_at text).1 < length text
word_shorter [] some first = absurd (omega arith)
word_shorter (b ∷ rest) some first = omega (arith, behind_shorter b rest first)

-- a name and arguments that were found, up to a rest of their text, where there is room for ten
pub record Splits (name text : List ℕ) (texts : List (List ℕ)) (rest : List ℕ) : Type 0 where
  pub few : length texts ≤ 10
  pub starts : 0 < length rest → is_blank (get_or rest 0 0) ≡ false
  pub whole : take 10 (texts ++ words_of rest) ≡ take 10 (name ∷ words_of text)

pub splits_begins : (name text : List ℕ) → Splits name text (name ∷ []) (past_blanks text)
splits_begins name text = record {
  few = omega arith;
  starts = first_past text;
  whole = ap (λ (x : List (List ℕ)). take 10 (name ∷ x)) (words_past text);
}

pub splits_more : (name text : List ℕ) (texts : List (List ℕ)) (rest : List ℕ) → Splits name text texts rest →
    0 < length rest → length texts < 10 →
    Splits name text (texts ++ (word_at rest).0 ∷ []) (past_blanks (word_at rest).1)
splits_more name text texts rest splits some few =
    let word = (word_at rest).0 in
    let behind = (word_at rest).1 in
    record {
      few = omega (arith, length_push texts word);
      starts = first_past behind;
      whole = ap (take 10) (append_assoc texts (word ∷ []) (words_of (past_blanks behind)))
          ∙ ap (λ (x : List (List ℕ)). take 10 (texts ++ word ∷ x)) (words_past behind)
          ∙ ap (λ (x : List (List ℕ)). take 10 (texts ++ x)) (sym (words_first rest some (splits.starts some)))
          ∙ splits.whole;
    }

pub splits_shorter : (name text : List ℕ) (texts : List (List ℕ)) (rest : List ℕ) → Splits name text texts rest →
    0 < length rest → length (past_blanks (word_at rest).1) < length rest
splits_shorter name text texts rest splits some =
    omega (arith, past_shorter (word_at rest).1, word_shorter rest some (splits.starts some))

none_left : words_of [] ≡ []
unfolding words_of
none_left = refl

pub splits_all : (name text : List ℕ) (texts : List (List ℕ)) (rest : List ℕ) → Splits name text texts rest →
    rest ≡ [] → texts ≡ take 10 (name ∷ words_of text)
splits_all name text texts rest splits all =
    sym (take_all 10 texts splits.few) ∙ ap (take 10) (sym (append-nil texts))
    ∙ ap (λ (x : List (List ℕ)). take 10 (texts ++ x)) (sym (ap words_of all ∙ none_left)) ∙ splits.whole

pub splits_full : (name text : List ℕ) (texts : List (List ℕ)) (rest : List ℕ) → Splits name text texts rest →
    length texts ≡ 10 → texts ≡ take 10 (name ∷ words_of text)
splits_full name text texts rest splits full = sym (take_at texts (words_of rest) 10 full) ∙ splits.whole

-- the same of values that are equal to these

pub splits_start : (name text : List ℕ) (none texts : List (List ℕ)) (rest : List ℕ) → none ≡ [] →
    texts ≡ none ++ name ∷ [] → rest ≡ past_blanks text → Splits name text texts rest
splits_start name text none texts rest empty one behind =
    subst (λ (x : List (List ℕ)). Splits name text x rest)
    (sym (one ∙ ap (λ (x : List (List ℕ)). x ++ name ∷ []) empty))
    (subst (λ (x : List ℕ). Splits name text (name ∷ []) x) (sym behind) (splits_begins name text))

pub splits_step : (name text : List ℕ) (texts more : List (List ℕ)) (rest word behind left : List ℕ) →
    Splits name text texts rest → 0 < length rest → length texts < 10 → (word, behind) ≡ word_at rest →
    more ≡ texts ++ word ∷ [] → left ≡ past_blanks behind → Splits name text more left
splits_step name text texts more rest word behind left splits some few cut pushed past =
    let first : word ≡ (word_at rest).0 = ap (λ (x : List ℕ × List ℕ). x.0) cut in
    let second : behind ≡ (word_at rest).1 = ap (λ (x : List ℕ × List ℕ). x.1) cut in
    subst (λ (x : List (List ℕ)). Splits name text x left) (sym (pushed ∙ ap (λ (x : List ℕ). texts ++ x ∷ []) first))
    (subst (λ (x : List ℕ). Splits name text (texts ++ (word_at rest).0 ∷ []) x) (sym (past ∙ ap past_blanks second))
    (splits_more name text texts rest splits some few))

pub splits_nearer : (name text : List ℕ) (texts : List (List ℕ)) (rest word behind left : List ℕ) →
    Splits name text texts rest → 0 < length rest → (word, behind) ≡ word_at rest → left ≡ past_blanks behind →
    length left < length rest
splits_nearer name text texts rest word behind left splits some cut past =
    let second : behind ≡ (word_at rest).1 = ap (λ (x : List ℕ × List ℕ). x.1) cut in
    omega (arith, splits_shorter name text texts rest splits some, ap length (past ∙ ap past_blanks second))

pub some_from_test : (rest : List ℕ) (empty : Bool) → empty ≡ (length rest == 0) → empty ≡ false → 0 < length rest
some_from_test rest empty test is = grind (arith, nat_tests)

zero_from_test : (n : ℕ) (empty : Bool) → empty ≡ (n == 0) → empty ≡ true → n ≡ 0
zero_from_test n empty test is = grind (arith, nat_tests)

pub none_from_test : (rest : List ℕ) (empty : Bool) → empty ≡ (length rest == 0) → empty ≡ true → rest ≡ []
none_from_test rest empty test is = nil_from_length rest (zero_from_test (length rest) empty test is)
