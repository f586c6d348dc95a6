-- The first word of a text and what follows it, as the function of words gives them.
use Rattle.std.specs.Prelude.{not}
use Rattle.std.proofs.Common.{◌≡◌, ℕ, ◌+◌, ◌<◌, suc, Bool, true, false, cond, List, [], ◌∷◌, ◌++◌, length, take, drop, get_or, All, refl, ap, sym, subst, ◌∙◌, ◌⊎◌, inl, inr, arith, length-append}
use Rattle.std.specs.List.{position_or_len}
use Rattle.std.proofs.lemmas.Bool.{not-true, not_from_false, not_from_true, false_from_ne_true, false≢true}
use Rattle.std.proofs.lemmas.List.{drop_at, append-nil}
use Rattle.std.proofs.lemmas.List.Elements.{All-head, All-tail, All-same}
use Rattle.line_text.specs.Words.{IsBlank, IsBlanks, StartsIn, IsWord, Begins, is_blank, past_blanks, word_at}
use Rattle.scp_parser.specs.Reading.{next_word}
use Rattle.line_text.proofs.BlankLemmas.{is_other, blank_is, blank_passes, none_before_place, blanked, split_at_place, word_parts}

-- blanks, and the bytes that are none

pub not_blank : (b : ℕ) → (IsBlank b → ⊥) → is_blank b ≡ false
not_blank b h = false_from_ne_true (is_blank b) (λ e. h (blank_is b e))

pub not_blank_is : (b : ℕ) → is_blank b ≡ false → IsBlank b → ⊥
not_blank_is b h blank = false≢true (sym h ∙ blank_passes b blank)

-- the text begins with no blank
abbrev pub IsBare : List ℕ → Type 0
IsBare text = StartsIn (λ b. IsBlank b → ⊥) text

-- the place of the first byte that passes, and what stands there

place_behind : (p : ℕ → Bool) (part rest : List ℕ) → All (λ b. p b ≡ false) part → StartsIn (λ b. p b ≡ true) rest → position_or_len p (part ++ rest) ≡ length part
place_behind p [] [] none starts = refl
place_behind p [] (b ∷ more) none starts = ap (λ (c : Bool). cond (not c) (1 + position_or_len p more) 0) starts
place_behind p (b ∷ more) rest none starts =
    let here : p b ≡ false = All-head (λ (c : ℕ). p c ≡ false) b more none in
    let further = place_behind p more rest (All-tail (λ (c : ℕ). p c ≡ false) b more none) starts in
    let one : 1 + position_or_len p (more ++ rest) ≡ suc (length more) = omega (arith, further) in
    ap (λ (c : Bool). cond (not c) (1 + position_or_len p (more ++ rest)) 0) here ∙ one

pub starts_at_place : (p : ℕ → Bool) (text : List ℕ) → StartsIn (λ b. p b ≡ true) (drop (position_or_len p text) text)
starts_at_place p [] = tt
starts_at_place p (b ∷ more) =
    let n = position_or_len p more in
    let one : suc n ≡ 1 + n = omega arith in
    elim (p b) as (λ (e : Bool). p b ≡ e → StartsIn (λ b. p b ≡ true) (drop (cond (not e) (1 + n) 0) (b ∷ more))) [
      | true ↦ λ is. is
      | false ↦ λ is. subst (λ (k : ℕ). StartsIn (λ b. p b ≡ true) (drop k (b ∷ more))) one (starts_at_place p more)
    ] refl

-- what stands behind the blanks at the front

starts_other : (text : List ℕ) → IsBare text → StartsIn (λ b. is_other b ≡ true) text
starts_other [] bare = tt
starts_other (b ∷ more) bare = not_from_false (is_blank b) (not_blank b bare)

bare_from : (text : List ℕ) → StartsIn (λ b. is_other b ≡ true) text → IsBare text
bare_from [] starts = tt
bare_from (b ∷ more) starts = not_blank_is b (not-true (is_blank b) starts)

pub past_blanks_split : (blanks rest : List ℕ) → IsBlanks blanks → IsBare rest → past_blanks (blanks ++ rest) ≡ rest
unfolding past_blanks
past_blanks_split blanks rest are bare =
    let no_other : All (λ b. is_other b ≡ false) blanks = λ k d below. not_from_true (is_blank (get_or blanks k d)) (blank_passes (get_or blanks k d) (are k d below)) in
    drop_at blanks rest (position_or_len is_other (blanks ++ rest)) (sym (place_behind is_other blanks rest no_other (starts_other rest bare)))

pub past_is_bare : (text : List ℕ) → IsBare (past_blanks text)
unfolding past_blanks
past_is_bare text = bare_from (drop (position_or_len is_other text) text) (starts_at_place is_other text)

pub past_of_blanks : (text : List ℕ) → IsBlanks text → past_blanks text ≡ []
past_of_blanks text are = ap past_blanks (sym (append-nil text)) ∙ past_blanks_split text [] are tt

pub blanks_from_past : (text : List ℕ) → past_blanks text ≡ [] → IsBlanks text
blanks_from_past text none =
    let front = blanked text in
    All-same IsBlank text front.blanks (front.spelled ∙ ap (λ (t : List ℕ). front.blanks ++ t) none ∙ append-nil front.blanks) front.are

-- the word at the front of a text

starts_blank : (text : List ℕ) → StartsIn IsBlank text → StartsIn (λ b. is_blank b ≡ true) text
starts_blank [] starts = tt
starts_blank (b ∷ more) starts = blank_passes b starts

blank_from : (text : List ℕ) → StartsIn (λ b. is_blank b ≡ true) text → StartsIn IsBlank text
blank_from [] starts = tt
blank_from (b ∷ more) starts = blank_is b starts

word_split : (word rest : List ℕ) → IsWord word → StartsIn IsBlank rest → word_at (word ++ rest) ≡ (word, rest)
unfolding word_at
word_split word rest is ends =
    let none : All (λ b. is_blank b ≡ false) word = λ k d below. not_blank (get_or word k d) (is.whole k d below) in
    split_at_place word rest (position_or_len is_blank (word ++ rest)) (place_behind is_blank word rest none (starts_blank rest ends))

word_is_bare : (word rest : List ℕ) → IsWord word → IsBare (word ++ rest)
word_is_bare [] rest is = absurd (omega (arith, is.some))
word_is_bare (b ∷ more) rest is = All-head (λ c. IsBlank c → ⊥) b more is.whole

pub begins_past : (text word rest : List ℕ) → Begins text word rest → past_blanks text ≡ word ++ rest
begins_past text word rest begins =
    ap past_blanks begins.spelled ∙ past_blanks_split begins.blanks (word ++ rest) begins.blank (word_is_bare word rest begins.is)

pub begins_next : (text word rest : List ℕ) → Begins text word rest → next_word text ≡ (word, rest)
unfolding next_word
begins_next text word rest begins = ap word_at (begins_past text word rest begins) ∙ word_split word rest begins.is begins.ends

pub blanks_next : (text : List ℕ) → IsBlanks text → next_word text ≡ ([], [])
unfolding next_word word_at
blanks_next text are = ap word_at (past_of_blanks text are)

pub begins_not_blank : (text word rest : List ℕ) → Begins text word rest → IsBlanks text → ⊥
begins_not_blank text word rest begins are =
    let none : word ++ rest ≡ [] = sym (begins_past text word rest begins) ∙ past_of_blanks text are in
    omega (arith, begins.is.some, length-append word rest, ap length none)

word_whole : (text : List ℕ) → All (λ b. IsBlank b → ⊥) (word_at text).0
unfolding word_at
word_whole text = λ k d below.
    not_blank_is (get_or (take (position_or_len is_blank text) text) k d) (none_before_place is_blank text k d below)

word_ends : (text : List ℕ) → StartsIn IsBlank (word_at text).1
unfolding word_at
word_ends text = blank_from (drop (position_or_len is_blank text) text) (starts_at_place is_blank text)

-- a text that begins with a byte that is no blank begins with a word
word_some : (b : ℕ) (more : List ℕ) → (IsBlank b → ⊥) → 0 < length (word_at (b ∷ more)).0
unfolding word_at
word_some b more bare =
    let n = position_or_len is_blank more in
    let one : suc n ≡ 1 + n = omega arith in
    subst (λ (c : Bool). 0 < length (take (cond (not c) (1 + n) 0) (b ∷ more))) (sym (not_blank b bare))
    (subst (λ (k : ℕ). 0 < length (take k (b ∷ more))) one (omega arith))

begins_there : (text : List ℕ) (b : ℕ) (more : List ℕ) → past_blanks text ≡ b ∷ more → Begins text (next_word text).0 (next_word text).1
unfolding next_word
begins_there text b more is =
    let front = blanked text in
    let bare : IsBare (b ∷ more) = subst IsBare is (past_is_bare text) in
    record {
      blanks = front.blanks;
      spelled = front.spelled ∙ ap (λ (t : List ℕ). front.blanks ++ t) (word_parts (past_blanks text));
      blank = front.are;
      is = record {
        some = subst (λ (t : List ℕ). 0 < length (word_at t).0) (sym is) (word_some b more bare);
        whole = word_whole (past_blanks text);
      };
      ends = word_ends (past_blanks text);
    }

blank_or_begins : (text past : List ℕ) → past_blanks text ≡ past → IsBlanks text ⊎ Begins text (next_word text).0 (next_word text).1
blank_or_begins text [] is = inl (blanks_from_past text is)
blank_or_begins text (b ∷ more) is = inr (begins_there text b more is)

-- a text is of blanks alone, or begins with a word
pub first_word : (text : List ℕ) → IsBlanks text ⊎ Begins text (next_word text).0 (next_word text).1
first_word text = blank_or_begins text (past_blanks text) refl
