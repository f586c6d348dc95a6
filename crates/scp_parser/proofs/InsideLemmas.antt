-- A text without the blanks round it.
use Rattle.std.specs.Prelude.{reverse}
use Rattle.std.proofs.Common.{◌≡◌, ℕ, ◌+◌, ◌-◌, ◌<◌, ◌≤◌, zero, suc, true, false, List, [], ◌∷◌, ◌++◌, length, take, drop, get_or, refl, ap, sym, subst, ◌∙◌, ◌⊎◌, inl, inr, arith, length-append}
use Rattle.std.specs.List.{suffix_len}
use Rattle.std.proofs.lemmas.Bool.{cases_lt}
use Rattle.std.proofs.lemmas.List.{take-append-drop, take_at, drop_at, get_or-take, get_or-drop, get_or-reverse, get_or_append_left, get_or-append-add, length-take-le, length-drop, length-reverse, get_or_default}
use Rattle.std.proofs.Math.Nat.{add-zero}
use Rattle.std.proofs.lemmas.List.Sums.{suffix_len-le-length, suffix_len_is, prefix_len_passes, prefix_len_stops}
use Rattle.line_text.specs.Words.{IsBlank, IsBlanks, is_blank, past_blanks, trimmed}
use Rattle.scp_parser.specs.Grammar.{EndsWithoutBlank, IsInside}
use Rattle.scp_parser.specs.Reading.{inside_of}
use Rattle.scp_parser.proofs.WordLemmas.{not_blank, not_blank_is, IsBare, past_blanks_split, past_is_bare, past_of_blanks, blanks_from_past}
use Rattle.line_text.proofs.BlankLemmas.{blank_is, blank_passes, blanked}

-- a text without the blanks at its end

-- the last byte, if it is blank
blank_last : (text : List ℕ) → 0 < length text → IsBlank (get_or text (length text - 1) 0) → IsBlanks (drop (length text - 1) text)
blank_last text some blank = λ k d within.
    let n = length text - 1 in
    let long : length (drop n text) ≡ 1 = omega (arith, length-drop n text, some) in
    let first : k ≡ 0 = omega (arith, within, long) in
    let below : n < length text = omega (arith, some) in
    let at_first = ap (λ (j : ℕ). get_or (drop n text) j d) first in
    let at_last = get_or-drop n text 0 d ∙ ap (λ (j : ℕ). get_or text j d) (add-zero n) ∙ get_or_default text n d 0 below in
    subst IsBlank (sym (at_first ∙ at_last)) blank

-- the last byte of a text that does not end with a blank
last_other : (front blanks : List ℕ) → EndsWithoutBlank front → 0 < length front → is_blank (get_or (front ++ blanks) (length front - 1) 0) ≡ false
last_other front blanks ends some =
    let n = length front - 1 in
    let below : n < length front = omega (arith, some) in
    let long : length (drop n front) ≡ 1 = omega (arith, length-drop n front, some) in
    let same : get_or (front ++ blanks) n 0 ≡ get_or front n 0 = get_or_append_left front blanks 0 n below in
    let none : IsBlank (get_or front n 0) → drop n front ≡ [] = λ blank. ends (take n front) (drop n front) (sym (take-append-drop n front)) (blank_last front some blank) in
    let never : IsBlank (get_or front n 0) → ⊥ = λ blank. omega (arith, long, ap length (none blank)) in
    subst (λ (b : ℕ). is_blank b ≡ false) (sym same) (not_blank (get_or front n 0) never)

blank_behind : (front blanks : List ℕ) → IsBlanks blanks → (k : ℕ) → length front ≤ k → k < length (front ++ blanks) → is_blank (get_or (front ++ blanks) k 0) ≡ true
blank_behind front blanks are k above below =
    let n = length front in
    let text = front ++ blanks in
    let place : n + (k - n) ≡ k = omega (arith, above) in
    let within : k - n < length blanks = omega (arith, above, below, length-append front blanks) in
    let same : get_or text k 0 ≡ get_or blanks (k - n) 0 = ap (λ (j : ℕ). get_or text j 0) (sym place) ∙ get_or-append-add front blanks (k - n) 0 in
    subst (λ (b : ℕ). is_blank b ≡ true) (sym same) (blank_passes (get_or blanks (k - n) 0) (are (k - n) 0 within))

-- where a text is split so that only blanks stand behind, and no blank before
pub trimmed_at : (front blanks : List ℕ) → IsBlanks blanks → EndsWithoutBlank front → trimmed (front ++ blanks) ≡ front
unfolding trimmed
trimmed_at front blanks are ends =
    let text = front ++ blanks in
    let n = length front in
    let long : length text ≡ n + length blanks = length-append front blanks in
    let within : n ≤ length text = omega (arith, long) in
    let count : suffix_len is_blank text ≡ length text - n = suffix_len_is is_blank text n 0 within (blank_behind front blanks are) (last_other front blanks ends) in
    let left : length front ≡ length text - suffix_len is_blank text = omega (arith, count, long) in
    take_at front blanks (length text - suffix_len is_blank text) left

-- how many bytes stand before the blanks at the end
pub kept : List ℕ → ℕ
kept text = length text - suffix_len is_blank text

kept_within : (text : List ℕ) → kept text ≤ length text
unfolding kept
kept_within text = omega (arith, suffix_len-le-length is_blank text)

-- the blanks at the end
behind_kept : (text : List ℕ) → IsBlanks (drop (kept text) text)
unfolding kept
behind_kept text = λ k d within.
    let m = kept text in
    let n = suffix_len is_blank text in
    let most : n ≤ length text = suffix_len-le-length is_blank text in
    let long : length (drop m text) ≡ length text - m = length-drop m text in
    let from_end = length text - 1 - (m + k) in
    let early : from_end < n = omega (arith, most, long, within) in
    let inside : from_end < length text = omega (arith, most, early) in
    let place : length text - 1 - from_end ≡ m + k = omega (arith, most, long, within) in
    let passes : is_blank (get_or (reverse text) from_end d) ≡ true = prefix_len_passes is_blank (reverse text) from_end d early in
    let at_end = get_or-reverse text from_end d inside ∙ ap (λ (j : ℕ). get_or text j d) place in
    let same : get_or (reverse text) from_end d ≡ get_or (drop m text) k d = at_end ∙ sym (get_or-drop m text k d) in
    blank_is (get_or (drop m text) k d) (subst (λ (b : ℕ). is_blank b ≡ true) same passes)

-- the last byte that is kept is no blank
last_kept : (text : List ℕ) (i : ℕ) → i + 1 ≡ kept text → is_blank (get_or (take (kept text) text) i 0) ≡ false
unfolding kept
last_kept text i last =
    let m = kept text in
    let n = suffix_len is_blank text in
    let most : n ≤ length text = suffix_len-le-length is_blank text in
    let whole : length (reverse text) ≡ length text = length-reverse text in
    let some : n < length (reverse text) = omega (arith, whole, last, most) in
    let inside : n < length text = omega (arith, whole, some) in
    let place : length text - 1 - n ≡ i = omega (arith, last, most) in
    let below : i < m = omega (arith, last) in
    let at_end = get_or-reverse text n 0 inside ∙ ap (λ (j : ℕ). get_or text j 0) place in
    let same : get_or (reverse text) n 0 ≡ get_or (take m text) i 0 = at_end ∙ sym (get_or-take m text i 0 below) in
    subst (λ (b : ℕ). is_blank b ≡ false) same (prefix_len_stops is_blank (reverse text) 0 some)

no_blank_end : (text front blanks : List ℕ) → take (kept text) text ≡ front ++ blanks → IsBlanks blanks → blanks ≡ []
no_blank_end text front [] spelled are = refl
no_blank_end text front (b ∷ more) spelled are =
    let i = length front + length more in
    let long : length (take (kept text) text) ≡ kept text = length-take-le (kept text) text (kept_within text) in
    let last : i + 1 ≡ kept text = omega (arith, ap length spelled, length-append front (b ∷ more), long) in
    let byte = get_or (b ∷ more) (length more) 0 in
    let same : get_or (take (kept text) text) i 0 ≡ byte = ap (λ (t : List ℕ). get_or t i 0) spelled ∙ get_or-append-add front (b ∷ more) (length more) 0 in
    let none : is_blank byte ≡ false = subst (λ (c : ℕ). is_blank c ≡ false) same (last_kept text i last) in
    absurd (not_blank_is byte none (are (length more) 0 (omega arith)))

-- a text that begins with no blank keeps a byte
some_kept : (b : ℕ) (more : List ℕ) → (IsBlank b → ⊥) → 0 < kept (b ∷ more)
unfolding kept
some_kept b more bare =
    elim (cases_lt 0 (kept (b ∷ more))) [
      | inl some ↦ some
      | inr none ↦
          let text = b ∷ more in
          let last = length more in
          let most : suffix_len is_blank text ≤ length text = suffix_len-le-length is_blank text in
          let early : last < suffix_len is_blank text = omega (arith, none, most) in
          let place : length text - 1 - last ≡ 0 = omega arith in
          let same : get_or (reverse text) last 0 ≡ b = get_or-reverse text last 0 (omega arith) ∙ ap (λ (j : ℕ). get_or text j 0) place in
          absurd (bare (blank_is b (subst (λ (c : ℕ). is_blank c ≡ true) same (prefix_len_passes is_blank (reverse text) last 0 early))))
    ]

bare_front : (n : ℕ) (text : List ℕ) → IsBare text → IsBare (take n text)
bare_front zero text bare = tt
bare_front (suc n) [] bare = tt
bare_front (suc n) (b ∷ more) bare = bare

trimmed_is : (text : List ℕ) → trimmed text ≡ take (kept text) text
unfolding trimmed kept
trimmed_is text = refl

pub inside_there : (text : List ℕ) (b : ℕ) (more : List ℕ) → past_blanks text ≡ b ∷ more → IsInside text (trimmed (b ∷ more)) (drop (kept (b ∷ more)) (b ∷ more))
inside_there text b more is =
    let past = b ∷ more in
    let n = kept past in
    let front = blanked text in
    let bare : IsBare past = subst IsBare is (past_is_bare text) in
    let long : length (take n past) ≡ n = length-take-le n past (kept_within past) in
    subst (λ (t : List ℕ). IsInside text t (drop n past)) (sym (trimmed_is past)) (record {
      before = front.blanks;
      spelled = front.spelled ∙ ap (λ (t : List ℕ). front.blanks ++ t) (is ∙ sym (take-append-drop n past));
      blank_before = front.are;
      blank_behind = behind_kept past;
      some = omega (arith, long, some_kept b more bare);
      starts = bare_front n past bare;
      ends = no_blank_end past;
    })

-- the inside of a text is one

bare_inside : (inside behind : List ℕ) → 0 < length inside → IsBare inside → IsBare (inside ++ behind)
bare_inside [] behind some bare = absurd (omega arith)
bare_inside (b ∷ more) behind some bare = bare

pub inside_past : (text inside behind : List ℕ) → IsInside text inside behind → past_blanks text ≡ inside ++ behind
inside_past text inside behind is =
    ap past_blanks is.spelled ∙ past_blanks_split is.before (inside ++ behind) is.blank_before (bare_inside inside behind is.some is.starts)

-- the trimmed text by its length

pub trimmed_within : (text : List ℕ) → length (trimmed text) ≤ length text
trimmed_within text =
    let long : length (trimmed text) ≡ kept text = ap length (trimmed_is text) ∙ length-take-le (kept text) text (kept_within text) in
    omega (arith, long, kept_within text)

pub trimmed_front : (text : List ℕ) → take (length (trimmed text)) text ≡ trimmed text
trimmed_front text =
    let long : length (trimmed text) ≡ kept text = ap length (trimmed_is text) ∙ length-take-le (kept text) text (kept_within text) in
    ap (λ (n : ℕ). take n text) long ∙ sym (trimmed_is text)

-- the inside of a text, as its function gives it

pub inside_given : (text inside behind : List ℕ) → IsInside text inside behind → inside_of text ≡ (inside, behind)
unfolding inside_of
inside_given text inside behind is =
    let past = inside_past text inside behind is in
    let front : trimmed (inside ++ behind) ≡ inside = trimmed_at inside behind is.blank_behind is.ends in
    ap (λ (t : List ℕ). (trimmed t, drop (length (trimmed t)) t)) past
    ∙ ap (λ (t : List ℕ). (t, drop (length t) (inside ++ behind))) front
    ∙ ap (λ (t : List ℕ). (inside, t)) (drop_at inside behind (length inside) refl)

pub inside_of_blanks : (text : List ℕ) → IsBlanks text → inside_of text ≡ ([], [])
unfolding inside_of trimmed
inside_of_blanks text are = ap (λ (t : List ℕ). (trimmed t, drop (length (trimmed t)) t)) (past_of_blanks text are)

inside_cases : (text past : List ℕ) → past_blanks text ≡ past → IsBlanks text ⊎ ((x : List ℕ × List ℕ) × IsInside text x.0 x.1)
inside_cases text [] none = inl (blanks_from_past text none)
inside_cases text (b ∷ more) is = inr ((trimmed (b ∷ more), drop (kept (b ∷ more)) (b ∷ more)), inside_there text b more is)

-- a text is of blanks alone, or has an inside
pub blanks_or_inside : (text : List ℕ) → IsBlanks text ⊎ ((x : List ℕ × List ℕ) × IsInside text x.0 x.1)
blanks_or_inside text = inside_cases text (past_blanks text) refl
