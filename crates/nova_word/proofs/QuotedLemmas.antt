-- Laws of quoted texts, byte by byte.
use Rattle.std.proofs.Common.{◌≡◌, ℕ, ◌<◌, ◌≤◌, List, [], ◌∷◌, ◌++◌, length, drop, get_or, None, refl, sym, ap, ◌∙◌}
use Rattle.std.proofs.Common.{subst, arith}
use Rattle.std.proofs.lemmas.List.{append_assoc, append-nil, drop_at, length-append}
use Rattle.nova_word.specs.Quoted.{Stands, itself, carriage_return, line_feed, tab, backslash, quote, octal, StandFor}
use Rattle.nova_word.specs.Quoted.{none, more, BeginsQuoted, BeginsUnquoted, QuotedIsUnique, byte_at}
use Rattle.nova_word.proofs.QuotedByteLemmas.{found, same_found, stands_found, found_taken}

-- what stands between the quotes up to the closing one, and what follows that
pub record Ends (text bytes rest : List ℕ) : Type 0 where
  pub inside : List ℕ
  pub spelled : text ≡ inside ++ 34 ∷ rest
  pub stands : StandFor inside bytes

-- the same by its first byte
pub data Next (text bytes rest : List ℕ) : Type 0 where
  closes : text ≡ 34 ∷ rest → bytes ≡ [] → Next text bytes rest
  goes : (b width : ℕ) (others : List ℕ) → byte_at text ≡ found b width → bytes ≡ b ∷ others →
      Ends (drop width text) others rest → Next text bytes rest

next_inside : (inside bytes rest : List ℕ) → StandFor inside bytes → Next (inside ++ 34 ∷ rest) bytes rest
next_inside inside bytes rest none = closes refl refl
next_inside inside bytes rest (more front later others b stands stand) =
    let split = append_assoc front later (34 ∷ rest) in
    goes b (length front) others
    (ap byte_at split ∙ stands_found front b stands (later ++ 34 ∷ rest))
    refl
    (record {
      inside = later;
      spelled = ap (drop (length front)) split ∙ drop_at front (later ++ 34 ∷ rest) (length front) refl;
      stands = stand;
    })

pub next_of : (text bytes rest : List ℕ) → Ends text bytes rest → Next text bytes rest
next_of text bytes rest ends = subst (λ (x : List ℕ). Next x bytes rest) (sym ends.spelled)
    (next_inside ends.inside bytes rest ends.stands)

quote_is_no_byte : (rest : List ℕ) (b width : ℕ) → byte_at (34 ∷ rest) ≡ found b width → ⊥
unfolding byte_at
quote_is_no_byte rest b width h = cc

-- one end

one_end : (text inside bytes rest bytes' rest' : List ℕ) → StandFor inside bytes → text ≡ inside ++ 34 ∷ rest →
    Next text bytes' rest' → (bytes ≡ bytes') × (rest ≡ rest')
one_end text inside bytes rest bytes' rest' none whole (closes at_end is_nothing) = (sym is_nothing, cc)
one_end text inside bytes rest bytes' rest' none whole (goes b width others here is ends) =
    absurd (quote_is_no_byte rest b width (ap byte_at (sym whole) ∙ here))
one_end text inside bytes rest bytes' rest' (more front later others b stands stand) whole (closes at_end is_nothing) =
    let split = sym at_end ∙ whole ∙ append_assoc front later (34 ∷ rest) in
    absurd (quote_is_no_byte rest' b (length front) (ap byte_at split
    ∙ stands_found front b stands (later ++ 34 ∷ rest)))
one_end text inside bytes rest bytes' rest' (more front later others b stands stand) whole
    (goes b' width theirs here is ends) =
    let behind = later ++ 34 ∷ rest in
    let split : text ≡ front ++ behind = whole ∙ append_assoc front later (34 ∷ rest) in
    let same = same_found b (length front) b' width (sym (stands_found front b stands behind) ∙ ap byte_at (sym split)
    ∙ here) in
    let dropped : drop width text ≡ behind = ap (λ (n : ℕ). drop n text) (sym same.1) ∙ ap (drop (length front)) split
    ∙ drop_at front behind (length front) refl in
    let one = one_end behind later others rest theirs rest' stand refl
    (next_of behind theirs rest' (subst (λ (x : List ℕ). Ends x theirs rest') dropped ends)) in
    (ap (λ (x : List ℕ). b ∷ x) one.0 ∙ ap (λ (x : ℕ). x ∷ theirs) same.0 ∙ sym is, one.1)

behind_quote : (line text rest : List ℕ) → BeginsQuoted line text rest → Ends (drop 1 line) text rest
behind_quote line text rest quoted = record {
  inside = quoted.inside;
  spelled = ap (drop 1) quoted.spelled;
  stands = quoted.stands;
}

pub one_quoted : QuotedIsUnique
one_quoted line text rest text' rest' first second =
    one_end (drop 1 line) first.inside text rest text' rest' first.stands (ap (drop 1) first.spelled)
    (next_of (drop 1 line) text' rest' (behind_quote line text' rest' second))

-- one byte more between the quotes

stand_for_more : (inside text front : List ℕ) (b : ℕ) → StandFor inside text → Stands front b →
    StandFor (inside ++ front) (text ++ b ∷ [])
stand_for_more inside text front b none last =
    subst (λ (x : List ℕ). StandFor x (b ∷ [])) (append-nil front) (more front [] [] b last none)
stand_for_more inside text front b (more first later others c stands stand) last =
    subst (λ (x : List ℕ). StandFor x (c ∷ (others ++ b ∷ []))) (sym (append_assoc first later front))
    (more first (later ++ front) (others ++ b ∷ []) c stands (stand_for_more later others front b stand last))

-- a line of which a quoted text was read up to somewhere between its quotes
pub record Reading (line text later : List ℕ) : Type 0 where
  pub inside : List ℕ
  pub spelled : line ≡ 34 ∷ (inside ++ later)
  pub stands : StandFor inside text
  pub only : (bytes rest : List ℕ) → BeginsQuoted line bytes rest → (others : List ℕ) × Ends later others rest

pub reading_begins : (line : List ℕ) → 0 < length line → get_or line 0 0 ≡ 34 → Reading line [] (drop 1 line)
reading_begins [] some first = absurd (omega arith)
reading_begins (b ∷ later) some first = record {
  inside = [];
  spelled = ap (λ (x : ℕ). x ∷ later) first;
  stands = none;
  only = λ bytes rest quoted. (bytes, behind_quote (b ∷ later) bytes rest quoted);
}

more_ends : (later bytes rest : List ℕ) (b width : ℕ) → byte_at later ≡ found b width → Next later bytes rest →
    (others : List ℕ) × Ends (drop width later) others rest
more_ends later bytes rest b width here (closes at_end is_nothing) =
    absurd (quote_is_no_byte rest b width (ap byte_at (sym at_end) ∙ here))
more_ends later bytes rest b width here (goes b' width' others there is ends) = (
  others,
  subst (λ (n : ℕ). Ends (drop n later) others rest)
      (sym (same_found b width b' width' (sym here ∙ there)).1) ends,
)

pub reading_more : (line text later : List ℕ) (b width : ℕ) → Reading line text later → byte_at later ≡ found b width →
    Reading line (text ++ b ∷ []) (drop width later)
reading_more line text later b width reading here =
    let taken = found_taken later b width here in
    let left : drop width later ≡ taken.rest =
    ap (drop width) taken.whole ∙ drop_at taken.front taken.rest width taken.long in
    let split : reading.inside ++ later ≡ (reading.inside ++ taken.front) ++ drop width later =
    ap (λ (x : List ℕ). reading.inside ++ x) taken.whole ∙ sym (append_assoc reading.inside taken.front taken.rest)
    ∙ ap (λ (x : List ℕ). (reading.inside ++ taken.front) ++ x) (sym left) in
    record {
      inside = reading.inside ++ taken.front;
      spelled = reading.spelled ∙ ap (λ (x : List ℕ). 34 ∷ x) split;
      stands = stand_for_more reading.inside text taken.front b reading.stands taken.stands;
      only = λ bytes rest quoted. let ends = reading.only bytes rest quoted in
          more_ends later ends.0 rest b width here (next_of later ends.0 rest ends.1);
    }

-- the ends of a reading

pub reading_closes : (line text rest : List ℕ) → Reading line text (34 ∷ rest) → BeginsQuoted line text rest
reading_closes line text rest reading = record {
  inside = reading.inside;
  spelled = reading.spelled;
  stands =
      reading.stands;
}

no_next : (later bytes rest : List ℕ) → byte_at later ≡ None → (get_or later 0 0 ≡ 34 → ⊥) → Next later bytes rest → ⊥
no_next later bytes rest nothing no_quote (closes at_end is_nothing) =
    no_quote (ap (λ (x : List ℕ). get_or x 0 0) at_end)
no_next later bytes rest nothing no_quote (goes b width others here is ends) = cc

pub reading_fails : (line text later : List ℕ) → Reading line text later → byte_at later ≡ None →
    (get_or later 0 0 ≡ 34 → ⊥) → BeginsUnquoted line
reading_fails line text later reading nothing no_quote = λ bytes rest quoted.
    let ends = reading.only bytes rest quoted in
    no_next later ends.0 rest nothing no_quote (next_of later ends.0 rest ends.1)

pub reading_stops : (line text : List ℕ) → Reading line text [] → BeginsUnquoted line
unfolding byte_at
reading_stops line text reading = reading_fails line text [] reading refl (λ e. omega arith)

pub unquoted_first : (line : List ℕ) → (get_or line 0 0 ≡ 34 → ⊥) → BeginsUnquoted line
unquoted_first line no_quote = λ bytes rest quoted. no_quote (ap (λ (x : List ℕ). get_or x 0 0) quoted.spelled)

-- how many bytes stand for one

pub stands_some : (front : List ℕ) (b : ℕ) → Stands front b → 0 < length front
stands_some front byte (itself b low high no_quote no_slash) = omega arith
stands_some front byte carriage_return = omega arith
stands_some front byte line_feed = omega arith
stands_some front byte tab = omega arith
stands_some front byte backslash = omega arith
stands_some front byte quote = omega arith
stands_some front byte (octal a b c first second third) = omega arith

pub width_found_within : (later : List ℕ) (b width : ℕ) → byte_at later ≡ found b width →
    (0 < width) × (width ≤ length later)
width_found_within later b width here =
    let taken = found_taken later b width here in
    let some = stands_some taken.front b taken.stands in (
      omega (arith, some, taken.long),
      omega (
        arith,
        taken.long,
        ap length taken.whole,
        length-append taken.front taken.rest,
      ),
    )
