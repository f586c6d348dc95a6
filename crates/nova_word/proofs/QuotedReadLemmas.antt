-- The quoted text that is computed is the one that a line begins with.
use Rattle.std.proofs.Common.{◌≡◌, ℕ, ◌-◌, ◌==◌, zero, suc, Bool, true, false, if◌then◌else◌, List, [], ◌∷◌, ◌++◌}
use Rattle.std.proofs.Common.{length, take, drop, get_or, is_some, ◌<◌, Option, Some, None, option_map, option_and_then, ⊎_elim, refl, sym}
use Rattle.std.proofs.Common.{ap, ◌∙◌, subst, arith}
use Rattle.std.proofs.lemmas.List.{append_assoc, drop_at, length-take-le, take-append-drop}
use Rattle.std.proofs.lemmas.Bool.{eqb-true, eq-eqb}
use Rattle.std.proofs.lemmas.Bool.Decides.{nat_tests}
use Rattle.nova_word.specs.Quoted.{Stands, itself, carriage_return, line_feed, tab, backslash, quote, octal, StandFor}
use Rattle.nova_word.specs.Quoted.{none, more, BeginsQuoted, BeginsUnquoted, QuotedIsComputed, byte_at, with_byte}
use Rattle.nova_word.specs.Quoted.{inside_read, quoted_read}
use Rattle.nova_word.proofs.QuotedByteLemmas.{stands_found, found_taken, if_cases}
use Rattle.nova_word.proofs.QuotedLemmas.{Ends, stands_some, width_found_within}

-- what belongs to the byte before is passed
pub passed : (front rest : List ℕ) → inside_read (length front) (front ++ rest) ≡ inside_read 0 rest
unfolding inside_read
passed [] rest = refl
passed (b ∷ front) rest = passed front rest

pub read_next : (b c : ℕ) (front rest : List ℕ) → (c == 34) ≡ false →
    byte_at (c ∷ (front ++ rest)) ≡ Some (b, suc (length front)) →
    inside_read 0 (c ∷ (front ++ rest)) ≡ option_map (with_byte b) (inside_read 0 rest)
unfolding inside_read
read_next b c front rest no_quote here =
    let behind = front ++ rest in
    let next = λ (found : ℕ × ℕ). option_map (with_byte found.0) (inside_read (found.1 - 1) behind) in
    let one_less : suc (length front) - 1 ≡ length front = omega arith in
    ap (λ (t : Bool). if t then Some ([], behind) else option_and_then next (byte_at (c ∷ behind))) no_quote
    ∙ ap (option_and_then next) here
    ∙ ap (λ (n : ℕ). option_map (with_byte b) (inside_read n behind)) one_less
    ∙ ap (option_map (with_byte b)) (passed front rest)

some_mapped : {A B : Type 0} (f : A → B) (o : Option A) → is_some (option_map f o) ≡ is_some o
some_mapped f None = refl
some_mapped f (Some x) = refl

-- whether a closing quote comes is the same behind the bytes that stand for one
pub closed_next : (c b width : ℕ) (tail : List ℕ) → (c == 34) ≡ false → byte_at (c ∷ tail) ≡ Some (b, width)
    → is_some (inside_read 0 (c ∷ tail)) ≡ is_some (inside_read 0 (drop width (c ∷ tail)))
closed_next c b zero tail no_quote here = absurd (omega (arith, (width_found_within (c ∷ tail) b zero here).0))
closed_next c b (suc k) tail no_quote here =
    let within = (width_found_within (c ∷ tail) b (suc k) here).1 in
    let front = take k tail in
    let later = drop k tail in
    let parts : front ++ later ≡ tail = take-append-drop k tail in
    let long : length front ≡ k = length-take-le k tail (omega (arith, within)) in
    let there : byte_at (c ∷ (front ++ later)) ≡ Some (b, suc (length front)) =
    ap (λ (xs : List ℕ). byte_at (c ∷ xs)) parts ∙ here ∙ ap (λ (n : ℕ). Some (b, suc n)) (sym long) in
    ap (λ (xs : List ℕ). is_some (inside_read 0 (c ∷ xs))) (sym parts)
    ∙ ap is_some (read_next b c front later no_quote there) ∙ some_mapped (with_byte b) (inside_read 0 later)

-- none comes behind bytes that stand for none
pub closed_never : (c : ℕ) (tail : List ℕ) → (c == 34) ≡ false → byte_at (c ∷ tail) ≡ None → is_some (inside_read 0 (c ∷ tail)) ≡ false
unfolding inside_read
closed_never c tail no_quote here =
    let next = λ (found : ℕ × ℕ). option_map (with_byte found.0) (inside_read (found.1 - 1) tail) in
    ap (λ (t : Bool). is_some (if t then Some ([], tail) else option_and_then next (byte_at (c ∷ tail)))) no_quote
    ∙ ap (λ (o : Option (ℕ × ℕ)). is_some (option_and_then next o)) here

pub closed_here : (c : ℕ) (tail : List ℕ) → (c == 34) ≡ true → is_some (inside_read 0 (c ∷ tail)) ≡ true
unfolding inside_read
closed_here c tail is_quote =
    let next = λ (found : ℕ × ℕ). option_map (with_byte found.0) (inside_read (found.1 - 1) tail) in
    ap (λ (t : Bool). is_some (if t then Some ([], tail) else option_and_then next (byte_at (c ∷ tail)))) is_quote

pub closed_end : is_some (inside_read 0 []) ≡ false
unfolding inside_read
closed_end = refl

pub plain_no_quote : (b : ℕ) → (b ≡ 34 → ⊥) → (b == 34) ≡ false
plain_no_quote b no_quote = grind (arith, nat_tests)

-- the same of bytes that are not empty, by the first of them

pub next_closed : (rest : List ℕ) (b width : ℕ) → 0 < length rest → (get_or rest 0 0 ≡ 34 → ⊥) → byte_at rest ≡ Some (b, width)
    → is_some (inside_read 0 rest) ≡ is_some (inside_read 0 (drop width rest))
next_closed [] b width some no_quote here = absurd (omega (arith, some))
next_closed (c ∷ tail) b width some no_quote here = closed_next c b width tail (plain_no_quote c no_quote) here

pub never_closed : (rest : List ℕ) → 0 < length rest → (get_or rest 0 0 ≡ 34 → ⊥) → byte_at rest ≡ None → is_some (inside_read 0 rest) ≡ false
never_closed [] some no_quote here = absurd (omega (arith, some))
never_closed (c ∷ tail) some no_quote here = closed_never c tail (plain_no_quote c no_quote) here

pub here_closed : (rest : List ℕ) → 0 < length rest → get_or rest 0 0 ≡ 34 → is_some (inside_read 0 rest) ≡ true
here_closed [] some is = absurd (omega (arith, some))
here_closed (c ∷ tail) some is = closed_here c tail (eq-eqb c 34 is)

pub end_closed : (rest : List ℕ) → length rest ≡ 0 → is_some (inside_read 0 rest) ≡ false
end_closed [] none_left = closed_end
end_closed (c ∷ tail) none_left = absurd (omega (arith, none_left))

first_no_quote : (front : List ℕ) (b : ℕ) → Stands front b → (get_or front 0 0 == 34) ≡ false
first_no_quote front byte (itself b low high no_quote no_slash) = plain_no_quote b no_quote
first_no_quote front byte carriage_return = refl
first_no_quote front byte line_feed = refl
first_no_quote front byte tab = refl
first_no_quote front byte backslash = refl
first_no_quote front byte quote = refl
first_no_quote front byte (octal a b c first second third) = refl

read_byte : (front : List ℕ) (b : ℕ) → Stands front b → (rest : List ℕ) →
    inside_read 0 (front ++ rest) ≡ option_map (with_byte b) (inside_read 0 rest)
read_byte [] b stands rest = absurd (omega (arith, stands_some [] b stands))
read_byte (c ∷ front) b stands rest = read_next b c front rest (first_no_quote (c ∷ front) b stands)
    (stands_found (c ∷ front) b stands rest)

read_inside : (inside text rest : List ℕ) → StandFor inside text →
    inside_read 0 (inside ++ 34 ∷ rest) ≡ Some (text, rest)
unfolding inside_read
read_inside inside text rest none = refl
read_inside inside text rest (more front later others b stands stand) =
    ap (inside_read 0) (append_assoc front later (34 ∷ rest)) ∙ read_byte front b stands (later ++ 34 ∷ rest)
    ∙ ap (option_map (with_byte b)) (read_inside later others rest stand)

pub quoted_found : (line text rest : List ℕ) → BeginsQuoted line text rest → quoted_read line ≡ Some (text, rest)
unfolding quoted_read
quoted_found line text rest quoted = ap quoted_read quoted.spelled ∙ read_inside quoted.inside text rest quoted.stands

-- what is computed

then_some : {A B : Type 0} (next : A → Option B) (o : Option A) (z : B) → option_and_then next o ≡ Some z →
    (x : A) × (o ≡ Some x) × (next x ≡ Some z)
then_some next None z h = cc
then_some next (Some x) z h = (x, refl, h)

map_some : {A B : Type 0} (f : A → B) (o : Option A) (z : B) → option_map f o ≡ Some z →
    (x : A) × (o ≡ Some x) × (f x ≡ z)
map_some f None z h = cc
map_some f (Some x) z h = (x, refl, cc)

abbrev pair : List ℕ → List ℕ → List ℕ × List ℕ
pair text rest = (text, rest)

ends_as : (line : List ℕ) (p q : List ℕ × List ℕ) → Ends line p.0 p.1 → p ≡ q → Ends line q.0 q.1
ends_as line p q ends same = subst (λ (x : List ℕ × List ℕ). Ends line x.0 x.1) same ends

ends_here : (b : ℕ) (later text rest : List ℕ) → (b == 34) ≡ true → Some (pair [] later) ≡ Some (pair text rest) →
    Ends (b ∷ later) text rest
ends_here b later text rest is same =
    let here : Ends (b ∷ later) [] later = record {
      inside = [];
      spelled = ap (λ (x : ℕ). x ∷ later) (eqb-true b 34 is);
      stands = none;
    } in
    ends_as (b ∷ later) (pair [] later) (pair text rest) here (cc)

ends_later : (b : ℕ) (line : List ℕ) (c width : ℕ) (text rest : List ℕ) → byte_at (b ∷ line) ≡ Some (c, width) →
    Ends (drop (width - 1) line) text rest → Ends (b ∷ line) (c ∷ text) rest
ends_later b line c width text rest here ends =
    let taken = found_taken (b ∷ line) c width here in
    let some = width_found_within (b ∷ line) c width here in
    let one_more : suc (width - 1) ≡ width = omega (arith, some.0) in
    let left : drop (width - 1) line ≡ taken.rest =
    ap (λ (n : ℕ). drop n (b ∷ line)) one_more ∙ ap (drop width) taken.whole
    ∙ drop_at taken.front taken.rest width taken.long in
    record {
      inside = taken.front ++ ends.inside;
      spelled = taken.whole ∙ ap (λ (x : List ℕ). taken.front ++ x) (sym left ∙ ends.spelled)
          ∙ sym (append_assoc taken.front ends.inside (34 ∷ rest));
      stands = more taken.front ends.inside text c taken.stands ends.stands;
    }

inside_ends : (skip : ℕ) (line text rest : List ℕ) → inside_read skip line ≡ Some (text, rest) →
    Ends (drop skip line) text rest
unfolding inside_read
inside_ends zero [] text rest h = cc
inside_ends (suc skip) [] text rest h = cc
inside_ends (suc skip) (b ∷ line) text rest h = inside_ends skip line text rest h
inside_ends zero (b ∷ line) text rest h =
    ⊎_elim
    (λ e. ends_here b line text rest e.0 e.1)
    (λ e.
    let found = then_some _ (byte_at (b ∷ line)) (pair text rest) e.1 in
    let later = map_some (with_byte found.0.0) (inside_read (found.0.1 - 1) line) (pair text rest) found.2 in
    let ends = inside_ends (found.0.1 - 1) line later.0.0 later.0.1 later.1 in
    ends_as (b ∷ line) (with_byte found.0.0 later.0) (pair text rest)
    (ends_later b line found.0.0 found.0.1 later.0.0 later.0.1 found.1 ends) later.2)
    (if_cases (b == 34) _ _ _ h)

quoted_begins : (line text rest : List ℕ) → quoted_read line ≡ Some (text, rest) → BeginsQuoted line text rest
unfolding quoted_read
quoted_begins [] text rest h = cc
quoted_begins (b ∷ line) text rest h =
    ⊎_elim
    (λ e. let ends = inside_ends 0 line text rest e.1 in
    record {
      inside = ends.inside;
      spelled = ap (λ (x : ℕ). x ∷ line) (eqb-true b 34 e.0) ∙ ap (λ (x : List ℕ). 34 ∷ x) ends.spelled;
      stands = ends.stands;
    })
    (λ e. absurd (cc (e.1)))
    (if_cases (b == 34) (inside_read 0 line) None (Some (pair text rest)) h)

pub quoted_is_computed : QuotedIsComputed
quoted_is_computed = record { found = quoted_found; read = quoted_begins }

none_or_some : {A : Type 0} (o : Option A) → ((x : A) → o ≡ Some x → ⊥) → o ≡ None
none_or_some None h = refl
none_or_some (Some x) h = absurd (h x refl)

pub unquoted_read : (line : List ℕ) → BeginsUnquoted line → quoted_read line ≡ None
unquoted_read line nothing = none_or_some (quoted_read line) (λ x e. nothing x.0 x.1 (quoted_begins line x.0 x.1 e))
