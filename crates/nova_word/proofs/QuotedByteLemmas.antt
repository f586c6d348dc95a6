-- Laws of the bytes that stand for one byte of a quoted text.
use Rattle.std.proofs.Common.{◌≡◌, ◌⊎◌, ℕ, ◌+◌, ◌-◌, ◌*◌, ◌==◌, ◌<◌, ◌≤◌, Bool, true, false, ◌&&◌, nat_le, List, []}
use Rattle.std.proofs.Common.{◌∷◌, ◌++◌, length, Option, Some, None, if◌then◌else◌, inl, inr, ⊎_elim, refl, sym, ap}
use Rattle.std.proofs.Common.{◌∙◌, subst, arith}
use Rattle.std.proofs.lemmas.Bool.{eqb-true}
use Rattle.std.proofs.lemmas.Bool.Decides.{nat_tests}
use Rattle.nova_word.specs.Numbers.{is_digit}
use Rattle.nova_word.specs.Quoted.{Stands, itself, carriage_return, line_feed, tab, backslash, quote, octal, is_plain}
use Rattle.nova_word.specs.Quoted.{octal_at, escaped_at, byte_at}

-- a text begins with bytes that stand for one byte, and they are so many
pub record Takes (text : List ℕ) (b width : ℕ) : Type 0 where
  pub front : List ℕ
  pub rest : List ℕ
  pub whole : text ≡ front ++ rest
  pub long : length front ≡ width
  pub stands : Stands front b

-- what stands for a byte is found

plain_found : (b : ℕ) (rest : List ℕ) → 32 ≤ b → b ≤ 126 → (b ≡ 34 → ⊥) → (b ≡ 92 → ⊥) →
    byte_at (b ∷ rest) ≡ Some (b, 1)
unfolding byte_at
plain_found b rest low high no_quote no_slash = grind (arith, nat_tests)

octal_found : (a b c : ℕ) (rest : List ℕ) → a < 4 → b < 8 → c < 8 →
    byte_at (92 ∷ (48 + a) ∷ (48 + b) ∷ (48 + c) ∷ rest) ≡ Some (64 * a + 8 * b + c, 4)
unfolding byte_at escaped_at octal_at
octal_found a b c rest first second third = grind (arith, nat_tests)

pub stands_found : (front : List ℕ) (b : ℕ) → Stands front b → (rest : List ℕ) →
    byte_at (front ++ rest) ≡ Some (b, length front)
unfolding byte_at escaped_at
stands_found front byte (itself b low high no_quote no_slash) rest = plain_found b rest low high no_quote no_slash
stands_found front byte carriage_return rest = refl
stands_found front byte line_feed rest = refl
stands_found front byte tab rest = refl
stands_found front byte backslash rest = refl
stands_found front byte quote rest = refl
stands_found front byte (octal a b c first second third) rest = octal_found a b c rest first second third

-- what is found stands for its byte

pub if_cases : {A : Type 0} (t : Bool) (x y z : A) → (if t then x else y) ≡ z →
    ((t ≡ true) × (x ≡ z)) ⊎ ((t ≡ false) × (y ≡ z))
if_cases true x y z h = inl (refl, h)
if_cases false x y z h = inr (refl, h)

abbrev pub found : ℕ → ℕ → Option (ℕ × ℕ)
found b width = Some (b, width)

abbrev byte_found : Option (ℕ × ℕ) → ℕ
byte_found None = 0
byte_found (Some p) = p.0

abbrev width_found : Option (ℕ × ℕ) → ℕ
width_found None = 0
width_found (Some p) = p.1

pub same_found : (b width b' width' : ℕ) → found b width ≡ found b' width' → (b ≡ b') × (width ≡ width')
same_found b width b' width' same = (ap byte_found same, ap width_found same)

takes_as : (text front rest : List ℕ) (b width b' width' : ℕ) → text ≡ front ++ rest → length front ≡ width →
    Stands front b → found b width ≡ found b' width' → Takes text b' width'
takes_as text front rest b width b' width' whole long stands same = record {
  front = front;
  rest = rest;
  whole = whole;
  long = long ∙ (same_found b width b' width' same).1;
  stands = subst (λ (x : ℕ). Stands front x) (same_found b width b' width' same).0 stands;
}

letter_taken : (letter sign : ℕ) (rest : List ℕ) (b b' width : ℕ) → Stands (92 ∷ letter ∷ []) b →
    (sign == letter) ≡ true → found b 2 ≡ found b' width → Takes (92 ∷ sign ∷ rest) b' width
letter_taken letter sign rest b b' width stands is same =
    let e = eqb-true sign letter is in
    takes_as (92 ∷ sign ∷ rest) (92 ∷ letter ∷ []) rest b 2 b' width (ap (λ (x : ℕ). 92 ∷ x ∷ rest) e) refl stands same

octal_bytes : (t : Bool) (x y z : ℕ) → (t && is_digit 4 x && is_digit 8 y && is_digit 8 z) ≡ true →
    Stands (92 ∷ x ∷ y ∷ z ∷ []) (64 * (x - 48) + 8 * (y - 48) + (z - 48))
octal_bytes t x y z digits =
    let first : (48 + (x - 48) ≡ x) × (x - 48 < 4) = grind (arith, nat_tests) in
    let second : (48 + (y - 48) ≡ y) × (y - 48 < 8) = grind (arith, nat_tests) in
    let third : (48 + (z - 48) ≡ z) × (z - 48 < 8) = grind (arith, nat_tests) in
    let stands = octal (x - 48) (y - 48) (z - 48) first.1 second.1 third.1 in
    let with_first = subst (λ (u : ℕ). Stands (92 ∷ u ∷ (48 + (y - 48)) ∷ (48 + (z - 48)) ∷ [])
    (64 * (x - 48) + 8 * (y - 48) + (z - 48))) first.0 stands in
    let with_second = subst (λ (u : ℕ). Stands (92 ∷ x ∷ u ∷ (48 + (z - 48)) ∷ [])
    (64 * (x - 48) + 8 * (y - 48) + (z - 48))) second.0 with_first in
    subst (λ (u : ℕ). Stands (92 ∷ x ∷ y ∷ u ∷ []) (64 * (x - 48) + 8 * (y - 48) + (z - 48))) third.0 with_second

octal_taken : (text : List ℕ) (b width : ℕ) → octal_at text ≡ Some (b, width) → Takes (92 ∷ text) b width
unfolding octal_at
octal_taken [] b width h = cc
octal_taken (x ∷ []) b width h = cc
octal_taken (x ∷ y ∷ []) b width h = cc
octal_taken (x ∷ y ∷ z ∷ rest) b width h =
    let t = nat_le 3 (length (x ∷ y ∷ z ∷ rest)) in
    let n = 64 * (x - 48) + 8 * (y - 48) + (z - 48) in
    ⊎_elim
    (λ e. takes_as (92 ∷ x ∷ y ∷ z ∷ rest) (92 ∷ x ∷ y ∷ z ∷ []) rest n 4 b width refl refl (octal_bytes t x y z e.0)
    e.1)
    (λ e. absurd (cc (e.1)))
    (if_cases (t && is_digit 4 x && is_digit 8 y && is_digit 8 z) (found n 4) None (found b width) h)

escaped_taken : (text : List ℕ) (b width : ℕ) → escaped_at text ≡ Some (b, width) → Takes (92 ∷ text) b width
unfolding escaped_at
escaped_taken [] b width h = cc
escaped_taken (sign ∷ rest) b width h =
    let at_letter = λ (letter c : ℕ) (stands : Stands (92 ∷ letter ∷ []) c) (e : ((sign == letter) ≡ true)
    × (found c 2 ≡ found b width)). letter_taken letter sign rest c b width stands e.0 e.1 in
    ⊎_elim (at_letter 114 13 carriage_return) (λ e1.
    ⊎_elim (at_letter 110 10 line_feed) (λ e2.
    ⊎_elim (at_letter 116 9 tab) (λ e3.
    ⊎_elim (at_letter 92 92 backslash) (λ e4.
    ⊎_elim (at_letter 34 34 quote) (λ e5. octal_taken (sign ∷ rest) b width e5.1)
    (if_cases _ _ _ _ e4.1))
    (if_cases _ _ _ _ e3.1))
    (if_cases _ _ _ _ e2.1))
    (if_cases _ _ _ _ e1.1))
    (if_cases _ _ _ _ h)

plain_stands : (b : ℕ) → is_plain b ≡ true → Stands (b ∷ []) b
plain_stands b plain = itself b (grind (arith, nat_tests)) (grind (arith, nat_tests)) (λ e. grind (arith, nat_tests))
    (λ e. grind (arith, nat_tests))

pub found_taken : (text : List ℕ) (b width : ℕ) → byte_at text ≡ Some (b, width) → Takes text b width
unfolding byte_at
found_taken [] b width h = cc
found_taken (c ∷ rest) b width h =
    ⊎_elim
    (λ e. subst (λ (x : ℕ). Takes (x ∷ rest) b width) (sym (eqb-true c 92 e.0)) (escaped_taken rest b width e.1))
    (λ e. ⊎_elim
    (λ f. takes_as (c ∷ rest) (c ∷ []) rest c 1 b width refl refl (plain_stands c f.0) f.1)
    (λ f. absurd (cc (f.1)))
    (if_cases (is_plain c) (found c 1) None (found b width) e.1))
    (if_cases (c == 92) _ _ _ h)
