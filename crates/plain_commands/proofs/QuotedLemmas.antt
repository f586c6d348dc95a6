-- What SHOW EXPECT prints of a text reads as that text.
use Rattle.std.proofs.Common.{◌≡◌, ℕ, ◌+◌, ◌*◌, ◌/◌, ◌%◌, ◌^◌, ◌<◌, ◌==◌, ◌&&◌, nat_le, Bool, true, false, List, [], ◌∷◌, ◌++◌, length, take, get_or, if◌then◌else◌, refl, sym, subst, arith}
use Rattle.std.specs.List.{AllByRecursion}
use Rattle.std.proofs.lemmas.Bool.{eqb-true}
use Rattle.std.proofs.lemmas.Bool.Decides.{nat_tests}
use Rattle.std.proofs.lemmas.Option.{slice_get-get_or}
use Rattle.nova_word.specs.Numbers.{octal_digits}
use Rattle.nova_word.specs.Quoted.{Stands, itself, carriage_return, line_feed, tab, backslash, quote, octal, StandFor, none, more}
use Rattle.nova_word.proofs.QuotedReadLemmas.{quoted_found}
use Rattle.plain_commands.specs.QuotedText.{quoted_byte, quoted_bytes, quoted_text, QuotedTextsReadBack}
use Rattle.plain_commands.proofs.PrintedLemmas.{AreLines, lines-more}

quoted-are-lines : AreLines quoted_byte quoted_bytes
unfolding quoted_bytes
quoted-are-lines = record { none = refl; more = λ b text. refl }

-- no byte, and one byte more
pub quoted-none : quoted_bytes [] ≡ []
quoted-none = quoted-are-lines.none

pub quoted-more : (text : List ℕ) (k d : ℕ) → k < length text → quoted_bytes (take (k + 1) text) ≡ quoted_bytes (take k text) ++ quoted_byte (get_or text k d)
quoted-more text k d low = lines-more quoted_byte quoted_bytes quoted-are-lines text k (get_or text k d) (slice_get-get_or text k d low)

by-test : (t : Bool) (x y : List ℕ) (b : ℕ) → (t ≡ true → Stands x b) → (t ≡ false → Stands y b) → Stands (if t then x else y) b
by-test true x y b first second = first refl
by-test false x y b first second = second refl

-- a byte with an escape of its own
escaped : (front : List ℕ) (b sign : ℕ) → Stands front sign → (b == sign) ≡ true → Stands front b
escaped front b sign stands is = subst (λ (n : ℕ). Stands front n) (sym (eqb-true b sign is)) stands

digits-stand : (b : ℕ) → b < 2 ^ 8 → Stands (92 ∷ octal_digits 3 b) b
digits-stand b small =
    let is : 64 * (b / 8 / 8 % 8) + 8 * (b / 8 % 8) + b % 8 ≡ b = omega arith in
    subst (λ (n : ℕ). Stands (92 ∷ octal_digits 3 b) n) is (octal (b / 8 / 8 % 8) (b / 8 % 8) (b % 8) (omega arith) (omega arith) (omega arith))

plain-stands : (b : ℕ) → (nat_le 32 b && nat_le b 126) ≡ true → (b == 34) ≡ false → (b == 92) ≡ false → Stands (b ∷ []) b
plain-stands b within no_quote no_slash = itself b (grind (arith, nat_tests)) (grind (arith, nat_tests)) (λ e. grind (arith, nat_tests)) (λ e. grind (arith, nat_tests))

-- what is printed of a byte stands for it
byte-stands : (b : ℕ) → b < 2 ^ 8 → Stands (quoted_byte b) b
byte-stands b small =
    by-test (b == 13) _ _ b (escaped _ b 13 carriage_return) (λ not_return.
    by-test (b == 10) _ _ b (escaped _ b 10 line_feed) (λ not_feed.
    by-test (b == 9) _ _ b (escaped _ b 9 tab) (λ not_tab.
    by-test (b == 92) _ _ b (escaped _ b 92 backslash) (λ no_slash.
    by-test (b == 34) _ _ b (escaped _ b 34 quote) (λ no_quote.
    by-test (nat_le 32 b && nat_le b 126) _ _ b (λ within. plain-stands b within no_quote no_slash) (λ outside. digits-stand b small))))))

bytes-stand : (text : List ℕ) → AllByRecursion (λ (b : ℕ). b < 2 ^ 8) text → StandFor (quoted_bytes text) text
unfolding quoted_bytes
bytes-stand [] small = none
bytes-stand (b ∷ text) small = more (quoted_byte b) (quoted_bytes text) text b (byte-stands b small.0) (bytes-stand text small.1)

pub quoted-texts-read-back : QuotedTextsReadBack
quoted-texts-read-back text small = quoted_found (quoted_text text) text [] (record { inside = quoted_bytes text; spelled = refl; stands = bytes-stand text small })
