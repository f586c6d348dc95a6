-- Names in either case: which bytes they begin with and which they do not hold.
use Rattle.std.specs.Prelude.{not}
use Rattle.std.proofs.Common.{◌≡◌, ℕ, Bool, false, ◌&&◌, ◌==◌, List, [], ◌∷◌, refl, ap, sym, ◌∙◌, arith}
use Rattle.std.specs.Char.{to_ascii_uppercase}
use Rattle.std.specs.Str.{str_to_ascii_uppercase}
use Rattle.std.specs.List.{list_all}
use Rattle.std.proofs.lemmas.Bool.Decides.{nat_tests}
use Rattle.nova_word.specs.Numbers.{is_digit}
use Rattle.line_text.specs.Words.{IsSpelled}

-- a text that begins with a decimal digit
abbrev pub starts_digit : List ℕ → Bool
starts_digit [] = false
starts_digit (b ∷ more) = is_digit 10 b

upper_digit : (b : ℕ) → is_digit 10 (to_ascii_uppercase b) ≡ is_digit 10 b
upper_digit b = grind (arith, nat_tests)

upper_starts : (text : List ℕ) → starts_digit (str_to_ascii_uppercase text) ≡ starts_digit text
upper_starts [] = refl
upper_starts (b ∷ more) = upper_digit b

pub spelled_starts : (text name : List ℕ) → IsSpelled text name → starts_digit text ≡ starts_digit name
spelled_starts text name is = sym (upper_starts text) ∙ ap starts_digit is

-- a text that does not hold a byte
abbrev pub lacks : ℕ → List ℕ → Bool
lacks mark text = list_all (λ b. not (b == mark)) text

upper_comma : (b : ℕ) → not (to_ascii_uppercase b == 44) ≡ not (b == 44)
upper_comma b = grind (arith, nat_tests)

upper_lacks : (text : List ℕ) → lacks 44 (str_to_ascii_uppercase text) ≡ lacks 44 text
upper_lacks [] = refl
upper_lacks (b ∷ more) =
    ap (λ (c : Bool). c && lacks 44 (str_to_ascii_uppercase more)) (upper_comma b) ∙ ap (λ (c : Bool). not (b == 44) && c) (upper_lacks more)

pub spelled_lacks : (text name : List ℕ) → IsSpelled text name → lacks 44 text ≡ lacks 44 name
spelled_lacks text name is = sym (upper_lacks text) ∙ ap (lacks 44) is
