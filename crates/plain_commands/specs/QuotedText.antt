-- How a text is printed between quotes: as it can be read again.
use Rattle.std.specs.Prelude.{◌≡◌, ℕ, ◌^◌, ◌<◌, ◌==◌, ◌&&◌, nat_le, List, [], ◌∷◌, ◌++◌, Some, if◌then◌else◌}
use Rattle.std.specs.List.{AllByRecursion}
use Rattle.nova_word.specs.Numbers.{octal_digits}
use Rattle.nova_word.specs.Quoted.{quoted_read}

-- What stands for a byte between quotes: an escape with a letter or a sign where there is one, three octal digits for
-- every other byte outside of 32 to 126, and else the byte itself.
abbrev pub quoted_byte : ℕ → List ℕ
quoted_byte b =
    if b == 13 then 92 ∷ 114 ∷ []
    else if b == 10 then 92 ∷ 110 ∷ []
    else if b == 9 then 92 ∷ 116 ∷ []
    else if b == 92 then 92 ∷ 92 ∷ []
    else if b == 34 then 92 ∷ 34 ∷ []
    else if nat_le 32 b && nat_le b 126 then b ∷ []
    else 92 ∷ octal_digits 3 b

-- what stands for a text between quotes
unfoldable pub quoted_bytes : List ℕ → List ℕ
quoted_bytes [] = []
quoted_bytes (b ∷ text) = quoted_byte b ++ quoted_bytes text

-- a text with its quotes
abbrev pub quoted_text : List ℕ → List ℕ
quoted_text text = 34 ∷ quoted_bytes text ++ 34 ∷ []

-- what is printed of a text reads as that text
abbrev pub QuotedTextsReadBack : Type 0
QuotedTextsReadBack = (text : List ℕ) → AllByRecursion (λ (b : ℕ). b < 2 ^ 8) text → quoted_read (quoted_text text) ≡ Some (text, [])
