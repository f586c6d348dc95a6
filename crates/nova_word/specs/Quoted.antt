-- Texts between quotes, with escapes as in C (SIMH Users' Guide, "SEND").
use Rattle.std.specs.Prelude.{◌≡◌, ℕ, ◌+◌, ◌-◌, ◌*◌, ◌==◌, ◌<◌, ◌≤◌, Bool, ◌&&◌, not, nat_le, if◌then◌else◌, List, []}
use Rattle.std.specs.Prelude.{◌∷◌, ◌++◌, length, slice_index, Option, Some, None, option_map, option_and_then, zero}
use Rattle.std.specs.Prelude.{suc}
use Rattle.nova_word.specs.Numbers.{is_digit}

-- the bytes that stand for one byte of a quoted text
pub data Stands : List ℕ → ℕ → Type 0 where
  itself : (b : ℕ) → 32 ≤ b → b ≤ 126 → (b ≡ 34 → ⊥) → (b ≡ 92 → ⊥) → Stands (b ∷ []) b
  carriage_return : Stands (92 ∷ 114 ∷ []) 13
  line_feed : Stands (92 ∷ 110 ∷ []) 10
  tab : Stands (92 ∷ 116 ∷ []) 9
  backslash : Stands (92 ∷ 92 ∷ []) 92
  quote : Stands (92 ∷ 34 ∷ []) 34
  octal : (a b c : ℕ) → a < 4 → b < 8 → c < 8 → Stands (92 ∷ (48 + a) ∷ (48 + b) ∷ (48 + c) ∷ []) (64 * a + 8 * b + c)

-- the bytes between the quotes, and the text that they stand for
pub data StandFor : List ℕ → List ℕ → Type 0 where
  none : StandFor [] []
  more : (front rest text : List ℕ) (b : ℕ) → Stands front b → StandFor rest text → StandFor (front ++ rest) (b ∷ text)

-- a line begins with a quoted text that stands for these bytes, and this follows the closing quote
pub record BeginsQuoted (line text rest : List ℕ) : Type 0 where
  pub inside : List ℕ
  pub spelled : line ≡ 34 ∷ (inside ++ 34 ∷ rest)
  pub stands : StandFor inside text

abbrev pub BeginsUnquoted : List ℕ → Type 0
BeginsUnquoted line = (text rest : List ℕ) → BeginsQuoted line text rest → ⊥

-- a line begins with at most one quoted text
abbrev pub QuotedIsUnique : Type 0
QuotedIsUnique = (line text rest text' rest' : List ℕ) → BeginsQuoted line text rest → BeginsQuoted line text' rest' →
    (text ≡ text') × (rest ≡ rest')

-- The same as a function. Of the first byte it tells the byte, and how many bytes stand for it.

abbrev pub is_plain : ℕ → Bool
is_plain b = nat_le 32 b && nat_le b 126 && not (b == 34) && not (b == 92)

-- behind a `\`, three octal digits up to 377
unfoldable pub octal_at : List ℕ → Option (ℕ × ℕ)
octal_at text =
    if nat_le 3 (length text) && is_digit 4 (slice_index text 0) && is_digit 8 (slice_index text 1)
    && is_digit 8 (slice_index text 2)
    then Some (64 * (slice_index text 0 - 48) + 8 * (slice_index text 1 - 48) + (slice_index text 2 - 48), 4)
    else None

-- behind a `\`, a letter or a sign, else digits
unfoldable pub escaped_at : List ℕ → Option (ℕ × ℕ)
escaped_at [] = None
escaped_at (sign ∷ rest) =
    if sign == 114 then Some (13, 2) else
    (if sign == 110 then Some (10, 2) else
    (if sign == 116 then Some (9, 2) else
    (if sign == 92 then Some (92, 2) else
    (if sign == 34 then Some (34, 2) else octal_at (sign ∷ rest)))))

unfoldable pub byte_at : List ℕ → Option (ℕ × ℕ)
byte_at [] = None
byte_at (b ∷ rest) = if b == 92 then escaped_at rest else (if is_plain b then Some (b, 1) else None)

-- a text with one byte more in front
abbrev pub with_byte : ℕ → List ℕ × List ℕ → List ℕ × List ℕ
with_byte b (text, rest) = (b ∷ text, rest)

-- the text up to the closing quote, and what follows that, where so many bytes still belong to the byte before them
unfoldable pub inside_read : ℕ → List ℕ → Option (List ℕ × List ℕ)
inside_read skip [] = None
inside_read (suc skip) (b ∷ rest) = inside_read skip rest
inside_read zero (b ∷ rest) =
    if b == 34 then Some ([], rest) else
    option_and_then (λ found. option_map (with_byte found.0) (inside_read (found.1 - 1) rest)) (byte_at (b ∷ rest))

-- the quoted text that a line begins with, and what follows it
unfoldable pub quoted_read : List ℕ → Option (List ℕ × List ℕ)
quoted_read [] = None
quoted_read (b ∷ rest) = if b == 34 then inside_read 0 rest else None

-- how many bytes a quoted text has behind those that were counted, and what follows it
abbrev pub counted : ℕ → Option (List ℕ × List ℕ) → Option (ℕ × List ℕ)
counted n (Some q) = Some (n + length q.0, q.1)
counted n None = None

-- the function finds the quoted text that a line begins with, and finds none only where there is none
pub record QuotedIsComputed : Type 0 where
  pub found : (line text rest : List ℕ) → BeginsQuoted line text rest → quoted_read line ≡ Some (text, rest)
  pub read : (line text rest : List ℕ) → quoted_read line ≡ Some (text, rest) → BeginsQuoted line text rest
