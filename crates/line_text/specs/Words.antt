-- The words of a text, with spaces and tabs between them.
use Rattle.std.specs.Prelude.{◌≡◌, ◌⊎◌, ℕ, ◌-◌, ◌==◌, ◌<◌, Bool, ◌||◌, All, List, [], ◌∷◌, ◌++◌, length, take, drop, not}
use Rattle.std.specs.List.{position_or_len, suffix_len}
use Rattle.std.specs.Str.{bytes_eq, str_to_ascii_uppercase}

-- spaces and tabs
abbrev pub IsBlank : ℕ → Type 0
IsBlank b = (b ≡ 32) ⊎ (b ≡ 9)

abbrev pub IsBlanks : List ℕ → Type 0
IsBlanks text = All IsBlank text

-- a text that begins with such a byte, or is empty
abbrev pub StartsIn : (ℕ → Type 0) → List ℕ → Type 0
StartsIn P [] = Unit {0}
StartsIn P (b ∷ more) = P b

-- a word has at least one byte, and no blank
pub record IsWord (word : List ℕ) : Type 0 where
  pub some : 0 < length word
  pub whole : All (λ b. IsBlank b → ⊥) word

-- the first word of a text, behind the blanks at its front, and what follows it
pub record Begins (text word rest : List ℕ) : Type 0 where
  pub blanks : List ℕ
  pub spelled : text ≡ blanks ++ (word ++ rest)
  pub blank : IsBlanks blanks
  pub is : IsWord word
  pub ends : StartsIn IsBlank rest

-- a word is that name, in either case: names stand in capitals
abbrev pub IsSpelled : List ℕ → List ℕ → Type 0
IsSpelled word name = str_to_ascii_uppercase word ≡ name

-- The same as functions.

abbrev pub is_spelled : List ℕ → List ℕ → Bool
is_spelled word name = bytes_eq name (str_to_ascii_uppercase word)

abbrev pub is_blank : ℕ → Bool
is_blank b = b == 32 || b == 9

-- what stands behind the blanks at the front of a text
unfoldable pub past_blanks : List ℕ → List ℕ
past_blanks text = drop (position_or_len (λ b. not (is_blank b)) text) text

-- the bytes before the first blank, and what follows them
unfoldable pub word_at : List ℕ → List ℕ × List ℕ
word_at text = let n = position_or_len is_blank text in (take n text, drop n text)

-- a text without the blanks at its end
unfoldable pub trimmed : List ℕ → List ℕ
trimmed text = take (length text - suffix_len is_blank text) text
