-- What holds of state texts, in a reader's words.
use Rattle.std.specs.Prelude.{◌≡◌, ℕ, ◌^◌, ◌<◌, List, ◌++◌, length, Ok, Err, get_or}
use Rattle.byte_layouts.specs.Layout.{Has, loose}
use Rattle.saved_session.specs.Parts.{State}
use Rattle.saved_session.specs.Valid.{Valid, Fits}
use Rattle.state_text.specs.declared.fault.StateFault.TheVariants.{BadField, Truncated}
use Rattle.state_text.specs.Rows.{this_version, state_layout}
use Rattle.state_text.specs.Text.{IsOfFirst, IsTextOf, text, text1}
use Rattle.state_text.specs.Reading.{reading}

-- ---- what every value has by the types of its fields, valid or not

-- each number is so small, and each list so short, that its row can tell it, whatever the row tests
abbrev pub HasWidths : State → Type 0
HasWidths s = Has (loose state_layout) (this_version, s)

-- ---- laws

-- No text is that of two states that fit, valid or not; so it is in the first version, of states that it can tell; and no
-- bytes are texts in both versions.
pub record OneToOne : Type 0 where
  pub now : (a b : State) → Fits a → HasWidths a → Fits b → HasWidths b → text a ≡ text b → a ≡ b
  pub first : (a b : State) → Fits a → HasWidths a → IsOfFirst a → Fits b → HasWidths b → IsOfFirst b → text1 a ≡ text1 b → a ≡ b
  pub apart : (a b : State) → Fits a → HasWidths a → Fits b → HasWidths b → IsOfFirst b → text a ≡ text1 b → ⊥

-- What is valid has a text, in the first version too where that can tell it; each is read as that and nothing else; and bytes
-- are read as what is valid and has them as a text, or not at all. Of such a text too few bytes are cut short, and any behind
-- it are at fault where it ends.
pub record TextsAreRead : Type 0 where
  pub fits : (s : State) → Valid s → Fits s
  pub read : (bytes : List ℕ) (s : State) → Valid s → IsTextOf s bytes → reading bytes ≡ Ok s
  pub only : (bytes : List ℕ) (s : State) → ((i : ℕ) → get_or bytes i 0 < 2 ^ 8) → reading bytes ≡ Ok s
      → Valid s × IsTextOf s bytes
  pub cut : (bytes missing : List ℕ) (s : State) → ((i : ℕ) → get_or bytes i 0 < 2 ^ 8) → Valid s
      → IsTextOf s (bytes ++ missing) → 0 < length missing → reading bytes ≡ Err Truncated
  pub behind : (bytes more : List ℕ) (s : State) → Valid s → IsTextOf s bytes → 0 < length more
      → reading (bytes ++ more) ≡ Err (BadField (length bytes))
