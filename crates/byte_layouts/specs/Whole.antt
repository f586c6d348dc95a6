-- A text that is a value's fields and nothing behind them.
use Rattle.std.specs.Prelude.{◌≡◌, ℕ, ◌<◌, ◌==◌, List, ◌++◌, length, Result, Ok, Err, get_or, if◌then◌else◌}
use Rattle.byte_layouts.specs.declared.fault.FieldFault.{FieldFault}
use Rattle.byte_layouts.specs.declared.fault.FieldFault.TheVariants.{BadField, Truncated}
use Rattle.byte_layouts.specs.Readers.{At, followed}
use Rattle.byte_layouts.specs.Layout.{Layout, text, reading, Has, loose}
use Rattle.byte_layouts.specs.Fed.{first_place}

-- nothing stands behind the end
abbrev pub ended : {A : Type 0} → A → At → Result A FieldFault
ended x at = if length at.rest == 0 then Ok x else Err (BadField at.place)

-- what bytes say, or their first fault
unfoldable pub whole : {A : Type 0} → Layout A → List ℕ → Result A FieldFault
whole l bytes = followed (reading l (first_place bytes)) ended

-- What holds of the texts of a layout, in a reader's words: a value's text is read as it and nothing else; bytes are read as
-- a value that there is and has them as its text, or not at all; of such a text too few bytes are cut short, and any behind
-- it are at fault where it ends; and no text is that of two values whose fields have their widths.
pub record TextsAreRead {A : Type 0} (l : Layout A) : Type 0 where
  pub read : (x : A) → Has l x → whole l (text l x) ≡ Ok x
  pub only : (bytes : List ℕ) (x : A) → ((i : ℕ) → get_or bytes i 0 < 256) → whole l bytes ≡ Ok x
      → Has l x × (bytes ≡ text l x)
  pub cut : (bytes missing : List ℕ) (x : A) → ((i : ℕ) → get_or bytes i 0 < 256) → Has l x
      → bytes ++ missing ≡ text l x → 0 < length missing → whole l bytes ≡ Err Truncated
  pub behind : (x : A) (more : List ℕ) → Has l x → 0 < length more
      → whole l (text l x ++ more) ≡ Err (BadField (length (text l x)))
  pub one : (x y : A) → Has (loose l) x → Has (loose l) y → text l x ≡ text l y → x ≡ y
