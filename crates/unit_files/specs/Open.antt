-- The files of units are open, and each has a number of its own.
use Rattle.std.specs.Prelude.{◌≡◌, ◌≢◌, ℕ, Bool, true, false, List, [], ◌∷◌, Option, Some, None, get_or}
use Rattle.file_traits.specs.declared.files.OpenMode.{OpenMode}
use Rattle.file_traits.specs.declared.files.OpenMode.TheVariants.{Read}
use Rattle.file_traits.specs.State.{Opened, opened_at, without}
use Rattle.unit_files.specs.Attachments.{Held}

abbrev pub is_reading : OpenMode → Bool
is_reading Read = true
is_reading mode = false

-- the file of an attachment is open under its name, and only to be read exactly where the attachment is read only
pub record IsHeldOpen (h : Held) (opened : List Opened) : Type 0 where
  pub entry : Opened
  pub there : opened_at opened h.file ≡ Some entry
  pub name : entry.name ≡ h.attachment.name
  pub mode : is_reading entry.mode ≡ h.attachment.read_only

-- each attached file is open
pub record AllOpen (slots : List (Option Held)) (opened : List Opened) : Type 0 where
  pub there : (place : ℕ) (h : Held) → get_or slots place None ≡ Some h → IsHeldOpen h opened

-- no two units hold one number
pub record HaveOwnNumbers (slots : List (Option Held)) : Type 0 where
  pub apart : (one other : ℕ) (g h : Held) → get_or slots one None ≡ Some g → get_or slots other None ≡ Some h
      → g.file ≡ h.file → one ≡ other

-- no unit holds this number
abbrev pub IsFree : List (Option Held) → ℕ → Type 0
IsFree slots file = (place : ℕ) (h : Held) → get_or slots place None ≡ Some h → file ≢ h.file

-- the files that are open beside the attached ones
abbrev pub without_held : List (Option Held) → List Opened → List Opened
without_held [] opened = opened
without_held (None ∷ slots) opened = without_held slots opened
without_held (Some h ∷ slots) opened = without_held slots (without opened h.file)

-- Beside the attached files those are open that were open before anything was attached, as they were, and no others;
-- and none of those is attached.
pub record Around (slots : List (Option Held)) (base opened : List Opened) : Type 0 where
  pub rest : without_held slots opened ≡ base
  pub own : (place : ℕ) (h : Held) → get_or slots place None ≡ Some h → opened_at base h.file ≡ None
