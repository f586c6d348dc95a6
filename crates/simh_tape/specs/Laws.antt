-- Laws of tape images.
use Rattle.std.specs.Prelude.{ℕ, suc, ◌≡◌, ◌+◌, ◌<◌, ◌≤◌, ◌^◌, ◌↔◌, Bool, true, false, List, length, take, drop, Ok}
use Rattle.file_traits.specs.OneList.{longest_list, shown}
use Rattle.unit_trait.specs.declared.calls.TapeEnd.TheVariants.{Plain, Mark}
use Rattle.simh_tape.specs.Image.{block_size, next, previous}
use Rattle.simh_tape.specs.Image.Met.{BlockTo, MarkTo}
use Rattle.simh_tape.specs.Spacing.{space_from}
use Rattle.simh_tape.specs.Writing.{block_bytes, after_writing}

-- the items between two places of an image are the same, read forward from the one and backwards from the other
abbrev pub ItemsReadTheSame : Type 0
ItemsReadTheSame = (bytes : List ℕ) (from to : ℕ) → to ≤ length bytes →
    ((count : ℕ) (flagged : Bool) → (next bytes from ≡ BlockTo count flagged to) ↔ (previous bytes to ≡ BlockTo count flagged from))
    × ((next bytes from ≡ MarkTo to) ↔ (previous bytes to ≡ MarkTo from))

-- a block stands at a place of an image, with these data
pub record HasBlock (image bytes : List ℕ) (place : ℕ) : Type 0 where
  pub forward : next image place ≡ BlockTo (length bytes) false (place + block_size (length bytes))
  pub backwards : previous image (place + block_size (length bytes)) ≡ BlockTo (length bytes) false place
  pub there : take (length bytes) (drop (place + 4) image) ≡ bytes

-- a block that was written is read back
abbrev pub BlocksAreReadBack : Type 0
BlocksAreReadBack = (old bytes : List ℕ) (place behind : ℕ) → 0 < length bytes → length bytes < 2 ^ 24 →
    place + block_size (length bytes) ≤ longest_list →
    HasBlock (shown (after_writing old place (block_bytes bytes) (Ok behind))) bytes place

-- spacing forward over blocks, and back over as many
abbrev pub SpacingLeadsBack : Type 0
SpacingLeadsBack = (bytes : List ℕ) (count from to : ℕ) →
    space_from count true bytes from 0 ≡ Ok (record { place = to; passed = count; end = Plain }) →
    space_from count false bytes to 0 ≡ Ok (record { place = from; passed = count; end = Plain })

-- spacing forward over a mark, and back over it
abbrev pub MarksLeadBack : Type 0
MarksLeadBack = (bytes : List ℕ) (count other from to : ℕ) →
    space_from (suc count) true bytes from 0 ≡ Ok (record { place = to; passed = 0; end = Mark }) →
    space_from (suc other) false bytes to 0 ≡ Ok (record { place = from; passed = 0; end = Mark })
