-- Several lines on the same ports and connections.
use Rattle.std.specs.Prelude.{◌≡◌, ◌≢◌, ℕ, List, slice_get, slice_set, map, Some}
use Rattle.host_lines.specs.State.{LineState}
use Rattle.telnet_lines.specs.Line.{LineOf}
use Rattle.telnet_lines.specs.Joined.{IsRecorded, IsLinked, seen_line, KeepsParties}

-- Each line is linked, and no two lines have one connection, but where a record says so.
pub record AreApart (s : LineState) (lines : List (LineOf ℕ)) : Type 0 where
  pub linked : (i : ℕ) (line : LineOf ℕ) → slice_get lines i ≡ Some line → IsLinked s line
  pub apart : (i j : ℕ) (one other : LineOf ℕ) → i ≢ j → slice_get lines i ≡ Some one → slice_get lines j ≡ Some other
      → (conn : ℕ) → one.connection ≡ Some conn → other.connection ≡ Some conn → IsRecorded s.told

-- a step for the line at a place changes what is seen of that line alone, and leaves the lines apart
pub record OneChanges (i : ℕ) (old : LineState) (lines : List (LineOf ℕ)) (new : LineState) (line : LineOf ℕ) : Type 0 where
  pub seen : map (seen_line new) (slice_set lines i line) ≡ slice_set (map (seen_line old) lines) i (seen_line new line)
  pub apart : AreApart new (slice_set lines i line)

abbrev pub LinesStandApart : Type 0
LinesStandApart = (i : ℕ) (old new : LineState) (lines : List (LineOf ℕ)) (before after : LineOf ℕ) → slice_get lines i ≡ Some before
    → AreApart old lines → KeepsParties old before new after → OneChanges i old lines new after
