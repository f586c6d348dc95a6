-- What the reader of lines does with an input.
use Rattle.std.specs.Prelude.{◌≡◌, ◌⊎◌, ◌==◌, ◌&&◌, ◌||◌, ℕ, ◌+◌, ◌-◌, ◌%◌, ◌<◌, ◌≤◌, Bool, false, not, nat_le, List, length, drop, if◌then◌else◌}
use Rattle.scp_parser.specs.Grammar.{longest_line}
use Rattle.session_texts.specs.declared.line_reader.Reading.{Reading}
use Rattle.session_texts.specs.declared.line_reader.Reading.TheVariants.{Line, TooLong, End, Unpaid, Failed}
use Rattle.script_text.specs.Lines.{line_cost, first_line, has_lf, without_cr}
use Rattle.session_texts.specs.Lines.{InputEnds, LineComes, arrival, line_reads, reads_left}
use Rattle.session_texts.specs.Lines as lines

-- the line that was read last, and whether the input's end is still to be read
pub record ReaderState : Type 0 where
  pub line : List ℕ
  pub open_ : Bool

-- that many reads were made, and no more
pub record AreRead (made : ℕ) (open_ : Bool) (input : List ℕ) (open_now : Bool) (left : List ℕ) : Type 0 where
  pub rest : left ≡ drop made input
  pub count : reads_left open_ input ≡ made + reads_left open_now left

-- A reading under a budget: the next line with what it costs, the end, which costs nothing, a unit that is not there, or a
-- read that failed.
-- Each made exactly its reads.
abbrev pub IsReading : ℕ → Bool → List ℕ → Reading → ℕ → ReaderState → List ℕ → Type 0
IsReading budget open_ input Line budget_now reader left =
    (arrival budget open_ input ≡ LineComes reader.line) × (budget_now ≡ budget - line_cost (length (first_line input))) × (reader.open_ ≡ has_lf input)
    × AreRead (line_reads budget open_ input) open_ input reader.open_ left
IsReading budget open_ input TooLong budget_now reader left =
    (line : List ℕ) × (arrival budget open_ input ≡ LineComes line) × (longest_line < length line) × (budget_now ≡ budget - line_cost (length (first_line input)))
    × (reader.open_ ≡ has_lf input) × AreRead (line_reads budget open_ input) open_ input reader.open_ left
IsReading budget open_ input End budget_now reader left =
    (arrival budget open_ input ≡ InputEnds) × (budget_now ≡ budget) × AreRead (line_reads budget open_ input) open_ input reader.open_ left
IsReading budget open_ input Unpaid budget_now reader left = (arrival budget open_ input ≡ lines.Unpaid) × AreRead (line_reads budget open_ input) open_ input reader.open_ left
IsReading budget open_ input Failed budget_now reader left = (made : ℕ) × (made < line_reads budget open_ input) × AreRead made open_ input reader.open_ left

-- A line costs a unit at least, told or not, and nothing raises the budget. One is wanted only where none is left.
abbrev pub Pays : ℕ → Reading → ℕ → Type 0
Pays budget Line now = now < budget
Pays budget TooLong now = now < budget
Pays budget Unpaid now = now ≡ 0
Pays budget End now = now ≤ budget
Pays budget Failed now = now ≤ budget

-- whether the next byte of a line costs a unit of the budget, where that many bytes stand before it
abbrev pub is_charged : ℕ → ℕ → Bool
is_charged count b = (count == 0) || (not (b == 10) && nat_le 1024 (count + 1) && ((count + 1) % 512 == 0))

-- how many units that byte costs
abbrev pub byte_cost : ℕ → ℕ → ℕ
byte_cost count b = if is_charged count b then 1 else 0

-- the line of which these bytes were kept, at its end
abbrev pub ended_line : Bool → List ℕ → List ℕ
ended_line lf line = if lf then without_cr line else line

-- The end of a line of which so many bytes were read and these were kept: it is all there, or longer than is handed on,
-- or there was none.
abbrev pub LineEnds : ℕ → Bool → List ℕ → Reading → List ℕ → Type 0
LineEnds count lf kept Line line = (count ≤ 513) × (lf ≡ false → 0 < count) × (line ≡ ended_line lf kept) × (length (ended_line lf kept) ≤ longest_line)
LineEnds count lf kept TooLong line = (513 < count) ⊎ ((count ≤ 513) × (longest_line < length (ended_line lf kept)))
LineEnds count lf kept End line = (count ≡ 0) × (lf ≡ false)
LineEnds count lf kept Unpaid line = ⊥
LineEnds count lf kept Failed line = ⊥
