use Rattle.std.proofs.Common.{◌≡◌, ◌≤◌, ◌-◌, ℕ, IsTrue, length, take}
use Rattle.file_traits.specs.State.{content}
use Rattle.state_text.specs.Pieces.{IsFed}
use Rattle.state_commands.specs.StateReading.{WasFed}
use Rattle.state_commands.proofs.state_reading.feed_file.Given as goal

abbrev pub invariant-loop-place : goal.invariant-loop-place
invariant-loop-place g l = record {
  within : l.place ≤ l.size;
  was : WasFed l.reader;
  fed : IsTrue g.F.Files.tells → IsFed l.reader (take l.place (content (g.F.Files.state l.fn.files) l.file.0));
  piece : length l.piece ≡ 4096;
  files : (g.F.Files.state l.files).files ≡ (g.F.Files.state l.fn.files).files;
  opened : (g.F.Files.state l.files).opened ≡ (g.F.Files.state l.fn.files).opened;
  counts : (file : ℕ) → (g.F.Files.state l.files).faults file ≡ (g.F.Files.state l.fn.files).faults file;
  openings : (g.F.Files.state l.files).open_faults ≡ (g.F.Files.state l.fn.files).open_faults;
  ids : (g.F.Files.state l.files).given ≡ (g.F.Files.state l.fn.files).given;
}

abbrev pub decreases-loop-place : goal.decreases-loop-place
decreases-loop-place g l = l.size - l.place
