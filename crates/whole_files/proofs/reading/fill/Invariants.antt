use Rattle.std.proofs.Common.{◌≡◌, ◌≤◌, ◌-◌, ℕ, IsTrue, length, take}
use Rattle.file_traits.specs.State.{content}
use Rattle.whole_files.proofs.reading.fill.Given as goal

abbrev pub invariant-loop-done : goal.invariant-loop-done
invariant-loop-done g l = record {
  within : l.done ≤ length l.buf;
  room : length l.buf ≡ length l.fn.buf;
  read : IsTrue g.F.Files.tells → l.done ≤ length (content (g.F.Files.state l.fn.files) l.file.0);
  bytes : IsTrue g.F.Files.tells → take l.done l.buf ≡ take l.done (content (g.F.Files.state l.fn.files) l.file.0);
  files : (g.F.Files.state l.files).files ≡ (g.F.Files.state l.fn.files).files;
  opened : (g.F.Files.state l.files).opened ≡ (g.F.Files.state l.fn.files).opened;
  counts : (file : ℕ) → (g.F.Files.state l.files).faults file ≡ (g.F.Files.state l.fn.files).faults file;
  openings : (g.F.Files.state l.files).open_faults ≡ (g.F.Files.state l.fn.files).open_faults;
  ids : (g.F.Files.state l.files).given ≡ (g.F.Files.state l.fn.files).given;
}

abbrev pub decreases-loop-done : goal.decreases-loop-done
decreases-loop-done g l = length l.initial.buf - l.done
