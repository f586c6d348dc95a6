use Rattle.std.proofs.Common.{◌≡◌, ◌≤◌, ◌-◌, ℕ, IsTrue, length, take}
use Rattle.file_traits.specs.State.{content}
use Rattle.sha2.specs.Hashers.{Holds256}
use Rattle.file_digests.proofs.digest.digest_of.Given as goal

abbrev pub invariant-loop-place : goal.invariant-loop-place
invariant-loop-place g l = record {
  within : l.place ≤ l.length;
  known : IsTrue g.F.Files.tells → l.length ≡ length (content (g.F.Files.state l.fn.files) l.file.0);
  held : IsTrue g.F.Files.tells → Holds256 l.hasher (take l.place (content (g.F.Files.state l.fn.files) l.file.0));
  size : length l.piece ≡ 4096;
  files : (g.F.Files.state l.files).files ≡ (g.F.Files.state l.fn.files).files;
  opened : (g.F.Files.state l.files).opened ≡ (g.F.Files.state l.fn.files).opened;
  counts : (file : ℕ) → (g.F.Files.state l.files).faults file ≡ (g.F.Files.state l.fn.files).faults file;
  openings : (g.F.Files.state l.files).open_faults ≡ (g.F.Files.state l.fn.files).open_faults;
  ids : (g.F.Files.state l.files).given ≡ (g.F.Files.state l.fn.files).given;
}

abbrev pub decreases-loop-place : goal.decreases-loop-place
decreases-loop-place g l = l.length - l.place
