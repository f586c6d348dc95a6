use Rattle.std.proofs.Common.{◌≡◌, ℕ, List, take}
use Rattle.file_traits.specs.Lists.{changed}
use Rattle.file_traits.specs.State.{name_at}
use Rattle.unit_files.specs.InStep.{written_pages}
use Rattle.unit_files.specs.Causes.{IsQuiet}
use Rattle.unit_files.proofs.flushing.write_pages.Given as goal

abbrev pub invariant-loop-page : goal.invariant-loop-page
invariant-loop-page g l = record {
  files : (g.F.Files.state l.files).files
      ≡ changed (g.F.Files.state l.fn.files).files (name_at (g.F.Files.state l.fn.files).opened l.file.0)
      (λ (old : List ℕ). written_pages (take l.page l.marks) 0 l.bytes old);
  opened : (g.F.Files.state l.files).opened ≡ (g.F.Files.state l.fn.files).opened;
  quiet : IsQuiet (g.F.Files.state l.fn.files) (g.F.Files.state l.files);
}
