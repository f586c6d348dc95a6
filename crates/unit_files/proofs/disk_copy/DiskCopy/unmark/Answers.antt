use Rattle.std.proofs.Common.{false, length, replicate, refl, ap, ◌∙◌}
use Rattle.std.proofs.lemmas.List.{length-replicate}
use Rattle.unit_files.specs.Pages.{disk_pages}
use Rattle.unit_files.proofs.Marks.{marks-all}
use Rattle.unit_files.proofs.disk_copy.DiskCopy.unmark.Goals as goal

pub returns-clause-copy : goal.returns-clause-copy
returns-clause-copy c =
    let is = c.unmark_all.ensures ∙ ap (λ n. replicate n false) c.requires.pages in
    let pages = ap length is ∙ length-replicate disk_pages false in
    record {
      copy = record { room = c.requires.room; short = c.requires.short; pages = pages };
      unwritten = refl;
      unmarked = marks-all c.unmark_all.new.marks.items pages ∙ is;
    }
