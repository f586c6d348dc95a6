use Rattle.std.proofs.Common.{◌≡◌, ◌*◌, List, Bool, ℕ, length, min, ap, sym, ◌∙◌, arith, rules}
use Rattle.unit_files.specs.Pages.{page_of, marked}
use Rattle.unit_files.specs.InStep.{with_marks}
use Rattle.unit_files.specs.Buffer.{sector_bytes}
use Rattle.unit_files.proofs.Copies.{sector-short}
use Rattle.unit_files.proofs.Marks.{marks-all, sector-marks-long}
use Rattle.unit_files.proofs.disk_copy.DiskCopy.write.Goals as goal

pub returns-clause-copy : goal.returns-clause-copy
unfolding sector_bytes
returns-clause-copy c =
    let old = c.args.self.now in
    let room = c.requires.copy.room in
    let kept = c.write_into.ensures.capacity in
    let short = sector-short old.bytes.items c.args.from.now c.args.sector c.requires.sector c.told-from c.requires.copy.short in
    record {
      room = omega (arith, room, kept);
      short = omega (arith, short, ap length c.write_into.ensures.bytes);
      pages =
          ap length c.mark_pages.ensures
          ∙ sector-marks-long c.len.result c.args.sector old.marks.items c.requires.sector c.requires.copy.pages;
    }

pub returns-clause-marks : goal.returns-clause-marks
unfolding sector_bytes
returns-clause-marks c =
    let old = c.args.self.now in
    let all : c.len.result ≡ length old.bytes.items = search rules in
    let long =
    ap length c.mark_pages.ensures
    ∙ sector-marks-long c.len.result c.args.sector old.marks.items c.requires.sector c.requires.copy.pages in
    marks-all c.mark_pages.new.marks.items long
    ∙ c.mark_pages.ensures
    ∙ ap (λ (n : ℕ). marked (page_of (min n (c.args.sector * sector_bytes))) (page_of (c.args.sector * sector_bytes)) old.marks.items) all
    ∙ ap (λ (l : List Bool). with_marks old.bytes.items c.args.sector l) (sym (marks-all old.marks.items c.requires.copy.pages))
