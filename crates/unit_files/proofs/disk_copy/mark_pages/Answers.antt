use Rattle.std.proofs.Common.{◌*◌, ℕ, min, ap, ◌∙◌, arith}
use Rattle.unit_files.specs.Pages.{page_bytes, page_of, marked}
use Rattle.unit_files.specs.Buffer.{sector_bytes}
use Rattle.unit_files.proofs.Marks.{sector-below, page-order}
use Rattle.unit_files.proofs.disk_copy.mark_pages.Goals as goal

pub mark_from-requires-clause-order : goal.mark_from-requires-clause-order
unfolding page_of page_bytes
mark_from-requires-clause-order c =
    let is = c.min.ensures in page-order c.min.result (c.from-place.result * 512) (omega (arith, is))

pub mark_from-requires-clause-below : goal.mark_from-requires-clause-below
unfolding page_of page_bytes sector_bytes
mark_from-requires-clause-below c =
    let low = sector-below c.args.sector c.requires.sector in
    let all = c.requires.all in
    let is = c.from-place.ensures in
    omega (arith, low, all, is)

pub returns : goal.returns
unfolding page_of page_bytes sector_bytes
returns c =
    let is = c.from-place.ensures in
    c.mark_from.ensures
    ∙ ap (λ (n : ℕ). marked (page_of n) (page_of (c.from-place.result * 512)) c.args.marks.now.items) c.min.ensures
    ∙ ap (λ (s : ℕ). marked (page_of (min c.args.count (s * 512))) (page_of (s * 512)) c.args.marks.now.items) is
