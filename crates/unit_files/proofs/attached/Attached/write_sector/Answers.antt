use Rattle.std.proofs.Common.{List, Bool, ℕ, length, map, ap, sym, ◌∙◌, rules}
use Rattle.unit_files.specs.Buffer.{AttachedFiles, sector_bytes, with_sector}
use Rattle.unit_files.specs.InStep.{with_marks}
use Rattle.unit_files.specs.View.{slot_of}
use Rattle.unit_files.proofs.Copies.{pages-long, files_of}
use Rattle.unit_files.proofs.PageLaws.{covers-sector}
use Rattle.unit_files.proofs.attached.Attached.write_sector.Goals as goal

pub invariant_of-self : goal.invariant_of-self
invariant_of-self c = (
  search rules,
  search rules,
  record { copy = λ h there. c.write.ensures.copy; writable = search rules; none = search rules; unmarked = λ is. absurd (cc) },
  c.self.invariant.3,
  c.self.invariant.4,
)

pub returns-clause-covers : goal.returns-clause-covers
unfolding sector_bytes
returns-clause-covers c =
    let old = c.args.self.now in
    let slots = map slot_of c.self.inside.slots.items in
    let new = files_of slots c.write.new.self in
    let bytes = ap (λ (a : AttachedFiles). a.disk.bytes) c.self.view_is in
    let marks = ap (λ (a : AttachedFiles). a.aside) c.self.view_is in
    let all = ap (λ (l : List Bool). length l) (sym marks) ∙ pages-long slots c.self.inside.disk c.self.invariant.2 in
    let written = c.write.ensures.bytes ∙ ap (λ (b : List ℕ). with_sector b c.args.sector c.args.from.now) bytes in
    covers-sector old new c.args.from.now c.args.sector c.requires c.told-from all
    (λ i. record { bytes = written i; written = c.write.ensures.written i })
    (c.write.ensures.marks ∙ (λ i. with_marks (bytes i) c.args.sector (marks i)))
