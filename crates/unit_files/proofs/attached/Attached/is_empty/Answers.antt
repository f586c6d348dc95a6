use Rattle.std.proofs.Common.{◌≡◌, Bool, true, false, not, map, List, Option, refl, sym, ap, ◌∙◌}
use Rattle.std.proofs.lemmas.List.{length-map}
use Rattle.unit_files.specs.Attachments.{attachments_of, is_any_attached}
use Rattle.unit_files.specs.View.{slot_of}
use Rattle.unit_files.specs.declared.slots.UnitFile.{UnitFile}
use Rattle.unit_files.proofs.Copies.{nothing-there}
use Rattle.unit_files.proofs.attached.Attached.is_empty.Goals as goal

not-so : (b : Bool) → not b ≡ true → b ≡ false
not-so true is = absurd (cc)
not-so false is = refl

pub returns-clause-nothing : goal.returns-clause-nothing
returns-clause-nothing c = λ free.
    let items = c.self.inside.slots.items in
    let none : not (is_any_attached (attachments_of (map slot_of items))) ≡ true =
    ap (λ (l : List (Option UnitFile)). not (is_any_attached (attachments_of (map slot_of l)))) (sym c.deref.ensures.value)
    ∙ sym c.are_free.ensures ∙ free in
    sym c.self.view_is
    ∙ nothing-there (map slot_of items) c.self.inside.disk (not-so _ none) (length-map items slot_of ∙ c.self.invariant.0)
    c.self.invariant.2
