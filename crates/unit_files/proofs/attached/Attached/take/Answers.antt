use Rattle.std.proofs.Common.{◌≡◌, true, false, map, length, List, Option, None, ap, sym, subst, ◌∙◌, refl, rules}
use Rattle.std.proofs.lemmas.List.{length-set, length-map}
use Rattle.unit_files.specs.Attachments.{Held, file_place, attachments_of, writers_write, is_disk}
use Rattle.unit_files.specs.Buffer.{AttachedFiles}
use Rattle.unit_files.specs.Open.{HaveOwnNumbers}
use Rattle.unit_files.specs.View.{slot_of, CanWrite}
use Rattle.unit_files.specs.declared.slots.UnitFile.{UnitFile}
use Rattle.unit_files.proofs.Places.{view-set, attachments-set, writers-set}
use Rattle.unit_files.proofs.Attaching.{own-detached, names-set}
use Rattle.unit_files.proofs.Copies.{can-none, can-other}
use Rattle.unit_files.proofs.attached.Attached.take.Goals as goal

pub invariant_of-self : goal.invariant_of-self
invariant_of-self c =
    let items = c.self.inside.slots.items in
    let h : Option UnitFile = None in
    let view = view-set items c.place_of.result _ h (map slot_of items) c.place_of.ensures refl in
    let long : length (map slot_of items) ≡ 12 = length-map items slot_of ∙ c.self.invariant.0 in
    let is : is_disk c.args.unit.kind ≡ true = search rules in (
      length-set items c.place_of.result h ∙ c.self.invariant.0,
      ap writers_write view ∙ writers-set (map slot_of items) c.args.unit None long c.self.invariant.1 (λ is. refl),
      can-none (map slot_of items) _ c.args.unit _ is c.requires view c.clear.ensures.bytes c.clear.ensures.marks c.clear.ensures.written,
      subst HaveOwnNumbers (sym view) (own-detached (map slot_of items) (file_place c.args.unit) c.self.invariant.3),
      names-set (map slot_of items) _ (file_place c.args.unit) None view c.self.invariant.4 tt,
    )

pub invariant_of-self-else-is_disk : goal.invariant_of-self-else-is_disk
invariant_of-self-else-is_disk c =
    let items = c.self.inside.slots.items in
    let h : Option UnitFile = None in
    let view = view-set items c.place_of.result _ h (map slot_of items) c.place_of.ensures refl in
    let long : length (map slot_of items) ≡ 12 = length-map items slot_of ∙ c.self.invariant.0 in
    let other : is_disk c.args.unit.kind ≡ false = search rules in (
      length-set items c.place_of.result h ∙ c.self.invariant.0,
      ap writers_write view ∙ writers-set (map slot_of items) c.args.unit None long c.self.invariant.1 (λ is. refl),
      subst (λ (s : List (Option Held)). CanWrite s c.self.inside.disk) (sym view)
          (can-other (map slot_of items) c.args.unit None c.self.inside.disk other c.self.invariant.2),
      subst HaveOwnNumbers (sym view) (own-detached (map slot_of items) (file_place c.args.unit) c.self.invariant.3),
      names-set (map slot_of items) _ (file_place c.args.unit) None view c.self.invariant.4 tt,
    )

pub returns-then-is_disk-clause-held : goal.returns-then-is_disk-clause-held
returns-then-is_disk-clause-held c =
    view-set c.self.inside.slots.items c.place_of.result _ None c.args.self.now.slots c.place_of.ensures
    (ap (λ (a : AttachedFiles). a.slots) c.self.view_is)

pub returns-then-is_disk-clause-attachments : goal.returns-then-is_disk-clause-attachments
returns-then-is_disk-clause-attachments c =
    ap attachments_of (view-set c.self.inside.slots.items c.place_of.result _ None c.args.self.now.slots
    c.place_of.ensures (ap (λ (a : AttachedFiles). a.slots) c.self.view_is))
    ∙ attachments-set c.args.self.now.slots c.args.unit None

pub returns-else-is_disk-clause-held : goal.returns-else-is_disk-clause-held
returns-else-is_disk-clause-held c =
    view-set c.self.inside.slots.items c.place_of.result _ None c.args.self.now.slots c.place_of.ensures
    (ap (λ (a : AttachedFiles). a.slots) c.self.view_is)

pub returns-else-is_disk-clause-attachments : goal.returns-else-is_disk-clause-attachments
returns-else-is_disk-clause-attachments c =
    ap attachments_of (view-set c.self.inside.slots.items c.place_of.result _ None c.args.self.now.slots
    c.place_of.ensures (ap (λ (a : AttachedFiles). a.slots) c.self.view_is))
    ∙ attachments-set c.args.self.now.slots c.args.unit None
