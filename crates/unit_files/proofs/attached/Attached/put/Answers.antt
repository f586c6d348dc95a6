use Rattle.std.proofs.Common.{◌≡◌, true, false, map, length, List, Option, Some, ap, sym, subst, ◌∙◌, refl, rules, arith}
use Rattle.std.proofs.lemmas.List.{length-set, length-map}
use Rattle.unit_files.specs.Attachments.{Held, file_place, attachments_of, writers_write, is_disk}
use Rattle.unit_files.specs.Buffer.{AttachedFiles}
use Rattle.unit_files.specs.View.{slot_of, held_of, CanWrite}
use Rattle.unit_files.specs.declared.slots.UnitFile.{UnitFile}
use Rattle.unit_files.proofs.Places.{view-set, attachments-set, writers-set, within}
use Rattle.unit_files.proofs.Attaching.{own-put, names-set}
use Rattle.unit_files.proofs.Copies.{can-new, can-other}
use Rattle.unit_files.proofs.attached.Attached.put.Goals as goal

pub invariant_of-self : goal.invariant_of-self
invariant_of-self c =
    let items = c.self.inside.slots.items in
    let h : Option UnitFile = Some c.args.held in
    let view = view-set items c.place_of.result _ h (map slot_of items) c.place_of.ensures refl in
    let long : length (map slot_of items) ≡ 12 = length-map items slot_of ∙ c.self.invariant.0 in
    let is : is_disk c.args.unit.kind ≡ true = search rules in (
      length-set items c.place_of.result h ∙ c.self.invariant.0,
      ap writers_write view
          ∙ writers-set (map slot_of items) c.args.unit (Some (held_of c.args.held)) long c.self.invariant.1
          c.requires.writers,
      can-new (map slot_of items) _ c.args.unit (held_of c.args.held) _ is c.requires.unit view (omega (arith, long)) (c.requires.copy is),
      own-put items c.args.self.now.slots _ c.args.unit c.args.held view (ap (λ (a : AttachedFiles). a.slots) c.self.view_is) c.self.invariant.3 c.requires.own,
      names-set (map slot_of items) _ (file_place c.args.unit) (slot_of h) view c.self.invariant.4 c.requires.name,
    )

pub invariant_of-self-else-is_disk : goal.invariant_of-self-else-is_disk
invariant_of-self-else-is_disk c =
    let items = c.self.inside.slots.items in
    let h : Option UnitFile = Some c.args.held in
    let view = view-set items c.place_of.result _ h (map slot_of items) c.place_of.ensures refl in
    let long : length (map slot_of items) ≡ 12 = length-map items slot_of ∙ c.self.invariant.0 in
    let other : is_disk c.args.unit.kind ≡ false = search rules in (
      length-set items c.place_of.result h ∙ c.self.invariant.0,
      ap writers_write view
          ∙ writers-set (map slot_of items) c.args.unit (Some (held_of c.args.held)) long c.self.invariant.1
          c.requires.writers,
      subst (λ (s : List (Option Held)). CanWrite s c.self.inside.disk) (sym view)
          (can-other (map slot_of items) c.args.unit (Some (held_of c.args.held)) c.self.inside.disk other
          c.self.invariant.2),
      own-put items c.args.self.now.slots _ c.args.unit c.args.held view (ap (λ (a : AttachedFiles). a.slots) c.self.view_is) c.self.invariant.3 c.requires.own,
      names-set (map slot_of items) _ (file_place c.args.unit) (slot_of h) view c.self.invariant.4 c.requires.name,
    )

pub returns-then-is_disk-clause-held : goal.returns-then-is_disk-clause-held
returns-then-is_disk-clause-held c =
    view-set c.self.inside.slots.items c.place_of.result _ (Some c.args.held) c.args.self.now.slots c.place_of.ensures
    (ap (λ (a : AttachedFiles). a.slots) c.self.view_is)

pub returns-then-is_disk-clause-attachments : goal.returns-then-is_disk-clause-attachments
returns-then-is_disk-clause-attachments c =
    ap attachments_of (view-set c.self.inside.slots.items c.place_of.result _ (Some c.args.held) c.args.self.now.slots
    c.place_of.ensures (ap (λ (a : AttachedFiles). a.slots) c.self.view_is))
    ∙ attachments-set c.args.self.now.slots c.args.unit (Some (held_of c.args.held))

pub returns-then-is_disk-clause-within : goal.returns-then-is_disk-clause-within
returns-then-is_disk-clause-within c =
    let long : length c.args.self.now.slots ≡ 12 =
    ap (λ (a : AttachedFiles). length a.slots) (sym c.self.view_is)
    ∙ length-map c.self.inside.slots.items slot_of ∙ c.self.invariant.0 in
    within c.args.self.now.slots c.args.unit long c.requires.unit

pub returns-else-is_disk-clause-held : goal.returns-else-is_disk-clause-held
returns-else-is_disk-clause-held c =
    view-set c.self.inside.slots.items c.place_of.result _ (Some c.args.held) c.args.self.now.slots c.place_of.ensures
    (ap (λ (a : AttachedFiles). a.slots) c.self.view_is)

pub returns-else-is_disk-clause-attachments : goal.returns-else-is_disk-clause-attachments
returns-else-is_disk-clause-attachments c =
    ap attachments_of (view-set c.self.inside.slots.items c.place_of.result _ (Some c.args.held) c.args.self.now.slots
    c.place_of.ensures (ap (λ (a : AttachedFiles). a.slots) c.self.view_is))
    ∙ attachments-set c.args.self.now.slots c.args.unit (Some (held_of c.args.held))

pub returns-else-is_disk-clause-within : goal.returns-else-is_disk-clause-within
returns-else-is_disk-clause-within c =
    let long : length c.args.self.now.slots ≡ 12 =
    ap (λ (a : AttachedFiles). length a.slots) (sym c.self.view_is)
    ∙ length-map c.self.inside.slots.items slot_of ∙ c.self.invariant.0 in
    within c.args.self.now.slots c.args.unit long c.requires.unit
