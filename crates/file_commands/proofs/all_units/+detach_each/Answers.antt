use Rattle.std.proofs.Common.{◌≡◌, IsTrue, ap, sym, arith, rules}
use Rattle.unit_trait.specs.declared.kind.UnitName.{UnitName}
use Rattle.unit_files.specs.Attachments.{takes_attachment}
use Rattle.unit_files.specs.Buffer.{AttachedFiles}
use Rattle.unit_files.specs.InStep.{InStep}
use Rattle.file_commands.specs.AllUnits.{filed_of}
use Rattle.file_commands.proofs.Emptying.{Calls, empties-none, empties-kept, empties-more, kept-whole, unwritten-here, still-unwritten, nothing-left, all-tail, apart-tail, apart-head, later-first, no-disk-first}
use Rattle.file_commands.proofs.OwnFiles.{own-both}
use Rattle.file_commands.proofs.all_units.+detach_each.Goals as goal

pub detach_each-requires : goal.detach_each-requires
detach_each-requires g t c κs within =
    let are = c.in-Some.ensures.cases in
    let room = c.requires.room in
    let few = c.detach_unit-result.ensures.few in
    let capacity = c.detach_unit-result.ensures.capacity in
    let units = all-tail (λ (u : UnitName). IsTrue (takes_attachment u)) c.in-Some.unit.now c.in-Some.others.now c.args.units.now are.0 c.requires.units in
    let distinct = apart-tail c.in-Some.unit.now c.in-Some.others.now c.args.units.now are.0 c.requires.apart in
    let first = no-disk-first c.in-Some.others.now (later-first c.in-Some.unit.now c.in-Some.others.now c.args.units.now are.0 c.requires.first) in
    (search rules, (search rules, (units, (distinct, (first, (c.detach_unit-result.ensures.open, omega (arith, are.1, room, few, capacity)))))))

pub returns-in-None-clause-empties : goal.returns-in-None-clause-empties
returns-in-None-clause-empties g t c =
    empties-none (InStep c.args.attached.now (g.F.Files.state c.args.files.now).files) c.args.stamp.command c.args.stamp.time c.args.units.now (filed_of c.args.attached.now (g.F.Files.state c.args.files.now).files) c.args.notes.now.items (g.F.Files.state c.args.files.now)
    (nothing-left c.args.units.now c.in-None.ensures.cases)

pub returns-in-Some-flush_fault-clause-empties : goal.returns-in-Some-flush_fault-clause-empties
returns-in-Some-flush_fault-clause-empties g t c =
    let first = c.detach_unit-result in
    let are = c.in-Some.ensures.cases.0 in
    let u = c.in-Some.unit.now in
    let old = g.F.Files.state c.args.files.now in
    let mid = g.F.Files.state first.new.files in
    let calls : Calls (InStep c.args.attached.now old.files) c.args.stamp u (filed_of c.args.attached.now old.files) (filed_of first.new.attached mid.files) first.result c.args.notes.now.items first.new.notes.items old mid = record {
      said = first.ensures.said;
      attached = first.ensures.attached;
      disk = first.ensures.disk;
      files = first.ensures.files;
      of_unit = first.ensures.own;
      noted = first.ensures.notes;
      counted = first.ensures.counted;
      all = first.ensures.all;
    } in
    empties-kept (InStep c.args.attached.now old.files) c.args.stamp u c.in-Some.others.now c.args.units.now _ _ first.result c.in-Some-flush_fault.fault c.args.notes.now.items first.new.notes.items old mid
    are (sym c.in-Some-flush_fault.ensures) calls

pub returns-in-Some-flush_fault-clause-cause : goal.returns-in-Some-flush_fault-clause-cause
returns-in-Some-flush_fault-clause-cause g t c =
    let first = c.detach_unit-result in
    let same : first.new.attached.slots ≡ c.args.attached.now.slots = ap (λ (a : AttachedFiles). a.slots) (kept-whole first.result c.in-Some-flush_fault.fault first.new.attached c.args.attached.now (sym c.in-Some-flush_fault.ensures) first.ensures.refused) in
    unwritten-here c.args.stamp c.in-Some.unit.now first.result c.in-Some-flush_fault.fault c.args.attached.now.slots first.new.attached.slots c.args.notes.now.items first.new.notes.items
    (g.F.Files.state c.args.files.now) (g.F.Files.state first.new.files) (sym c.in-Some-flush_fault.ensures) first.ensures.cause same first.ensures.notes

pub returns-in-None-flush_fault-clause-cause : goal.returns-in-None-flush_fault-clause-cause
returns-in-None-flush_fault-clause-cause g t c =
    let first = c.detach_unit-result in
    still-unwritten c.detach_each.result c.detach_each.new.attached.slots c.detach_each.new.notes.items _ (g.F.Files.state c.args.files.now) (g.F.Files.state first.new.files) (g.F.Files.state c.detach_each.new.files)
    first.ensures.counted c.detach_each.ensures.cause

pub returns-in-None-flush_fault-clause-empties : goal.returns-in-None-flush_fault-clause-empties
returns-in-None-flush_fault-clause-empties g t c =
    let first = c.detach_unit-result in
    let are = c.in-Some.ensures.cases.0 in
    let u = c.in-Some.unit.now in
    let old = g.F.Files.state c.args.files.now in
    let mid = g.F.Files.state first.new.files in
    let calls : Calls (InStep c.args.attached.now old.files) c.args.stamp u (filed_of c.args.attached.now old.files) (filed_of first.new.attached mid.files) first.result c.args.notes.now.items first.new.notes.items old mid = record {
      said = first.ensures.said;
      attached = first.ensures.attached;
      disk = first.ensures.disk;
      files = first.ensures.files;
      of_unit = first.ensures.own;
      noted = first.ensures.notes;
      counted = first.ensures.counted;
      all = first.ensures.all;
    } in
    let new = g.F.Files.state c.detach_each.new.files in
    empties-more (InStep c.args.attached.now old.files) (InStep first.new.attached mid.files) c.args.stamp u c.in-Some.others.now c.args.units.now _ (filed_of first.new.attached mid.files) _ first.result _ c.args.notes.now.items first.new.notes.items c.detach_each.new.notes.items
    old mid new are (apart-head u c.in-Some.others.now c.args.units.now are c.requires.apart) (sym c.in-None-flush_fault.ensures) first.ensures.step calls c.detach_each.ensures.empties

pub returns-in-None-flush_fault-clause-whose : goal.returns-in-None-flush_fault-clause-whose
returns-in-None-flush_fault-clause-whose g t c =
    let first = c.detach_unit-result in
    let rest = c.detach_each in
    own-both c.args.attached.now.slots first.new.attached.slots rest.new.attached.slots c.args.notes.now.items first.new.notes.items rest.new.notes.items
    (g.F.Files.state c.args.files.now) (g.F.Files.state first.new.files) (g.F.Files.state rest.new.files) first.ensures.whose rest.ensures.whose
