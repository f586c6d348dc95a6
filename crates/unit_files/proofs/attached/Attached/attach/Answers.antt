use Rattle.std.proofs.Common.{◌≡◌, ◌<◌, Bool, false, Some, None, IsSome, List, Option, ap, subst, sym, ◌∙◌, rules, refl, arith, if◌then◌else◌}
use Rattle.file_traits.specs.Lists.{find_file}
use Rattle.file_traits.specs.State.{Opened}
use Rattle.unit_files.specs.Acts.{is_read_only}
use Rattle.unit_files.specs.Attachments.{Attachment, Held, held_at, with_held, file_place, attachments_of, with_attachment}
use Rattle.unit_files.specs.Pages.{no_marks}
use Rattle.unit_files.specs.Buffer.{Buffer}
use Rattle.unit_files.specs.Open.{AllOpen, Around}
use Rattle.unit_files.specs.Opening.{IsNewlyOpen}
use Rattle.unit_files.specs.Causes.{AreFrom}
use Rattle.unit_files.proofs.Attaching.{free, open-attached, around-attached, from-with}
use Rattle.unit_files.proofs.InStep.{opening-there, step-attached}
use Rattle.unit_files.proofs.attached.Attached.attach.Goals as goal

pub put-requires-clause-own : goal.put-requires-clause-own
put-requires-clause-own g c =
    let old = g.F.Files.state c.args.files.now in
    let new = g.F.Files.state c.take_file.new.files in
    let file = c.in-Ok-take_file.taken.file.0 in
    let is : IsNewlyOpen old new c.args.name.now c.args.mode file = c.in-Ok-take_file.ensures.opened in
    free c.args.self.now.slots old.opened file c.requires.«open» is.fresh

pub returns-in-Ok-take_file-clause-open : goal.returns-in-Ok-take_file-clause-open
returns-in-Ok-take_file-clause-open g c =
    let old = g.F.Files.state c.args.files.now in
    let new = g.F.Files.state c.take_file.new.files in
    let is : IsNewlyOpen old new c.args.name.now c.args.mode c.in-Ok-take_file.taken.file.0 =
    c.in-Ok-take_file.ensures.opened in
    let h : Held = record {
      file = c.in-Ok-take_file.taken.file.0;
      attachment =
          record { name = c.args.name.now; read_only = is_read_only c.args.mode };
    } in
    let entry : Opened = record { file = c.in-Ok-take_file.taken.file.0; name = c.args.name.now; mode = is.how } in
    let held : c.put.new.self.slots ≡ with_held c.args.self.now.slots c.args.unit (Some h) = search rules in
    let all = open-attached c.args.self.now.slots old.opened (file_place c.args.unit) h entry refl refl is.reading is.fresh
    c.requires.«open» in
    subst (λ (x : List (Option Held) × List Opened). AllOpen x.0 x.1) (λ i. (sym held i, sym is.opened i)) all

pub returns-in-Ok-take_file-clause-around : goal.returns-in-Ok-take_file-clause-around
returns-in-Ok-take_file-clause-around g c = λ base around.
    let old = g.F.Files.state c.args.files.now in
    let new = g.F.Files.state c.take_file.new.files in
    let is : IsNewlyOpen old new c.args.name.now c.args.mode c.in-Ok-take_file.taken.file.0 =
    c.in-Ok-take_file.ensures.opened in
    let h : Held = record {
      file = c.in-Ok-take_file.taken.file.0;
      attachment =
          record { name = c.args.name.now; read_only = is_read_only c.args.mode };
    } in
    let entry : Opened = record { file = c.in-Ok-take_file.taken.file.0; name = c.args.name.now; mode = is.how } in
    let held : c.put.new.self.slots ≡ with_held c.args.self.now.slots c.args.unit (Some h) = search rules in
    let none : held_at c.args.self.now.slots c.args.unit ≡ None = search rules in
    let more = around-attached c.args.self.now.slots base old.opened (file_place c.args.unit) h entry refl none
    c.put.ensures.within is.fresh c.requires.«open» around in
    subst (λ (x : List (Option Held) × List Opened). Around x.0 base x.1) (λ i. (sym held i, sym is.opened i)) more

pub returns-in-Ok-take_file-clause-step : goal.returns-in-Ok-take_file-clause-step
returns-in-Ok-take_file-clause-step g c = λ tells is.
    let old = g.F.Files.state c.args.files.now in
    let new = g.F.Files.state c.take_file.new.files in
    let a : Attachment = record { name = c.args.name.now; read_only = is_read_only c.args.mode } in
    let there : IsSome (find_file new.files c.args.name.now) =
    opening-there c.args.mode c.args.unit c.args.name.now old.files new.files c.in-Ok-take_file.taken.length
    (c.in-Ok-take_file.ensures.said tells) (c.in-Ok-take_file.ensures.files tells) in
    let attached : attachments_of c.put.new.self.slots ≡ with_attachment (attachments_of c.args.self.now.slots) c.args.unit (Some a) = search rules in
    let copy : Buffer = record { bytes = c.in-Ok-take_file.taken.copy.bytes.items; written = false } in
    let within = c.put.ensures.within in
    step-attached c.args.unit a c.args.self.now c.put.new.self new.files c.requires.unit is (omega (arith, within)) attached
    (ap (λ (d : Buffer). d.bytes) (c.put.ensures.disk ∙ ap (λ (b : Bool). if b then copy else c.args.self.now.disk) is)
    ∙ c.in-Ok-take_file.ensures.bytes tells is)
    (c.put.ensures.marks ∙ ap (λ (b : Bool). if b then no_marks else c.args.self.now.aside) is) there

pub returns-in-Ok-take_file-clause-from : goal.returns-in-Ok-take_file-clause-from
returns-in-Ok-take_file-clause-from g c =
    let old = g.F.Files.state c.args.files.now in
    let new = g.F.Files.state c.take_file.new.files in
    let is : IsNewlyOpen old new c.args.name.now c.args.mode c.in-Ok-take_file.taken.file.0 =
    c.in-Ok-take_file.ensures.opened in
    let h : Held = record {
      file = c.in-Ok-take_file.taken.file.0;
      attachment =
          record { name = c.args.name.now; read_only = is_read_only c.args.mode };
    } in
    let held : c.put.new.self.slots ≡ with_held c.args.self.now.slots c.args.unit (Some h) = search rules in
    let below : c.in-Ok-take_file.taken.file.0 < new.given = omega (arith, is.given) in
    subst (λ (l : List (Option Held)). AreFrom c.args.self.now.slots l old new) (sym held)
    (from-with c.args.self.now.slots c.args.unit h old new (is.rising, below))
