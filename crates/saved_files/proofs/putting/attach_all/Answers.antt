use Rattle.std.proofs.Common.{◌≡◌, sym, ap, ◌∙◌, List, Result}
use Rattle.std.specs.Prelude.{Ok, Err, OnErr}
use Rattle.file_traits.specs.State.{Opened}
use Rattle.unit_files.specs.Attachments.{attachments_of, no_files}
use Rattle.unit_files.specs.Aside.{nothing_aside}
use Rattle.unit_files.specs.Buffer.{AttachedFiles, no_buffer, nothing_attached}
use Rattle.unit_files.specs.Open.{Around}
use Rattle.saved_files.specs.declared.file_faults.RestoreFault.{RestoreFault}
use Rattle.saved_session.specs.Order.{place_of}
use Rattle.saved_files.specs.Putting.{files_in}
use Rattle.saved_files.proofs.Together.{all-free, all-clean, nothing-held, only-base, around-nothing}
use Rattle.saved_files.proofs.ValidFiles.{each-can, all-apart}
use Rattle.saved_files.proofs.ClosingOnce.{nothing-given}
use Rattle.saved_files.proofs.InStep.{step-nothing}
use Rattle.saved_files.proofs.putting.attach_all.Goals as goal

slots-of : (a : AttachedFiles) → a ≡ nothing_attached → a.slots ≡ no_files
slots-of a is = ap (λ (x : AttachedFiles). x.slots) is

disk-of : (a : AttachedFiles) → a ≡ nothing_attached → a.disk ≡ no_buffer
disk-of a is = ap (λ (x : AttachedFiles). x.disk) is

marks-of : (a : AttachedFiles) → a ≡ nothing_attached → a.aside ≡ nothing_aside
marks-of a is = ap (λ (x : AttachedFiles). x.aside) is

pub attach_each-requires-clause-can : goal.attach_each-requires-clause-can
attach_each-requires-clause-can g c = each-can (place_of 0 0) (files_in c.args.saved.now) c.requires.valid.each

pub attach_each-requires-clause-apart : goal.attach_each-requires-clause-apart
attach_each-requires-clause-apart g c = all-apart (place_of 0 0) (files_in c.args.saved.now) c.requires.valid.each

pub attach_each-requires-clause-free : goal.attach_each-requires-clause-free
attach_each-requires-clause-free g c =
    all-free c.args.attached.now.slots (files_in c.args.saved.now) (slots-of c.args.attached.now c.requires.nothing)

pub attach_each-requires-clause-clean : goal.attach_each-requires-clause-clean
attach_each-requires-clause-clean g c =
    all-clean c.args.attached.now.disk (files_in c.args.saved.now) (disk-of c.args.attached.now c.requires.nothing)

-- a refusal leaves nothing attached, and closes what it opened
is-refused : (result : Result (Unit {0}) RestoreFault) (old new : AttachedFiles) → old ≡ nothing_attached
    → OnErr result (attachments_of new.slots ≡ attachments_of old.slots) → OnErr result (new.disk ≡ old.disk)
    → (old.aside ≡ nothing_aside → new.aside ≡ nothing_aside) → OnErr result (new ≡ old)
is-refused (Ok u) old new is slots disk unmarked = tt
is-refused (Err f) old new is slots disk unmarked =
    let same : new.slots ≡ old.slots =
    nothing-held new.slots old.slots (slots-of old is) slots ∙ sym (slots-of old is) in
    let aside : new.aside ≡ old.aside = unmarked (marks-of old is) ∙ sym (marks-of old is) in
    λ i. record { slots = same i; disk = disk i; aside = aside i }

is-closed : (result : Result (Unit {0}) RestoreFault) (old new : AttachedFiles) (before after : List Opened)
    → old ≡ nothing_attached → OnErr result (attachments_of new.slots ≡ attachments_of old.slots)
    → Around new.slots before after → OnErr result (after ≡ before)
is-closed (Ok u) old new before after is slots around = tt
is-closed (Err f) old new before after is slots around =
    only-base new.slots before after (nothing-held new.slots old.slots (slots-of old is) slots) around

pub returns-clause-refused : goal.returns-clause-refused
returns-clause-refused g c =
    is-refused c.attach_each.result c.args.attached.now c.attach_each.new.attached c.requires.nothing
    c.attach_each.ensures.slots c.attach_each.ensures.disk c.attach_each.ensures.unmarked

pub returns-clause-unmarked : goal.returns-clause-unmarked
returns-clause-unmarked g c = c.attach_each.ensures.unmarked (marks-of c.args.attached.now c.requires.nothing)

pub returns-clause-step : goal.returns-clause-step
returns-clause-step g c = λ t.
    c.attach_each.ensures.step t (step-nothing c.args.attached.now (g.F.Files.state c.args.files.now).files c.requires.nothing)

pub returns-clause-around : goal.returns-clause-around
returns-clause-around g c =
    let opened = (g.F.Files.state c.args.files.now).opened in
    c.attach_each.ensures.around opened
    (around-nothing c.args.attached.now.slots opened (slots-of c.args.attached.now c.requires.nothing))

pub returns-clause-closed : goal.returns-clause-closed
returns-clause-closed g c =
    let opened = (g.F.Files.state c.args.files.now).opened in
    is-closed c.attach_each.result c.args.attached.now c.attach_each.new.attached opened
    (g.F.Files.state c.attach_each.new.files).opened c.requires.nothing c.attach_each.ensures.slots
    (c.attach_each.ensures.around opened
    (around-nothing c.args.attached.now.slots opened (slots-of c.args.attached.now c.requires.nothing)))

pub returns-clause-once : goal.returns-clause-once
returns-clause-once g c =
    let closes = c.attach_each.ensures.once (nothing-given c.args.attached.now.slots (g.F.Files.state c.args.files.now)
    (slots-of c.args.attached.now c.requires.nothing)) in
    closes.files
