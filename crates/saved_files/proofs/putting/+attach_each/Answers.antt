use Rattle.std.proofs.Common.{Option, Some, None, Ok, Err, refl, sym, ap, subst, ◌∙◌, rules, List, length}
use Rattle.std.proofs.lemmas.Result.{err_from_is_err_and}
use Rattle.unit_trait.specs.declared.kind.UnitName.{UnitName}
use Rattle.unit_files.specs.Attachments.{Attachment, attachments_of, file_place, is_disk}
use Rattle.unit_files.specs.Buffer.{Buffer}
use Rattle.unit_files.specs.Acts.{detached}
use Rattle.saved_session.specs.Parts.{FilePart, file_in}
use Rattle.saved_files.specs.Putting.{files_in, unit_of, attachment_of}
use Rattle.saved_files.specs.PuttingOne.{CanAttach, IsFree, IsClean}
use Rattle.saved_files.proofs.Attaching.{set-back}
use Rattle.saved_files.proofs.Together.{none-said, first-said, others-said, not-claimed, still-free, still-clean, all-of, head-of}
use Rattle.saved_files.proofs.Together.{tail-of, apart-of, none-in}
use Rattle.saved_files.proofs.GivingBackLemmas.{all-held}
use Rattle.saved_files.proofs.PuttingCounts.{cause-behind, from-both, new-counts, new-counts-behind}
use Rattle.saved_files.specs.PuttingOne.{OnlyItsCount}
use Rattle.saved_files.proofs.ClosingOnce.{closed-behind, closed-since, given-then, same-closed}
use Rattle.saved_files.proofs.PuttingOpenings.{opens-none, opens-first, opens-all}
use Rattle.saved_files.proofs.InStep.{unmarked-if}
use Rattle.saved_files.proofs.putting.+attach_each.Goals as goal

pub returns-in-None-clause-told : goal.returns-in-None-clause-told
returns-in-None-clause-told g t c = λ told.
    none-said None c.args.force (files_in c.args.saved.now) (attachments_of c.args.attached.now.slots)
    (g.F.Files.state c.args.files.now).files (ap files_in (none-in c.args.saved.now c.in-None.ensures.cases))

pub returns-in_err-attach_one-in-Some-clause-told : goal.returns-in_err-attach_one-in-Some-clause-told
returns-in_err-attach_one-in-Some-clause-told g t c = λ told.
    let p = err_from_is_err_and c.from_residual.result c.from_residual.ensures.1 in
    let all = all-of c.args.saved.now c.in-Some.first.now c.in-Some.others.now c.in-Some.ensures.cases.0 in
    rw (p.1, p.2) (first-said c.args.force (file_in c.in-Some.first.now) (files_in c.in-Some.others.now)
    (files_in c.args.saved.now) (attachments_of c.args.attached.now.slots) (g.F.Files.state c.args.files.now).files all
    c.in_err-attach_one-in-Some.field-0.0 c.in_err-attach_one-in-Some.ensures.unit
    (c.in_err-attach_one-in-Some.ensures.told told))

pub attach_each-requires : goal.attach_each-requires
attach_each-requires g t c κs within =
    let all = all-of c.args.saved.now c.in-Some.first.now c.in-Some.others.now c.in-Some.ensures.cases.0 in
    let f = file_in c.in-Some.first.now in
    let fs = files_in c.in-Some.others.now in
    let now = c.in_ok-attach_one-in-Some.ensures in
    let slots = attachments_of c.args.attached.now.slots in
    let apart = apart-of f fs (files_in c.args.saved.now) all c.requires.apart in
    let cans = tail-of CanAttach f fs (files_in c.args.saved.now) all c.requires.can in
    let free = still-free f fs slots (attachments_of c.attach_one.new.attached.slots) now.attached apart.0
    (tail-of (IsFree slots) f fs (files_in c.args.saved.now) all c.requires.free) in
    let clean = still-clean f fs c.args.attached.now.disk c.attach_one.new.attached.disk
    (head-of CanAttach f fs (files_in c.args.saved.now) all c.requires.can) cans apart.0 now.other
    (tail-of (IsClean c.args.attached.now.disk) f fs (files_in c.args.saved.now) all c.requires.clean) in
    (search rules, (search rules, (cans, (apart.1, (free, (clean, now.«open»))))))

pub returns-in-Ok-clause-told : goal.returns-in-Ok-clause-told
returns-in-Ok-clause-told g t c = λ told.
    let all = all-of c.args.saved.now c.in-Some.first.now c.in-Some.others.now c.in-Some.ensures.cases.0 in
    let now = c.in_ok-attach_one-in-Some.ensures in
    others-said c.args.force (file_in c.in-Some.first.now) (files_in c.in-Some.others.now) (files_in c.args.saved.now)
    (attachments_of c.args.attached.now.slots) (g.F.Files.state c.args.files.now).files all (Ok tt)
    (attachments_of c.attach_one.new.attached.slots) (g.F.Files.state c.attach_one.new.files).files refl
    (now.told told) now.attached (now.files told) (c.in-Ok.ensures.told told)

pub returns-in-Err-clause-told : goal.returns-in-Err-clause-told
returns-in-Err-clause-told g t c = λ told.
    let all = all-of c.args.saved.now c.in-Some.first.now c.in-Some.others.now c.in-Some.ensures.cases.0 in
    let f = file_in c.in-Some.first.now in
    let fs = files_in c.in-Some.others.now in
    let now = c.in_ok-attach_one-in-Some.ensures in
    let apart = apart-of f fs (files_in c.args.saved.now) all c.requires.apart in
    others-said c.args.force f fs (files_in c.args.saved.now) (attachments_of c.args.attached.now.slots)
    (g.F.Files.state c.args.files.now).files all (Err c.in-Err.fault) (attachments_of c.attach_one.new.attached.slots)
    (g.F.Files.state c.attach_one.new.files).files (not-claimed f fs c.in-Err.fault apart.0 c.in-Err.ensures.these)
    (now.told told) now.attached (now.files told) (c.in-Err.ensures.told told)

pub give_back-requires-clause-clean : goal.give_back-requires-clause-clean
give_back-requires-clause-clean g t c = λ disk.
    let is = ap (λ (u : UnitName). is_disk u.kind) (sym c.unit_of.ensures) ∙ disk in
    ap (λ (b : Buffer). b.written) c.in-Err.ensures.disk ∙ c.in_ok-attach_one-in-Some.ensures.unwritten is

pub returns-in-Err-clause-slots : goal.returns-in-Err-clause-slots
returns-in-Err-clause-slots g t c =
    let all = all-of c.args.saved.now c.in-Some.first.now c.in-Some.others.now c.in-Some.ensures.cases.0 in
    let f = file_in c.in-Some.first.now in
    let slots = attachments_of c.args.attached.now.slots in
    let free = head-of (IsFree slots) f (files_in c.in-Some.others.now) (files_in c.args.saved.now) all c.requires.free in
    c.give_back.ensures.attached
    ∙ ap (λ (u : UnitName). detached u (attachments_of c.attach_each.new.attached.slots)) c.unit_of.ensures
    ∙ ap (λ (l : List (Option Attachment)). detached (unit_of f) l)
    (c.in-Err.ensures.slots ∙ c.in_ok-attach_one-in-Some.ensures.attached)
    ∙ set-back slots (file_place (unit_of f)) (Some (attachment_of f)) free

pub returns-in-Err-clause-counts : goal.returns-in-Err-clause-counts
returns-in-Err-clause-counts g t c =
    let state = g.F.Files.state in
    let all = all-of c.args.saved.now c.in-Some.first.now c.in-Some.others.now c.in-Some.ensures.cases.0 in
    let f = file_in c.in-Some.first.now in
    let slots = c.args.attached.now.slots in
    let back = c.attach_each.new.attached.slots in
    let first = c.in_ok-attach_one-in-Some.ensures in
    let next = c.in-Err.ensures in
    let free = head-of (IsFree (attachments_of slots)) f (files_in c.in-Some.others.now) (files_in c.args.saved.now) all
    c.requires.free in
    new-counts-behind slots back (unit_of f) (state c.args.files.now) (state c.attach_each.new.files)
    (state c.give_back.new.files) free
    (from-both slots c.attach_one.new.attached.slots back (state c.args.files.now) (state c.attach_one.new.files)
    (state c.attach_each.new.files) first.from next.from first.counts.ids next.counts.ids)
    (new-counts (state c.args.files.now) (state c.attach_one.new.files) (state c.attach_each.new.files) first.counts
    next.counts)
    (subst (λ (u : UnitName). OnlyItsCount back u (state c.attach_each.new.files) (state c.give_back.new.files))
    c.unit_of.ensures c.give_back.ensures.count)

pub returns-in-Ok-clause-held : goal.returns-in-Ok-clause-held
returns-in-Ok-clause-held g t c =
    let all = all-of c.args.saved.now c.in-Some.first.now c.in-Some.others.now c.in-Some.ensures.cases.0 in
    let f = file_in c.in-Some.first.now in
    let fs = files_in c.in-Some.others.now in
    let apart = apart-of f fs (files_in c.args.saved.now) all c.requires.apart in
    all-held f fs (files_in c.args.saved.now) (attachments_of c.attach_one.new.attached.slots)
    (attachments_of c.attach_each.new.attached.slots) all apart.0 c.in-Ok.ensures.attached
    c.in_ok-attach_one-in-Some.ensures.there c.in-Ok.ensures.held

pub returns-in-None-clause-once : goal.returns-in-None-clause-once
returns-in-None-clause-once g t c = λ given.
    same-closed c.args.attached.now.slots (g.F.Files.state c.args.files.now) (g.F.Files.state c.args.files.now) refl

pub returns-in_err-attach_one-in-Some-clause-once : goal.returns-in_err-attach_one-in-Some-clause-once
returns-in_err-attach_one-in-Some-clause-once g t c =
    let p = err_from_is_err_and c.from_residual.result c.from_residual.ensures.1 in
    rw (p.1, p.2) c.in_err-attach_one-in-Some.ensures.once

pub returns-in-Ok-clause-once : goal.returns-in-Ok-clause-once
returns-in-Ok-clause-once g t c = λ given.
    let state = g.F.Files.state in
    same-closed c.attach_each.new.attached.slots (state c.args.files.now) (state c.attach_each.new.files)
    (c.in-Ok.ensures.cause.0 ∙ c.in_ok-attach_one-in-Some.ensures.cause.0)

pub returns-in-Err-clause-once : goal.returns-in-Err-clause-once
returns-in-Err-clause-once g t c = λ given.
    let state = g.F.Files.state in
    let first = c.in_ok-attach_one-in-Some.ensures in
    let e = c.in-Err.fault in
    closed-since (Err e) c.give_back.new.attached.slots (state c.args.files.now) (state c.attach_one.new.files)
    (state c.give_back.new.files) first.cause.0
    (closed-behind (Err e) c.attach_each.new.attached.slots c.give_back.new.attached.slots c.unit_of.result
    (state c.attach_one.new.files) (state c.attach_each.new.files) (state c.give_back.new.files)
    (c.in-Err.ensures.once (given-then c.args.attached.now.slots c.attach_one.new.attached.slots
    (state c.args.files.now) (state c.attach_one.new.files) given first.from first.counts.ids))
    c.give_back.ensures.count c.give_back.ensures.kept c.give_back.ensures.once)

pub returns-in-Ok-clause-around : goal.returns-in-Ok-clause-around
returns-in-Ok-clause-around g t c = λ base around.
    c.in-Ok.ensures.around base (c.in_ok-attach_one-in-Some.ensures.around base around)

pub returns-in-Err-clause-around : goal.returns-in-Err-clause-around
returns-in-Err-clause-around g t c = λ base around.
    c.give_back.ensures.around base
    (c.in-Err.ensures.around base (c.in_ok-attach_one-in-Some.ensures.around base around))

pub returns-in-Err-clause-cause : goal.returns-in-Err-clause-cause
returns-in-Err-clause-cause g t c =
    let state = g.F.Files.state in
    let first = c.in_ok-attach_one-in-Some.ensures in
    let back = c.give_back.ensures.count in
    cause-behind g.F.Files.tells (state c.args.files.now) (state c.attach_one.new.files) (state c.attach_each.new.files)
    (state c.give_back.new.files) first.cause first.counts c.in-Err.ensures.counts back.later back.openings back.ids
    c.in-Err.fault c.in-Err.ensures.cause

pub returns-in-None-clause-exact : goal.returns-in-None-clause-exact
returns-in-None-clause-exact g t c =
    opens-none g.F.Files.tells (length (files_in c.args.saved.now)) (g.F.Files.state c.args.files.now)
    (ap (λ (l : List FilePart). length l) (ap files_in (none-in c.args.saved.now c.in-None.ensures.cases)))

pub returns-in_err-attach_one-in-Some-clause-exact : goal.returns-in_err-attach_one-in-Some-clause-exact
returns-in_err-attach_one-in-Some-clause-exact g t c =
    let state = g.F.Files.state in
    let p = err_from_is_err_and c.from_residual.result c.from_residual.ensures.1 in
    let all = all-of c.args.saved.now c.in-Some.first.now c.in-Some.others.now c.in-Some.ensures.cases.0 in
    rw (p.1, p.2) (opens-first g.F.Files.tells (file_in c.in-Some.first.now) (files_in c.in-Some.others.now)
    (files_in c.args.saved.now) c.in_err-attach_one-in-Some.field-0.0 (state c.args.files.now)
    (state c.attach_one.new.files) all c.in_err-attach_one-in-Some.ensures.exact)

pub returns-in-Ok-clause-exact : goal.returns-in-Ok-clause-exact
returns-in-Ok-clause-exact g t c =
    let state = g.F.Files.state in
    let all = all-of c.args.saved.now c.in-Some.first.now c.in-Some.others.now c.in-Some.ensures.cases.0 in
    opens-all g.F.Files.tells (file_in c.in-Some.first.now) (files_in c.in-Some.others.now) (files_in c.args.saved.now)
    (Ok tt) (state c.args.files.now) (state c.attach_one.new.files) (state c.attach_each.new.files)
    (state c.attach_each.new.files) all c.in_ok-attach_one-in-Some.ensures.exact c.in-Ok.ensures.exact refl refl

pub returns-in-Err-clause-exact : goal.returns-in-Err-clause-exact
returns-in-Err-clause-exact g t c =
    let state = g.F.Files.state in
    let all = all-of c.args.saved.now c.in-Some.first.now c.in-Some.others.now c.in-Some.ensures.cases.0 in
    let back = c.give_back.ensures.count in
    opens-all g.F.Files.tells (file_in c.in-Some.first.now) (files_in c.in-Some.others.now) (files_in c.args.saved.now)
    (Err c.in-Err.fault) (state c.args.files.now) (state c.attach_one.new.files) (state c.attach_each.new.files)
    (state c.give_back.new.files) all c.in_ok-attach_one-in-Some.ensures.exact c.in-Err.ensures.exact back.openings
    back.ids

pub returns-in-Ok-clause-step : goal.returns-in-Ok-clause-step
returns-in-Ok-clause-step g t c = λ told step. c.in-Ok.ensures.step told (c.in_ok-attach_one-in-Some.ensures.step told step)

pub returns-in-Ok-clause-unmarked : goal.returns-in-Ok-clause-unmarked
returns-in-Ok-clause-unmarked g t c = λ none. c.in-Ok.ensures.unmarked (c.in_ok-attach_one-in-Some.ensures.unmarked none)

pub returns-in-Err-clause-unmarked : goal.returns-in-Err-clause-unmarked
returns-in-Err-clause-unmarked g t c = λ none.
    unmarked-if (is_disk c.unit_of.result.kind) c.attach_each.new.attached.aside c.give_back.new.attached.aside c.give_back.ensures.marks
    (c.in-Err.ensures.unmarked (c.in_ok-attach_one-in-Some.ensures.unmarked none))
