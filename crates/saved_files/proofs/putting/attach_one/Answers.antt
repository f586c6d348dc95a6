use Rattle.std.proofs.Common.{◌≡◌, Bool, false, Option, Some, None, Result, Ok, Err, sym, ap, subst, ◌∙◌, List, IsTrue}
use Rattle.std.proofs.lemmas.Result.{err_from_is_err_and}
use Rattle.std.specs.Prelude.{is_some}
use Rattle.file_traits.specs.Lists.{NamedBytes, bytes_of}
use Rattle.unit_files.specs.Attachments.{Attachment, attachments_of, attachment_at, file_place, is_disk}
use Rattle.unit_files.specs.Acts.{detached}
use Rattle.unit_files.specs.Buffer.{AttachedFiles}
use Rattle.unit_trait.specs.declared.kind.UnitName.{UnitName}
use Rattle.saved_files.specs.declared.file_faults.RestoreFault.{RestoreFault}
use Rattle.saved_session.specs.Parts.{FilePart, file_in}
use Rattle.saved_files.specs.Putting.{unit_of, with_file, attachment_of, refusal_of}
use Rattle.saved_files.specs.PuttingOne.{CanAttach, CompareCalls, Compares, SaysOne, failure_of, Attaches}
use Rattle.saved_files.proofs.Attaching.{forced, free-first, one-compared, set-back}
use Rattle.saved_files.proofs.Together.{set-in}
use Rattle.saved_files.proofs.PuttingCounts.{counts-given-back, cause-compared, compared-plainly}
use Rattle.saved_files.proofs.ClosingOnce.{closed-behind, closed-since, compared-closed, same-closed}
use Rattle.saved_files.proofs.PuttingOpenings.{opens-then, opens-compared}
use Rattle.saved_files.specs.PuttingCauses.{ClosesOthers}
use Rattle.saved_files.proofs.InStep.{step-same, unmarked-if}
use Rattle.saved_files.proofs.putting.attach_one.Goals as goal

pub returns-then-force-clause-told : goal.returns-then-force-clause-told
returns-then-force-clause-told g c = λ t.
    let said = c.in_ok-attach_file.ensures.told t in
    forced (file_in c.args.file.now) (attachments_of c.args.attached.now.slots) (g.F.Files.state c.args.files.now).files
    said.0 c.args.force c.if-force.true said.1

-- what is attached to the unit is the file that was put there
put-there : (f : FilePart) (attached mid : List (Option Attachment)) → mid ≡ with_file attached f
    → IsTrue (is_some (attachment_at mid (unit_of f))) → attachment_at mid (unit_of f) ≡ Some (attachment_of f)
put-there f attached mid put there =
    ap (λ (l : List (Option Attachment)). attachment_at l (unit_of f)) put
    ∙ set-in attached (file_place (unit_of f)) (attachment_of f)
    (subst (λ (l : List (Option Attachment)). IsTrue (is_some (attachment_at l (unit_of f)))) put there)

-- a file that was attached, and then compared
whole-act : (result : Result (Unit {0}) RestoreFault) (force : Bool) (f : FilePart) (attached mid : List (Option Attachment))
    (files now : List NamedBytes) → force ≡ false → CanAttach f → attachment_at attached (unit_of f) ≡ None
    → Attaches f attached files (Ok tt) → mid ≡ with_file attached f → IsTrue (is_some (attachment_at mid (unit_of f)))
    → now ≡ files → CompareCalls result
    → ((a : Attachment) → attachment_at mid (unit_of f) ≡ Some a → Compares f (bytes_of now a.name) result)
    → SaysOne result (refusal_of (failure_of result) force f attached files)
whole-act result force f attached mid files now is can free said put there same calls told =
    one-compared result force f attached files (bytes_of now f.name) said.0 is
    (ap (λ (l : List NamedBytes). bytes_of l f.name) same) (free-first f attached free can.written) said.1 calls
    (told (attachment_of f) (put-there f attached mid put there))

pub returns-in-Ok-clause-told : goal.returns-in-Ok-clause-told
returns-in-Ok-clause-told g c = λ t.
    let first = c.in_ok-attach_file.ensures in
    whole-act (Ok tt) c.args.force (file_in c.args.file.now) (attachments_of c.args.attached.now.slots)
    (attachments_of c.attach_file.new.attached.slots) (g.F.Files.state c.args.files.now).files
    (g.F.Files.state c.attach_file.new.files).files c.if-force.false c.requires.can c.requires.free (first.told t)
    first.attached first.there (first.files t) c.in-Ok.ensures.calls (c.in-Ok.ensures.told t)

pub returns-in-Err-clause-told : goal.returns-in-Err-clause-told
returns-in-Err-clause-told g c = λ t.
    let first = c.in_ok-attach_file.ensures in
    whole-act (Err c.in-Err.fault) c.args.force (file_in c.args.file.now) (attachments_of c.args.attached.now.slots)
    (attachments_of c.attach_file.new.attached.slots) (g.F.Files.state c.args.files.now).files
    (g.F.Files.state c.attach_file.new.files).files c.if-force.false c.requires.can c.requires.free (first.told t)
    first.attached first.there (first.files t) c.in-Err.ensures.calls (c.in-Err.ensures.told t)

pub give_back-requires-clause-clean : goal.give_back-requires-clause-clean
give_back-requires-clause-clean g c = λ disk.
    let is = ap (λ (u : UnitName). is_disk u.kind) (sym c.unit_of.ensures) ∙ disk in
    ap (λ (a : AttachedFiles). a.disk.written) c.in-Err.ensures.kept ∙ c.in_ok-attach_file.ensures.unwritten is

pub returns-in-Err-clause-slots : goal.returns-in-Err-clause-slots
returns-in-Err-clause-slots g c =
    let unit = unit_of (file_in c.args.file.now) in
    let attached = attachments_of c.args.attached.now.slots in
    c.give_back.ensures.attached
    ∙ ap (λ (u : UnitName). detached u (attachments_of c.compare.new.attached.slots)) c.unit_of.ensures
    ∙ ap (λ (a : AttachedFiles). detached unit (attachments_of a.slots)) c.in-Err.ensures.kept
    ∙ ap (λ (l : List (Option Attachment)). detached unit l) c.in_ok-attach_file.ensures.attached
    ∙ set-back attached (file_place unit) (Some (attachment_of (file_in c.args.file.now))) c.requires.free

pub returns-in-Err-clause-counts : goal.returns-in-Err-clause-counts
returns-in-Err-clause-counts g c =
    let state = g.F.Files.state in
    counts-given-back c.args.attached.now.slots c.attach_file.new.attached.slots c.compare.new.attached.slots
    (unit_of (file_in c.args.file.now)) c.unit_of.result (state c.args.files.now) (state c.attach_file.new.files)
    (state c.compare.new.files) (state c.give_back.new.files) c.requires.free c.in_ok-attach_file.ensures.from
    c.in_ok-attach_file.ensures.counts c.in-Err.ensures.count
    (ap (λ (a : AttachedFiles). a.slots) c.in-Err.ensures.kept) c.unit_of.ensures c.give_back.ensures.count

pub returns-in-Err-clause-cause : goal.returns-in-Err-clause-cause
returns-in-Err-clause-cause g c =
    let state = g.F.Files.state in
    cause-compared g.F.Files.tells c.args.attached.now.slots c.attach_file.new.attached.slots
    (unit_of (file_in c.args.file.now)) (state c.args.files.now) (state c.attach_file.new.files)
    (state c.compare.new.files) (state c.give_back.new.files) c.requires.free c.in_ok-attach_file.ensures.from
    c.in_ok-attach_file.ensures.there c.in_ok-attach_file.ensures.cause c.give_back.ensures.count.later
    c.give_back.ensures.count.openings c.give_back.ensures.count.ids c.in-Err.fault c.in-Err.ensures.calls c.in-Err.ensures.cause

pub returns-in_err-attach_file-clause-compared : goal.returns-in_err-attach_file-clause-compared
returns-in_err-attach_file-clause-compared g c =
    let p = err_from_is_err_and c.from_residual.result c.from_residual.ensures.1 in
    rw (p.1, p.2) (c.in_err-attach_file.ensures.compared c.args.force)

pub returns-in-Err-clause-compared : goal.returns-in-Err-clause-compared
returns-in-Err-clause-compared g c = compared-plainly c.args.force c.in-Err.fault c.if-force.false

pub returns-in_err-attach_file-clause-once : goal.returns-in_err-attach_file-clause-once
returns-in_err-attach_file-clause-once g c =
    let p = err_from_is_err_and c.from_residual.result c.from_residual.ensures.1 in
    rw (p.1, p.2) c.in_err-attach_file.ensures.once

pub returns-in-Ok-clause-once : goal.returns-in-Ok-clause-once
returns-in-Ok-clause-once g c = λ given.
    let state = g.F.Files.state in
    same-closed c.compare.new.attached.slots (state c.args.files.now) (state c.compare.new.files)
    (c.in-Ok.ensures.cause.counts ∙ c.in_ok-attach_file.ensures.cause.0)

pub returns-in-Err-clause-once : goal.returns-in-Err-clause-once
returns-in-Err-clause-once g c = λ given.
    let state = g.F.Files.state in
    let unit = unit_of (file_in c.args.file.now) in
    let mid = c.attach_file.new.attached.slots in
    let compared : ClosesOthers (Err c.in-Err.fault) mid (state c.attach_file.new.files) (state c.compare.new.files) =
    compared-closed c.in-Err.fault unit mid (state c.attach_file.new.files) (state c.compare.new.files)
    c.in-Err.ensures.calls c.in-Err.ensures.cause in
    closed-since (Err c.in-Err.fault) c.give_back.new.attached.slots (state c.args.files.now)
    (state c.attach_file.new.files) (state c.give_back.new.files) c.in_ok-attach_file.ensures.cause.0
    (closed-behind (Err c.in-Err.fault) c.compare.new.attached.slots c.give_back.new.attached.slots c.unit_of.result
    (state c.attach_file.new.files) (state c.compare.new.files) (state c.give_back.new.files)
    (subst (λ (a : AttachedFiles). ClosesOthers (Err c.in-Err.fault) a.slots (state c.attach_file.new.files)
    (state c.compare.new.files)) (sym c.in-Err.ensures.kept) compared)
    c.give_back.ensures.count c.give_back.ensures.kept c.give_back.ensures.once)

pub returns-in-Ok-clause-exact : goal.returns-in-Ok-clause-exact
returns-in-Ok-clause-exact g c =
    let state = g.F.Files.state in
    opens-then g.F.Files.tells 1 (state c.args.files.now) (state c.attach_file.new.files) (state c.compare.new.files)
    c.in_ok-attach_file.ensures.exact c.in-Ok.ensures.cause.openings c.in-Ok.ensures.cause.ids

pub returns-in-Err-clause-exact : goal.returns-in-Err-clause-exact
returns-in-Err-clause-exact g c =
    let state = g.F.Files.state in
    let compared = c.in-Err.ensures.count in
    let back = c.give_back.ensures.count in
    opens-compared g.F.Files.tells 1 c.in-Err.fault (state c.args.files.now) (state c.attach_file.new.files)
    (state c.give_back.new.files) c.in-Err.ensures.calls c.in_ok-attach_file.ensures.exact
    (back.openings ∙ compared.openings) (back.ids ∙ compared.ids)

pub returns-in-Ok-clause-step : goal.returns-in-Ok-clause-step
returns-in-Ok-clause-step g c = λ t step.
    step-same c.attach_file.new.attached c.compare.new.attached (g.F.Files.state c.attach_file.new.files).files
    (g.F.Files.state c.compare.new.files).files c.in-Ok.ensures.kept c.in-Ok.ensures.files
    (c.in_ok-attach_file.ensures.step t step)

pub returns-in-Ok-clause-unmarked : goal.returns-in-Ok-clause-unmarked
returns-in-Ok-clause-unmarked g c = λ none.
    ap (λ (a : AttachedFiles). a.aside) c.in-Ok.ensures.kept ∙ c.in_ok-attach_file.ensures.unmarked none

pub returns-in-Err-clause-unmarked : goal.returns-in-Err-clause-unmarked
returns-in-Err-clause-unmarked g c = λ none.
    unmarked-if (is_disk c.unit_of.result.kind) c.compare.new.attached.aside c.give_back.new.attached.aside c.give_back.ensures.marks
    (ap (λ (a : AttachedFiles). a.aside) c.in-Err.ensures.kept ∙ c.in_ok-attach_file.ensures.unmarked none)
