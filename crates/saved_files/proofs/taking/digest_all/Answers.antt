use Rattle.std.proofs.Common.{◌≡◌, ◌≤◌, Option, List, drop, length, sym, ap, subst, ◌∙◌, arith}
use Rattle.std.specs.List.{AllByRecursion}
use Rattle.unit_files.specs.Attachments.{Held, attachments_of, file_units}
use Rattle.unit_files.specs.Buffer.{AttachedFiles}
use Rattle.saved_session.specs.Parts.{FilePart, file_in}
use Rattle.saved_files.specs.Putting.{files_in}
use Rattle.saved_files.specs.PuttingOne.{AreApart}
use Rattle.saved_files.specs.Taking.{file_places, saved_files}
use Rattle.saved_files.specs.TakingOne.{unread_files, AreNamed, CanDigest, read_file, first_unread, fault_claim}
use Rattle.std.specs.Prelude.{map}
use Rattle.saved_files.proofs.TakingLaws.{can-unread, unread-apart, read-unread, none-unsaved, unflushed-first, reading-files}
use Rattle.saved_files.proofs.TakingLaws.{reading-copy, reading-marks, unread-unsaved, whole-of, length-map}
use Rattle.saved_files.proofs.TakingLaws.{named-as, as-many-as, few-unread}
use Rattle.saved_files.proofs.InStep.{step-same}
use Rattle.saved_files.proofs.taking.digest_all.Goals as goal

pub returns-in-Err-write_back-clause-first : goal.returns-in-Err-write_back-clause-first
returns-in-Err-write_back-clause-first g c = λ t step.
    unflushed-first c.in-Err-write_back.fault (attachments_of c.args.attached.now.slots) c.args.attached.now.disk
    (g.F.Files.state c.args.files.now).files c.in-Err-write_back.ensures.said

pub digest_each-requires-clause-can : goal.digest_each-requires-clause-can
digest_each-requires-clause-can g c =
    let attached = attachments_of c.args.attached.now.slots in
    subst (λ (l : List FilePart). AllByRecursion (CanDigest c.write_back.new.attached) l)
    (sym (ap files_in c.as_mut_slice.ensures.value ∙ c.in-Ok.ensures.files))
    (can-unread c.write_back.new.attached attached
    (ap (λ (l : List (Option Held)). attachments_of l) c.in-Ok-write_back.ensures.slots))

pub digest_each-requires-clause-apart : goal.digest_each-requires-clause-apart
digest_each-requires-clause-apart g c =
    subst (λ (l : List FilePart). AreApart l) (sym (ap files_in c.as_mut_slice.ensures.value ∙ c.in-Ok.ensures.files))
    (unread-apart (attachments_of c.args.attached.now.slots))

pub returns-in-Ok-digest_each-clause-first : goal.returns-in-Ok-digest_each-clause-first
returns-in-Ok-digest_each-clause-first g c = λ t step.
    none-unsaved (attachments_of c.args.attached.now.slots) c.args.attached.now.disk
    (g.F.Files.state c.args.files.now).files

pub returns-in-Err-digest_each-clause-disk : goal.returns-in-Err-digest_each-clause-disk
returns-in-Err-digest_each-clause-disk g c =
    ap (λ (a : AttachedFiles). a.disk) c.in-Err-digest_each.ensures.kept ∙ c.in-Ok-write_back.ensures.disk
    ∙ reading-copy c.in-Err-digest_each.fault (attachments_of c.args.attached.now.slots) c.args.attached.now.disk
    c.in-Err-digest_each.ensures.calls

pub returns-in-Err-digest_each-clause-marks : goal.returns-in-Err-digest_each-clause-marks
returns-in-Err-digest_each-clause-marks g c =
    ap (λ (a : AttachedFiles). a.aside) c.in-Err-digest_each.ensures.kept ∙ c.in-Ok-write_back.ensures.marks
    ∙ reading-marks c.in-Err-digest_each.fault (attachments_of c.args.attached.now.slots) c.args.attached.now.disk c.args.attached.now.aside
    c.in-Err-digest_each.ensures.calls

pub returns-in-Err-digest_each-clause-files : goal.returns-in-Err-digest_each-clause-files
returns-in-Err-digest_each-clause-files g c = λ step.
    c.in-Err-digest_each.ensures.files ∙ c.in-Ok-write_back.ensures.files step
    ∙ reading-files c.in-Err-digest_each.fault (attachments_of c.args.attached.now.slots) c.args.attached.now.disk
    (g.F.Files.state c.args.files.now).files c.in-Err-digest_each.ensures.calls

pub returns-in-Err-digest_each-clause-first : goal.returns-in-Err-digest_each-clause-first
returns-in-Err-digest_each-clause-first g c = λ t step.
    let now = (g.F.Files.state c.write_back.new.files).files in
    let fault = c.in-Err-digest_each.fault in
    unread-unsaved fault (attachments_of c.args.attached.now.slots) c.args.attached.now.disk
    (g.F.Files.state c.args.files.now).files now c.in-Err-digest_each.ensures.calls (c.in-Ok-write_back.ensures.files step)
    (subst (λ (l : List FilePart). first_unread (fault_claim fault) now l ≡ fault_claim fault)
    (ap files_in c.as_mut_slice.ensures.value ∙ c.in-Ok.ensures.files) (c.in-Err-digest_each.ensures.told t))

pub returns-in-Ok-digest_each-clause-told : goal.returns-in-Ok-digest_each-clause-told
returns-in-Ok-digest_each-clause-told g c = λ t.
    let files = (g.F.Files.state c.write_back.new.files).files in
    let attached = attachments_of c.args.attached.now.slots in
    let slice = c.as_mut_slice.result.now in
    let new = c.digest_each.new.saved in
    let told = c.in-Ok-digest_each.ensures.told t in
    let long = c.as_mut_slice.ensures.len in
    let same : length new ≡ length slice =
    sym (length-map file_in new) ∙ ap (λ (l : List FilePart). length l) told
    ∙ length-map (read_file files) (files_in slice) ∙ length-map file_in slice in
    ap files_in (whole-of c.in-Ok.saved.len new (drop (length new) c.in-Ok.saved.items) (omega (arith, long, same)))
    ∙ told
    ∙ ap (λ (l : List FilePart). map (read_file files) l)
    (ap files_in c.as_mut_slice.ensures.value ∙ c.in-Ok.ensures.files)
    ∙ read-unread files attached file_places
    ∙ (λ i. saved_files (sym c.in-Ok-digest_each.ensures.files i) attached file_places)

pub returns-in-Ok-digest_each-clause-few : goal.returns-in-Ok-digest_each-clause-few
returns-in-Ok-digest_each-clause-few g c =
    let slice = c.as_mut_slice.result.now in
    let new = c.digest_each.new.saved in
    let long = c.as_mut_slice.ensures.len in
    let as_many = as-many-as (files_in new) (files_in slice) c.in-Ok-digest_each.ensures.names in
    let same : length new ≡ length slice = sym (length-map file_in new) ∙ as_many ∙ length-map file_in slice in
    let found : files_in slice ≡ unread_files (attachments_of c.args.attached.now.slots) file_places =
    ap files_in c.as_mut_slice.ensures.value ∙ c.in-Ok.ensures.files in
    let few : length (files_in slice) ≤ file_units =
    subst (λ (l : List FilePart). length l ≤ file_units) (sym found)
    (few-unread (attachments_of c.args.attached.now.slots)) in
    subst (λ (l : List FilePart). length l ≤ file_units)
    (sym (ap files_in
    (whole-of c.in-Ok.saved.len new (drop (length new) c.in-Ok.saved.items) (omega (arith, long, same)))))
    (omega (arith, as_many, few))

pub returns-in-Ok-digest_each-clause-named : goal.returns-in-Ok-digest_each-clause-named
returns-in-Ok-digest_each-clause-named g c =
    let slice = c.as_mut_slice.result.now in
    let new = c.digest_each.new.saved in
    let long = c.as_mut_slice.ensures.len in
    let names = c.in-Ok-digest_each.ensures.names in
    let same : length new ≡ length slice =
    sym (length-map file_in new) ∙ as-many-as (files_in new) (files_in slice) names ∙ length-map file_in slice in
    let named : AreNamed (files_in slice) =
    subst (λ (l : List FilePart). AreNamed l) (sym (ap files_in c.as_mut_slice.ensures.value)) c.in-Ok.ensures.named in
    subst (λ (l : List FilePart). AreNamed l)
    (sym (ap files_in
    (whole-of c.in-Ok.saved.len new (drop (length new) c.in-Ok.saved.items) (omega (arith, long, same)))))
    (named-as (files_in new) (files_in slice) names named)

pub returns-in-Ok-digest_each-clause-step : goal.returns-in-Ok-digest_each-clause-step
returns-in-Ok-digest_each-clause-step g c = λ step.
    step-same c.write_back.new.attached c.digest_each.new.attached (g.F.Files.state c.write_back.new.files).files
    (g.F.Files.state c.digest_each.new.files).files c.in-Ok-digest_each.ensures.kept c.in-Ok-digest_each.ensures.files
    (c.in-Ok-write_back.ensures.step step)

pub returns-in-Err-digest_each-clause-step : goal.returns-in-Err-digest_each-clause-step
returns-in-Err-digest_each-clause-step g c = λ step.
    step-same c.write_back.new.attached c.digest_each.new.attached (g.F.Files.state c.write_back.new.files).files
    (g.F.Files.state c.digest_each.new.files).files c.in-Err-digest_each.ensures.kept c.in-Err-digest_each.ensures.files
    (c.in-Ok-write_back.ensures.step step)
