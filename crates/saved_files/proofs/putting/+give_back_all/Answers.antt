use Rattle.std.proofs.Common.{rules, ap, sym, ◌∙◌, subst}
use Rattle.std.specs.Prelude.{IsTrue, is_some}
use Rattle.unit_trait.specs.declared.kind.UnitName.{UnitName}
use Rattle.unit_files.specs.Attachments.{attachments_of, attachment_at, is_disk}
use Rattle.unit_files.specs.Buffer.{Buffer}
use Rattle.saved_files.specs.GivingBack.{IsHeldIn}
use Rattle.saved_session.specs.Parts.{file_in}
use Rattle.saved_files.specs.Putting.{files_in}
use Rattle.saved_files.specs.PuttingOne.{CanAttach}
use Rattle.saved_files.proofs.GivingBackLemmas.{still-held, copy-clean}
use Rattle.saved_files.proofs.PuttingCounts.{no-counts, their-counts}
use Rattle.saved_files.proofs.Together.{all-of, head-of, tail-of, apart-of}
use Rattle.std.proofs.Common.{Ok, refl}
use Rattle.saved_files.proofs.ClosingOnce.{closed-behind, same-closed}
use Rattle.saved_files.proofs.InStep.{unmarked-if}
use Rattle.saved_files.proofs.putting.+give_back_all.Goals as goal

pub give_back_all-requires : goal.give_back_all-requires
give_back_all-requires g t c κs within =
    let all = all-of c.args.saved.now c.in-Some.first.now c.in-Some.others.now c.in-Some.ensures.cases.0 in
    let f = file_in c.in-Some.first.now in
    let fs = files_in c.in-Some.others.now in
    let slots = attachments_of c.args.attached.now.slots in
    let apart = apart-of f fs (files_in c.args.saved.now) all c.requires.apart in (
      search rules,
      (
        search rules,
        (
          tail-of CanAttach f fs (files_in c.args.saved.now) all c.requires.can,
          (
            apart.1,
            (
              tail-of (IsHeldIn slots) f fs (files_in c.args.saved.now) all c.requires.held,
              (c.requires.clean, c.requires.«open»),
            ),
          ),
        ),
      ),
    )

pub give_back-requires-clause-there : goal.give_back-requires-clause-there
give_back-requires-clause-there g t c =
    let all = all-of c.args.saved.now c.in-Some.first.now c.in-Some.others.now c.in-Some.ensures.cases.0 in
    let f = file_in c.in-Some.first.now in
    let fs = files_in c.in-Some.others.now in
    let slots = attachments_of c.args.attached.now.slots in
    let apart = apart-of f fs (files_in c.args.saved.now) all c.requires.apart in
    subst (λ (u : UnitName). IsTrue (is_some (attachment_at (attachments_of c.give_back_all.new.attached.slots) u)))
    (sym c.unit_of.ensures)
    (still-held f fs slots (attachments_of c.give_back_all.new.attached.slots) c.give_back_all.ensures.attached apart.0
    (head-of (IsHeldIn slots) f fs (files_in c.args.saved.now) all c.requires.held))

pub give_back-requires-clause-clean : goal.give_back-requires-clause-clean
give_back-requires-clause-clean g t c = λ is.
    ap (λ (b : Buffer). b.written) c.give_back_all.ensures.disk
    ∙ copy-clean c.args.attached.now.disk (files_in c.in-Some.others.now) c.requires.clean

pub returns-in-None-clause-counts : goal.returns-in-None-clause-counts
returns-in-None-clause-counts g t c =
    no-counts c.args.attached.now.slots (files_in c.args.saved.now) (g.F.Files.state c.args.files.now)

pub returns-in-Some-clause-kept : goal.returns-in-Some-clause-kept
returns-in-Some-clause-kept g t c = λ unit h there.
    c.give_back_all.ensures.kept unit h (c.give_back.ensures.kept unit h there)

pub returns-in-Some-clause-counts : goal.returns-in-Some-clause-counts
returns-in-Some-clause-counts g t c =
    let state = g.F.Files.state in
    let all = all-of c.args.saved.now c.in-Some.first.now c.in-Some.others.now c.in-Some.ensures.cases.0 in
    their-counts c.args.attached.now.slots c.give_back_all.new.attached.slots (file_in c.in-Some.first.now)
    (files_in c.in-Some.others.now) (files_in c.args.saved.now) c.unit_of.result (state c.args.files.now)
    (state c.give_back_all.new.files) (state c.give_back.new.files) all c.unit_of.ensures c.give_back_all.ensures.kept
    c.give_back_all.ensures.counts c.give_back.ensures.count

pub returns-in-None-clause-once : goal.returns-in-None-clause-once
returns-in-None-clause-once g t c =
    same-closed c.args.attached.now.slots (g.F.Files.state c.args.files.now) (g.F.Files.state c.args.files.now) refl

pub returns-in-Some-clause-once : goal.returns-in-Some-clause-once
returns-in-Some-clause-once g t c =
    let state = g.F.Files.state in
    closed-behind (Ok tt) c.give_back_all.new.attached.slots c.give_back.new.attached.slots c.unit_of.result
    (state c.args.files.now) (state c.give_back_all.new.files) (state c.give_back.new.files)
    c.give_back_all.ensures.once c.give_back.ensures.count c.give_back.ensures.kept c.give_back.ensures.once

pub returns-in-Some-clause-unmarked : goal.returns-in-Some-clause-unmarked
returns-in-Some-clause-unmarked g t c = λ none.
    unmarked-if (is_disk c.unit_of.result.kind) c.give_back_all.new.attached.aside c.give_back.new.attached.aside
    c.give_back.ensures.marks (c.give_back_all.ensures.unmarked none)
