use Rattle.std.proofs.Common.{◌≡◌, inl, ap, sym, subst, ◌∙◌, List, Some, Ok, Err, length}
use Rattle.std.proofs.lemmas.Result.{err_from_is_err_and}
use Rattle.std.specs.List.{AllByRecursion}
use Rattle.unit_files.specs.Attachments.{held_at}
use Rattle.unit_files.specs.Buffer.{AttachedFiles, nothing_attached}
use Rattle.unit_files.specs.Causes.{AreFrom}
use Rattle.unit_files.specs.Open.{Around}
use Rattle.nova_machine.specs.Machine.{MachineState, attached_files, with_attached_files}
use Rattle.saved_session.specs.declared.saved.SavedFile.{SavedFile}
use Rattle.saved_files.specs.GivingBack.{OnlyTheirCounts}
use Rattle.saved_session.specs.Parts.{state_in}
use Rattle.state_transfer.specs.Ports.{ports_wanted}
use Rattle.saved_session.specs.Order.{place_of}
use Rattle.saved_files.specs.Putting.{files_in, IsOfThese}
use Rattle.saved_files.specs.PuttingOne.{CanAttach, AreApart}
use Rattle.saved_files.proofs.GivingBackLemmas.{given-back}
use Rattle.state_transfer.proofs.PortLemmas.{these-of-session, no-listening, these-found, port-of-session, no-port, port-found, port-compared, port-cause, port-counts, port-unopened, multiplexer-low}
use Rattle.saved_files.proofs.PuttingCounts.{new-counts-behind-all, session-cause}
use Rattle.saved_files.proofs.Together.{all-free, only-base}
use Rattle.saved_files.proofs.ValidFiles.{each-can, all-apart}
use Rattle.saved_files.specs.PuttingCauses.{OpensEach}
use Rattle.saved_files.proofs.PuttingOpenings.{opens-named}
use Rattle.saved_files.proofs.ClosingOnce.{port-closed}
use Rattle.state_transfer.proofs.putting_state.put_outside.Goals as goal

pub give_back_all-requires-clause-can : goal.give_back_all-requires-clause-can
give_back_all-requires-clause-can g c =
    subst (λ (l : List SavedFile). AllByRecursion CanAttach (files_in l)) (sym c.deref-in-Err.ensures.value)
    (each-can (place_of 0 0) (state_in c.args.saved.now).files c.requires.valid.each)

pub give_back_all-requires-clause-apart : goal.give_back_all-requires-clause-apart
give_back_all-requires-clause-apart g c =
    subst (λ (l : List SavedFile). AreApart (files_in l)) (sym c.deref-in-Err.ensures.value)
    (all-apart (place_of 0 0) (state_in c.args.saved.now).files c.requires.valid.each)

pub returns-in-Err-clause-refused : goal.returns-in-Err-clause-refused
returns-in-Err-clause-refused g c =
    let same : c.attached_mut-in-Err.result.now ≡ c.attach_all.new.attached =
    c.attached_mut-in-Err.ensures.value ∙ ap attached_files c.in-Err.ensures.refused in
    let apart = subst (λ (l : List SavedFile). AreApart (files_in l)) (sym c.deref.ensures.value)
    (all-apart (place_of 0 0) (state_in c.args.saved.now).files c.requires.valid.each) in
    let files : files_in c.deref-in-Err.result.now ≡ files_in c.deref.result.now =
    ap files_in (c.deref-in-Err.ensures.value ∙ sym c.deref.ensures.value) in
    let back : c.give_back_all.new.attached ≡ nothing_attached =
    given-back c.attach_all.new.attached c.attached_mut-in-Err.result.now c.give_back_all.new.attached
    (files_in c.deref.result.now) same apart c.in_ok-attach_all.ensures.attached c.in_ok-attach_all.ensures.other
    (rw (← files) c.give_back_all.ensures.attached) (rw (← files) c.give_back_all.ensures.disk)
    (c.give_back_all.ensures.unmarked (ap (λ (a : AttachedFiles). a.aside) same ∙ c.in_ok-attach_all.ensures.unmarked)) in
    ap (λ (m : MachineState). with_attached_files m c.give_back_all.new.attached) c.in-Err.ensures.refused
    ∙ ap (λ (a : AttachedFiles). with_attached_files c.args.machine.now a) (back ∙ sym c.requires.nothing)

pub returns-in-Err-clause-closed : goal.returns-in-Err-clause-closed
returns-in-Err-clause-closed g c =
    let same : c.attached_mut-in-Err.result.now ≡ c.attach_all.new.attached =
    c.attached_mut-in-Err.ensures.value ∙ ap attached_files c.in-Err.ensures.refused in
    let apart = subst (λ (l : List SavedFile). AreApart (files_in l)) (sym c.deref.ensures.value)
    (all-apart (place_of 0 0) (state_in c.args.saved.now).files c.requires.valid.each) in
    let files : files_in c.deref-in-Err.result.now ≡ files_in c.deref.result.now =
    ap files_in (c.deref-in-Err.ensures.value ∙ sym c.deref.ensures.value) in
    let back : c.give_back_all.new.attached ≡ nothing_attached =
    given-back c.attach_all.new.attached c.attached_mut-in-Err.result.now c.give_back_all.new.attached
    (files_in c.deref.result.now) same apart c.in_ok-attach_all.ensures.attached c.in_ok-attach_all.ensures.other
    (rw (← files) c.give_back_all.ensures.attached) (rw (← files) c.give_back_all.ensures.disk)
    (c.give_back_all.ensures.unmarked (ap (λ (a : AttachedFiles). a.aside) same ∙ c.in_ok-attach_all.ensures.unmarked)) in
    let before = (g.F.Files.state c.args.files.now).opened in
    only-base c.give_back_all.new.attached.slots before (g.F.Files.state c.give_back_all.new.files).opened
    (ap (λ (a : AttachedFiles). a.slots) back)
    (c.give_back_all.ensures.around before
    (subst (λ (a : AttachedFiles). Around a.slots before (g.F.Files.state c.attach_all.new.files).opened) (sym same)
    c.in_ok-attach_all.ensures.around))

pub returns-in_err-attach_all-clause-these : goal.returns-in_err-attach_all-clause-these
returns-in_err-attach_all-clause-these g c =
    let p = err_from_is_err_and c.from_residual.result c.from_residual.ensures.1 in
    rw (p.1, p.2) (these-of-session (state_in c.args.saved.now).files c.in_err-attach_all.field-0.0
    (subst (λ (l : List SavedFile). IsOfThese (files_in l) c.in_err-attach_all.field-0.0) c.deref.ensures.value
    c.in_err-attach_all.ensures.these))

pub returns-in_err-attach_all-clause-cause : goal.returns-in_err-attach_all-clause-cause
returns-in_err-attach_all-clause-cause g c =
    let p = err_from_is_err_and c.from_residual.result c.from_residual.ensures.1 in
    rw (p.1, p.2) (session-cause g.F.Files.tells c.in_err-attach_all.field-0.0 (g.F.Files.state c.args.files.now)
    (g.F.Files.state c.attach_all.new.files) c.in_err-attach_all.ensures.cause)

pub returns-in_err-attach_all-clause-lines : goal.returns-in_err-attach_all-clause-lines
returns-in_err-attach_all-clause-lines g c =
    let p = err_from_is_err_and c.from_residual.result c.from_residual.ensures.1 in
    rw (p.1, p.2) (no-listening g.L.Lines.tells (ports_wanted c.args.saved.now.ports c.args.machine.now.lines)
    (files_in c.deref.result.now) c.in_err-attach_all.field-0.0 (g.L.Lines.state c.args.lines.now)
    c.in_err-attach_all.ensures.these)

pub returns-in_err-attach_all-clause-found : goal.returns-in_err-attach_all-clause-found
returns-in_err-attach_all-clause-found g c =
    let p = err_from_is_err_and c.from_residual.result c.from_residual.ensures.1 in
    rw (p.1, p.2) (these-found (files_in c.deref.result.now) c.in_err-attach_all.field-0.0 c.in_err-attach_all.ensures.these)

pub put_ports-requires : goal.put_ports-requires
put_ports-requires g c = record {
  range = multiplexer-low c.requires.range.0 c.args.saved.now.ports.tti1 c.args.saved.now.ports.qty c.requires.range.1.qty;
}

pub returns-in-Ok-clause-from : goal.returns-in-Ok-clause-from
returns-in-Ok-clause-from g c = λ unit h there.
    let state = g.F.Files.state in
    let from = subst (λ (a : AttachedFiles). AreFrom a.slots c.attach_all.new.attached.slots (state c.args.files.now)
    (state c.attach_all.new.files)) c.attached_mut.ensures.value c.in_ok-attach_all.ensures.from in
    from unit h (subst (λ (m : MachineState). held_at m.slots unit ≡ Some h) c.in-Ok.ensures.ok there)

pub returns-in-Ok-clause-lines : goal.returns-in-Ok-clause-lines
returns-in-Ok-clause-lines g c = (c.in-Ok.ensures.outside, λ none. ap g.L.Lines.state (c.in-Ok.ensures.none none).1)

pub returns-in-Err-clause-these : goal.returns-in-Err-clause-these
returns-in-Err-clause-these g c =
    port-of-session (state_in c.args.saved.now).files c.in-Err.fault c.in-Err.ensures.fault

pub returns-in-Err-clause-found : goal.returns-in-Err-clause-found
returns-in-Err-clause-found g c = port-found c.in-Err.fault c.in-Err.ensures.fault

pub returns-in-Err-clause-from : goal.returns-in-Err-clause-from
returns-in-Err-clause-from g c = λ unit h there.
    inl (subst (λ (m : MachineState). held_at m.slots unit ≡ Some h) (returns-in-Err-clause-refused g c) there)

pub returns-in-Err-clause-counts : goal.returns-in-Err-clause-counts
returns-in-Err-clause-counts g c =
    let state = g.F.Files.state in
    let fs = files_in c.deref-in-Err.result.now in
    let given : c.attached_mut-in-Err.result.now ≡ c.attach_all.new.attached =
    c.attached_mut-in-Err.ensures.value ∙ ap attached_files c.in-Err.ensures.refused in
    let none : c.attached_mut.result.now ≡ nothing_attached = c.attached_mut.ensures.value ∙ c.requires.nothing in
    new-counts-behind-all c.attached_mut.result.now.slots c.attach_all.new.attached.slots fs (state c.args.files.now)
    (state c.attach_all.new.files) (state c.give_back_all.new.files)
    (all-free c.attached_mut.result.now.slots fs (ap (λ (a : AttachedFiles). a.slots) none))
    c.in_ok-attach_all.ensures.from c.in_ok-attach_all.ensures.counts
    (subst (λ (a : AttachedFiles). OnlyTheirCounts a.slots fs (state c.attach_all.new.files)
    (state c.give_back_all.new.files)) given c.give_back_all.ensures.counts)

pub returns-in-Err-clause-cause : goal.returns-in-Err-clause-cause
returns-in-Err-clause-cause g c =
    port-cause g.F.Files.tells c.in-Err.fault (g.F.Files.state c.args.files.now)
    (g.F.Files.state c.give_back_all.new.files) c.in-Err.ensures.fault
    (λ t. c.give_back_all.ensures.counts.openings ∙ c.in_ok-attach_all.ensures.cause.1 t)

pub returns-in-Err-clause-lines : goal.returns-in-Err-clause-lines
returns-in-Err-clause-lines g c =
    no-port g.L.Lines.tells (ports_wanted c.args.saved.now.ports c.args.machine.now.lines) c.in-Err.fault
    (g.L.Lines.state c.args.lines.now) (g.L.Lines.state c.put_ports.new.lines) c.in-Err.ensures.fault
    c.in-Err.ensures.outside

pub returns-in-Err-clause-compared : goal.returns-in-Err-clause-compared
returns-in-Err-clause-compared g c = port-compared c.args.force c.in-Err.fault c.in-Err.ensures.fault

pub returns-in_err-attach_all-clause-once : goal.returns-in_err-attach_all-clause-once
returns-in_err-attach_all-clause-once g c =
    let p = err_from_is_err_and c.from_residual.result c.from_residual.ensures.1 in
    rw (p.1, p.2) c.in_err-attach_all.ensures.once

pub returns-in-Ok-clause-once : goal.returns-in-Ok-clause-once
returns-in-Ok-clause-once g c = c.in_ok-attach_all.ensures.once

pub returns-in-Err-clause-once : goal.returns-in-Err-clause-once
returns-in-Err-clause-once g c =
    let state = g.F.Files.state in
    port-closed c.in-Err.fault (state c.args.files.now) (state c.attach_all.new.files) (state c.give_back_all.new.files)
    (port-counts c.in-Err.fault c.in-Err.ensures.fault) c.in_ok-attach_all.ensures.cause.0
    c.give_back_all.ensures.once.files

pub returns-in_err-attach_all-clause-exact : goal.returns-in_err-attach_all-clause-exact
returns-in_err-attach_all-clause-exact g c =
    let state = g.F.Files.state in
    let p = err_from_is_err_and c.from_residual.result c.from_residual.ensures.1 in
    rw (p.1, p.2) (subst (λ (l : List SavedFile). OpensEach g.F.Files.tells (length (files_in l))
    (Err c.in_err-attach_all.field-0.0) (state c.args.files.now) (state c.attach_all.new.files)) c.deref.ensures.value
    c.in_err-attach_all.ensures.exact)

pub returns-in-Ok-clause-exact : goal.returns-in-Ok-clause-exact
returns-in-Ok-clause-exact g c =
    let state = g.F.Files.state in
    subst (λ (l : List SavedFile). OpensEach g.F.Files.tells (length (files_in l)) (Ok tt) (state c.args.files.now)
    (state c.attach_all.new.files)) c.deref.ensures.value c.in_ok-attach_all.ensures.exact

pub returns-in-Err-clause-exact : goal.returns-in-Err-clause-exact
returns-in-Err-clause-exact g c =
    let state = g.F.Files.state in
    let back = c.give_back_all.ensures.counts in
    opens-named g.F.Files.tells (length (state_in c.args.saved.now).files) c.in-Err.fault (state c.args.files.now)
    (state c.attach_all.new.files) (state c.give_back_all.new.files)
    (port-unopened g.F.Files.tells c.in-Err.fault c.in-Err.ensures.fault)
    (subst (λ (l : List SavedFile). OpensEach g.F.Files.tells (length (files_in l)) (Ok tt) (state c.args.files.now)
    (state c.attach_all.new.files)) c.deref.ensures.value c.in_ok-attach_all.ensures.exact)
    back.openings back.ids
