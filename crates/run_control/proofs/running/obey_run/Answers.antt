use Rattle.std.proofs.Common.{ℕ, List, Option, ap, sym, ◌∙◌, subst, ◌≡◌, nat_le, min}
use Rattle.unit_files.specs.Attachments.{Attachment, Held, attachments_of, attachment_at}
use Rattle.unit_files.specs.Buffer.{disk_unit}
use Rattle.scp_parser.specs.Command.{Request, request_of, Run, Go, Cont, Step}
use Rattle.command_session.specs.Live.{live_in, beyond}
use Rattle.command_session.specs.Doing.{RunDone}
use Rattle.command_session.specs.Answers.{IsByTables, out_of_range}
use Rattle.command_session.specs.RunEffects.{count_fits, step_of}
use Rattle.command_session.specs.RunStops.{RunStops, run_count, is_step}
use Rattle.command_session.proofs.AskedAnswers.{by-asks, can-by}
use Rattle.run_control.specs.RunEffect.{run_effect}
use Rattle.command_session.proofs.StepLemmas.{step-alone}
use Rattle.run_control.proofs.running.obey_run.Goals as goal

abbrev disk-held : List (Option Held) → Option Attachment
disk-held slots = attachment_at (attachments_of slots) disk_unit

pub returns-in-Run-clause-done : goal.returns-in-Run-clause-done
returns-in-Run-clause-done g c =
    let s = c.args.session.now in
    let new = c.run_from.new.session in
    let is : c.args.command.now ≡ Run c.in-Run.address = sym c.command.view_is ∙ ap (request_of _) c.in-Run.is in
    subst (λ (r : Request). RunDone (λ whole notes. run_effect s.limit notes (live_in s (beyond (g.F.Files.state c.args.files.now).files (g.L.Lines.state c.args.lines.now) whole)) r) c.run_from.result s new (g.F.Files.state c.args.files.now) (g.F.Files.state c.run_from.new.files) (g.L.Lines.state c.args.lines.now) (g.L.Lines.state c.run_from.new.lines) g.F.Files.tells g.L.Lines.tells g.S.Sink.tells (g.S.Sink.written c.args.out.now) (g.S.Sink.written c.run_from.new.out) (g.S.Sink.fault_count c.args.out.now) (g.S.Sink.fault_count c.run_from.new.out)) (sym is)
    c.run_from.ensures.done

pub returns-in-Run-clause-stopped : goal.returns-in-Run-clause-stopped
returns-in-Run-clause-stopped g c =
    let s = c.args.session.now in
    let new = c.run_from.new.session in
    let is : c.args.command.now ≡ Run c.in-Run.address = sym c.command.view_is ∙ ap (request_of _) c.in-Run.is in
    subst (λ (r : Request). RunStops (is_step r s.limit) (run_count r s.limit) c.run_from.result s new g.S.Sink.tells (g.S.Sink.written c.args.out.now) (g.S.Sink.written c.run_from.new.out)) (sym is) c.run_from.ensures.stopped

pub returns-in-Run-clause-tables : goal.returns-in-Run-clause-tables
returns-in-Run-clause-tables g c = by-asks c.args.session.now.machine c.run_from.result c.args.command.now _ (sym c.command.view_is ∙ ap (request_of _) c.in-Run.is) c.run_from.ensures.tables

pub returns-in-Run-clause-answers : goal.returns-in-Run-clause-answers
returns-in-Run-clause-answers g c = can-by c.run_from.result c.args.command.now _ (sym c.command.view_is ∙ ap (request_of _) c.in-Run.is) c.run_from.ensures.answers

pub returns-in-Go-clause-done : goal.returns-in-Go-clause-done
returns-in-Go-clause-done g c =
    let s = c.args.session.now in
    let new = c.run_from-in-Go.new.session in
    let is : c.args.command.now ≡ Go c.in-Go.address = sym c.command.view_is ∙ ap (request_of _) c.in-Go.is in
    subst (λ (r : Request). RunDone (λ whole notes. run_effect s.limit notes (live_in s (beyond (g.F.Files.state c.args.files.now).files (g.L.Lines.state c.args.lines.now) whole)) r) c.run_from-in-Go.result s new (g.F.Files.state c.args.files.now) (g.F.Files.state c.run_from-in-Go.new.files) (g.L.Lines.state c.args.lines.now) (g.L.Lines.state c.run_from-in-Go.new.lines) g.F.Files.tells g.L.Lines.tells g.S.Sink.tells (g.S.Sink.written c.args.out.now) (g.S.Sink.written c.run_from-in-Go.new.out) (g.S.Sink.fault_count c.args.out.now) (g.S.Sink.fault_count c.run_from-in-Go.new.out)) (sym is)
    c.run_from-in-Go.ensures.done

pub returns-in-Go-clause-stopped : goal.returns-in-Go-clause-stopped
returns-in-Go-clause-stopped g c =
    let s = c.args.session.now in
    let new = c.run_from-in-Go.new.session in
    let is : c.args.command.now ≡ Go c.in-Go.address = sym c.command.view_is ∙ ap (request_of _) c.in-Go.is in
    subst (λ (r : Request). RunStops (is_step r s.limit) (run_count r s.limit) c.run_from-in-Go.result s new g.S.Sink.tells (g.S.Sink.written c.args.out.now) (g.S.Sink.written c.run_from-in-Go.new.out)) (sym is) c.run_from-in-Go.ensures.stopped

pub returns-in-Go-clause-tables : goal.returns-in-Go-clause-tables
returns-in-Go-clause-tables g c = by-asks c.args.session.now.machine c.run_from-in-Go.result c.args.command.now _ (sym c.command.view_is ∙ ap (request_of _) c.in-Go.is) c.run_from-in-Go.ensures.tables

pub returns-in-Go-clause-answers : goal.returns-in-Go-clause-answers
returns-in-Go-clause-answers g c = can-by c.run_from-in-Go.result c.args.command.now _ (sym c.command.view_is ∙ ap (request_of _) c.in-Go.is) c.run_from-in-Go.ensures.answers

pub returns-in-Cont-clause-done : goal.returns-in-Cont-clause-done
returns-in-Cont-clause-done g c =
    let s = c.args.session.now in
    let new = c.run.new.session in
    let is : c.args.command.now ≡ Cont = sym c.command.view_is ∙ ap (request_of _) c.in-Cont.is in
    subst (λ (r : Request). RunDone (λ whole notes. run_effect s.limit notes (live_in s (beyond (g.F.Files.state c.args.files.now).files (g.L.Lines.state c.args.lines.now) whole)) r) c.run.result s new (g.F.Files.state c.args.files.now) (g.F.Files.state c.run.new.files) (g.L.Lines.state c.args.lines.now) (g.L.Lines.state c.run.new.lines) g.F.Files.tells g.L.Lines.tells g.S.Sink.tells (g.S.Sink.written c.args.out.now) (g.S.Sink.written c.run.new.out) (g.S.Sink.fault_count c.args.out.now) (g.S.Sink.fault_count c.run.new.out)) (sym is)
    c.run.ensures.done

pub returns-in-Cont-clause-stopped : goal.returns-in-Cont-clause-stopped
returns-in-Cont-clause-stopped g c =
    let s = c.args.session.now in
    let new = c.run.new.session in
    let is : c.args.command.now ≡ Cont = sym c.command.view_is ∙ ap (request_of _) c.in-Cont.is in
    subst (λ (r : Request). RunStops (is_step r s.limit) (run_count r s.limit) c.run.result s new g.S.Sink.tells (g.S.Sink.written c.args.out.now) (g.S.Sink.written c.run.new.out)) (sym is) c.run.ensures.stopped

pub returns-in-Cont-clause-tables : goal.returns-in-Cont-clause-tables
returns-in-Cont-clause-tables g c = by-asks c.args.session.now.machine c.run.result c.args.command.now _ (sym c.command.view_is ∙ ap (request_of _) c.in-Cont.is) c.run.ensures.tables

pub returns-in-Cont-clause-answers : goal.returns-in-Cont-clause-answers
returns-in-Cont-clause-answers g c = can-by c.run.result c.args.command.now _ (sym c.command.view_is ∙ ap (request_of _) c.in-Cont.is) c.run.ensures.answers

pub returns-in-Cont-clause-unasked : goal.returns-in-Cont-clause-unasked
returns-in-Cont-clause-unasked g c = λ refused. absurd (c.run.ensures.never refused)

pub returns-in-Cont-clause-refused : goal.returns-in-Cont-clause-refused
returns-in-Cont-clause-refused g c = λ refused. absurd (c.run.ensures.never refused)

pub returns-in-Step-clause-done : goal.returns-in-Step-clause-done
returns-in-Step-clause-done g c =
    let s = c.args.session.now in
    let new = c.step.new.session in
    let is : c.args.command.now ≡ Step c.in-Step.count = sym c.command.view_is ∙ ap (request_of _) c.in-Step.is in
    subst (λ (r : Request). RunDone (λ whole notes. run_effect s.limit notes (live_in s (beyond (g.F.Files.state c.args.files.now).files (g.L.Lines.state c.args.lines.now) whole)) r) c.step.result s new (g.F.Files.state c.args.files.now) (g.F.Files.state c.step.new.files) (g.L.Lines.state c.args.lines.now) (g.L.Lines.state c.step.new.lines) g.F.Files.tells g.L.Lines.tells g.S.Sink.tells (g.S.Sink.written c.args.out.now) (g.S.Sink.written c.step.new.out) (g.S.Sink.fault_count c.args.out.now) (g.S.Sink.fault_count c.step.new.out)) (sym is)
    (subst (λ (k : ℕ). RunDone (λ whole notes. step_of s.limit notes k (live_in s (beyond (g.F.Files.state c.args.files.now).files (g.L.Lines.state c.args.lines.now) whole))) c.step.result s new (g.F.Files.state c.args.files.now) (g.F.Files.state c.step.new.files) (g.L.Lines.state c.args.lines.now) (g.L.Lines.state c.step.new.lines) g.F.Files.tells g.L.Lines.tells g.S.Sink.tells (g.S.Sink.written c.args.out.now) (g.S.Sink.written c.step.new.out) (g.S.Sink.fault_count c.args.out.now) (g.S.Sink.fault_count c.step.new.out)) c.unwrap_or.ensures c.step.ensures.done)

pub returns-in-Step-clause-stopped : goal.returns-in-Step-clause-stopped
returns-in-Step-clause-stopped g c =
    let s = c.args.session.now in
    let new = c.step.new.session in
    let is : c.args.command.now ≡ Step c.in-Step.count = sym c.command.view_is ∙ ap (request_of _) c.in-Step.is in
    subst (λ (r : Request). RunStops (is_step r s.limit) (run_count r s.limit) c.step.result s new g.S.Sink.tells (g.S.Sink.written c.args.out.now) (g.S.Sink.written c.step.new.out)) (sym is) (subst (λ (k : ℕ). RunStops (nat_le k s.limit) (min k s.limit) c.step.result s new g.S.Sink.tells (g.S.Sink.written c.args.out.now) (g.S.Sink.written c.step.new.out)) c.unwrap_or.ensures c.step.ensures.stopped)

pub returns-in-Step-clause-tables : goal.returns-in-Step-clause-tables
returns-in-Step-clause-tables g c = by-asks c.args.session.now.machine c.step.result c.args.command.now _ (sym c.command.view_is ∙ ap (request_of _) c.in-Step.is) (subst (λ (n : ℕ). IsByTables (out_of_range (count_fits n)) c.step.result) c.unwrap_or.ensures c.step.ensures.tables)

pub returns-in-Step-clause-answers : goal.returns-in-Step-clause-answers
returns-in-Step-clause-answers g c = can-by c.step.result c.args.command.now _ (sym c.command.view_is ∙ ap (request_of _) c.in-Step.is) c.step.ensures.answers

pub returns-in-Run-clause-step : goal.returns-in-Run-clause-step
returns-in-Run-clause-step g c =
    step-alone c.args.session.now c.run_from.new.session (g.F.Files.state c.args.files.now).files (g.F.Files.state c.run_from.new.files).files
    (ap disk-held c.run_from.ensures.done.slots) c.run_from.ensures.covers

pub returns-in-Go-clause-step : goal.returns-in-Go-clause-step
returns-in-Go-clause-step g c =
    step-alone c.args.session.now c.run_from-in-Go.new.session (g.F.Files.state c.args.files.now).files (g.F.Files.state c.run_from-in-Go.new.files).files
    (ap disk-held c.run_from-in-Go.ensures.done.slots) c.run_from-in-Go.ensures.covers

pub returns-in-Cont-clause-step : goal.returns-in-Cont-clause-step
returns-in-Cont-clause-step g c =
    step-alone c.args.session.now c.run.new.session (g.F.Files.state c.args.files.now).files (g.F.Files.state c.run.new.files).files
    (ap disk-held c.run.ensures.done.slots) c.run.ensures.covers

pub returns-in-Step-clause-step : goal.returns-in-Step-clause-step
returns-in-Step-clause-step g c =
    step-alone c.args.session.now c.step.new.session (g.F.Files.state c.args.files.now).files (g.F.Files.state c.step.new.files).files
    (ap disk-held c.step.ensures.done.slots) c.step.ensures.covers
