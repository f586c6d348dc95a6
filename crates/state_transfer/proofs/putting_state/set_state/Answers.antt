use Rattle.std.proofs.Common.{rules, ◌≡◌, ◌∙◌, ap, sym, subst, Some, Bool, Err, length}
use Rattle.std.proofs.lemmas.Result.{err_from_is_err_and}
use Rattle.unit_files.specs.Attachments.{held_at, no_attachments}
use Rattle.terminal_ports.specs.Rows.{with_ports}
use Rattle.nova_machine.specs.Machine.{MachineState}
use Rattle.nova_machine.specs.Seen.{beside, erased}
use Rattle.state_transfer.specs.Ports.{assigned}
use Rattle.saved_session.specs.Parts.{state_in}
use Rattle.saved_session.specs.Ranges.{has_multiplexer}
use Rattle.state_transfer.specs.PutBack.{misses_unit, machine_from}
use Rattle.state_transfer.specs.Putting.{SaysMissing}
use Rattle.saved_files.specs.Putting.{with_all}
use Rattle.state_transfer.specs.SavedValid.{AreStandard}
use Rattle.state_transfer.proofs.PuttingLemmas.{is-put-back}
use Rattle.state_transfer.proofs.putting_state.set_state.Goals as goal

pub returns-clause-back : goal.returns-clause-back
returns-clause-back g c = λ tells keys.
    let machine : erased c.put_machine.new.machine ≡ machine_from (state_in c.args.saved.now).machine c.args.machine.now.units
    (with_all no_attachments (state_in c.args.saved.now).files) (g.F.Files.state c.args.files.now).files =
    search rules in
    let lines : c.put_machine.new.machine.lines ≡ with_ports (assigned c.args.saved.now.ports c.args.machine.now.lines) c.args.machine.now.lines = search rules in
    is-put-back (state_in c.args.saved.now)
    (beside c.args.watch.now keys (g.F.Files.state c.args.files.now).files (g.L.Lines.state c.args.lines.now))
    (beside c.in-Ok.tables keys (g.F.Files.state c.put_outside.new.files).files (g.L.Lines.state c.put_outside.new.lines))
    c.args.machine.now c.put_machine.new.machine (c.put_outside.ensures.files tells) machine lines c.in-Ok.ensures

pub returns-clause-from : goal.returns-clause-from
returns-clause-from g c = λ unit h there.
    c.in_ok-put_outside.ensures.from unit h
    (subst (λ (m : MachineState). held_at m.slots unit ≡ Some h) c.put_machine.ensures.machine there)

pub put_outside-requires-clause-range : goal.put_outside-requires-clause-range
put_outside-requires-clause-range g c = (has_multiplexer (length (state_in c.args.saved.now).machine.units), c.requires.valid.ports)

pub put_machine-requires-clause-there : goal.put_machine-requires-clause-there
put_machine-requires-clause-there g c =
    ap (λ (m : MachineState). misses_unit (state_in c.args.saved.now).machine m.units) c.in_ok-put_outside.ensures.machine
    ∙ sym c.lacks_unit.ensures ∙ c.if-lacks_unit.false

pub put_machine-requires-clause-standard : goal.put_machine-requires-clause-standard
put_machine-requires-clause-standard g c =
    subst AreStandard (sym (ap (λ (m : MachineState). m.units) c.in_ok-put_outside.ensures.machine)) c.requires.standard

pub returns-in_err-put_outside-clause-standard : goal.returns-in_err-put_outside-clause-standard
returns-in_err-put_outside-clause-standard g c =
    subst (λ (m : MachineState). AreStandard m.units) (sym c.in_err-put_outside.ensures.refused) c.requires.standard

pub returns-in_err-put_outside-clause-missing : goal.returns-in_err-put_outside-clause-missing
returns-in_err-put_outside-clause-missing g c =
    let p = err_from_is_err_and c.from_residual.result c.from_residual.ensures.1 in
    rw (p.1, p.2) (subst (λ (b : Bool). SaysMissing (Err c.in_err-put_outside.field-0.0) b)
    (sym (sym c.lacks_unit.ensures ∙ c.if-lacks_unit.false)) c.in_err-put_outside.ensures.found)
