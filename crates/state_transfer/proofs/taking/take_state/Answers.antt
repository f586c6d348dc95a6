use Rattle.std.proofs.Common.{◌≡◌, ◌≤◌, List, Option, length, map, sym, ap, subst, ◌∙◌, arith}
use Rattle.host_lines.specs.State.{LineState}
use Rattle.telnet_lines.specs.Joined.{seen_line}
use Rattle.unit_files.specs.Attachments.{Held, attachments_of, file_units}
use Rattle.saved_session.specs.Parts.{State, state_in}
use Rattle.saved_files.specs.Putting.{files_in}
use Rattle.saved_files.specs.Taking.{file_places, saved_files}
use Rattle.saved_session.specs.Valid.{Fits}
use Rattle.state_transfer.specs.Session.{saved_machine, saved_ports}
use Rattle.saved_session.specs.SavedWatch.{saved_watch}
use Rattle.state_transfer.proofs.TakenFits.{names-fit}
use Rattle.state_transfer.proofs.TakenStates.{taken-is-saved}
use Rattle.state_transfer.proofs.taking.take_state.Goals as goal

pub returns-in-Ok-digest_all-clause-machine_part : goal.returns-in-Ok-digest_all-clause-machine_part
returns-in-Ok-digest_all-clause-machine_part g c =
    ap (λ (s : State). s.machine) c.joined.ensures ∙ c.in-Ok.ensures.machine

pub returns-in-Ok-digest_all-clause-watch_part : goal.returns-in-Ok-digest_all-clause-watch_part
returns-in-Ok-digest_all-clause-watch_part g c = ap (λ (s : State). s.watch) c.joined.ensures ∙ c.in-Ok-taken_watch.ensures.watch

pub returns-in-Ok-digest_all-clause-fits : goal.returns-in-Ok-digest_all-clause-fits
returns-in-Ok-digest_all-clause-fits g c =
    let files = files_in c.in-Ok-digest_all.attachments.items in
    let few : length files ≤ file_units = c.in-Ok-digest_all.ensures.few in
    subst (λ (s : State). Fits s) (sym c.joined.ensures)
    (record {
      machine = c.in-Ok.ensures.fit;
      files = omega (arith, few);
      names = names-fit files c.in-Ok-digest_all.ensures.named;
      watch = c.in-Ok-taken_watch.ensures.fit;
    })

pub returns-in-Ok-digest_all-clause-ports_part : goal.returns-in-Ok-digest_all-clause-ports_part
returns-in-Ok-digest_all-clause-ports_part g c = λ lines.
    ap (λ (s : State). s.ports) c.joined.ensures ∙ c.taken_ports-ports.ensures lines

pub returns-in-Ok-digest_all-clause-told : goal.returns-in-Ok-digest_all-clause-told
returns-in-Ok-digest_all-clause-told g c = λ t keys lines whole.
    let files = (g.F.Files.state c.digest_all.new.files).files in
    let digested = c.in-Ok-digest_all.ensures in
    let x = state_in c.joined.result in
    let m = c.args.machine.now in
    let machine : x.machine ≡ saved_machine m =
    ap (λ (s : State). s.machine) c.joined.ensures ∙ c.in-Ok.ensures.machine in
    let watch : x.watch ≡ saved_watch c.args.watch.now = ap (λ (s : State). s.watch) c.joined.ensures ∙ c.in-Ok-taken_watch.ensures.watch in
    let ports : (l : LineState) → x.ports ≡ saved_ports (map (seen_line l) m.lines) =
    λ l. ap (λ (s : State). s.ports) c.joined.ensures ∙ c.taken_ports-ports.ensures l in
    let here : x.files ≡ saved_files files (attachments_of c.digest_all.new.attached.slots) file_places =
    ap (λ (s : State). s.files) c.joined.ensures ∙ digested.told t
    ∙ ap (λ (slots : List (Option Held)). saved_files files (attachments_of slots) file_places) (sym digested.slots) in
    taken-is-saved x m c.digest_all.new.attached c.args.watch.now files keys lines whole
    (record { machine = machine; files_are = here; ports = ports; watch = watch })
