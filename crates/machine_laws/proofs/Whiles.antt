-- Services, while an event is due.
use Rattle.std.proofs.Common.{◌≡◌, List, Option, Some, None, Result, Ok, Err, refl, ap, sym, ◌∙◌}
use Rattle.observations.specs.Observations.{Observation}
use Rattle.unit_trait.specs.declared.kind.UnitName.{UnitName}
use Rattle.unit_trait.specs.Kinds.{code_of}
use Rattle.event_queue.specs.EventList.{dues, served}
use Rattle.event_queue.proofs.Dues.{wished-dues}
use Rattle.unit_list.specs.Bus.{AllFit}
use Rattle.unit_list.proofs.Calls.{after-fits, again-fits}
use Rattle.nova_machine.specs.declared.machine.Stop.{Stop}
use Rattle.unit_trait.specs.declared.calls.Got.{Got}
use Rattle.unit_files.specs.Attachments.{attachment_at}
use Rattle.unit_files.specs.Acts.{Failure}
use Rattle.nova_machine.specs.Wants.{answer_to, own_stop}
use Rattle.nova_machine.specs.Notes.{at_unit}
use Rattle.nova_machine.specs.Seen.{Seen, attached_in}
use Rattle.nova_machine.specs.Parts.{Part, behind_made, followed, then_part}
use Rattle.nova_machine.specs.OnLines.{Lined}
use Rattle.nova_machine.specs.Service.{asked, answered, replied, hosted, want_at, key_at, own_service, behind_line, line_service, service, taken, services, serving}
use Rattle.machine_laws.specs.ServiceLaws.{ServesWhileDue}
use Rattle.nova_machine.proofs.Serving.{serving-none, serving-some}
use Rattle.memory_transfer.specs.Tapes.{NoAnswer}
use Rattle.nova_machine.proofs.Opened.{serving-is}
use Rattle.nova_machine.proofs.EachService.{each-service}

same-then : (p : Part) (f g : Seen → Part) → f p.after ≡ g p.after → then_part p f ≡ then_part p g
same-then p f g same = by-stop p.made p.stop p.after same
  where
    by-stop : (made : List (Observation Seen)) (stop : Option Stop) (s : Seen) → f s ≡ g s → followed made stop s f ≡ followed made stop s g
    by-stop made (Some stop) s same = refl
    by-stop made None s same = ap (behind_made made) same

-- a unit's answer leaves what is due
replied-dues : (u : UnitName) (stop : Option Stop) (answer : Result Got NoAnswer) (s : Seen) → AllFit s.machine.units
    → dues (replied u stop answer s).after.machine.events ≡ dues s.machine.events
unfolding answered
replied-dues u stop (Ok g) s fit = wished-dues u _ s.machine.events (again-fits (code_of u.kind) u.unit g s.machine.units fit)
replied-dues u stop (Err f) s fit = refl

-- a service leaves what is due
own-dues : (fault : Option Failure) (u : UnitName) (s : Seen) → AllFit s.machine.units → dues (own_service fault u s).after.machine.events ≡ dues s.machine.events
unfolding own_service hosted asked
own-dues fault u s fit =
    let w = want_at u s.machine in
    replied-dues u (own_stop (key_at s) s.watch.expects w) (answer_to fault (attachment_at (attached_in s.machine) u) s.files (key_at s) w) (hosted fault u s) (after-fits (code_of u.kind) u.unit s.machine.units fit)

line-dues : (u : UnitName) (l : Lined) (s : Seen) → AllFit s.machine.units → dues (line_service u l s).after.machine.events ≡ dues s.machine.events
unfolding line_service asked
line-dues u l s fit = replied-dues u l.stop (Ok l.got) (behind_line u l s) (after-fits (code_of u.kind) u.unit s.machine.units fit)

service-dues : (fault : Option Failure) (u : UnitName) (s : Seen) → AllFit s.machine.units → dues (service fault u s).after.machine.events ≡ dues s.machine.events
service-dues fault u s fit =
    each-service (λ p. dues p.after.machine.events ≡ dues s.machine.events) fault u s (own-dues fault u s fit) (λ l is. line-dues u l s fit)

pub serves-while-due : ServesWhileDue
serves-while-due = record {
  none = serving-none;
  some = λ note s u fit first.
      let p = service (at_unit u note) u (taken s) in
      serving-some note s u first
      ∙ same-then p (λ next. services note (dues (served s.machine.events)) next) (serving note)
      (ap (λ (us : List UnitName). services note us p.after) (sym (service-dues (at_unit u note) u (taken s) fit)) ∙ sym (serving-is note p.after));
}
