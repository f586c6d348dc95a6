-- A run reads nothing of the input.
use Rattle.std.proofs.Common.{◌≡◌, ℕ, ◌+◌, Bool, List, Option, Some, None, Result, Ok, Err, refl, ap, ◌∙◌, arith}
use Rattle.observations.specs.Observations.{Observation, reads_of}
use Rattle.observations.proofs.MadeLemmas.{reads_of-append}
use Rattle.unit_trait.specs.declared.kind.UnitName.{UnitName}
use Rattle.unit_trait.specs.declared.calls.Want.{Want}
use Rattle.unit_trait.specs.declared.calls.Want.TheVariants as want
use Rattle.nova_machine.specs.declared.machine.Stop.{Stop}
use Rattle.unit_trait.specs.declared.calls.Got.{Got}
use Rattle.unit_files.specs.Attachments.{attachment_at}
use Rattle.unit_files.specs.Acts.{Failure}
use Rattle.nova_machine.specs.Notes.{RunNote}
use Rattle.nova_machine.specs.Seen.{Seen, with_machine, attached_in}
use Rattle.nova_machine.specs.Parts.{Part, followed, then_part}
use Rattle.nova_machine.specs.Wants.{prints, answer_to, own_stop}
use Rattle.nova_machine.specs.OnLines.{Lined, sends}
use Rattle.nova_machine.specs.Service.{want_at, key_at, asked, replied, hosted, own_service, behind_line, line_service, service, taken}
use Rattle.nova_machine.specs.Turn.{breaks_tested}
use Rattle.nova_machine.specs.Run.{run}
use Rattle.memory_transfer.specs.Tapes.{NoAnswer}
use Rattle.nova_machine.proofs.Walks.{OfRuns, walk-run}
use Rattle.nova_machine.proofs.EachService.{each-service, sends-reads}

followed-reads : (made : List (Observation Seen)) (stop : Option Stop) (s : Seen) (goes_on : Seen → Part) → reads_of made ≡ 0 → ((t : Seen) → reads_of (goes_on t).made ≡ 0)
    → reads_of (followed made stop s goes_on).made ≡ 0
followed-reads made (Some stop) s goes_on none more = none
followed-reads made None s goes_on none more =
    let rest = more s in reads_of-append made (goes_on s).made ∙ omega (arith, none, rest)

then-reads : (p : Part) (goes_on : Seen → Part) → reads_of p.made ≡ 0 → ((t : Seen) → reads_of (goes_on t).made ≡ 0) → reads_of (then_part p goes_on).made ≡ 0
then-reads p goes_on none more = followed-reads p.made p.stop p.after goes_on none more

prints-reads : (w : Want) (s : Seen) → reads_of (prints w s) ≡ 0
prints-reads (want.Console byte) s = refl
prints-reads w s = refl

replied-reads : (u : UnitName) (stop : Option Stop) (answer : Result Got NoAnswer) (s : Seen) → reads_of (replied u stop answer s).made ≡ 0
replied-reads u stop (Ok g) s = refl
replied-reads u stop (Err f) s = refl

own-reads : (fault : Option Failure) (u : UnitName) (s : Seen) → reads_of (own_service fault u s).made ≡ 0
unfolding own_service
own-reads fault u s =
    let w = want_at u s.machine in
    let made = prints w (with_machine s (asked u s.machine)) in
    let none = prints-reads (want_at u s.machine) (with_machine s (asked u s.machine)) in
    reads_of-append made _ ∙ ap (λ (n : ℕ). reads_of made + n) (replied-reads u (own_stop (key_at s) s.watch.expects w) (answer_to fault (attachment_at (attached_in s.machine) u) s.files (key_at s) w) (hosted fault u s)) ∙ omega (arith, none)

line-reads : (u : UnitName) (l : Lined) (s : Seen) → reads_of (line_service u l s).made ≡ 0
unfolding line_service
line-reads u l s =
    let made = sends {S = Seen} l.sent in
    let none = sends-reads l.sent in
    reads_of-append made _ ∙ ap (λ (n : ℕ). reads_of made + n) (replied-reads u l.stop (Ok l.got) (behind_line u l s)) ∙ omega (arith, none)

service-reads : (fault : Option Failure) (u : UnitName) (s : Seen) → reads_of (service fault u s).made ≡ 0
service-reads fault u s = each-service (λ p. reads_of p.made ≡ 0) fault u s (own-reads fault u s) (λ l is. line-reads u l s)

tested-reads : (s : Seen) → reads_of (breaks_tested s).made ≡ 0
unfolding breaks_tested
tested-reads s = refl

-- nothing is read in a part
abbrev ReadsNothing : Seen → Part → Type 0
ReadsNothing s p = reads_of p.made ≡ 0

runs-read_nothing : OfRuns ReadsNothing
runs-read_nothing = record {
  turn = record {
    pieces = record {
      services = record {
        none = λ s. refl;
        both = λ s p goes_on first more. then-reads p goes_on first more;
        one = λ fault u s. service-reads fault u (taken s);
      };
      interrupted = λ s. refl;
      tested = tested-reads;
    };
    fetched = λ s. refl;
  };
  over = λ s stop limit. refl;
}

pub run-reads : (note : Option RunNote) (step : Bool) (count : ℕ) (s : Seen) → reads_of (run note step count s).made ≡ 0
run-reads note step count s = walk-run ReadsNothing runs-read_nothing note step count s
