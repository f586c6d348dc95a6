-- A service, by whether what the unit wants is for a line that is there.
use Rattle.std.proofs.Common.{◌≡◌, List, [], ◌∷◌, Option, Some, None, refl, ap}
use Rattle.observations.specs.Observations.{reads_of, StandsAt}
use Rattle.host_lines.specs.declared.lines.Sent.{Sent}
use Rattle.unit_trait.specs.declared.kind.UnitName.{UnitName}
use Rattle.unit_files.specs.Acts.{Failure}
use Rattle.nova_machine.specs.Seen.{Seen}
use Rattle.nova_machine.specs.Parts.{Part}
use Rattle.nova_machine.specs.OnLines.{Lined, sends}
use Rattle.nova_machine.specs.Service.{own_service, line_service, service_by, lined_at, service}

-- what holds of the service that wants nothing of one, and of that on each line, holds of the service
pub each-service : (P : Part → Type 0) (fault : Option Failure) (u : UnitName) (s : Seen) → P (own_service fault u s)
    → ((l : Lined) → lined_at u s ≡ Some l → P (line_service u l s)) → P (service fault u s)
unfolding service
each-service P fault u s own line = by-line (lined_at u s) refl
  where
    by-line : (o : Option Lined) → lined_at u s ≡ o → P (service_by o fault u s)
    by-line None is = own
    by-line (Some l) is = line l is

-- it wants nothing of one
pub service-own : (fault : Option Failure) (u : UnitName) (s : Seen) → lined_at u s ≡ None → service fault u s ≡ own_service fault u s
unfolding service
service-own fault u s none = ap (λ (o : Option Lined). service_by o fault u s) none

-- nothing stands at bytes that are sent, and they are no reads
pub sends-nowhere : (sent : List Sent) (t : Seen) → ¬ StandsAt t (sends sent)
sends-nowhere [] t h = absurd h
sends-nowhere (b ∷ sent) t h = absurd h

pub sends-reads : (sent : List Sent) → reads_of (sends {S = Seen} sent) ≡ 0
sends-reads [] = refl
sends-reads (b ∷ sent) = refl
