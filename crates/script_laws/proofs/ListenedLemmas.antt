-- A session whose next text has listened on ports, and for which memory ran out then, stands as every one does.
use Rattle.std.proofs.Common.{ap, sym, subst}
use Rattle.host_lines.specs.Traffic.{Replied}
use Rattle.nova_machine.specs.Valid.{ValidAhead}
use Rattle.command_session.specs.Live.{Live}
use Rattle.command_laws.specs.Valid.{ValidLive}
use Rattle.command_laws.proofs.RowLines.{valid-each}
use Rattle.command_laws.proofs.ValidEffect.{ahead-live}
use Rattle.scp_script.specs.Session.{Upcoming, Ends, Comes}
use Rattle.scp_script.specs.Loop.{HasListened, HasListenedAt}

-- ---- what stands then

listened-valid : (old new : Live) → ValidLive old → HasListened old new → ValidLive new
listened-valid old new is h =
    subst ValidLive (sym h.all)
    (ahead-live old new.ahead is (subst ValidAhead (ap (λ (r : Replied). r.ahead) h.listened) (valid-each h.ports old.ahead is.valid.ahead)))

pub listened-at-valid : (u : Upcoming) (old new : Live) → ValidLive old → HasListenedAt u old new → ValidLive new
listened-at-valid (Ends end) old new is h = absurd h
listened-at-valid (Comes text behind) old new is h = listened-valid old new is h.1
