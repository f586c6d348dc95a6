use Rattle.std.proofs.Common.{◌∙◌, ap, ℕ, Bool, List, slice_get, is_some}
use Rattle.host_lines.specs.declared.mem_lines.Given.{Given}
use Rattle.host_lines.specs.State.{without_one}
use Rattle.host_lines.specs.MemLines.{MemState, state_of, peer_at, stands_at}
use Rattle.host_lines.proofs.Connections.{stands_ended, given_ended, peers_ended}
use Rattle.host_lines.proofs.mem_lines.MemLinesLines.hang_up.Goals as goal

pub returns-clause-stands : goal.returns-clause-stands
returns-clause-stands c =
    ap {B = ℕ → Bool} (λ (given : List Given) (k : ℕ). stands_at (slice_get given k)) c.end.ensures.given
    ∙ stands_ended c.self.inside.given.items c.args.conn.0
    ∙ ap (λ (m : MemState). without_one c.args.conn.0 (state_of m).stands) c.self.view_is

pub returns-clause-given : goal.returns-clause-given
returns-clause-given c =
    ap {B = ℕ → Bool} (λ (given : List Given) (k : ℕ). is_some (slice_get given k)) c.end.ensures.given
    ∙ given_ended c.self.inside.given.items c.args.conn.0
    ∙ ap (λ (m : MemState). (state_of m).given) c.self.view_is

pub returns-clause-peers : goal.returns-clause-peers
returns-clause-peers c = λ other apart.
    ap (λ (given : List Given). peer_at (slice_get given other)) c.end.ensures.given
    ∙ peers_ended c.self.inside.given.items c.args.conn.0 other apart
    ∙ ap (λ (m : MemState). peer_at (slice_get m.given other)) c.self.view_is
