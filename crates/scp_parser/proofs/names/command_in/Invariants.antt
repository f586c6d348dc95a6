use Rattle.std.proofs.Common.{◌≡◌, drop, map}
use Rattle.scp_parser.specs.Names.{row, command_in}
use Rattle.scp_parser.proofs.names.command_in.Given as goal

-- no row before this place is named
abbrev pub invariant-loop-row : goal.invariant-loop-row
invariant-loop-row l =
    command_in (map (λ r. row r.0.now r.1 r.2) (drop l.row-index l.rows)) l.word ≡ command_in (map (λ r. row r.0.now r.1 r.2) l.rows) l.word
