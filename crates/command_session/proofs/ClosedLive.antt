-- What is left where the ports of the terminal lines were given up.
use Rattle.std.proofs.Common.{◌≡◌, ℕ, List}
use Rattle.file_traits.specs.Lists.{NamedBytes}
use Rattle.host_lines.specs.Traffic.{Answer as LineAnswer}
use Rattle.host_lines.specs.Told.{ahead_of}
use Rattle.host_lines.specs.State.{LineState}
use Rattle.telnet_lines.specs.Line.{LineOf}
use Rattle.expect_actions.specs.Watch.{WatchState}
use Rattle.nova_machine.specs.Machine.{MachineState}
use Rattle.nova_machine.specs.Seen.{seen, beside}
use Rattle.command_session.specs.LineEffects.{every_row, unported}
use Rattle.command_session.specs.LinesLeft.{SeenAs}

-- they are given up behind the files of units
pub unported-live : (watch : WatchState) (keys : List (ℕ × ℕ)) (files : List NamedBytes) (whole : List LineAnswer) (m : MachineState) (old new : LineState) (after : List (LineOf ℕ)) → SeenAs (unported every_row) old m.lines new after
    → seen (beside watch keys files new) whole (record m { lines = after })
    ≡ record (seen (beside watch keys files old) whole m) { lines = unported every_row (seen (beside watch keys files old) whole m).lines }
unported-live watch keys files whole m old new after shown =
    let live = seen (beside watch keys files old) whole m in
    λ i. record live { lines = shown.lines i; ahead = ahead_of (shown.told i) whole }
