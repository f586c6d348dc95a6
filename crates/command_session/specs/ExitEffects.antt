-- EXIT, QUIT and BYE.
use Rattle.std.specs.Prelude.{ℕ, nat_le, Bool, List, Option, unwrap_or, if◌then◌else◌}
use Rattle.file_commands.specs.Notes.{CommandNote}
use Rattle.command_session.specs.declared.next.Next.TheVariants.{Exit}
use Rattle.command_session.specs.declared.fault.CommandFault.TheVariants.{OutOfRange}
use Rattle.command_session.specs.Live.{Live}
use Rattle.command_session.specs.Reply.{Reply, refused}
use Rattle.command_session.specs.FileEffects.{emptied_all, emptied_reply}

-- the status of an EXIT is 0 to 99, and 0 where none is given
abbrev pub status_fits : Option ℕ → Bool
status_fits status = nat_le (unwrap_or status 0) 99

-- All units lose their files before the session ends, and where one has kept its file, the session goes on.
unfoldable pub exit_reply : List CommandNote → Live → Option ℕ → Reply
exit_reply notes live status =
    if status_fits status then emptied_reply (Exit (unwrap_or status 0)) (emptied_all notes live) live
    else refused OutOfRange live
