-- What a session is into which a valid state was put back.
use Rattle.std.specs.Prelude.{◌≤◌}
use Rattle.nova_machine.specs.Run.{last_time}
use Rattle.nova_machine.specs.Seen.{Seen}
use Rattle.nova_machine.specs.Valid.{Valid as ValidSeen, DiskIsItsFile}
use Rattle.saved_session.specs.Parts.{State}
use Rattle.saved_session.specs.Valid.{Valid}
use Rattle.state_transfer.specs.PutBack.{put_back}
use Rattle.state_transfer.specs.SavedValid.{AreStandard}

-- All is in range, where it was so before. Time has not passed its end, the units are those of a standard machine, and
-- what the disk holds of its file is what is in it.
pub record PutBackIsValid : Type 0 where
  pub valid : (v : State) (present : Seen) → Valid v → ValidSeen present → ValidSeen (put_back v present)
  pub time : (v : State) (present : Seen) → Valid v → (put_back v present).machine.time ≤ last_time
  pub units : (v : State) (present : Seen) → Valid v → AreStandard (put_back v present).machine.units
  pub disk : (v : State) (present : Seen) → DiskIsItsFile (put_back v present)
