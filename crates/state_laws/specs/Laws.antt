-- What was saved of a session is put back, and is valid.
use Rattle.std.specs.Prelude.{◌≡◌, ◌≢◌, ℕ, List, length, Some, None, IfOk, Ok}
use Rattle.host_lines.specs.Traffic.{Answer}
use Rattle.host_lines.specs.State.{LineState}
use Rattle.telnet_lines.specs.Line.{LineOf, IsSettled}
use Rattle.telnet_lines.specs.Joined.{seen_line}
use Rattle.unit_list.specs.Bus.{kinds_of}
use Rattle.nova_machine.specs.Machine.{MachineState}
use Rattle.nova_machine.specs.Seen.{Seen, erased, Beside, seen}
use Rattle.state_text.specs.Reading.{reading}
use Rattle.state_text.specs.Text.{IsTextOf}
use Rattle.saved_session.specs.Valid.{Valid, Fits}
use Rattle.state_transfer.specs.PutBack.{put_back, IsIdleLine, CanBeSaved}
use Rattle.state_transfer.specs.SavedValid.{IsStandard}
use Rattle.state_transfer.specs.Session.{saved}

-- What was saved is put back.
pub record SavingPutsBack : Type 0 where
  -- into a session whose files have the same bytes and whose machine has units of the same kinds and as many lines: then
  -- all but the keys and what is still to come on lines is as it was saved, the rule of the auto-index locations and the
  -- ports of all lines too
  pub back : (s present : Seen) → CanBeSaved s → present.files ≡ s.files → kinds_of present.machine.units ≡ kinds_of s.machine.units
      → length present.lines ≡ length s.lines → put_back (saved s) present ≡ record s { keys = present.keys; ahead = present.ahead }
  -- of the premises of that: every machine is seen without numbers of files and without its lines
  pub seen : (b : Beside) (whole : List Answer) (m : MachineState)
      → erased (seen b whole m).machine ≡ (seen b whole m).machine
  -- and a settled line to which nobody is connected is one that can be saved, where its port is not 0
  pub idle : (s : LineState) (line : LineOf ℕ) → IsSettled line → line.connection ≡ None → line.port ≢ Some 0
      → IsIdleLine (seen_line s line)

-- What is saved of such a session is valid. So it has a text, and one in the first version where that can tell it; each is
-- read as that and nothing else, and what is read of it puts the session back.
pub record SavedIsValid : Type 0 where
  pub valid : (s : Seen) → IsStandard s → Valid (saved s)
  pub fits : (s : Seen) → IsStandard s → Fits (saved s)
  pub read : (bytes : List ℕ) (s : Seen) → IsStandard s → IsTextOf (saved s) bytes → reading bytes ≡ Ok (saved s)
  pub restored : (bytes : List ℕ) (s present : Seen) → IsStandard s → IsTextOf (saved s) bytes → CanBeSaved s → present.files ≡ s.files
      → kinds_of present.machine.units ≡ kinds_of s.machine.units → length present.lines ≡ length s.lines
      → IfOk (reading bytes)
      (λ v. put_back v present ≡ record s { keys = present.keys; ahead = present.ahead })
