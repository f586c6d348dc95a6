-- What the commands do that work on no file and no line.
use Rattle.std.specs.Prelude.{◌≡◌, ℕ, true, List, Ok, Err}
use Rattle.scp_parser.specs.Command.{Request, Examine, Deposit, Reset, Break, NoBreak, Expect, NoExpect, Send, NoSend, SetSize, SetAutobit, Show, Goto, Assert, Echo}
use Rattle.command_session.specs.declared.next.Next.TheVariants.{Ran}
use Rattle.command_session.specs.declared.fault.CommandFault.TheVariants.{PortFailed}
use Rattle.command_session.specs.Live.{Live, CommandState}
use Rattle.command_session.specs.Reply.{Answer, Reply, goes}
use Rattle.command_session.specs.Nature.{nature}
use Rattle.command_session.specs.Refusals.{IsUnrefused}
use Rattle.command_session.specs.RunEffects.{reset_reply}
use Rattle.command_session.specs.WatchEffects.{break_reply, no_break_reply, expect_reply, no_expect_reply, send_reply, no_send_reply}
use Rattle.plain_commands.specs.ListEffects.{examine_reply, deposit_reply}
use Rattle.plain_commands.specs.SetEffects.{set_size_reply, set_autobit_reply}
use Rattle.plain_commands.specs.ShowEffects.{show_reply}
use Rattle.plain_commands.specs.ScriptEffects.{goto_reply, echo_reply, assert_reply}

-- such a command; of the others it is not said here
abbrev pub untold_effect : Live → Request → Reply
untold_effect live (Examine l) = examine_reply live l
untold_effect live (Deposit l value) = deposit_reply live l value
untold_effect live Reset = reset_reply live
untold_effect live (Break at count actions) = break_reply live at count actions
untold_effect live (NoBreak at) = no_break_reply live at
untold_effect live (Expect count text actions) = expect_reply live count text actions
untold_effect live NoExpect = no_expect_reply live
untold_effect live (Send after delay text) = send_reply live after delay text
untold_effect live NoSend = no_send_reply live
untold_effect live (SetSize k) = set_size_reply live k
untold_effect live (SetAutobit before) = set_autobit_reply live before
untold_effect live (Show subject) = show_reply live subject
untold_effect live (Assert test) = assert_reply live test
untold_effect live (Echo text) = echo_reply live text
untold_effect live (Goto label) = goto_reply live
untold_effect live request = goes live

-- what each of them can answer: it runs nothing, and listens on no port
abbrev pub IsUntoldAnswer : Answer → Type 0
IsUntoldAnswer (Ok (Ran stop)) = ⊥
IsUntoldAnswer (Err PortFailed) = ⊥
IsUntoldAnswer answer = Unit {0}

-- Memory ran out in one that takes some: nothing was done, and it is refused for nothing else.
pub record WantedMemory (request : Request) (old new : CommandState) (before after : List ℕ) : Type 0 where
  pub takes : (nature request).takes_memory ≡ true
  pub undone : new ≡ old
  pub written : after ≡ before
  pub unrefused : IsUnrefused request old.machine old.watch
