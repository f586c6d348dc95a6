-- DO, GOTO, ECHO and ASSERT (SIMH Users' Guide, "Executing Command Files").
use Rattle.std.specs.Prelude.{ℕ, Bool, true, false, List, [], ◌∷◌, ◌++◌, Result, Ok, Err, if◌then◌else◌}
use Rattle.nova_machine.specs.Machine.{MachineState}
use Rattle.operand_forms.specs.declared.listing.Test.{Test}
use Rattle.scp_examine.specs.declared.fault.ExamineFault.{ExamineFault}
use Rattle.scp_examine.specs.Effect.{tested}
use Rattle.command_session.specs.declared.next.Next.TheVariants.{Go, Goto}
use Rattle.command_session.specs.declared.fault.CommandFault.TheVariants.{AssertFailed, NoSuchName}
use Rattle.command_session.specs.Live.{Live, standing}
use Rattle.command_session.specs.Reply.{Answer, Reply, says}
use Rattle.plain_commands.specs.ListFaults.{list_fault}
use Rattle.plain_commands.specs.ListEffects.{lacks_device}

-- ECHO prints its text and a newline
unfoldable pub echo_reply : Live → List ℕ → Reply
echo_reply live text = says (text ++ 10 ∷ []) live

-- what a test that came to that is answered with
abbrev pub test_answer : Result Bool ExamineFault → Answer
test_answer (Ok true) = Ok Go
test_answer (Ok false) = Err AssertFailed
test_answer (Err fault) = Err (list_fault fault)

abbrev pub assert_answer : MachineState → Test → Answer
assert_answer m test = if lacks_device m test.device then Err NoSuchName else test_answer (tested m test)

-- ASSERT is refused where its condition is false, and goes on where it is true. It prints nothing and changes nothing.
unfoldable pub assert_reply : Live → Test → Reply
assert_reply live test = record { made = []; answer = assert_answer live.machine test; after = standing 0 live }

-- ---- DO and GOTO

-- GOTO leaves it to who asked for it to find the label
abbrev pub goto_reply : Live → Reply
goto_reply live = record { made = []; answer = Ok Goto; after = standing 0 live }
