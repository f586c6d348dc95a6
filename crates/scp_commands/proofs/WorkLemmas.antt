-- Commands on files do what they do, whatever their files hold.
use Rattle.std.proofs.Common.{◌≡◌, true, Err, inl, sym, ◌∙◌, subst}
use Rattle.file_traits.specs.State.{FileState}
use Rattle.scp_parser.specs.Command.{Request, Attach, Do, Load, Dump, Save, Restore}
use Rattle.command_session.specs.declared.fault.CommandFault.TheVariants.{OutOfMemory}
use Rattle.command_session.specs.Live.{CommandState}
use Rattle.command_session.specs.Reply.{Answer}
use Rattle.command_session.specs.Nature.{IsUntold}
use Rattle.command_session.specs.FileWorks.{AttachWorks, LoadWorks}
use Rattle.command_session.specs.Remains.{MachineRemains}
use Rattle.nova_machine.specs.Machine.{MachineState}
use Rattle.scp_commands.specs.Works.{Works}

-- ---- every command

-- the command that a line asks for
pub works-as : (r r' : Request) (a : Answer) (s t : CommandState) (old new : FileState) → r ≡ r' → Works r' a s t old new → Works r a s t old new
works-as r r' a s t old new is h = subst (λ (x : Request). Works x a s t old new) (sym is) h

-- none of the others is one on a file
pub untold-works : (r : Request) (a : Answer) (s t : CommandState) (old new : FileState) → IsUntold r → Works r a s t old new
untold-works (Attach option unit name) a s t old new untold = absurd (cc untold.0)
untold-works (Do echo strict name arguments) a s t old new untold = absurd (cc untold.0)
untold-works (Load name) a s t old new untold = absurd (cc untold.0)
untold-works (Dump from to name) a s t old new untold = absurd (cc untold.0)
untold-works (Save name) a s t old new untold = absurd (cc untold.0)
untold-works (Restore force name) a s t old new untold = absurd (cc untold.0)
untold-works r a s t old new untold = tt

-- where there is no room for notes nothing is done
pub none-works : (r : Request) (s t : CommandState) (state : FileState) → t.machine ≡ s.machine → t.watch ≡ s.watch → Works r (Err OutOfMemory) s t state state
none-works (Attach option unit name) s t state machine watch = (machine, watch)
none-works (Do echo strict name arguments) s t state machine watch = (tt, machine, watch)
none-works (Load name) s t state machine watch = (machine, watch)
none-works (Dump from to name) s t state machine watch = (machine, watch)
none-works (Save name) s t state machine watch = (inl machine, watch)
none-works (Restore force name) s t state machine watch = tt
none-works r s t state machine watch = tt

-- the room for notes is no part of it
pub works-in-room : (r : Request) (a : Answer) (s room t : CommandState) (old new : FileState) → room.machine ≡ s.machine → room.watch ≡ s.watch → Works r a room t old new → Works r a s t old new
works-in-room (Attach option unit name) a s room t old new machine watch h =
    (subst (λ (m : MachineState). AttachWorks option unit name a m t.machine) machine h.0, h.1 ∙ watch)
works-in-room (Do echo strict name arguments) a s room t old new machine watch h = (h.0, h.1 ∙ machine, h.2 ∙ watch)
works-in-room (Load name) a s room t old new machine watch h = (subst (λ (m : MachineState). LoadWorks a m t.machine old new) machine h.0, h.1 ∙ watch)
works-in-room (Dump from to name) a s room t old new machine watch h = (h.0 ∙ machine, h.1 ∙ watch)
works-in-room (Save name) a s room t old new machine watch h = (subst (λ (m : MachineState). MachineRemains true m t.machine) machine h.0, h.1 ∙ watch)
works-in-room (Restore force name) a s room t old new machine watch h = h
works-in-room r a s room t old new machine watch h = tt
