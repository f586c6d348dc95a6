-- The console has what it had, and more behind it.
use Rattle.std.proofs.Common.{◌≡◌, ℕ, Bool, IsTrue, List, [], ◌++◌, take, refl, sym, ◌∙◌, ap, append_assoc, append-nil, Result, Ok, Err}
use Rattle.file_traits.specs.Streams.{Puts}
use Rattle.observations.specs.Observations.{text_of}
use Rattle.file_commands.specs.Notes.{CommandNote, Note}
use Rattle.nova_machine.specs.Comes.{Output}
use Rattle.command_session.specs.declared.fault.CommandFault.TheVariants.{Console, OutOfMemory}
use Rattle.command_session.specs.Live.{Live, Standing}
use Rattle.command_session.specs.Reply.{Answer, Reply}
use Rattle.command_session.specs.Doing.{Grows, Does, Did}

pub grows-same : (tells : Bool) (before after : List ℕ) → after ≡ before → Grows tells before after
grows-same tells before after same = λ told. ([], same ∙ sym (append-nil before))

pub grows-both : (tells : Bool) (before mid after : List ℕ) → Grows tells before mid → Grows tells mid after → Grows tells before after
grows-both tells before mid after first last = λ told.
    let one = first told in
    let two = last told in
    (one.0 ++ two.0, two.1 ∙ ap (λ (t : List ℕ). t ++ two.0) one.1 ∙ append_assoc before one.0 two.0)

-- where a text was printed, or a byte of it was refused
pub grows-put : {T E : Type 0} (tells : Bool) (before text : List ℕ) (printed : Result T E) (after : List ℕ)
    → (IsTrue tells → Puts before text printed after) → Grows tells before after
grows-put tells before text (Ok u) after puts = λ told. (text, puts told)
grows-put tells before text (Err e) after puts = λ told. (take (puts told).0 text, (puts told).2)

pub grows-done : (reply : Reply) (answer : Answer) (at : Standing) (tells : Bool) (before after : Output)
    → (answer ≡ Err OutOfMemory → after.console ≡ before.console) → Does reply answer at tells before after → Grows tells before.console after.console
grows-done reply (Err Console) at tells before after want does = λ told. ((does.told told).taken, (does.told told).written)
grows-done reply (Err OutOfMemory) at tells before after want does = grows-same tells before.console after.console (want refl)
grows-done reply answer at tells before after want does = λ told. (text_of reply.made, does.1.written told)

-- a command was done; where memory ran out in it, nothing was printed
pub grows-did : (reply : List CommandNote → Reply) (number : ℕ) (answer : Answer) (new : Live) (tells : Bool) (before after : Output) (notes notes' : List Note)
    → (answer ≡ Err OutOfMemory → after.console ≡ before.console) → Did reply number answer new tells before after notes notes'
    → Grows tells before.console after.console
grows-did reply number answer new tells before after notes notes' want did =
    grows-done (reply (did.own ++ [])) answer _ tells before after want (did.does [] tt)
