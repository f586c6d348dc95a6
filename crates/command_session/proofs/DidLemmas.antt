-- A command that keeps no note was done, whatever comes behind it.
use Rattle.std.proofs.Common.{◌≡◌, ℕ, Bool, List, [], Err, refl, sym, subst, ◌∙◌, append-nil}
use Rattle.file_commands.specs.Notes.{CommandNote, Note}
use Rattle.nova_machine.specs.Comes.{Output}
use Rattle.command_session.specs.declared.fault.CommandFault.{CommandFault}
use Rattle.command_session.specs.declared.fault.CommandFault.TheVariants.{Console, OutOfMemory}
use Rattle.command_session.specs.Live.{Live, standing}
use Rattle.command_session.specs.Reply.{Answer, Reply, refused}
use Rattle.command_session.specs.Doing.{Does, Did, IsPlain}
use Rattle.command_session.proofs.ReplyLemmas.{refused-said}

pub did-of : (reply : List CommandNote → Reply) (r : Reply) (number : ℕ) (answer : Answer) (new : Live) (tells : Bool) (before after : Output) (notes notes' : List Note)
    → ((own : List CommandNote) → reply own ≡ r) → notes' ≡ notes → Does r answer (standing 0 new) tells before after
    → Did reply number answer new tells before after notes notes'
did-of reply r number answer new tells before after notes notes' same none does = record {
  own = [];
  kept = none ∙ sym (append-nil notes);
  does = λ behind come. subst (λ (x : Reply). Does x answer (standing 0 new) tells before after) (sym (same behind)) does;
}

-- a command that was refused
pub refused-does : (fault : CommandFault) (live : Live) (tells : Bool) (text : Output) → IsPlain (Err fault)
    → Does (refused fault live) (Err fault) (standing 0 live) tells text text
refused-does Console live tells text plain = absurd plain
refused-does OutOfMemory live tells text plain = absurd plain
refused-does fault live tells text plain = (refl, refused-said fault live tells text)

pub refused-did : (reply : List CommandNote → Reply) (fault : CommandFault) (number : ℕ) (live : Live) (tells : Bool) (text : Output) (notes : List Note)
    → IsPlain (Err fault) → ((own : List CommandNote) → reply own ≡ refused fault live) → Did reply number (Err fault) live tells text text notes notes
refused-did reply fault number live tells text notes plain same =
    did-of reply (refused fault live) number (Err fault) live tells text text notes notes same refl (refused-does fault live tells text plain)

-- the same reply by another name
pub did-as : (reply other : List CommandNote → Reply) (number : ℕ) (answer : Answer) (new : Live) (tells : Bool) (before after : Output) (notes notes' : List Note)
    → ((own : List CommandNote) → reply own ≡ other own) → Did other number answer new tells before after notes notes' → Did reply number answer new tells before after notes notes'
did-as reply other number answer new tells before after notes notes' same did =
    subst (λ (r : List CommandNote → Reply). Did r number answer new tells before after notes notes') (λ i own. sym (same own) i) did

-- there was no memory for it
pub did-want : (reply : List CommandNote → Reply) (number : ℕ) (new : Live) (tells : Bool) (before after : Output) (notes notes' : List Note) → notes' ≡ notes
    → Did reply number (Err OutOfMemory) new tells before after notes notes'
did-want reply number new tells before after notes notes' none = record { own = []; kept = none ∙ sym (append-nil notes); does = λ behind come. tt }
