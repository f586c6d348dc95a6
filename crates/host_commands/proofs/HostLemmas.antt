-- What a command of the host comes to, by what it asks for.
use Rattle.std.proofs.Common.{◌≡◌, ℕ, Bool, List, ap, sym, ◌∙◌, subst}
use Rattle.file_traits.specs.State.{FileState}
use Rattle.file_commands.specs.declared.note.FaultNote.{FaultNote}
use Rattle.file_commands.specs.Notes.{CommandNote, Note}
use Rattle.scp_parser.specs.Command.{Request}
use Rattle.nova_machine.specs.Comes.{Output}
use Rattle.command_session.specs.Live.{Live, standing}
use Rattle.command_session.specs.Reply.{Answer, Reply}
use Rattle.command_session.specs.Doing.{Does, Did, CommandOpens, opens_of, KeepsAs}
use Rattle.command_session.proofs.DidLemmas.{did-of}
use Rattle.host_commands.specs.HostEffect.{host_effect}

-- a request that keeps no note
pub plain-did : (number : ℕ) (live new : Live) (request other : Request) (r : Reply) (answer : Answer) (tells : Bool) (before after : Output) (notes notes' : List Note)
    → request ≡ other → ((own : List CommandNote) → host_effect own live other ≡ r) → notes' ≡ notes → Does r answer (standing 0 new) tells before after
    → Did (λ (own : List CommandNote). host_effect own live request) number answer new tells before after notes notes'
plain-did number live new request other r answer tells before after notes notes' is comes none does =
    did-of (λ (own : List CommandNote). host_effect own live request) r number answer new tells before after notes notes'
    (λ own. ap (λ (x : Request). host_effect own live x) is ∙ comes own) none does

-- one that may keep some
pub noted-did : (number : ℕ) (live new : Live) (request other : Request) (reply : List CommandNote → Reply) (answer : Answer) (tells : Bool) (before after : Output) (notes notes' : List Note)
    → request ≡ other → ((own : List CommandNote) → host_effect own live other ≡ reply own) → Did reply number answer new tells before after notes notes'
    → Did (λ (own : List CommandNote). host_effect own live request) number answer new tells before after notes notes'
noted-did number live new request other reply answer tells before after notes notes' is comes did =
    subst (λ (r : List CommandNote → Reply). Did r number answer new tells before after notes notes')
    (λ i own. sym (ap (λ (x : Request). host_effect own live x) is ∙ comes own) i) did

-- the notes of a command, by what it opens
pub kept-as : (opens : CommandOpens) (r : Request) (number time : ℕ) (tells : Bool) (answer : Answer) (notes notes' : List FaultNote) (old new : FileState) → opens_of r ≡ opens
    → KeepsAs opens number time tells answer notes notes' old new → KeepsAs (opens_of r) number time tells answer notes notes' old new
kept-as opens r number time tells answer notes notes' old new is keeps =
    subst (λ (x : CommandOpens). KeepsAs x number time tells answer notes notes' old new) (sym is) keeps
