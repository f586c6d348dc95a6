-- What a call comes to that does a command: what it printed, and what it left.
use Rattle.std.proofs.Common.{◌≡◌, inl, ℕ, Bool, IsTrue, List, [], ◌∷◌, ◌++◌, take, length, refl, ap, sym, ◌∙◌, subst, append_assoc, append-nil, Result, Ok, Err}
use Rattle.file_traits.specs.Streams.{AddsPart, Puts}
use Rattle.observations.specs.Observations.{Observation, Prints, text_of, sent_of}
use Rattle.observations.proofs.MadeLemmas.{text_of-append, sent_of-append, stands-behind}
use Rattle.observations.proofs.CutLemmas.{breaks-behind, breaks-here, here-sent, behind-sent}
use Rattle.file_commands.specs.Notes.{CommandNote, Note}
use Rattle.nova_machine.specs.Comes.{Output}
use Rattle.nova_machine.specs.LineChanges.{heard_with}
use Rattle.nova_machine.proofs.Hearing.{heard-nothing}
use Rattle.command_session.specs.declared.next.Next.TheVariants.{Go, Ran}
use Rattle.command_session.specs.declared.fault.CommandFault.{CommandFault}
use Rattle.command_session.specs.declared.fault.CommandFault.TheVariants.{Console, OutOfMemory}
use Rattle.command_session.specs.Live.{Live, Standing, standing}
use Rattle.command_session.specs.Reply.{Answer, Reply, goes, says, refused}
use Rattle.command_session.specs.Doing.{IsSaid, IsBrokenOff, Does, Did, IsPlain, told_or_console}

-- one text was printed, with the place that is left
pub text-said : (text : List ℕ) (answer : Answer) (at : Standing) (tells : Bool) (before after : Output) → (IsTrue tells → after.console ≡ before.console ++ text) → after.heard ≡ before.heard
    → IsSaid (record { made = Prints text at ∷ []; answer = answer; after = at }) at tells before after
text-said text answer at tells before after written heard = record {
  after_is = refl;
  written = λ told. written told ∙ ap (λ t. before.console ++ t) (sym (append-nil text));
  heard = heard ∙ sym (heard-nothing before.heard);
}

-- a byte of one text was refused
pub text-refused : (text : List ℕ) (answer : Answer) (at : Standing) (tells : Bool) (before after : Output) → (IsTrue tells → AddsPart before.console text after.console) → after.heard ≡ before.heard
    → IsBrokenOff (record { made = Prints text at ∷ []; answer = answer; after = at }) at tells before after
text-refused text answer at tells before after part heard = record {
  stands = inl refl;
  told = λ told.
      let (n, short, added) = part told in
      record {
        taken = take n text;
        written = added;
        breaks = breaks-here text at [] n short;
        heard = heard ∙ sym (ap (heard_with before.heard) (here-sent text at [] n short) ∙ heard-nothing before.heard);
      };
}

-- a text was printed behind what was made before it
pub behind-said : (made : List (Observation Standing)) (text : List ℕ) (answer : Answer) (at : Standing) (tells : Bool) (before mid after : Output)
    → (IsTrue tells → mid.console ≡ before.console ++ text_of made) → mid.heard ≡ heard_with before.heard (sent_of made)
    → (IsTrue tells → after.console ≡ mid.console ++ text) → after.heard ≡ mid.heard
    → IsSaid (record { made = made ++ Prints text at ∷ []; answer = answer; after = at }) at tells before after
behind-said made text answer at tells before mid after first sent second heard = record {
  after_is = refl;
  written = λ told.
      second told ∙ ap (λ (t : List ℕ). t ++ text) (first told) ∙ append_assoc before.console (text_of made) text
      ∙ ap (λ (t : List ℕ). before.console ++ (text_of made ++ t)) (sym (append-nil text)) ∙ ap (λ (t : List ℕ). before.console ++ t) (sym (text_of-append made (Prints text at ∷ [])));
  heard =
      heard ∙ sent ∙ ap (heard_with before.heard) (sym (append-nil (sent_of made)))
      ∙ ap (heard_with before.heard) (sym (sent_of-append made (Prints text at ∷ [])));
}

-- a byte of it was refused
pub behind-refused : (made : List (Observation Standing)) (text : List ℕ) (answer : Answer) (at : Standing) (tells : Bool) (before mid after : Output)
    → (IsTrue tells → mid.console ≡ before.console ++ text_of made) → mid.heard ≡ heard_with before.heard (sent_of made)
    → (IsTrue tells → AddsPart mid.console text after.console) → after.heard ≡ mid.heard
    → IsBrokenOff (record { made = made ++ Prints text at ∷ []; answer = answer; after = at }) at tells before after
behind-refused made text answer at tells before mid after first sent part heard = record {
  stands = stands-behind at made (Prints text at ∷ []) (inl refl);
  told = λ told.
      let (n, short, added) = part told in
      record {
        taken = text_of made ++ take n text;
        written = added ∙ ap (λ (t : List ℕ). t ++ take n text) (first told) ∙ append_assoc before.console (text_of made) (take n text);
        breaks = breaks-behind made (Prints text at ∷ []) (take n text) at (breaks-here text at [] n short);
        heard =
            heard ∙ sent ∙ ap (heard_with before.heard) (sym (append-nil (sent_of made)))
            ∙ ap (λ (l : List (ℕ × ℕ)). heard_with before.heard (sent_of made ++ l)) (sym (here-sent text at [] n short))
            ∙ ap (heard_with before.heard) (sym (behind-sent made (Prints text at ∷ []) (take n text) at (breaks-here text at [] n short)));
      };
}

-- one text was printed, or a byte of it refused
pub says-does : {T E : Type 0} (text : List ℕ) (live : Live) (printed : Result T E) (answer : Answer) (tells : Bool) (before after : Output) → answer ≡ told_or_console printed Go
    → (IsTrue tells → Puts before.console text printed after.console) → after.heard ≡ before.heard → Does (says text live) answer (standing 0 live) tells before after
says-does {T} {E} text live printed answer tells before after is puts heard =
    subst (λ (a : Answer). Does (says text live) a (standing 0 live) tells before after) (sym is) (by-printed printed puts)
  where
    by-printed : (printed : Result T E) → (IsTrue tells → Puts before.console text printed after.console) → Does (says text live) (told_or_console printed Go) (standing 0 live) tells before after
    by-printed (Ok x) puts = (refl, text-said text (Ok Go) (standing 0 live) tells before after puts heard)
    by-printed (Err e) puts = text-refused text (Ok Go) (standing 0 live) tells before after puts heard

-- a command that prints nothing, takes no memory and does not answer for the console

pub silent-does : (reply : Reply) (answer : Answer) (at : Standing) (tells : Bool) (text : Output) → IsPlain reply.answer → answer ≡ reply.answer → at ≡ reply.after → reply.made ≡ []
    → Does reply answer at tells text text
silent-does reply answer at tells text plain is after none = by-answer answer (subst (λ (a : Answer). IsPlain a) (sym is) plain) is
  where
    said : IsSaid reply at tells text text
    said = record {
      after_is = after;
      written = λ _. sym (ap (λ l. text.console ++ text_of l) none ∙ append-nil text.console);
      heard = sym (ap (λ l. heard_with text.heard (sent_of l)) none ∙ heard-nothing text.heard);
    }

    by-answer : (a : Answer) → IsPlain a → a ≡ reply.answer → Does reply a at tells text text
    by-answer (Ok (Ran stop)) plain is = absurd plain
    by-answer (Err Console) plain is = absurd plain
    by-answer (Err OutOfMemory) plain is = absurd plain
    by-answer (Ok next) plain is = (is, said)
    by-answer (Err fault) plain is = (is, said)

-- a command that is refused prints nothing
pub refused-said : (fault : CommandFault) (live : Live) (tells : Bool) (text : Output) → IsSaid (refused fault live) (standing 0 live) tells text text
refused-said fault live tells text = record { after_is = refl; written = λ _. sym (append-nil text.console); heard = sym (heard-nothing text.heard) }

pub goes-said : (live : Live) (tells : Bool) (text : Output) → IsSaid (goes live) (standing 0 live) tells text text
goes-said live tells text = record { after_is = refl; written = λ _. sym (append-nil text.console); heard = sym (heard-nothing text.heard) }

-- ---- the notes of a command

-- a command that keeps no note, and comes to the same whatever notes it is handed
pub did-without : (reply : List CommandNote → Reply) (r : Reply) (number : ℕ) (answer : Answer) (new : Live) (tells : Bool) (before after : Output) (notes : List Note)
    → ((given : List CommandNote) → reply given ≡ r) → Does r answer (standing 0 new) tells before after → Did reply number answer new tells before after notes notes
did-without reply r number answer new tells before after notes same does = record {
  own = [];
  kept = sym (append-nil notes);
  does = λ behind come. subst (λ (x : Reply). Does x answer (standing 0 new) tells before after) (sym (same behind)) does;
}

-- two definitions that come to the same
pub did-same : (reply other : List CommandNote → Reply) (number : ℕ) (answer : Answer) (new : Live) (tells : Bool) (before after : Output) (notes notes' : List Note)
    → ((given : List CommandNote) → other given ≡ reply given) → Did reply number answer new tells before after notes notes' → Did other number answer new tells before after notes notes'
did-same reply other number answer new tells before after notes notes' same did = record {
  own = did.own;
  kept = did.kept;
  does = λ behind come.
      subst (λ (x : Reply). Does x answer (standing (length did.own) new) tells before after) (sym (same (did.own ++ behind))) (did.does behind come);
}
