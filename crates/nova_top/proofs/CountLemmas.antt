-- How many openings of the program have failed without a note, and how many ids it has given.
use Rattle.std.proofs.Common.{◌≡◌, ◌⊎◌, inl, inr, ℕ, ◌+◌, ◌≤◌, ◌&&◌, ◌||◌, not, Bool, true, false, IsTrue, List, [], ◌++◌, Ok, Err, Option, Some, None, is_some, refl, ap, sym, ◌∙◌, subst, arith}
use Rattle.file_traits.specs.State.{FileState}
use Rattle.whole_files.specs.Claims.{raised_by}
use Rattle.file_commands.specs.declared.note.FaultNote.{FaultNote}
use Rattle.file_commands.specs.Counts.{one_if, openings_noted}
use Rattle.file_commands.proofs.Adding.{openings-append, raised-both}
use Rattle.nova_machine.specs.Machine.{MachineState}
use Rattle.command_session.specs.Doing.{AllClosings}
use Rattle.scp_script.specs.Loop.{missed_for, given_for, AreKeptFor}
use Rattle.command_words.specs.declared.options.Options.{Options}
use Rattle.command_words.specs.Words.{options_of}
use Rattle.program_start.specs.declared.word_files.Beginning.{Beginning}
use Rattle.program_start.specs.declared.word_files.Refusal.{Refusal}
use Rattle.program_start.specs.declared.word_files.Refusal.TheVariants.{Unopened, BadKeys}
use Rattle.program_start.specs.declared.word_files.Refusal.TheVariants as refusal
use Rattle.program_start.specs.WordFiles.{AddsNoted, RefusalCause, denial_of, DeniedCause}
use Rattle.program_start.specs.WordCounts.{files_named, is_unopened, CountsWordFiles}
use Rattle.nova_top.specs.Ends.{missed_at_most, given_at_most, given_at_least, OpeningsAtEnd}

-- ---- words outside their grammar

pub no-openings : (tells : Bool) (words : List (List ℕ)) (status : ℕ) (machine : Option MachineState) (items : List FaultNote) (s : FileState) → options_of words ≡ None → items ≡ []
    → OpeningsAtEnd tells words status machine items s s
no-openings tells words status machine items s bad none = record {
  missed = 0;
  few = omega arith;
  unread = λ never one. absurd (omega (arith, one));
  openings = ap (λ (l : List FaultNote). raised_by (0 + openings_noted l) s.open_faults) (sym none);
  given = omega arith;
  opened = let least = ap (given_at_least (is_some machine)) bad in omega (arith, least);
}

-- ---- a file of the words that is refused

-- by its text, or the console refused a byte of that
refused-so : (words : List (List ℕ)) (why : Refusal) (tells : Bool) (status sink sink_now missed : ℕ) → missed ≤ one_if (is_unopened {T = Beginning} (Err why) && not tells) → 1 ≤ missed
    → DeniedCause (denial_of words why) status sink sink_now → (status ≡ 101) ⊎ (status ≡ 102)
refused-so words (Unopened place) tells status sink sink_now missed few one (inl printed) = inl printed.0
refused-so words (Unopened place) tells status sink sink_now missed few one (inr refused) = inr refused.0
refused-so words (BadKeys place) tells status sink sink_now missed few one cause = absurd (omega (arith, few, one))
refused-so words refusal.OutOfMemory tells status sink sink_now missed few one cause = absurd (omega (arith, few, one))

one-only : (b tells : Bool) → one_if (b && not tells) ≤ 1
one-only true true = omega arith
one-only true false = omega arith
one-only false tells = omega arith

-- it is one that the words name
named-so : (keys script tells : Bool) → IsTrue keys ⊎ IsTrue script → one_if ((keys || script) && not tells) ≡ one_if (not tells)
named-so true script tells named = refl
named-so false true tells named = refl
named-so false false tells (inl named) = absurd (cc named)
named-so false false tells (inr named) = absurd (cc named)

few-refused : (words : List (List ℕ)) (options : Options) (why : Refusal) (tells : Bool) (missed : ℕ) → RefusalCause words options why
    → missed ≤ one_if (is_unopened {T = Beginning} (Err why) && not tells) → missed ≤ one_if ((is_some options.keys || is_some options.script) && not tells)
few-refused words options (Unopened place) tells missed cause few =
    let named = named-so (is_some options.keys) (is_some options.script) tells cause.1 in
    omega (arith, few, named)
few-refused words options (BadKeys place) tells missed cause few = omega (arith, few)
few-refused words options refusal.OutOfMemory tells missed cause few = omega (arith, few)

pub refused-openings : (tells : Bool) (words : List (List ℕ)) (options : Options) (why : Refusal) (status sink sink_now : ℕ) (machine : Option MachineState) (notes items : List FaultNote) (old new : FileState)
    → options_of words ≡ Some options → machine ≡ None → items ≡ notes → RefusalCause words options why → DeniedCause (denial_of words why) status sink sink_now
    → AddsNoted [] notes old new → CountsWordFiles {T = Beginning} tells (files_named options) (Err why) [] notes old new → OpeningsAtEnd tells words status machine items old new
refused-openings tells words options why status sink sink_now machine notes items old new chosen never same cause denied keeps x =
    let there : is_some machine ≡ false = ap is_some never in
    let are : items ≡ x.more = same ∙ x.added in
    let most : missed_at_most tells (is_some machine) (options_of words) ≡ one_if ((is_some options.keys || is_some options.script) && not tells) =
    ap (λ (b : Bool). missed_at_most tells b (options_of words)) there ∙ ap (missed_at_most tells false) chosen in
    let given : given_at_most (is_some machine) (options_of words) ≡ files_named options = ap (λ (b : Bool). given_at_most b (options_of words)) there ∙ ap (given_at_most false) chosen in
    let least : given_at_least (is_some machine) (options_of words) ≡ 0 = ap (λ (b : Bool). given_at_least b (options_of words)) there ∙ ap (given_at_least false) chosen in
    let few = few-refused words options why tells x.missed cause x.few in
    let ids = x.ids in
    let later = keeps.exact.ids in
    record {
      missed = x.missed;
      few = omega (arith, few, most);
      unread = λ none one.
          let only = one-only (is_unopened {T = Beginning} (Err why)) tells in
          let at_most = x.few in (
            refused-so words why tells status sink sink_now x.missed x.few one denied,
            subst AllClosings (sym are) (x.missing (omega (arith, one, only, at_most))),
          );
      openings = x.openings ∙ ap (λ (l : List FaultNote). raised_by (x.missed + openings_noted l) old.open_faults) (sym are);
      given = omega (arith, ids, given);
      opened = omega (arith, later, least);
    }

-- ---- a session

pub session-openings : (tells : Bool) (words : List (List ℕ)) (options : Options) (b : Beginning) (status : ℕ) (machine : Option MachineState) (notes items : List FaultNote) (old mid new : FileState)
    → options_of words ≡ Some options → IsTrue (is_some machine) → CountsWordFiles {T = Beginning} tells (files_named options) (Ok b) [] notes old mid
    → AreKeptFor tells options.budget notes items mid new → OpeningsAtEnd tells words status machine items old new
session-openings tells words options b status machine notes items old mid new chosen there x k =
    let are : items ≡ x.more ++ k.kept = k.added ∙ ap (λ (l : List FaultNote). l ++ k.kept) x.added in
    let most : missed_at_most tells (is_some machine) (options_of words) ≡ missed_for tells options.budget =
    ap (λ (d : Bool). missed_at_most tells d (options_of words)) there ∙ ap (missed_at_most tells true) chosen in
    let given : given_at_most (is_some machine) (options_of words) ≡ files_named options + given_for options.budget =
    ap (λ (d : Bool). given_at_most d (options_of words)) there ∙ ap (given_at_most true) chosen in
    let least : given_at_least (is_some machine) (options_of words) ≡ files_named options = ap (λ (d : Bool). given_at_least d (options_of words)) there ∙ ap (given_at_least true) chosen in
    let both = openings-append x.more k.kept in
    let none = x.few in
    let noted : openings_noted items ≡ openings_noted (x.more ++ k.kept) = ap openings_noted are in
    let turned : (x.missed + openings_noted x.more) + (k.missed + openings_noted k.kept) ≡ k.missed + openings_noted items = omega (arith, none, both, noted) in
    let few = k.few in
    let opened = x.opened in
    let later = k.exact.ids in
    let ids = k.given in
    record {
      missed = k.missed;
      few = omega (arith, few, most);
      unread = λ never one. absurd (cc (there, ap is_some never));
      openings = k.openings ∙ ap (raised_by (k.missed + openings_noted k.kept)) x.openings
          ∙ sym (raised-both (x.missed + openings_noted x.more) (k.missed + openings_noted k.kept) old.open_faults) ∙ ap (λ (n : ℕ). raised_by n old.open_faults) turned;
      given = omega (arith, ids, opened, given);
      opened = omega (arith, later, opened, least);
    }
