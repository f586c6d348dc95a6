-- A keys file or a script that was not read, by the statuses.
use Rattle.std.proofs.Common.{◌≡◌, ◌⊎◌, inl, inr, ℕ, ◌≤◌, Bool, true, false, List, sym, ◌∙◌, subst, arith, Option, Some, None, IsSome, Err}
use Rattle.file_traits.specs.State.{FileState}
use Rattle.file_commands.specs.declared.note.FaultNote.{FaultNote}
use Rattle.nova_machine.specs.Machine.{MachineState}
use Rattle.scp_script.specs.declared.progress.Finish.{Finish}
use Rattle.scp_script.specs.declared.progress.Finish.TheVariants as finish
use Rattle.scp_script.specs.Loop.{FinishCause, status_of}
use Rattle.command_words.specs.declared.options.Options.{Options}
use Rattle.program_start.specs.declared.word_files.Refusal.{Refusal}
use Rattle.program_start.specs.declared.word_files.Refusal.TheVariants.{Unopened, BadKeys, OutOfMemory}
use Rattle.command_words.specs.Words.{options_of, keys_name, script_name}
use Rattle.program_start.specs.WordFiles.{denial_of, RefusedCause, DeniedCause}
use Rattle.program_start.specs.Unread.{WordsNotRead, IsUnopened, NamedFits, AreMeasured, BeginsCause, HasNoKeys}

not-by : (there status sink sink_now other : ℕ) → RefusedCause there status sink sink_now → status ≡ other → other ≡ there ⊎ (other ≡ 102)
not-by there status sink sink_now other (inl h) is = inl (sym is ∙ h.0)
not-by there status sink sink_now other (inr h) is = inr (sym is ∙ h.0)

pub usage-opened : (status sink sink_now other : ℕ) → RefusedCause 100 status sink sink_now → status ≡ other → 103 ≤ other ⊎ (other ≡ 101) → ⊥
usage-opened status sink sink_now other cause is far = elim (not-by 100 status sink sink_now other cause is) [
  | inl a ↦ elim far [ inl f ↦ omega (arith, a, f) | inr f ↦ omega (arith, a, f) ]
  | inr a ↦ elim far [ inl f ↦ omega (arith, a, f) | inr f ↦ omega (arith, a, f) ]
]

pub refused-unopened : (tells : Bool) (words : List (List ℕ)) (options : Options) (refusal : Refusal) (status sink sink_now : ℕ) (notes items : List FaultNote) (old new : FileState)
    → options_of words ≡ Some options → DeniedCause (denial_of words refusal) status sink sink_now → items ≡ notes
    → BeginsCause tells words options (Err refusal) notes old new → status ≡ 101 → IsUnopened tells words items old new
refused-unopened tells words options (Unopened place) status sink sink_now notes items old new chosen denied same begins is =
    record { options = options; words_are = chosen; unread = subst (λ (l : List FaultNote). WordsNotRead tells words options l old new) (sym same) begins }
refused-unopened tells words options (BadKeys place) status sink sink_now notes items old new chosen denied same begins is =
    absurd (elim (not-by 105 status sink sink_now 101 denied is) [ inl a ↦ omega (arith, a) | inr a ↦ omega (arith, a) ])
refused-unopened tells words options OutOfMemory status sink sink_now notes items old new chosen denied same begins is =
    absurd (let h = denied.0 in omega (arith, h, is))

-- the keys file is none
pub refused-keys : (tells : Bool) (words : List (List ℕ)) (options : Options) (refusal : Refusal) (status sink sink_now : ℕ) (notes : List FaultNote) (old new : FileState)
    → DeniedCause (denial_of words refusal) status sink sink_now → BeginsCause tells words options (Err refusal) notes old new → status ≡ 105 → HasNoKeys old new
refused-keys tells words options (Unopened place) status sink sink_now notes old new denied begins is =
    absurd (elim (not-by 101 status sink sink_now 105 denied is) [ inl a ↦ omega (arith, a) | inr a ↦ omega (arith, a) ])
refused-keys tells words options (BadKeys place) status sink sink_now notes old new denied begins is = (place, begins)
refused-keys tells words options OutOfMemory status sink sink_now notes old new denied begins is =
    absurd (let h = denied.0 in omega (arith, h, is))

pub refused-measured : (tells : Bool) (words : List (List ℕ)) (options : Options) (refusal : Refusal) (status sink sink_now : ℕ) (machine : Option MachineState) (notes : List FaultNote) (old new : FileState)
    → options_of words ≡ Some options → DeniedCause (denial_of words refusal) status sink sink_now → machine ≡ None
    → BeginsCause tells words options (Err refusal) notes old new → status ≡ 103 → AreMeasured tells words machine old new
refused-measured tells words options (Unopened place) status sink sink_now machine notes old new chosen denied none begins is =
    absurd (elim (not-by 101 status sink sink_now 103 denied is) [ inl a ↦ omega (arith, a) | inr a ↦ omega (arith, a) ])
refused-measured tells words options (BadKeys place) status sink sink_now machine notes old new chosen denied none begins is =
    absurd (elim (not-by 105 status sink sink_now 103 denied is) [ inl a ↦ omega (arith, a) | inr a ↦ omega (arith, a) ])
refused-measured tells words options OutOfMemory status sink sink_now machine notes old new chosen denied none begins is = record {
  options = options;
  words_are = chosen;
  keys = begins.0;
  script = begins.1;
  session = λ there. absurd (let no : false ≡ true = subst (λ (m : Option MachineState). IsSome m) none there in cc);
}

-- both were read where there was a session
pub session-measured : (tells : Bool) (words : List (List ℕ)) (options : Options) (machine : Option MachineState) (old new : FileState) → options_of words ≡ Some options
    → NamedFits tells (keys_name words options) old × NamedFits tells (script_name words options) old → AreMeasured tells words machine old new
session-measured tells words options machine old new chosen fit = record {
  options = options;
  words_are = chosen;
  keys = λ more. fit.0;
  script = λ more. fit.1;
  session = λ there. fit;
}

-- a session ends with no such status
pub session-opened : (end : Finish) (sink sink_now source source_now : ℕ) → FinishCause end sink sink_now source source_now → status_of end ≡ 101 → ⊥
session-opened (finish.Exit n) sink sink_now source source_now c is = omega (arith, c.exit, is)
session-opened finish.EndOfInput sink sink_now source source_now c is = omega (arith, is)
session-opened finish.FlushFailed sink sink_now source source_now c is = omega (arith, is)
session-opened finish.Commands sink sink_now source source_now c is = omega (arith, is)
session-opened finish.Console sink sink_now source source_now c is = omega (arith, is)
session-opened finish.Input sink sink_now source source_now c is = omega (arith, is)
session-opened finish.OutOfMemory sink sink_now source source_now c is = omega (arith, is)

pub session-keys : (end : Finish) (sink sink_now source source_now : ℕ) → FinishCause end sink sink_now source source_now → status_of end ≡ 105 → ⊥
session-keys (finish.Exit n) sink sink_now source source_now c is = omega (arith, c.exit, is)
session-keys finish.EndOfInput sink sink_now source source_now c is = omega (arith, is)
session-keys finish.FlushFailed sink sink_now source source_now c is = omega (arith, is)
session-keys finish.Commands sink sink_now source source_now c is = omega (arith, is)
session-keys finish.Console sink sink_now source source_now c is = omega (arith, is)
session-keys finish.Input sink sink_now source source_now c is = omega (arith, is)
session-keys finish.OutOfMemory sink sink_now source source_now c is = omega (arith, is)
