-- The words of ATTACH and DETACH: options, units that take a file, and ALL.
use Rattle.std.specs.Prelude.{codes}
use Rattle.std.proofs.Common.{◌≡◌, inl, inr, ℕ, Bool, cond, Option, Some, None, List, [], refl, ap, ◌∙◌, subst}
use Rattle.std.specs.Option.{option_map}
use Rattle.unit_trait.specs.declared.kind.Kind.{Kind}
use Rattle.unit_trait.specs.declared.kind.UnitName.{UnitName}
use Rattle.unit_trait.specs.Kinds.{kind_name, takes_file, TakesFile}
use Rattle.unit_trait.proofs.EveryKind.{every-kind}
use Rattle.line_text.specs.Words.{IsSpelled, is_spelled}
use Rattle.line_text.proofs.SpellingLemmas.{spelled_is}
use Rattle.operand_forms.specs.Forms.{IsUnit, alone, drive}
use Rattle.scp_parser.specs.Forms.{IsOption, existing, new, read_only, IsTarget, IsDetached, every, one}
use Rattle.operand_forms.specs.Operands.{kind_named, drive_of, unit_of}
use Rattle.scp_parser.specs.Operands.{option_of, file_unit, target_of, detached_of}
use Rattle.operand_forms.proofs.ChoiceLemmas.{chosen, same_some, mapped}
use Rattle.operand_forms.proofs.UnitLemmas.{unit_found, unit_reads}

-- options

option_choice : (text name : List ℕ) (letter this : ℕ) (rest : Option ℕ) → (IsSpelled text name → IsOption text this)
    → (rest ≡ Some letter → IsOption text letter) → cond (is_spelled text name) (Some this) rest ≡ Some letter → IsOption text letter
option_choice text name letter this rest here there h =
    elim (chosen (is_spelled text name) (Some this) rest (Some letter) h) [
      | inl first ↦ subst (λ (n : ℕ). IsOption text n) (same_some this letter first.1) (here (spelled_is text name first.0))
      | inr second ↦ there second.1
    ]

pub option_found : (text : List ℕ) (letter : ℕ) → option_of text ≡ Some letter → IsOption text letter
unfolding option_of
option_found text letter =
    option_choice text (codes "-E") letter 69 _ (existing text)
    (option_choice text (codes "-N") letter 78 _ (new text) (option_choice text (codes "-R") letter 82 None (read_only text) (λ h. absurd (cc h))))

pub option_reads : (text : List ℕ) (letter : ℕ) → IsOption text letter → option_of text ≡ Some letter
unfolding option_of
option_reads text letter (existing _ h) = rw h refl
option_reads text letter (new _ h) = rw h refl
option_reads text letter (read_only _ h) = rw h refl

pub no_option : option_of [] ≡ None
unfolding option_of
no_option = refl

-- units for ATTACH

file_found : (text : List ℕ) (unit : Option UnitName) (u : UnitName) → unit_of text ≡ unit → file_unit unit ≡ Some u → IsUnit text u × TakesFile u.kind
file_found text None u is h = absurd (cc h)
file_found text (Some v) u is h =
    elim (chosen (takes_file v.kind) (Some v) None (Some u) h) [
      | inl takes ↦
          let same = same_some v u takes.1 in
          subst (λ (w : UnitName). IsUnit text w × TakesFile w.kind) same (unit_found text v is, takes.0)
      | inr other ↦ absurd (cc)
    ]

pub target_found : (option : Option ℕ) (text : List ℕ) (u : UnitName) → target_of option text ≡ Some u → IsTarget option text u
unfolding target_of
target_found None text u h = unit_found text u h
target_found (Some letter) text u h = file_found text (unit_of text) u refl h

pub target_reads : (option : Option ℕ) (text : List ℕ) (u : UnitName) → IsTarget option text u → target_of option text ≡ Some u
unfolding target_of
target_reads None text u is = unit_reads text u is
target_reads (Some letter) text u is = ap file_unit (unit_reads text u is.0) ∙ ap (λ (b : Bool). cond b (Some u) None) is.1

no_unit : unit_of [] ≡ None
unfolding unit_of kind_named drive_of
no_unit = refl

pub no_target : (option : Option ℕ) → target_of option [] ≡ None
unfolding target_of
no_target None = no_unit
no_target (Some letter) = ap file_unit no_unit

-- what DETACH names

pub detached_found : (text : List ℕ) (unit : Option UnitName) → detached_of text ≡ Some unit → IsDetached text unit
unfolding detached_of
detached_found text unit h =
    elim (chosen (is_spelled text (codes "ALL")) (Some None) (option_map (λ u. Some u) (unit_of text)) (Some unit) h) [
      | inl all ↦ subst (λ (u : Option UnitName). IsDetached text u) (same_some None unit all.1) (every text (spelled_is text (codes "ALL") all.0))
      | inr other ↦
          let (u, is, same) = mapped (λ (u : UnitName). Some u) (unit_of text) unit other.1 in
          subst (λ (v : Option UnitName). IsDetached text v) same (one text u (unit_found text u is))
    ]

-- the name of no unit is ALL
kind_detached : (text : List ℕ) (kind : Kind) → IsSpelled text (kind_name kind) → detached_of text ≡ option_map (λ u. Some u) (unit_of text)
unfolding detached_of
kind_detached text =
    every-kind (λ (k : Kind). IsSpelled text (kind_name k) → detached_of text ≡ option_map (λ u. Some u) (unit_of text))
    ((λ h. rw h refl), (λ h. rw h refl), (λ h. rw h refl), (λ h. rw h refl), (λ h. rw h refl), (λ h. rw h refl), (λ h. rw h refl), (λ h. rw h refl), (λ h. rw h refl), (λ h. rw h refl), (λ h. rw h refl))

unit_detached : (text : List ℕ) (u : UnitName) → IsUnit text u → detached_of text ≡ option_map (λ u. Some u) (unit_of text)
unfolding detached_of
unit_detached text u (alone _ kind is) = kind_detached text kind is.spelled
unit_detached text u (drive _ n below is) = rw is refl

pub detached_reads : (text : List ℕ) (unit : Option UnitName) → IsDetached text unit → detached_of text ≡ Some unit
unfolding detached_of
detached_reads text unit (every _ h) = rw h refl
detached_reads text unit (one _ u is) = unit_detached text u is ∙ ap (option_map (λ u. Some u)) (unit_reads text u is)

pub no_detached : detached_of [] ≡ None
unfolding detached_of
no_detached = ap (option_map (λ u. Some u)) no_unit
