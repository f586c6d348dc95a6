-- What a word sets of the processor: a size of memory, or when bit 0 of an auto-index word is tested.
use Rattle.std.specs.Prelude.{codes}
use Rattle.std.proofs.Common.{◌≡◌, inl, inr, ℕ, true, false, cond, Option, Some, None, List, [], ◌∷◌, ◌++◌, refl, ◌∙◌, subst, arith}
use Rattle.std.specs.Option.{option_map}
use Rattle.std.proofs.lemmas.Bool.{both_ways, false_from_ne_true}
use Rattle.line_text.specs.Words.{IsSpelled, is_spelled}
use Rattle.line_text.proofs.SpellingLemmas.{spelled_is}
use Rattle.operand_forms.proofs.ChoiceLemmas.{chosen, same_some, mapped}
use Rattle.nova_word.proofs.ReadingLemmas.{digit_passes}
use Rattle.operand_forms.specs.Forms.{IsDecimal}
use Rattle.operand_forms.proofs.SpellingLemmas.{starts_digit, spelled_starts}
use Rattle.scp_parser.specs.declared.settings.Setting.{Setting}
use Rattle.scp_parser.specs.declared.settings.Setting.TheVariants.{Size, Autobit}
use Rattle.scp_parser.specs.Forms.{IsSize, kilo, IsSetting, memory_size, before_change, after_change}
use Rattle.scp_parser.specs.Operands.{size_of, setting_of}
use Rattle.scp_parser.proofs.SizeLemmas.{size_found, size_reads, no_size}

setting_choice : (text name : List ℕ) (what this : Setting) (rest : Option Setting) → (IsSpelled text name → IsSetting text this)
    → (rest ≡ Some what → IsSetting text what) → cond (is_spelled text name) (Some this) rest ≡ Some what → IsSetting text what
setting_choice text name what this rest here there h =
    elim (chosen (is_spelled text name) (Some this) rest (Some what) h) [
      | inl first ↦ subst (λ (s : Setting). IsSetting text s) (same_some this what first.1) (here (spelled_is text name first.0))
      | inr second ↦ there second.1
    ]

size_setting : (text : List ℕ) (what : Setting) → option_map (λ n. Size n) (size_of text) ≡ Some what → IsSetting text what
size_setting text what h =
    let (n, is, same) = mapped (λ (n : ℕ). Size n) (size_of text) what h in
    subst (λ (s : Setting). IsSetting text s) same (memory_size text n (size_found text n is))

pub setting_found : (text : List ℕ) (what : Setting) → setting_of text ≡ Some what → IsSetting text what
unfolding setting_of
setting_found text what =
    setting_choice text (codes "AUTOBIT=BEFORE") what (Autobit true) _ (before_change text)
    (setting_choice text (codes "AUTOBIT=AFTER") what (Autobit false) _ (after_change text) (size_setting text what))

decimal_starts : (text rest : List ℕ) (n : ℕ) → IsDecimal text n → starts_digit (text ++ rest) ≡ true
decimal_starts [] rest n h = absurd (omega (arith, h.is.some))
decimal_starts (b ∷ more) rest n h = digit_passes 10 b (h.is.digits 0 0 (omega arith))

-- a size begins with a digit, and so is no name
no_name : (text name : List ℕ) (n : ℕ) → IsSize text n → starts_digit name ≡ false → is_spelled text name ≡ false
no_name text name n (kilo digits k _ number is) letter =
    false_from_ne_true (is_spelled (digits ++ k ∷ []) name) (λ h.
    both_ways (starts_digit (digits ++ k ∷ [])) (spelled_starts (digits ++ k ∷ []) name (spelled_is (digits ++ k ∷ []) name h) ∙ letter) (decimal_starts digits (k ∷ []) n number))

pub setting_reads : (text : List ℕ) (what : Setting) → IsSetting text what → setting_of text ≡ Some what
unfolding setting_of
setting_reads text what (before_change _ h) = rw h refl
setting_reads text what (after_change _ h) = rw h refl
setting_reads text what (memory_size _ n is) =
    rw (no_name text (codes "AUTOBIT=BEFORE") n is refl, no_name text (codes "AUTOBIT=AFTER") n is refl, size_reads text n is) refl

pub no_setting : setting_of [] ≡ None
unfolding setting_of
no_setting = rw no_size refl
