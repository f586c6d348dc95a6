-- Words of scripts: the name of a script, and a label.
use Rattle.std.proofs.Common.{◌≡◌, inl, inr, ℕ, Bool, cond, Some, None, List, [], ◌∷◌, refl, ap, sym, ◌∙◌, arith}
use Rattle.operand_forms.proofs.ChoiceLemmas.{chosen, same_some}
use Rattle.scp_parser.specs.Forms.{IsScriptName, IsAnyWord}
use Rattle.scp_parser.specs.Operands.{is_file_name, as_file_name, any_word}
use Rattle.scp_parser.proofs.FileNameLemmas.{name_is, name_passes}

-- the name of a script

pub script_found : (text name : List ℕ) → as_file_name text ≡ Some name → IsScriptName text name
script_found text name h =
    elim (chosen (is_file_name text) (Some text) None (Some name) h) [
      | inl here ↦ (name_is text here.0, sym (same_some text name here.1))
      | inr other ↦ absurd (cc)
    ]

pub script_reads : (text name : List ℕ) → IsScriptName text name → as_file_name text ≡ Some name
script_reads text name is = ap (λ (b : Bool). cond b (Some text) None) (name_passes text is.0) ∙ ap (λ (t : List ℕ). Some t) (sym is.1)

pub no_script : as_file_name [] ≡ None
unfolding is_file_name
no_script = refl

-- a word of any bytes

pub word_found : (text word : List ℕ) → any_word text ≡ Some word → IsAnyWord text word
unfolding any_word
word_found [] word h = absurd (cc)
word_found (b ∷ more) word h = (omega arith, sym (same_some (b ∷ more) word h))

pub word_reads : (text word : List ℕ) → IsAnyWord text word → any_word text ≡ Some word
unfolding any_word
word_reads [] word is = absurd (omega (arith, is.0))
word_reads (b ∷ more) word is = ap (λ (t : List ℕ). Some t) (sym is.1)

pub no_word : any_word [] ≡ None
unfolding any_word
no_word = refl
