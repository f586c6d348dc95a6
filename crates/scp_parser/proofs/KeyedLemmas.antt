-- A number of a keyword, as in AFTER=5.
use Rattle.std.proofs.Common.{◌≡◌, inl, inr, ℕ, Bool, true, false, cond, Option, Some, None, List, [], ◌++◌, length, take, drop, refl, ap, sym, ◌∙◌}
use Rattle.std.specs.Char.{to_ascii_uppercase}
use Rattle.std.proofs.lemmas.List.{take-append-drop, take_at, drop_at, length-map}
use Rattle.std.proofs.Math.Seq.{drop-nil}
use Rattle.line_text.specs.Words.{IsSpelled, is_spelled}
use Rattle.line_text.proofs.SpellingLemmas.{spelled_is, is_spelled_so}
use Rattle.operand_forms.specs.Operands.{decimal}
use Rattle.scp_parser.specs.Forms.{IsKeyed}
use Rattle.scp_parser.specs.Operands.{keyed_of}
use Rattle.operand_forms.proofs.Decides.{Decides}
use Rattle.operand_forms.proofs.ChoiceLemmas.{chosen}
use Rattle.operand_forms.proofs.NumberLemmas.{decimal_found, decimal_reads}
use Rattle.operand_forms.proofs.NothingLemmas.{no_decimal}

-- a word is as long as its name
spelled_long : (front key : List ℕ) → IsSpelled front key → length front ≡ length key
spelled_long front key is = sym (length-map front to_ascii_uppercase) ∙ ap length is

pub keyed_found : (key text : List ℕ) (n : ℕ) → keyed_of key text ≡ Some n → IsKeyed key text n
unfolding keyed_of
keyed_found key text n h =
    let front = take (length key) text in
    let digits = drop (length key) text in
    elim (chosen (is_spelled front key) (decimal digits) None (Some n) h) [
      | inl so ↦ record {
        front = front;
        digits = digits;
        spelled = sym (take-append-drop (length key) text);
        keyword = spelled_is front key so.0;
        number = decimal_found digits n so.1;
      }
      | inr other ↦ absurd (cc)
    ]

pub keyed_reads : (key text : List ℕ) (n : ℕ) → IsKeyed key text n → keyed_of key text ≡ Some n
unfolding keyed_of
keyed_reads key text n h =
    let long = spelled_long h.front key h.keyword in
    let whole = h.front ++ h.digits in
    ap (λ (t : List ℕ). cond (is_spelled (take (length key) t) key) (decimal (drop (length key) t)) None) h.spelled
    ∙ ap (λ (t : List ℕ). cond (is_spelled t key) (decimal (drop (length key) whole)) None) (take_at h.front h.digits (length key) long)
    ∙ ap (λ (b : Bool). cond b (decimal (drop (length key) whole)) None) (is_spelled_so h.front key h.keyword)
    ∙ ap decimal (drop_at h.front h.digits (length key) long) ∙ decimal_reads h.digits n h.number

none_either : (b : Bool) → ◌≡◌ {A = Option ℕ} (cond b None None) None
none_either true = refl
none_either false = refl

pub no_keyed : (key : List ℕ) → keyed_of key [] ≡ None
unfolding keyed_of
no_keyed key =
    let b = is_spelled (take (length key) []) key in
    ap (λ (o : Option ℕ). cond b o None) (ap decimal (drop-nil (length key)) ∙ no_decimal) ∙ none_either b

pub keyed_decides : (key : List ℕ) → Decides (IsKeyed key) (keyed_of key)
keyed_decides key text n = (keyed_found key text n, keyed_reads key text n)
