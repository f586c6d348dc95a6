-- Whether a line of a machine has a port: its console line, which is the first, or one behind it.
use Rattle.std.proofs.Common.{◌≡◌, ◌∙◌, ℕ, Bool, true, false, ◌||◌, List, [], ◌∷◌, slice_get, Some, ap, sym}
use Rattle.std.specs.Prelude.{drop}
use Rattle.std.proofs.lemmas.Option.{same_Some}
use Rattle.telnet_lines.specs.Line.{LineOf}
use Rattle.terminal_ports.specs.Ports.{owns, is_taken}

taken-first : (port : ℕ) (lines : List (LineOf ℕ)) (line : LineOf ℕ) → slice_get lines 0 ≡ Some line → is_taken port lines ≡ (owns port line || is_taken port (drop 1 lines))
unfolding is_taken
taken-first port [] line at = absurd (cc)
taken-first port (l ∷ lines) line at = ap (λ (x : LineOf ℕ). owns port x || is_taken port lines) (same_Some l line at)

module _ (port : ℕ) (lines : List (LineOf ℕ)) (line : LineOf ℕ) (first : Bool) (at : slice_get lines 0 ≡ Some line) (is : first ≡ owns port line) where
  pub taken-here : first ≡ true → first ≡ is_taken port lines
  taken-here has = has ∙ sym (taken-first port lines line at ∙ ap (λ (b : Bool). b || is_taken port (drop 1 lines)) (sym is ∙ has))

  pub taken-behind : (others : List (LineOf ℕ)) (taken : Bool) → first ≡ false → others ≡ drop 1 lines → taken ≡ is_taken port others → taken ≡ is_taken port lines
  taken-behind others taken none behind other =
      other
      ∙ ap (is_taken port) behind
      ∙ sym (taken-first port lines line at ∙ ap (λ (b : Bool). b || is_taken port (drop 1 lines)) (sym is ∙ none))
