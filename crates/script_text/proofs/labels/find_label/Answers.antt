use Rattle.std.proofs.Common.{◌≡◌, ◌∙◌, ◌∷◌, true, false, refl, sym, ap, subst, List, ℕ, arith}
use Rattle.std.specs.Str.{bytes_eq}
use Rattle.script_text.specs.Lines.{command_line}
use Rattle.script_text.proofs.LabelLemmas.{Searched, searched_more, searched_found, searched_all}
use Rattle.script_text.proofs.labels.find_label.Goals as goal

pub returns-then-is_label-clause-place : goal.returns-then-is_label-clause-place
returns-then-is_label-clause-place c =
    let script = c.args.script.now in
    let label = c.args.label.now in
    let rest = c.loop-line.rest.now in
    let here : bytes_eq (command_line rest) (58 ∷ label) ≡ true =
    ap (λ (x : List ℕ). bytes_eq x (58 ∷ label)) (sym c.in-Some.ensures.text) ∙ sym c.if-is_label.ensures in
    searched_found script label rest c.loop-line.invariant (omega (arith, c.in-Some.ensures.shorter)) here

pub loop-line-preserved : goal.loop-line-preserved
loop-line-preserved c =
    let script = c.args.script.now in
    let label = c.args.label.now in
    let rest = c.loop-line.rest.now in
    let other : bytes_eq (command_line rest) (58 ∷ label) ≡ false =
    ap (λ (x : List ℕ). bytes_eq x (58 ∷ label)) (sym c.in-Some.ensures.text) ∙ sym c.if-is_label.ensures in
    subst (λ (x : List ℕ). Searched script label x) (sym c.in-Some.ensures.rest)
    (searched_more script label rest c.loop-line.invariant (omega (arith, c.in-Some.ensures.shorter)) other)

pub returns-clause-place : goal.returns-clause-place
returns-clause-place c =
    searched_all c.args.script.now c.args.label.now c.loop-line.rest.now c.loop-line.invariant
    (c.in_default.ensures.none.0 refl)
