-- Items with a mark between two numbers, where the mark is missing.
use Rattle.std.proofs.Common.{◌≡◌, ◌+◌, ◌≤◌, ℕ, eqb, Option, Some, None, List, [], length, refl, arith}
use Rattle.std.specs.List.{position_or_len}
use Rattle.std.proofs.lemmas.List.{drop_all}
use Rattle.std.proofs.lemmas.Bool.Decides.{nat_tests}
use Rattle.operand_forms.specs.Operands.{octal, front, behind, both, range_of, count_of}
use Rattle.operand_forms.specs.Views.{some_behind}
use Rattle.operand_forms.proofs.NothingLemmas.{no_octal, no_decimal}

-- where nothing stands behind a mark, no byte is left behind it
behind_none : (mark : ℕ) (text : List ℕ) → some_behind mark text ≡ None → behind mark text ≡ []
behind_none mark text h =
    let past : length text ≤ position_or_len (λ b. eqb b mark) text + 1 = grind (arith, nat_tests) in
    drop_all (position_or_len (λ b. eqb b mark) text + 1) text past

both_none : {A B C : Type 0} (f : A → B → C) (a : Option A) → both f a None ≡ None
both_none f (Some a) = refl
both_none f None = refl

pub range_none : (text : List ℕ) → some_behind 45 text ≡ None → range_of text ≡ None
range_none text h = rw (behind_none 45 text h) (rw no_octal (both_none _ (octal (front 45 text))))

pub count_none : (text : List ℕ) → some_behind 47 text ≡ None → count_of text ≡ None
count_none text h = rw (behind_none 47 text h) (rw no_decimal (both_none _ (octal (front 47 text))))
