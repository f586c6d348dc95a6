use Rattle.std.proofs.Common.{rules, ◌≡◌, ℕ, Some, ◌<◌, ◌≤◌, ◌+◌, ◌==◌, Bool, true, false, List, length, sym, ap, ◌∙◌, arith}
use Rattle.std.proofs.lemmas.List.{length-drop, take_rest}
use Rattle.std.proofs.lemmas.Bool.Decides.{nat_tests}
use Rattle.nova_word.specs.Quoted.{inside_read, counted}
use Rattle.nova_word.proofs.QuotedLemmas.{width_found_within}
use Rattle.nova_word.proofs.QuotedSkipLemmas.{next_skipped, never_skipped, here_skipped, end_skipped}
use Rattle.nova_word.proofs.quoted.skip_inside.Goals as goal

some_from_test : (n : ℕ) (empty : Bool) → empty ≡ false → empty ≡ (n == 0) → 0 < n
some_from_test n empty is test = grind (arith, nat_tests)

none_from_test : (n : ℕ) (empty : Bool) → empty ≡ true → empty ≡ (n == 0) → n ≡ 0
none_from_test n empty is test = grind (arith, nat_tests)

pub loop-rest-smaller : goal.loop-rest-smaller
loop-rest-smaller c =
    let rest = c.loop-rest.rest.now in
    let fits = width_found_within rest c.in-Some.field-0-0 c.in-Some.width (sym c.in-Some.ensures) in
    omega (arith, fits.0, fits.1, length-drop c.in-Some.width rest, ap (λ (xs : List ℕ). length xs) (take_rest rest c.in-Some.width))

pub returns-then-rest-eq34-clause-skipped : goal.returns-then-rest-eq34-clause-skipped
returns-then-rest-eq34-clause-skipped c =
    let rest = c.loop-rest.rest.now in
    let some = some_from_test (length rest) c.is_empty.result c.loop-rest-test.true c.is_empty.ensures in
    ap (λ (xs : List ℕ). Some (c.loop-rest.count, xs)) (take_rest rest 1)
    ∙ sym (here_skipped c.loop-rest.count rest some c.if-rest-eq34.true) ∙ c.loop-rest.invariant.read

pub returns-in-None-clause-skipped : goal.returns-in-None-clause-skipped
returns-in-None-clause-skipped c =
    let rest = c.loop-rest.rest.now in
    let some = some_from_test (length rest) c.is_empty.result c.loop-rest-test.true c.is_empty.ensures in
    sym (never_skipped c.loop-rest.count rest some c.if-rest-eq34.false (sym c.in-None.ensures)) ∙ c.loop-rest.invariant.read

pub slice_bounds-rest-count : goal.slice_bounds-rest-count
slice_bounds-rest-count c =
    (width_found_within c.loop-rest.rest.now c.in-Some.field-0-0 c.in-Some.width (sym c.in-Some.ensures)).1

pub slice_bounds-rest-start : goal.slice_bounds-rest-start
slice_bounds-rest-start c =
    let within = (width_found_within c.loop-rest.rest.now c.in-Some.field-0-0 c.in-Some.width (sym c.in-Some.ensures)).1 in
    search rules

pub loop-rest-preserved : goal.loop-rest-preserved
loop-rest-preserved c =
    let rest = c.loop-rest.rest.now in
    let width = c.in-Some.width in
    let count = c.loop-rest.count in
    let some = some_from_test (length rest) c.is_empty.result c.loop-rest-test.true c.is_empty.ensures in
    let fits = width_found_within rest c.in-Some.field-0-0 width (sym c.in-Some.ensures) in
    record {
      read = ap (λ (xs : List ℕ). counted (count + 1) (inside_read 0 xs)) (take_rest rest width)
          ∙ sym (next_skipped count rest c.in-Some.field-0-0 width some c.if-rest-eq34.false (sym c.in-Some.ensures))
          ∙ c.loop-rest.invariant.read;
      within = omega (arith, fits.0, fits.1, c.loop-rest.invariant.within, length-drop width rest, ap (λ (xs : List ℕ). length xs) (take_rest rest width));
    }

pub returns-clause-skipped : goal.returns-clause-skipped
returns-clause-skipped c =
    let rest = c.loop-rest.rest.now in
    sym (end_skipped c.loop-rest.count rest (none_from_test (length rest) c.is_empty.result c.loop-rest-test.false c.is_empty.ensures)) ∙ c.loop-rest.invariant.read
