use Rattle.std.proofs.Common.{rules, ◌≡◌, ℕ, ◌+◌, ◌-◌, ◌<◌, ◌≤◌, Bool, false, ◌==◌, List, [], ◌∷◌, ◌++◌, length, take}
use Rattle.std.proofs.Common.{drop, get_or, set, refl, sym, subst, arith, ap, ◌∙◌, add-zero}
use Rattle.std.proofs.lemmas.List.{at_drop_all, drop-drop, length-drop, take_more_set, drop-set-lt, get_or-drop}
use Rattle.std.proofs.lemmas.List.{take_rest, drop_more}
use Rattle.std.proofs.lemmas.Bool.Decides.{nat_tests}
use Rattle.std.proofs.lemmas.Grind.{drop_more_same}
use Rattle.nova_word.specs.Quoted.{BeginsUnquoted, BeginsQuoted, byte_at}
use Rattle.nova_word.proofs.QuotedByteLemmas.{found}
use Rattle.nova_word.proofs.QuotedLemmas.{Reading, reading_begins, reading_more, reading_closes, reading_fails}
use Rattle.nova_word.proofs.QuotedLemmas.{reading_stops, width_found_within}
use Rattle.nova_word.proofs.QuotedReadLemmas.{quoted_found, unquoted_read}
use Rattle.nova_word.proofs.quoted.put_quoted.Goals as goal

abbrev read : List ℕ → ℕ → List ℕ → ℕ → Type 0
read line count out place = Reading line (take count out) (drop place line)

first_there : (line : List ℕ) (place : ℕ) → get_or (drop place line) 0 0 ≡ get_or line place 0
first_there line place = get_or-drop place line 0 0 ∙ ap (λ (n : ℕ). get_or line n 0) (add-zero place)

-- a byte that was found, with its width
found_there : (line : List ℕ) (place b width : ℕ) →
    found b width ≡ byte_at (take (length line - place) (drop place line)) → byte_at (drop place line) ≡ found b width
found_there line place b width here = ap byte_at (sym (take_rest line place)) ∙ sym here

fits_found : (line : List ℕ) (place b width : ℕ) → byte_at (drop place line) ≡ found b width → place ≤ length line →
    (0 < width) × (place + width ≤ length line)
fits_found line place b width here within =
    let h = width_found_within (drop place line) b width here in
    (h.0, omega (arith, h.1, length-drop place line))

one_more : (line out : List ℕ) (count place b width : ℕ) → count < length out → read line count out place →
    byte_at (drop place line) ≡ found b width → read line (count + 1) (set out count b) (place + width)
one_more line out count place b width room reading here =
    let more = reading_more line (take count out) (drop place line) b width reading here in
    subst (λ (x : List ℕ). Reading line x (drop (place + width) line)) (sym (take_more_set out count b room))
    (subst (λ (x : List ℕ). Reading line (take count out ++ b ∷ []) x) (drop-drop width place line) more)

closed : (line : List ℕ) (count : ℕ) (out : List ℕ) (place : ℕ) → place < length line → get_or line place 0 ≡ 34 →
    read line count out place → BeginsQuoted line (take count out) (drop (place + 1) line)
closed line count out place inside is_quote reading =
    reading_closes line (take count out) (drop (place + 1) line)
    (subst (λ (x : List ℕ). Reading line (take count out) x) (drop_more line place 0 inside
    ∙ ap (λ (x : ℕ). x ∷ drop (place + 1) line) is_quote) reading)

some_from_test : (n : ℕ) (empty : Bool) → empty ≡ false → empty ≡ (n == 0) → 0 < n
some_from_test n empty is test = grind (arith, nat_tests)

pub loop-place-init : goal.loop-place-init
loop-place-init c =
    let some = some_from_test (length c.args.text.now) c.is_empty.result c.if-is_empty.false c.is_empty.ensures in
    record {
      counted = omega arith;
      within = omega (arith, some);
      reading = reading_begins c.args.text.now some c.if-text-ne34.false;
      behind = refl;
    }

pub returns-in-None-clause-quoted : goal.returns-in-None-clause-quoted
returns-in-None-clause-quoted c =
    let line = c.args.text.now in
    let place = c.loop-place.place in
    reading_fails line (take c.loop-place.count c.loop-place.out) (drop place line) c.loop-place.invariant.reading
    (ap byte_at (sym (take_rest line place)) ∙ sym c.in-None.ensures)
    (λ e. c.if-text-place-eq34.false (sym (first_there line place) ∙ e))

pub overflow_add-place : goal.overflow_add-place
overflow_add-place c =
    let here = found_there c.args.text.now c.loop-place.place c.in-Some.b c.in-Some.width c.in-Some.ensures in
    omega (
      arith,
      fits_found c.args.text.now c.loop-place.place c.in-Some.b c.in-Some.width here
          c.loop-place.invariant.within,
    )

pub loop-place-smaller : goal.loop-place-smaller
loop-place-smaller c =
    let here = found_there c.args.text.now c.loop-place.place c.in-Some.b c.in-Some.width c.in-Some.ensures in
    omega (
      arith,
      fits_found c.args.text.now c.loop-place.place c.in-Some.b c.in-Some.width here
          c.loop-place.invariant.within,
    )

pub loop-place-preserved : goal.loop-place-preserved
loop-place-preserved c =
    let line = c.args.text.now in
    let out = c.loop-place.out in
    let count = c.loop-place.count in
    let here = found_there line c.loop-place.place c.in-Some.b c.in-Some.width c.in-Some.ensures in
    let fits = fits_found line c.loop-place.place c.in-Some.b c.in-Some.width here c.loop-place.invariant.within in
    record {
      counted = omega (arith, fits);
      within = fits.1;
      reading = one_more line out count c.loop-place.place c.in-Some.b c.in-Some.width (omega arith)
          c.loop-place.invariant.reading here;
      behind = drop-set-lt (count + 1) out count c.in-Some.b (omega arith)
          ∙ drop_more_same out c.args.out.now count c.loop-place.invariant.behind;
    }

pub returns-clause-quoted : goal.returns-clause-quoted
returns-clause-quoted c =
    let line = c.args.text.now in
    reading_stops line (take c.loop-place.count c.loop-place.out)
    (subst (λ (x : List ℕ). Reading line (take c.loop-place.count c.loop-place.out) x)
    (at_drop_all (λ (x : List ℕ). x) line c.loop-place.place c.loop-place-test.false)
    c.loop-place.invariant.reading)

-- the same as a function

pub returns-then-is_empty-clause-exact : goal.returns-then-is_empty-clause-exact
returns-then-is_empty-clause-exact c =
    let unquoted : BeginsUnquoted c.args.text.now = search rules in
    unquoted_read c.args.text.now unquoted

pub returns-then-text-place-eq34-clause-exact : goal.returns-then-text-place-eq34-clause-exact
returns-then-text-place-eq34-clause-exact c =
    let line = c.args.text.now in
    let quoted = closed line c.loop-place.count c.loop-place.out c.loop-place.place c.loop-place-test.true
    c.if-text-place-eq34.true c.loop-place.invariant.reading in
    quoted_found line (take c.loop-place.count c.loop-place.out) (drop (c.loop-place.place + 1) line) quoted

pub returns-in-None-clause-exact : goal.returns-in-None-clause-exact
returns-in-None-clause-exact c = unquoted_read c.args.text.now (returns-in-None-clause-quoted c)

pub returns-clause-exact : goal.returns-clause-exact
returns-clause-exact c = unquoted_read c.args.text.now (returns-clause-quoted c)
