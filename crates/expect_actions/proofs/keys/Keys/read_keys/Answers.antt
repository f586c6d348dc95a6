use Rattle.std.proofs.Common.{◌≡◌, ◌==◌, ℕ, ◌<◌, Bool, true, false, length, Ok, Err, sym, ap, ◌∙◌, arith}
use Rattle.std.proofs.lemmas.Bool.Decides.{nat_tests}
use Rattle.expect_actions.proofs.SplitLemmas.{behind_less, behind_fits}
use Rattle.expect_actions.proofs.AnswerLemmas.{loop_begins, loop_fault, loop_goes_on, loop_ends, told_answers}
use Rattle.expect_actions.proofs.keys.Keys.read_keys.Goals as goal

pub loop-rest-init : goal.loop-rest-init
loop-rest-init c = record {
  answer = loop_begins c.args.bytes.now c.new-list.result.items c.new-list.ensures.items;
  few = omega (arith, ap length c.new-list.ensures.items);
  room = c.in-Ok.ensures.len;
  shorter = omega arith;
  place = λ some. omega arith;
}

some_from_test : (n : ℕ) (empty : Bool) → empty ≡ false → empty ≡ (n == 0) → 0 < n
some_from_test n empty is test = grind (arith, nat_tests)

none_from_test : (n : ℕ) (empty : Bool) → empty ≡ true → empty ≡ (n == 0) → n ≡ 0
none_from_test n empty is test = grind (arith, nat_tests)

pub take_line-requires-clause-room : goal.take_line-requires-clause-room
take_line-requires-clause-room c =
    let rest = c.loop-rest.rest.now in
    let some = some_from_test (length rest) c.is_empty.result c.loop-rest-test.true c.is_empty.ensures in
    let less = behind_less rest some in
    omega (
      arith,
      less.1,
      ap length c.split_line.ensures.line,
      c.as_mut_slice.ensures.len,
      c.loop-rest.invariant.room,
      c.loop-rest.invariant.shorter,
    )

pub returns-in-Ok-None-clause-exact : goal.returns-in-Ok-None-clause-exact
returns-in-Ok-None-clause-exact c =
    let rest = c.loop-rest.rest.now in
    let some = some_from_test (length rest) c.is_empty.result c.loop-rest-test.true c.is_empty.ensures in
    loop_fault c.args.bytes.now rest c.split_line.result.0.now c.loop-rest.time c.loop-rest.list.items c.loop-rest.place
    some
    c.split_line.ensures.line c.loop-rest.invariant.answer (sym c.in-Ok-None.field-0-is ∙ c.in-Ok-None.ensures.time)

pub returns-in-Ok-None-clause-keys : goal.returns-in-Ok-None-clause-keys
returns-in-Ok-None-clause-keys c =
    told_answers c.args.bytes.now (Err c.loop-rest.place) (sym (returns-in-Ok-None-clause-exact c))

pub loop-rest-smaller : goal.loop-rest-smaller
loop-rest-smaller c =
    let rest = c.loop-rest.rest.now in
    let some = some_from_test (length rest) c.is_empty.result c.loop-rest-test.true c.is_empty.ensures in
    let less = behind_less rest some in
    omega (arith, less.0, ap length c.split_line.ensures.behind)

pub loop-rest-preserved : goal.loop-rest-preserved
loop-rest-preserved c =
    let rest = c.loop-rest.rest.now in
    let line = c.split_line.result.0.now in
    let behind = c.split_line.result.1.now in
    let some = some_from_test (length rest) c.is_empty.result c.loop-rest-test.true c.is_empty.ensures in
    let less = behind_less rest some in
    let long = ap length c.split_line.ensures.line in
    let short = ap length c.split_line.ensures.behind in
    record {
      answer = loop_goes_on c.args.bytes.now rest line behind c.loop-rest.time c.loop-rest.list.items c.loop-rest.place
          c.in-Ok-Some.next c.take_line.new.list.items some
          c.split_line.ensures.line c.split_line.ensures.behind c.loop-rest.invariant.answer
          (sym c.in-Ok-Some.field-0-is ∙ c.in-Ok-Some.ensures.time) c.in-Ok-Some.ensures.keys;
      few = c.in-Ok-Some.ensures.few;
      room = c.loop-rest.invariant.room;
      shorter = omega (arith, less.0, short, c.loop-rest.invariant.shorter);
      place = λ more.
          let fits = behind_fits rest (omega (arith, short, more)) in
          omega (arith, fits, short, long, some, c.loop-rest.invariant.place);
    }

pub returns-clause-exact : goal.returns-clause-exact
returns-clause-exact c =
    let rest = c.loop-rest.rest.now in
    let nothing = none_from_test (length rest) c.is_empty.result c.loop-rest-test.false c.is_empty.ensures in
    loop_ends c.args.bytes.now rest c.loop-rest.time c.loop-rest.list.items c.loop-rest.place nothing
    c.loop-rest.invariant.answer

pub returns-clause-keys : goal.returns-clause-keys
returns-clause-keys c =
    told_answers c.args.bytes.now (Ok c.loop-rest.list.items) (sym (returns-clause-exact c))
