use Rattle.std.proofs.Common.{◌≡◌, ℕ, List, [], ◌∷◌, Ok, sym, subst, arith}
use Rattle.std.proofs.lemmas.Result.{err_from_is_err_and}
use Rattle.std.proofs.lemmas.List.{length-append}
use Rattle.std.specs.Int.{w32}
use Rattle.saved_session.specs.Ranges.{holds_value}
use Rattle.byte_layouts.specs.Readers.{number, tested, chain, with_last, Fails}
use Rattle.byte_layouts.specs.Layout.{reading}
use Rattle.state_text.specs.Rows.{register_layout}
use Rattle.byte_layouts.proofs.Loops.{goes_on, fails}
use Rattle.state_text.proofs.machine_formats.registers_of.Goals as goal

pub returns-in_err-value : goal.returns-in_err-value
returns-in_err-value c =
    let p = err_from_is_err_and c.from_residual.result c.from_residual.ensures.1 in
    let fault = c.in_err-value.field-0.0 in
    let front = c.loop-i.registers.items in
    let failed : Fails fault (reading (register_layout c.args.kind front) c.loop-i.cursor) =
    subst (λ (n : ℕ). Fails fault (tested (holds_value c.args.kind n) (number w32) c.loop-i.cursor)) (sym c.loop-i.invariant.0) c.in_err-value.ensures in
    rw (p.1, p.2) (fails (λ (front : List ℕ). reading (register_layout c.args.kind front)) with_last fault front c.args.count c.loop-i.i front c.loop-i.cursor
    (chain (λ (front : List ℕ). reading (register_layout c.args.kind front)) with_last c.args.count [] c.args.cursor.now) c.loop-i-test.true failed c.loop-i.invariant.1)

pub loop-i-preserved : goal.loop-i-preserved
loop-i-preserved c =
    let front = c.loop-i.registers.items in
    let value = c.in_ok-value.value in
    let read : reading (register_layout c.args.kind front) c.loop-i.cursor ≡ Ok (value, c.register.new.cursor) =
    subst (λ (n : ℕ). tested (holds_value c.args.kind n) (number w32) c.loop-i.cursor ≡ Ok (value, c.register.new.cursor)) (sym c.loop-i.invariant.0) c.in_ok-value.ensures in
    rw c.in_ok-push.ensures.items (
      omega (arith, c.loop-i.invariant.0, length-append front (value ∷ [])),
      goes_on (λ (front : List ℕ). reading (register_layout c.args.kind front)) with_last front c.args.count c.loop-i.i front c.loop-i.cursor value c.register.new.cursor
          (chain (λ (front : List ℕ). reading (register_layout c.args.kind front)) with_last c.args.count [] c.args.cursor.now) c.loop-i-test.true read c.loop-i.invariant.1,
    )
