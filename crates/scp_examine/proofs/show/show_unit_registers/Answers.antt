use Rattle.std.proofs.Common.{◌+◌, ◌∷◌, [], refl, ap, ◌∙◌, arith}
use Rattle.std.proofs.lemmas.Result.{err_from_is_err_and}
use Rattle.scp_examine.specs.Places.{UnitRegister, unit_registers}
use Rattle.scp_examine.specs.Effect.{listed}
use Rattle.scp_examine.proofs.ShowLemmas.{nothing_yet, listed-none, numbered-none, numbered-more, numbered_rest, listed_more, listed_part}
use Rattle.scp_examine.proofs.show.show_unit_registers.Goals as goal

pub loop-number-init : goal.loop-number-init
loop-number-init g c = record {
  written = λ told. nothing_yet (g.S.Sink.written c.args.out.now) _ (ap (λ ps. listed c.args.machine.now c.args.symbolic c.args.condition ps) (numbered-none (UnitRegister c.args.kind) 0) ∙ listed-none c.args.machine.now c.args.symbolic c.args.condition);
  quiet = refl;
}

pub loop-number-preserved : goal.loop-number-preserved
loop-number-preserved g c = record {
  written = λ told.
      listed_more c.args.machine.now c.args.symbolic c.args.condition (g.S.Sink.written c.args.out.now) (g.S.Sink.written c.loop-number.out) (g.S.Sink.written c.show_unit_register.new.out)
      (unit_registers c.args.kind c.loop-number.number) (UnitRegister c.args.kind c.loop-number.number ∷ []) (unit_registers c.args.kind (c.loop-number.number + 1))
      (numbered-more (UnitRegister c.args.kind) 0 c.loop-number.number c.loop-number.number (omega arith)) (c.loop-number.invariant.written told) (c.in_ok-show_unit_register.ensures.told told);
  quiet = c.in_ok-show_unit_register.ensures.counts ∙ c.loop-number.invariant.quiet;
}

pub returns-in_err-show_unit_register-clause-told : goal.returns-in_err-show_unit_register-clause-told
returns-in_err-show_unit_register-clause-told g c = λ told.
    let p = err_from_is_err_and c.from_residual.result c.from_residual.ensures.1 in
    rw p.1 (
    listed_part c.args.machine.now c.args.symbolic c.args.condition (g.S.Sink.written c.args.out.now) (g.S.Sink.written c.loop-number.out) (g.S.Sink.written c.show_unit_register.new.out)
    (unit_registers c.args.kind c.loop-number.number) (UnitRegister c.args.kind c.loop-number.number ∷ []) (unit_registers c.args.kind c.args.count)
    (numbered_rest (UnitRegister c.args.kind) 0 c.args.count c.loop-number.number c.loop-number.number c.loop-number-test.true (omega arith)) (c.loop-number.invariant.written told) (c.in_err-show_unit_register.ensures.told told)
    )
