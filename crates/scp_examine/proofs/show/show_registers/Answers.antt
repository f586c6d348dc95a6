use Rattle.std.proofs.Common.{◌+◌, ◌∷◌, [], take, get_or, refl, ◌∙◌}
use Rattle.std.proofs.lemmas.Result.{err_from_is_err_and}
use Rattle.unit_trait.specs.declared.processor.CpuReg.TheVariants.{Ac0}
use Rattle.scp_examine.specs.Places.{Register, registers_of}
use Rattle.scp_examine.proofs.ShowLemmas.{nothing_yet, listed-none, registers-more, registers_rest, listed_more, listed_part}
use Rattle.scp_examine.proofs.show.show_registers.Goals as goal

pub loop-register-init : goal.loop-register-init
loop-register-init g c = record {
  written = λ told. nothing_yet (g.S.Sink.written c.args.out.now) _ (listed-none c.args.machine.now c.args.symbolic c.args.condition);
  quiet = refl;
}

pub loop-register-preserved : goal.loop-register-preserved
loop-register-preserved g c = record {
  written = λ told.
      listed_more c.args.machine.now c.args.symbolic c.args.condition (g.S.Sink.written c.args.out.now) (g.S.Sink.written c.loop-register.out) (g.S.Sink.written c.show_register.new.out)
      (registers_of (take c.loop-register.register-index c.args.registers.now)) (Register (get_or c.args.registers.now c.loop-register.register-index Ac0) ∷ []) (registers_of (take (c.loop-register.register-index + 1) c.args.registers.now))
      (registers-more c.args.registers.now c.loop-register.register-index Ac0 c.loop-register-test.true) (c.loop-register.invariant.written told) (c.in_ok-show_register.ensures.told told);
  quiet = c.in_ok-show_register.ensures.counts ∙ c.loop-register.invariant.quiet;
}

pub returns-in_err-show_register-clause-told : goal.returns-in_err-show_register-clause-told
returns-in_err-show_register-clause-told g c = λ told.
    let p = err_from_is_err_and c.from_residual.result c.from_residual.ensures.1 in
    rw p.1 (
    listed_part c.args.machine.now c.args.symbolic c.args.condition (g.S.Sink.written c.args.out.now) (g.S.Sink.written c.loop-register.out) (g.S.Sink.written c.show_register.new.out)
    (registers_of (take c.loop-register.register-index c.args.registers.now)) (Register (get_or c.args.registers.now c.loop-register.register-index Ac0) ∷ []) (registers_of c.args.registers.now)
    (registers_rest c.args.registers.now c.loop-register.register-index Ac0 c.loop-register-test.true) (c.loop-register.invariant.written told) (c.in_err-show_register.ensures.told told)
    )
