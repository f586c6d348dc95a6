use Rattle.std.proofs.Common.{◌+◌, sym, ap, refl, ◌∙◌}
use Rattle.scp_examine.specs.Places.{Cell}
use Rattle.scp_examine.specs.Effect.{filled}
use Rattle.scp_examine.proofs.ShowLemmas.{numbered-none}
use Rattle.scp_examine.proofs.FillLemmas.{filled-none, filled-more}
use Rattle.scp_examine.proofs.fill.fill_cells.Goals as goal

pub loop-i-init : goal.loop-i-init
loop-i-init g c = sym (ap (λ ps. filled c.args.value c.args.machine.now ps) (numbered-none Cell c.args.from) ∙ filled-none c.args.value c.args.machine.now)

pub loop-i-preserved : goal.loop-i-preserved
loop-i-preserved g c =
    filled-more Cell c.args.value c.args.machine.now c.loop-i.machine c.fill_cell.new.machine c.args.from c.loop-i.i (c.args.from + c.loop-i.i) refl c.loop-i.invariant c.fill_cell.ensures
