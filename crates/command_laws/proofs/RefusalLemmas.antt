-- The law of commands that are refused.
use Rattle.command_laws.specs.Laws.{RefusalsChangeNothing}
use Rattle.scp_commands.proofs.EffectLemmas.{fair-effect}

pub refusals-change-nothing : RefusalsChangeNothing
refusals-change-nothing = record {
  untouched = λ limit notes live r fault h. (fair-effect limit notes live r).untouched fault h;
  all = λ limit notes live r fault h none. (fair-effect limit notes live r).all fault h none;
}
