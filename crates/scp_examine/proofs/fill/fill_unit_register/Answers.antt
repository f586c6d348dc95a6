use Rattle.std.proofs.Common.{rules, ◌≡◌, true}
use Rattle.unit_list.specs.Bus.{takes_value_in}
use Rattle.scp_examine.proofs.FillLemmas.{takes_in}
use Rattle.scp_examine.proofs.fill.fill_unit_register.Goals as goal

pub returns : goal.returns
returns g c =
    let takes : takes_value_in c.args.kind c.args.number c.args.value c.args.machine.now.units ≡ true = takes_in c.args.kind c.args.number c.args.value c.args.machine.now.units c.requires.there c.requires.value in
    let ok = c.set_unit_reg-fits.ensures.fits.1 takes in
    search rules
