use Rattle.std.proofs.Common.{◌≡◌, Some, option_map, rules}
use Rattle.nova_word.specs.Bits.{bits}
use Rattle.unit_list.specs.Bus.{unit_at, flags_of}
use Rattle.nova_machine.proofs.Waits.{untaken-here}
use Rattle.nova_machine.proofs.machine.Machine.is_untaken.Goals as goal

pub returns-in-Some : goal.returns-in-Some
returns-in-Some g c = λ stays.
    let m = c.args.self.now in
    let found : option_map flags_of (unit_at (bits 10 15 c.args.word) m.units) ≡ Some c.in-Some.flags = search rules in
    untaken-here (bits 10 15 c.args.word) (bits 8 9 c.args.word) m c.in-Some.flags c.flag_skips.result found (search rules) stays
