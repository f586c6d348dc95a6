use Rattle.std.proofs.Common.{◌≡◌, ◌<◌, length, slice_index_or, arith, rules}
use Rattle.nova_alu.proofs.Undone.{four_items, mul_undoes_div}
use Rattle.nova_alu.proofs.multiply_divide.divide.Goals as goal

pub returns-clause-undone : goal.returns-clause-undone
returns-clause-undone c below =
    let four : length c.args.acs ≡ 4 = search rules in
    let items = four_items c.args.acs c.index-acs-0.result c.index-acs-1.result c.index-acs-2.result c.index-acs-3.result four in
    let fits : c.from.result < c.from-by.result = omega arith in
    let word : c.from-2.result < 65536 = search rules in
    let undone = mul_undoes_div c.from.result c.from-2.result c.from-by.result (slice_index_or c.args.acs 3 c.index-acs-3.result) fits word in
    cc (undone, items)
