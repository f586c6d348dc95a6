use Rattle.std.proofs.Common.{◌≡◌, ◌<◌, length, slice_index_or, rules}
use Rattle.nova_alu.proofs.Undone.{four_items, div_undoes_mul}
use Rattle.nova_alu.proofs.multiply_divide.multiply.Goals as goal

pub returns-clause-undone : goal.returns-clause-undone
returns-clause-undone c small =
    let four : length c.args.acs ≡ 4 = search rules in
    let items = four_items c.args.acs c.index-acs-0.result c.index-acs-1.result c.index-acs-2.result c.index-acs-3.result four in
    let below : c.from-3.result < c.from-2.result = search rules in
    let word : c.from.result < 65536 = search rules in
    let undone = div_undoes_mul c.from-3.result c.from.result c.from-2.result (slice_index_or c.args.acs 3 c.index-acs-3.result) below word in
    cc (undone, items)
