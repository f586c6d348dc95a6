use Rattle.std.proofs.Common.{◌≡◌, length, map, slice_index, IsSome, sym, ap, subst, ◌∙◌, rules}
use Rattle.std.proofs.lemmas.Grind.{get_or_default_zero}
use Rattle.std.proofs.lemmas.List.{get_or-set_same}
use Rattle.fault_counts.specs.Faults.{raised}
use Rattle.file_traits.specs.State.{opened_at}
use Rattle.host_files.specs.OpenTable.{TableState, opened_of}
use Rattle.host_files.proofs.Tables.{open-given}
use Rattle.host_files.proofs.open_table.OpenTable.raise.Goals as goal

pub index-count-requires : goal.index-count-requires
index-count-requires g c =
    let there : IsSome (opened_at (map opened_of c.self.inside.entries.items) c.args.file.0) = subst (λ (t : TableState). IsSome (opened_at t.opened c.args.file.0)) (sym c.self.view_is) c.requires in
    let below = open-given (map opened_of c.self.inside.entries.items) (length c.self.inside.counts.items) c.args.file.0 c.self.invariant there in
    search (rules, below)

pub index_mut-requires : goal.index_mut-requires
index_mut-requires g c =
    let there : IsSome (opened_at (map opened_of c.self.inside.entries.items) c.args.file.0) = subst (λ (t : TableState). IsSome (opened_at t.opened c.args.file.0)) (sym c.self.view_is) c.requires in
    let below = open-given (map opened_of c.self.inside.entries.items) (length c.self.inside.counts.items) c.args.file.0 c.self.invariant there in
    search (rules, below)

pub returns-clause-raised : goal.returns-clause-raised
returns-clause-raised g c =
    let there : IsSome (opened_at (map opened_of c.self.inside.entries.items) c.args.file.0) = subst (λ (t : TableState). IsSome (opened_at t.opened c.args.file.0)) (sym c.self.view_is) c.requires in
    let below = open-given (map opened_of c.self.inside.entries.items) (length c.self.inside.counts.items) c.args.file.0 c.self.invariant there in
    let put = get_or-set_same c.self.inside.counts.items c.args.file.0 c.raised_count.result 0 below in
    let was : c.index-count.result.now ≡ slice_index c.args.self.now.counts c.args.file.0 =
    c.index-count.ensures ∙ get_or_default_zero c.self.inside.counts.items c.args.file.0 c.index-count.result.now below
    ∙ ap (λ (t : TableState). slice_index t.counts c.args.file.0) c.self.view_is in
    put ∙ c.raised_count.ensures.one_more ∙ ap raised was
