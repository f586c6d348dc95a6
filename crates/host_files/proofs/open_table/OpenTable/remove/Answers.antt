use Rattle.std.proofs.Common.{◌≡◌, None, List, length, map, sym, ap, subst, ◌∙◌, rules}
use Rattle.std.specs.List.{remove}
use Rattle.file_traits.specs.State.{Opened, opened_at, without}
use Rattle.host_files.specs.OpenTable.{TableState, StandsAt, opened_of, all_given}
use Rattle.host_files.proofs.Tables.{map-remove, given-without, without-missing}
use Rattle.host_files.proofs.open_table.OpenTable.remove.Goals as goal

pub invariant_of-self : goal.invariant_of-self
invariant_of-self g c =
    let opened = map opened_of c.self.inside.entries.items in
    let at : StandsAt opened c.args.file.0 c.in-Some.at = search rules in
    let items : c.remove.new.self.items ≡ remove c.self.inside.entries.items c.in-Some.at = search rules in
    ap (λ xs. all_given (map opened_of xs) (length c.self.inside.counts.items)) items
    ∙ ap (λ (xs : List Opened). all_given xs (length c.self.inside.counts.items)) (map-remove opened_of c.self.inside.entries.items c.in-Some.at ∙ sym at.rest)
    ∙ given-without opened (length c.self.inside.counts.items) c.args.file.0 c.self.invariant

pub returns-in_default-clause-opened : goal.returns-in_default-clause-opened
returns-in_default-clause-opened g c =
    let none : opened_at (map opened_of c.self.inside.entries.items) c.args.file.0 ≡ None = search rules in
    sym (without-missing c.args.self.now.opened c.args.file.0 (subst (λ (t : TableState). opened_at t.opened c.args.file.0 ≡ None) c.self.view_is none))

pub returns-in-Some-clause-opened : goal.returns-in-Some-clause-opened
returns-in-Some-clause-opened g c =
    let opened = map opened_of c.self.inside.entries.items in
    let at : StandsAt opened c.args.file.0 c.in-Some.at = search rules in
    let items : c.remove.new.self.items ≡ remove c.self.inside.entries.items c.in-Some.at = search rules in
    ap (λ xs. map opened_of xs) items ∙ map-remove opened_of c.self.inside.entries.items c.in-Some.at ∙ sym at.rest
    ∙ ap (λ (t : TableState). without t.opened c.args.file.0) c.self.view_is
