use Rattle.std.proofs.Common.{◌≡◌, ◌≢◌, ◌+◌, ◌∷◌, map, subst, List, rules}
use Rattle.file_traits.specs.State.{Opened}
use Rattle.host_files.specs.OpenTable.{opened_of, StandsAt}
use Rattle.host_files.proofs.Tables.{stands-further}
use Rattle.host_files.proofs.open_table.+place_of.Goals as goal

pub returns-in-Some-place_of : goal.returns-in-Some-place_of
returns-in-Some-place_of g n c =
    let other : c.in-Some.first.now.file ≢ c.args.file = search rules in
    let at : StandsAt (map opened_of c.in-Some.rest.now) c.args.file c.in-Some-place_of.i = search rules in
    let further = stands-further (opened_of c.in-Some.first.now) (map opened_of c.in-Some.rest.now) c.args.file c.in-Some-place_of.i other at in
    let list : opened_of c.in-Some.first.now ∷ map opened_of c.in-Some.rest.now ≡ map opened_of c.args.entries.now = search rules in
    subst (λ (xs : List Opened). StandsAt xs c.args.file (c.in-Some-place_of.i + 1)) list further
