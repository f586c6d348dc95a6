use Rattle.std.proofs.Common.{◌≤◌, length, map, is_some, sym, ap, subst, slice_index_or, arith}
use Rattle.unit_list.specs.Bus.{kinds_of}
use Rattle.unit_list.specs.Places.{place_in}
use Rattle.unit_list.proofs.Table.{stands-there, found-there, none-there, none-high, table-at}
use Rattle.unit_list.proofs.places.Places.of.Goals as goal

pub returns-then-from-ge-CODES-clause-found : goal.returns-then-from-ge-CODES-clause-found
returns-then-from-ge-CODES-clause-found g c =
    sym (ap is_some (none-high c.args.code (map g.U.Unit.unit_state c.args.units.now) (omega (arith, c.if-from-ge-CODES.true, c.from.ensures))))

pub returns-then-from-ge-CODES-clause-none : goal.returns-then-from-ge-CODES-clause-none
returns-then-from-ge-CODES-clause-none g c =
    λ none. none-high c.args.code (map g.U.Unit.unit_state c.args.units.now) (omega (arith, c.if-from-ge-CODES.true, c.from.ensures))

pub returns-then-place-units-clause-stands : goal.returns-then-place-units-clause-stands
returns-then-place-units-clause-stands g c =
    let unit_state = g.U.Unit.unit_state in
    let units = c.args.units.now in
    let code = c.args.code in
    let at = table-at (kinds_of (map unit_state units)) c.self.inside.table c.args.self.now code c.from-2.result (c.from-2.ensures) (omega (arith, c.if-from-ge-CODES.false, c.from.ensures)) c.self.view_is c.requires in
    stands-there unit_state units code (slice_index_or c.self.inside.table c.from-2.result 0) at c.if-place-units.true

pub returns-then-place-units-clause-found : goal.returns-then-place-units-clause-found
returns-then-place-units-clause-found g c =
    let unit_state = g.U.Unit.unit_state in
    let units = c.args.units.now in
    let code = c.args.code in
    let at = table-at (kinds_of (map unit_state units)) c.self.inside.table c.args.self.now code c.from-2.result (c.from-2.ensures) (omega (arith, c.if-from-ge-CODES.false, c.from.ensures)) c.self.view_is c.requires in
    let stands = stands-there unit_state units code (slice_index_or c.self.inside.table c.from-2.result 0) at c.if-place-units.true in
    sym (found-there code (map unit_state units) (slice_index_or c.self.inside.table c.from-2.result 0) stands)

pub returns-else-place-units-clause-found : goal.returns-else-place-units-clause-found
returns-else-place-units-clause-found g c =
    let unit_state = g.U.Unit.unit_state in
    let units = c.args.units.now in
    let code = c.args.code in
    let at = table-at (kinds_of (map unit_state units)) c.self.inside.table c.args.self.now code c.from-2.result (c.from-2.ensures) (omega (arith, c.if-from-ge-CODES.false, c.from.ensures)) c.self.view_is c.requires in
    let far : length units ≤ place_in code (kinds_of (map unit_state units)) = subst (λ n. length units ≤ n) at c.if-place-units.false in
    sym (ap is_some (none-there unit_state units code far))

pub returns-else-place-units-clause-none : goal.returns-else-place-units-clause-none
returns-else-place-units-clause-none g c =
    let unit_state = g.U.Unit.unit_state in
    let units = c.args.units.now in
    let code = c.args.code in
    let at = table-at (kinds_of (map unit_state units)) c.self.inside.table c.args.self.now code c.from-2.result (c.from-2.ensures) (omega (arith, c.if-from-ge-CODES.false, c.from.ensures)) c.self.view_is c.requires in
    let far : length units ≤ place_in code (kinds_of (map unit_state units)) = subst (λ n. length units ≤ n) at c.if-place-units.false in
    λ none. none-there unit_state units code far
