use Rattle.std.proofs.Common.{◌≡◌, map, take}
use Rattle.unit_list.specs.Bus.{kinds_of}
use Rattle.unit_list.specs.Places.{place_in}
use Rattle.unit_list.proofs.places.first_place.Given as goal

abbrev pub invariant-loop-place : goal.invariant-loop-place
invariant-loop-place g l = place_in l.code (kinds_of (map g.U.Unit.unit_state (take l.place l.units))) ≡ l.place
