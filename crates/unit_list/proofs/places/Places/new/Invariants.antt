use Rattle.std.proofs.Common.{◌≡◌, length, map, take}
use Rattle.std.specs.List.{range_with_len}
use Rattle.unit_list.specs.Bus.{kinds_of}
use Rattle.unit_list.specs.Places.{place_in}
use Rattle.unit_list.proofs.places.Places.new.Given as goal

abbrev pub invariant-loop-code : goal.invariant-loop-code
invariant-loop-code g l = record {
  whole : length l.table ≡ 64;
  filled : take l.code l.table ≡ map (λ code. place_in code (kinds_of (map g.U.Unit.unit_state l.units))) (range_with_len 0 l.code);
}
