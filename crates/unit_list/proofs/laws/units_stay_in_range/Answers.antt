use Rattle.unit_list.proofs.Ranges.{initial-fits, moved-fits, word-fits, wish-timely, unit-low}
use Rattle.unit_list.proofs.laws.units_stay_in_range.Goals as goal

pub returns : goal.returns
returns c = record { begin = initial-fits; fits = moved-fits; word = word-fits; wish = wish-timely; unit = unit-low }
