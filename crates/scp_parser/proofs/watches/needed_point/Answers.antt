use Rattle.std.proofs.Common.{◌≡◌, take, Some}
use Rattle.std.specs.List.{position_or_len}
use Rattle.scp_parser.specs.Operands.{break_of, ends_point}
use Rattle.scp_parser.proofs.CountLemmas.{point_there}
use Rattle.scp_parser.proofs.watches.needed_point.Goals as goal

pub returns-in-Some : goal.returns-in-Some
returns-in-Some c =
    let past = c.past_blanks-past.result.now in
    let n = position_or_len ends_point past in
    let read : break_of (take n past) ≡ Some c.in-Some.point = cc (c.in-Some.ensures, c.split_at.ensures.front, c.point_place.ensures.place) in
    cc (point_there c.args.text.now past c.in-Some.point c.past_blanks-past.ensures read, c.split_at.ensures.back, c.point_place.ensures.place)
