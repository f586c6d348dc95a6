use Rattle.std.proofs.Common.{length, ap, arith, length-append}
use Rattle.nova_word.proofs.NumberLemmas.{length-octal_digits}
use Rattle.scp_examine.proofs.place.unit_register_line.Goals as goal

pub push-requires : goal.push-requires
push-requires g c =
    let mark = simp length-append at (ap length c.push_all.ensures) in
    let value = simp (length-append, length-octal_digits) at (ap length c.push_octal.ensures) in
    (omega arith, omega (arith, mark, value, c.push_name.ensures.bound, ap length c.new-text.ensures))
