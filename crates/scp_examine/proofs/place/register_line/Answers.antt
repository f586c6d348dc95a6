use Rattle.std.proofs.Common.{length, ap, arith, length-append}
use Rattle.nova_word.proofs.NumberLemmas.{length-octal_digits}
use Rattle.scp_examine.proofs.place.register_line.Goals as goal

pub push-requires : goal.push-requires
push-requires g c =
    let name = simp length-append at (ap length c.push_all.ensures) in
    let mark = simp length-append at (ap length c.push_all-2.ensures) in
    let value = simp (length-append, length-octal_digits) at (ap length c.push_octal.ensures) in
    (omega arith, omega (arith, name, mark, value, ap length c.new-text.ensures, ap length c.as_bytes.ensures.value))
