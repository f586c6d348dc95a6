use Rattle.std.proofs.Common.{◌≡◌, ◌++◌, drop}
use Rattle.nova_word.specs.Numbers.{octal_digits}
use Rattle.nova_word.proofs.numbers.write_octal.Given as goal

abbrev pub invariant-loop-place : goal.invariant-loop-place
invariant-loop-place l =
    octal_digits l.place l.rest ++ drop l.place l.out ≡ octal_digits l.digits l.initial.rest ++ drop l.digits l.initial.out
