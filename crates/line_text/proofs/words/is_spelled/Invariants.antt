use Rattle.std.proofs.Common.{◌≡◌, length, drop}
use Rattle.std.specs.Str.{bytes_eq, str_to_ascii_uppercase}
use Rattle.line_text.proofs.words.is_spelled.Given as goal

abbrev pub invariant-loop-i : goal.invariant-loop-i
invariant-loop-i l = record {
  rest : bytes_eq (drop l.i l.name) (drop l.i (str_to_ascii_uppercase l.word)) ≡ bytes_eq l.name (str_to_ascii_uppercase l.word);
  long : length l.name ≡ length l.word;
}
