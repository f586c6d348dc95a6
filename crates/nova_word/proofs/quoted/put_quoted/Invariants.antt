use Rattle.std.proofs.Common.{◌≡◌, ◌-◌, ◌<◌, ◌≤◌, length, take, drop}
use Rattle.nova_word.proofs.QuotedLemmas.{Reading}
use Rattle.nova_word.proofs.quoted.put_quoted.Given as goal

abbrev pub invariant-loop-place : goal.invariant-loop-place
invariant-loop-place l = record {
  counted : l.count < l.place;
  within : l.place ≤ length l.text;
  reading : Reading l.text (take l.count l.out) (drop l.place l.text);
  behind : drop l.count l.out ≡ drop l.count l.initial.out;
}

abbrev pub decreases-loop-place : goal.decreases-loop-place
decreases-loop-place l = length l.text - l.place
