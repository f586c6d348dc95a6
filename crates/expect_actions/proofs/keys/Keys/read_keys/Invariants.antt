use Rattle.std.proofs.Common.{◌≡◌, ◌+◌, ◌<◌, ◌≤◌, length, vec_len}
use Rattle.expect_actions.specs.KeysFile.{lines_of, keys_from, keys_read}
use Rattle.expect_actions.proofs.keys.Keys.read_keys.Given as goal

abbrev pub invariant-loop-rest : goal.invariant-loop-rest
invariant-loop-rest l = record {
  answer : keys_from l.time l.list.items l.place (lines_of l.rest) ≡ keys_read l.bytes;
  few : length l.list.items ≤ 65536;
  room : vec_len l.text ≡ length l.bytes;
  shorter : length l.rest ≤ length l.bytes;
  place : 0 < length l.rest → l.place + length l.rest ≤ length l.bytes;
}

abbrev pub decreases-loop-rest : goal.decreases-loop-rest
decreases-loop-rest l = length l.rest
