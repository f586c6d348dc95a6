use Rattle.std.proofs.Common.{◌≡◌, ◌≤◌, ◌+◌, ◌++◌, drop}
use Rattle.std.specs.Prelude.{vec_len, vec_capacity}
use Rattle.host_lines.specs.Traffic.{Caller, sent_bytes}
use Rattle.host_lines.proofs.traffic.keep_sent.Given as goal

abbrev pub invariant-loop-byte : goal.invariant-loop-byte
invariant-loop-byte l = (l.fn.sent.items ++ sent_bytes (Caller l.fn.caller) l.bytes ≡ l.sent.items ++ sent_bytes (Caller l.fn.caller) (drop l.byte-index l.bytes))
    × (vec_len l.sent ≡ vec_len l.fn.sent + l.byte-index) × (vec_capacity l.fn.sent ≤ vec_capacity l.sent)
