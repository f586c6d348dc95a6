use Rattle.std.proofs.Common.{◌≡◌, ◌≤◌, ◌++◌, length, drop}
use Rattle.telnet_lines.specs.Telnet.{further_keys, further_rest}
use Rattle.telnet_lines.proofs.decoder.decode.Given as goal

abbrev pub invariant-loop-byte : goal.invariant-loop-byte
invariant-loop-byte l = (length l.keys.items ≤ l.byte-index) × (l.keys.capacity ≡ l.fn.keys.capacity)
    × (further_keys l.fn.rest l.bytes ≡ l.keys.items ++ further_keys l.rest (drop l.byte-index l.bytes))
    × (further_rest l.fn.rest l.bytes ≡ further_rest l.rest (drop l.byte-index l.bytes))
