use Rattle.std.proofs.Common.{◌≡◌, ◌∙◌, ap, sym, List, ℕ, [], ◌++◌, drop, append-nil}
use Rattle.std.proofs.lemmas.List.{drop_all}
use Rattle.circular_buffer.specs.Buffer.{buffer}
use Rattle.telnet_lines.specs.Telnet.{further_keys, further_rest}
use Rattle.telnet_lines.proofs.Cutting.{no_keys, same_rest}
use Rattle.telnet_lines.proofs.decoder.decode.Goals as goal

pub returns-clause-keys : goal.returns-clause-keys
returns-clause-keys c =
    let rest = c.loop-byte.rest in
    let keys = c.loop-byte.keys.items in
    let end : drop c.loop-byte.byte-index c.args.bytes.now ≡ [] = drop_all c.loop-byte.byte-index c.args.bytes.now c.loop-byte-test.false in
    let all : further_keys c.args.rest.now c.args.bytes.now ≡ keys =
    c.loop-byte.invariant.2 ∙ ap (λ (l : List ℕ). keys ++ further_keys rest l) end ∙ ap (λ (l : List ℕ). keys ++ l) (no_keys rest) ∙ append-nil keys in
    ap (buffer keys) c.loop-byte.invariant.1 ∙ ap (λ (l : List ℕ). buffer l c.args.keys.now.capacity) (sym all)

pub returns-clause-rest : goal.returns-clause-rest
returns-clause-rest c =
    let rest = c.loop-byte.rest in
    let end : drop c.loop-byte.byte-index c.args.bytes.now ≡ [] = drop_all c.loop-byte.byte-index c.args.bytes.now c.loop-byte-test.false in
    sym (c.loop-byte.invariant.3 ∙ ap (further_rest rest) end ∙ same_rest rest)
