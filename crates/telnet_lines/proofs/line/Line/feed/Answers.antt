use Rattle.std.proofs.Common.{◌≡◌, ◌∙◌, ap, sym, ℕ, ◌++◌}
use Rattle.circular_buffer.specs.Buffer.{Buffer}
use Rattle.telnet_lines.specs.Line.{LineOf}
use Rattle.telnet_lines.specs.Telnet.{rest_of, keys_of}
use Rattle.telnet_lines.proofs.Cutting.{keys_behind, rest_behind}
use Rattle.telnet_lines.proofs.line.Line.feed.Goals as goal

pub returns-clause-cut : goal.returns-clause-cut
returns-clause-cut c = λ received is.
    let rest = c.self.inside.rest in
    let bytes = c.args.bytes.now in
    let left : rest ≡ rest_of received = ap (λ (l : LineOf ℕ). l.rest) c.self.view_is ∙ is in (
      c.decode.ensures.rest ∙ sym (rest_behind rest received bytes left),
      keys_behind rest received bytes left ∙ ap (λ (b : Buffer ℕ). keys_of received ++ b.items) (sym c.decode.ensures.keys),
    )
