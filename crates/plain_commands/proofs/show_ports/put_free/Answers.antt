use Rattle.std.proofs.Common.{◌≡◌, ◌++◌, ◌∷◌, [], ℕ, List, codes, decimal, subst, rules}
use Rattle.file_traits.specs.Streams.{Puts}
use Rattle.plain_commands.proofs.show_ports.put_free.Goals as goal

pub returns-clause-told : goal.returns-clause-told
returns-clause-told g c = λ told.
    let first_is : c.as_bytes.result.now ≡ decimal c.args.first = search rules in
    let last_is : c.as_bytes-2.result.now ≡ decimal c.args.last = search rules in
    subst (λ (digits : List ℕ). Puts (g.S.Sink.written c.args.out.now) (codes "QTY, listening on ports " ++ (digits ++ (codes " to " ++ (decimal c.args.last ++ 10 ∷ [])))) c.put_pieces.result (g.S.Sink.written c.put_pieces.new.sink))
    first_is
    (subst (λ (digits : List ℕ). Puts (g.S.Sink.written c.args.out.now) (codes "QTY, listening on ports " ++ (c.as_bytes.result.now ++ (codes " to " ++ (digits ++ 10 ∷ [])))) c.put_pieces.result (g.S.Sink.written c.put_pieces.new.sink))
    last_is (c.put_pieces.ensures.told told))
