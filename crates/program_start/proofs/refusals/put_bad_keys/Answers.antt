use Rattle.std.proofs.Common.{List, ℕ, ◌∷◌, [], ◌++◌, codes, subst, ◌∙◌}
use Rattle.file_traits.specs.Streams.{Puts}
use Rattle.program_start.proofs.refusals.put_bad_keys.Goals as goal

pub returns-clause-told : goal.returns-clause-told
returns-clause-told g c = λ sink.
    let P : List ℕ → Type 0 = λ d. Puts (g.S.Sink.written c.args.output.now) (codes "Bad keys file at " ++ d ++ 10 ∷ []) c.put_pieces.result (g.S.Sink.written c.put_pieces.new.sink) in
    subst P (c.as_bytes.ensures.value ∙ c.format.ensures.text) (c.put_pieces.ensures.told sink)
