use Rattle.std.proofs.Common.{◌≡◌, ℕ, IsTrue, List, [], ◌∷◌, ◌++◌, codes, decimal, append_assoc, ap, sym, ◌∙◌, subst}
use Rattle.file_traits.specs.Streams.{Puts}
use Rattle.command_session.specs.FaultText.{words_line}
use Rattle.command_session.proofs.fault.put_words.Goals as goal

pub returns-in-Version-clause-told : goal.returns-in-Version-clause-told
returns-in-Version-clause-told g c =
    let words : List ℕ = c.args.words.now in
    let number : List ℕ = decimal c.in-Version.version in
    let says : List ℕ = codes " not supported" in
    let text : words ++ (c.as_bytes-in-Version.result.now ++ (says ++ 10 ∷ [])) ≡ words_line words c.args.detail =
    ap (λ (n : List ℕ). words ++ (n ++ (says ++ 10 ∷ []))) (c.as_bytes-in-Version.ensures.value ∙ c.format-in-Version.ensures.text)
    ∙ ap (λ (l : List ℕ). words ++ l) (sym (append_assoc number says (10 ∷ []))) ∙ sym (append_assoc words (number ++ says) (10 ∷ []))
    ∙ ap (words_line words) (sym c.in-Version.is) in
    subst (λ (l : List ℕ). IsTrue g.S.Sink.tells → Puts (g.S.Sink.written c.args.out.now) l c.put_pieces-in-Version.result (g.S.Sink.written c.put_pieces-in-Version.new.sink))
    text c.put_pieces-in-Version.ensures.told
