-- Lines that keep a record of their answers.
use Rattle.std.proofs.Common.{◌≡◌, ◌∙◌, ap, sym, refl, List, [], ◌∷◌, ◌++◌, length, drop, append_assoc}
use Rattle.std.proofs.Math.Seq.{drop-append_seam}
use Rattle.host_lines.specs.Traffic.{Answer, Answers, reply}
use Rattle.host_lines.specs.Laws.{RecordsAnswer}

-- behind a record, the answer that is put there comes first, and what is ahead of the longer record comes behind it
answer_ahead : (answers : List Answer) (answer : Answer) (whole rest : List Answer) → whole ≡ (answers ++ answer ∷ []) ++ rest
    → drop (length answers) whole ≡ answer ∷ drop (length (answers ++ answer ∷ [])) whole
answer_ahead answers answer whole rest is =
    let longer = answers ++ answer ∷ [] in
    ap (drop (length answers)) (is ∙ append_assoc answers (answer ∷ []) rest) ∙ drop-append_seam answers (answer ∷ rest)
    ∙ ap (λ (l : List Answer). answer ∷ l) (sym (ap (drop (length longer)) is ∙ drop-append_seam longer rest))

pub record_gives : RecordsAnswer
record_gives answers answer act = record {
  kind = tt;
  grows = (answer ∷ [], refl);
  gives = λ whole first. ap (λ (l : List Answer). reply act (Answers l)) (answer_ahead answers answer whole first.0 first.1);
}
