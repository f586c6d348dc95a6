-- The texts that stand at the end of a line.
use Rattle.std.proofs.Common.{◌≡◌, ℕ, Option, List, ◌++◌, ap, sym, ◌∙◌}
use Rattle.std.proofs.lemmas.List.{append_assoc}
use Rattle.line_text.specs.Words.{Begins}
use Rattle.scp_parser.specs.Grammar.{MayBegin, there, not_there}

-- the text stands at the end of the line
abbrev pub IsEnd : List ℕ → List ℕ → Type 0
IsEnd line text = (front : List ℕ) × (line ≡ front ++ text)

pub behind_part : (line text part rest : List ℕ) → IsEnd line text → text ≡ part ++ rest → IsEnd line rest
behind_part line text part rest (front, is) spelled =
    (front ++ part, is ∙ ap (λ (t : List ℕ). front ++ t) spelled ∙ sym (append_assoc front part rest))

pub behind_word : (line text word rest : List ℕ) → IsEnd line text → Begins text word rest → IsEnd line rest
behind_word line text word rest is begins =
    behind_part line text (begins.blanks ++ word) rest is (begins.spelled ∙ sym (append_assoc begins.blanks word rest))

pub behind_maybe : {V : Type 0} (Form : List ℕ → V → Type 0) (line text rest : List ℕ) (o : Option V) → IsEnd line text → MayBegin Form text o rest → IsEnd line rest
behind_maybe Form line text rest o is (there word _ v begins here) = behind_word line text word rest is begins
behind_maybe Form line text rest o is (not_there never) = is
