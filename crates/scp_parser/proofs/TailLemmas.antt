-- The rest of a line without the blanks round it, and its place in the line.
use Rattle.std.proofs.Common.{◌≡◌, ℕ, List, [], ◌++◌, length, ap, sym, subst, ◌∙◌, inl, inr}
use Rattle.std.proofs.lemmas.List.{append-nil}
use Rattle.line_text.specs.Words.{IsBlanks}
use Rattle.scp_parser.specs.Command.{IsPiece, piece_of}
use Rattle.scp_parser.specs.Grammar.{IsInside, IsTail, nothing_left, some_left}
use Rattle.scp_parser.specs.Reading.{inside_of, piece_before, tail_piece}
use Rattle.scp_parser.proofs.InsideLemmas.{inside_given, inside_of_blanks, blanks_or_inside}
use Rattle.scp_parser.proofs.FileNameLemmas.{piece_is, is_piece}
use Rattle.scp_parser.proofs.EndLemmas.{IsEnd, behind_part}

-- the rest of a line is what its function gives

tail_of_blanks : (text : List ℕ) → IsBlanks text → IsTail text (inside_of text).0
tail_of_blanks text are = subst (λ (x : List ℕ × List ℕ). IsTail text x.0) (sym (inside_of_blanks text are)) (nothing_left are)

tail_inside : (text inside behind : List ℕ) → IsInside text inside behind → IsTail text (inside_of text).0
tail_inside text inside behind is =
    subst (λ (x : List ℕ × List ℕ). IsTail text x.0) (sym (inside_given text inside behind is)) (some_left inside behind is)

pub tail_settled : (text : List ℕ) → IsTail text (inside_of text).0
tail_settled text =
    elim (blanks_or_inside text) [
      | inl are ↦ tail_of_blanks text are
      | inr (x, is) ↦ tail_inside text x.0 x.1 is
    ]

pub tail_is : (text tail : List ℕ) → IsTail text tail → tail ≡ (inside_of text).0
tail_is text tail (nothing_left are) = ap (λ (x : List ℕ × List ℕ). x.0) (sym (inside_of_blanks text are))
tail_is text tail (some_left inside behind is) = ap (λ (x : List ℕ × List ℕ). x.0) (sym (inside_given text inside behind is))

-- its place in a line that it ends

-- where the rest begins, with what stands behind it up to the end of the line
pub record Placed (line text : List ℕ) : Type 0 where
  pub start : List ℕ
  pub spelled : line ≡ start ++ ((inside_of text).0 ++ (inside_of text).1)

placed_at : (line text start : List ℕ) (x : List ℕ × List ℕ) → inside_of text ≡ x → line ≡ start ++ (x.0 ++ x.1) → Placed line text
placed_at line text start x is spelled =
    record { start = start; spelled = spelled ∙ ap (λ (y : List ℕ × List ℕ). start ++ (y.0 ++ y.1)) (sym is) }

placed_inside : (line text inside behind : List ℕ) → IsEnd line text → IsInside text inside behind → Placed line text
placed_inside line text inside behind end is =
    let (start, spelled) = behind_part line text is.before (inside ++ behind) end is.spelled in
    placed_at line text start (inside, behind) (inside_given text inside behind is) spelled

tail_placed : (line text : List ℕ) → IsEnd line text → Placed line text
tail_placed line text end =
    elim (blanks_or_inside text) [
      | inl are ↦ placed_at line text line ([], []) (inside_of_blanks text are) (sym (append-nil line))
      | inr (x, is) ↦ placed_inside line text x.0 x.1 end is
    ]

pub tail_piece_is : (line text : List ℕ) → IsEnd line text → piece_of line (tail_piece (length line) text) ≡ (inside_of text).0
tail_piece_is line text end =
    let at = tail_placed line text end in
    piece_is line at.start (inside_of text).0 (inside_of text).1 at.spelled

pub tail_is_piece : (line text : List ℕ) → IsEnd line text → IsPiece line (tail_piece (length line) text)
tail_is_piece line text end =
    let at = tail_placed line text end in
    is_piece line at.start (inside_of text).0 (inside_of text).1 at.spelled

-- a piece of nothing
pub nothing_is : (line : List ℕ) → piece_of line (piece_before (length line) [] []) ≡ []
nothing_is line = piece_is line line [] [] (sym (append-nil line))

pub nothing_is_piece : (line : List ℕ) → IsPiece line (piece_before (length line) [] [])
nothing_is_piece line = is_piece line line [] [] (sym (append-nil line))
