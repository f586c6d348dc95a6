-- Pieces that are written one behind another.
use Rattle.std.specs.Borrow.{Bor}
use Rattle.std.proofs.Common.{◌≡◌, ℕ, ◌+◌, ◌<◌, ◌≤◌, List, [], ◌++◌, length, take, drop, get_or, ap, sym, ◌∙◌, arith, length-append, length-drop, append_assoc}
use Rattle.std.proofs.lemmas.List.{drop_more, drop_all, drop_at, drop-drop, take-append-le, take_all}
use Rattle.std.proofs.Math.Seq.{take-add}
use Rattle.file_traits.specs.Streams.{joined}

-- the piece that comes next, and those behind it
pub next_piece : (pieces : List (Bor (List ℕ))) (i : ℕ) (default : Bor (List ℕ)) (left : List ℕ) → i < length pieces →
    joined (drop i pieces) ≡ left → left ≡ (get_or pieces i default).now ++ joined (drop (i + 1) pieces)
next_piece pieces i default left within is = sym is ∙ ap joined (drop_more pieces i default within)

pub piece_fits : (item piece rest : List ℕ) (done : ℕ) → done ≤ length item → drop done item ≡ piece ++ rest →
    done + length piece ≤ length item
piece_fits item piece rest done within left =
    omega (arith, ap length left, length-append piece rest, length-drop done item)

-- first bytes of an item, as far as first bytes of the next piece
pub part_more : (old item piece rest before now : List ℕ) (done count : ℕ) → count ≤ length piece →
    drop done item ≡ piece ++ rest → before ≡ old ++ take done item → now ≡ before ++ take count piece →
    now ≡ old ++ take (done + count) item
part_more old item piece rest before now done count few left was added =
    added ∙ ap (λ (l : List ℕ). l ++ take count piece) was
    ∙ append_assoc old (take done item) (take count piece)
    ∙ ap (λ (l : List ℕ). old ++ (take done item ++ l))
    (sym (take-append-le count piece rest few) ∙ ap (take count) (sym left))
    ∙ ap (λ (l : List ℕ). old ++ l) (sym (take-add done count item))

-- what is left behind a piece
pub left_more : (item piece rest : List ℕ) (done : ℕ) → drop done item ≡ piece ++ rest →
    rest ≡ drop (done + length piece) item
left_more item piece rest done left =
    sym (drop_at piece rest (length piece) (omega arith)) ∙ ap (drop (length piece)) (sym left)
    ∙ drop-drop (length piece) done item

-- behind the last piece
pub all_done : (pieces : List (Bor (List ℕ))) (i done : ℕ) → length pieces ≤ i → done ≤ length (joined pieces) →
    joined (drop i pieces) ≡ drop done (joined pieces) → done ≡ length (joined pieces)
all_done pieces i done all within left =
    let none : drop done (joined pieces) ≡ [] = sym left ∙ ap joined (drop_all i pieces all) in
    omega (arith, ap length none, length-drop done (joined pieces))

pub whole : (old item now : List ℕ) (done : ℕ) → done ≡ length item → now ≡ old ++ take done item → now ≡ old ++ item
whole old item now done all is =
    let enough : length item ≤ done = omega arith in
    is ∙ ap (λ (l : List ℕ). old ++ l) (take_all done item enough)
