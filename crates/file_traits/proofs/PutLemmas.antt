-- Texts that are printed one behind another.
use Rattle.std.specs.Borrow.{Bor}
use Rattle.std.proofs.Common.{◌≡◌, ℕ, suc, ◌+◌, ◌<◌, ◌≤◌, List, [], ◌∷◌, ◌++◌, length, take, drop, get_or, Result, Ok, Err, ap, sym, subst, ◌∙◌, arith, append_assoc, append-nil, length-append}
use Rattle.std.proofs.lemmas.List.{drop_more, drop_all, take-append-le}
use Rattle.file_traits.specs.Streams.{AddsPart, Puts, joined}

-- a byte of the first text is refused
pub part-first : (old first second new : List ℕ) → AddsPart old first new → AddsPart old (first ++ second) new
part-first old first second new (n, short, added) =
    let size = length-append first second in
    let fits : n ≤ length first = omega (arith, short) in
    (n, omega (arith, short, size), added ∙ ap (λ t. old ++ t) (sym (take-append-le n first second fits)))

take-behind : (n : ℕ) (first second : List ℕ) → take (length first + n) (first ++ second) ≡ first ++ take n second
take-behind n [] second = ap (λ k. take k second) (omega arith)
take-behind n (b ∷ first) second =
    let one : suc (length first) + n ≡ suc (length first + n) = omega arith in
    ap (λ k. take k (b ∷ first ++ second)) one ∙ ap (λ t. b ∷ t) (take-behind n first second)

-- a byte of the second text is refused, behind the first
pub part-second : (old first second new : List ℕ) → AddsPart (old ++ first) second new → AddsPart old (first ++ second) new
part-second old first second new (n, short, added) =
    let size = length-append first second in (
      length first + n,
      omega (arith, short, size),
      added ∙ append_assoc old first (take n second) ∙ ap (λ t. old ++ t) (sym (take-behind n first second)),
    )

-- the first text was added, and then the second was printed
pub puts-then : {T E : Type 0} (old first mid second : List ℕ) (result : Result T E) (new : List ℕ) → mid ≡ old ++ first
    → Puts mid second result new → Puts old (first ++ second) result new
puts-then old first mid second (Ok x) new added puts = puts ∙ ap (λ t. t ++ second) added ∙ append_assoc old first second
puts-then old first mid second (Err e) new added (n, short, part) =
    part-second old first second new (n, short, part ∙ ap (λ t. t ++ take n second) added)

-- pieces of a text, of which some were printed

at-piece : (pieces : List (Bor (List ℕ))) (i : ℕ) (default : Bor (List ℕ)) → i < length pieces
    → joined (drop i pieces) ≡ (get_or pieces i default).now ++ joined (drop (i + 1) pieces)
at-piece pieces i default within = ap joined (drop_more pieces i default within)

pub pieces-more : {T E : Type 0} (pieces : List (Bor (List ℕ))) (i : ℕ) (default : Bor (List ℕ)) (here next : List ℕ) (result : Result T E) (new : List ℕ)
    → i < length pieces → next ≡ here ++ (get_or pieces i default).now → Puts next (joined (drop (i + 1) pieces)) result new
    → Puts here (joined (drop i pieces)) result new
pieces-more pieces i default here next result new within added puts =
    let P : List ℕ → Type 0 = λ t. Puts here t result new in
    subst P (sym (at-piece pieces i default within)) (puts-then here (get_or pieces i default).now next (joined (drop (i + 1) pieces)) result new added puts)

pub pieces-part : (pieces : List (Bor (List ℕ))) (i : ℕ) (default : Bor (List ℕ)) (here new : List ℕ)
    → i < length pieces → AddsPart here (get_or pieces i default).now new → AddsPart here (joined (drop i pieces)) new
pieces-part pieces i default here new within part =
    let P : List ℕ → Type 0 = λ t. AddsPart here t new in
    subst P (sym (at-piece pieces i default within)) (part-first here (get_or pieces i default).now (joined (drop (i + 1) pieces)) new part)

pub pieces-none : (pieces : List (Bor (List ℕ))) (i : ℕ) (here : List ℕ) → length pieces ≤ i → here ≡ here ++ joined (drop i pieces)
pieces-none pieces i here all = sym (ap (λ l. here ++ joined l) (drop_all i pieces all) ∙ append-nil here)
