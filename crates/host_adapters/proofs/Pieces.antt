-- A file that is read and written piece by piece.
use Rattle.std.proofs.Common.{◌≡◌, ℕ, ◌+◌, ◌-◌, ◌≤◌, List, [], ◌∷◌, ◌++◌, length, take, drop, replicate}
use Rattle.std.proofs.Common.{Result, Ok, Err, IfOk, ap, sym, ◌∙◌, subst, arith, append-nil}
use Rattle.std.proofs.lemmas.List.{take_at, drop_at, drop-drop, take-append-le, append_assoc}
use Rattle.std.proofs.lemmas.List.{length-append, length-replicate, length-take-le}
use Rattle.std.proofs.Math.Seq.{take-add}
use Rattle.file_traits.specs.Lists.{filled, overwritten}
use Rattle.host_adapters.specs.Placed.{IsRead, Gives}

-- so many bytes stand in the buffer, and a call gives the next ones behind them
read-more : (bytes buf more rest : List ℕ) (place count n : ℕ) → count ≤ length buf → n ≤ length more
    → IsRead bytes place count buf → Gives bytes (place + count) n more
    → IsRead bytes place (count + n) (take count buf ++ (more ++ rest))
read-more bytes buf more rest place count n fits bound so_far gives =
    let first = take count buf in
    let there = take count (drop place bytes) in
    let long : length first ≡ count = length-take-le count buf fits in
    let whole = first ++ (more ++ rest) in
    let within = so_far.within in
    let next = gives.read.within in
    record {
      within = omega (arith, within, next);
      given =
          take-add count n whole
          ∙ ap (λ (xs : List ℕ). xs ++ take n (drop count whole)) (take_at first _ count long ∙ so_far.given)
          ∙ ap (λ (xs : List ℕ). there ++ take n xs) (drop_at first (more ++ rest) count long)
          ∙ ap (λ (xs : List ℕ). there ++ xs) (take-append-le n more rest bound ∙ gives.read.given)
          ∙ ap (λ (xs : List ℕ). there ++ take n xs) (sym (drop-drop count place bytes))
          ∙ sym (take-add count n (drop place bytes));
    }

-- .. where the call does not fail
pub read-on : {E : Type 0} (result : Result ℕ E) (bytes buf more rest : List ℕ) (place at count : ℕ)
    → at ≡ place + count → count ≤ length buf
    → IfOk result (λ n. n ≤ length more) → IfOk result (λ n. Gives bytes at n more)
    → IsRead bytes place count buf
    → IfOk result (λ n. IsRead bytes place (count + n) (take count buf ++ (more ++ rest)))
read-on (Ok n) bytes buf more rest place at count is fits bound gives so_far =
    read-more bytes buf more rest place count n fits bound so_far (subst (λ (p : ℕ). Gives bytes p n more) is gives)
read-on (Err e) bytes buf more rest place at count is fits bound gives so_far = tt

-- a piece that is put behind another one
written-behind : (bytes : List ℕ) (place : ℕ) (a : ℕ) (xs : List ℕ) (b : ℕ) (ys : List ℕ)
    → overwritten (overwritten bytes place (a ∷ xs)) (place + length (a ∷ xs)) (b ∷ ys)
    ≡ overwritten bytes place ((a ∷ xs) ++ (b ∷ ys))
written-behind bytes place a xs b ys =
    let first = a ∷ xs in
    let second = b ∷ ys in
    let front = take place (filled bytes place) in
    let middle = place + length first in
    let tail = drop middle bytes in
    let whole = front ++ first ++ tail in
    let added = length-append bytes (replicate (place - length bytes) 0) in
    let zeros = length-replicate {A = ℕ} (place - length bytes) 0 in
    let long : length front ≡ place = length-take-le place (filled bytes place) (omega (arith, added, zeros)) in
    let ends : length (front ++ first) ≡ middle = length-append front first ∙ ap (λ (n : ℕ). n + length first) long in
    let over = length-append (front ++ first) tail in
    let fits : middle ≤ length whole = omega (arith, over, ends) in
    let both = length-append first second in
    let behind : middle + length second ≡ place + length (first ++ second) = omega (arith, both) in
    let zeros_behind = replicate (middle - length whole) 0 in
    let kept = take-append-le middle whole zeros_behind fits ∙ take_at (front ++ first) tail middle ends in
    let left =
    sym (drop-drop (length second) middle whole)
    ∙ ap (λ (zs : List ℕ). drop (length second) zs) (drop_at (front ++ first) tail middle ends)
    ∙ drop-drop (length second) middle bytes
    ∙ ap (λ (k : ℕ). drop k bytes) behind in
    ap (λ (zs : List ℕ). zs ++ second ++ drop (middle + length second) whole) kept
    ∙ ap (λ (zs : List ℕ). front ++ first ++ second ++ zs) left
    ∙ ap (λ (zs : List ℕ). zs ++ drop (place + length (first ++ second)) bytes) (append_assoc front first second)

written-more : (bytes first second : List ℕ) (place : ℕ)
    → overwritten (overwritten bytes place first) (place + length first) second
    ≡ overwritten bytes place (first ++ second)
written-more bytes [] second place = ap (λ (p : ℕ). overwritten bytes p second) (omega arith)
written-more bytes (a ∷ xs) [] place = ap (λ (zs : List ℕ). overwritten bytes place zs) (sym (append-nil (a ∷ xs)))
written-more bytes (a ∷ xs) (b ∷ ys) place = written-behind bytes place a xs b ys

-- the first bytes of a piece are written, and then some of the rest
pub write-on : (before now new piece : List ℕ) (place done n : ℕ) → done ≤ length piece
    → now ≡ overwritten before place (take done piece) → new ≡ overwritten now (place + done) (take n (drop done piece))
    → new ≡ overwritten before place (take (done + n) piece)
write-on before now new piece place done n within so_far then =
    let first = take done piece in
    let second = take n (drop done piece) in
    let long : done ≡ length first = sym (length-take-le done piece within) in
    then
    ∙ ap (λ (xs : List ℕ). overwritten xs (place + done) second) so_far
    ∙ ap (λ (k : ℕ). overwritten (overwritten before place first) (place + k) second) long
    ∙ written-more before first second place
    ∙ ap (λ (xs : List ℕ). overwritten before place xs) (sym (take-add done n piece))
