-- Reads of the bytes in front of a limit.
use Rattle.std.proofs.Common.{◌≡◌, ℕ, ◌+◌, ◌-◌, ◌≤◌, List, ◌++◌, length, take, drop, Result, Ok, Err, ap, sym, ◌∙◌, arith, length-take, length-append}
use Rattle.std.proofs.lemmas.List.{take-take, take_all, drop-take, take-append-le}
use Rattle.file_traits.specs.FileCalls.{Reads}
use Rattle.file_traits.specs.OneList.{longest_list, shown}

-- first bytes of those behind a place, where they stand in front of the limit
taken_within : (bytes : List ℕ) (place limit n : ℕ) → place + n ≤ limit → take n (drop place bytes) ≡ take n (drop place (take limit bytes))
taken_within bytes place limit n within =
    let more : limit ≡ place + (limit - place) = omega (arith, within) in
    sym (ap (λ (k : ℕ). take n (drop place (take k bytes))) more
    ∙ ap (λ (ys : List ℕ). take n ys) (drop-take place (limit - place) bytes)
    ∙ take-take n (limit - place) (drop place bytes) (omega (arith, within)))

-- a read whose buffer ends in front of the limit
pub reads_within : {E : Type 0} (bytes buf : List ℕ) (place limit : ℕ) (result : Result ℕ E) → place + length buf ≤ limit → Reads bytes place result buf → Reads (take limit bytes) place result buf
reads_within bytes buf place limit (Ok n) within (count, same) = (omega (arith, length-take limit bytes, within, count), same ∙ taken_within bytes place limit n (omega (arith, within, count)))
reads_within bytes buf place limit (Err e) within reads = tt

-- a read into the part of a buffer that ends at the limit
pub reads_up_to : {E : Type 0} (bytes buf rest : List ℕ) (place limit : ℕ) (result : Result ℕ E) → place + length buf ≡ limit → Reads bytes place result buf → Reads (take limit bytes) place result (buf ++ rest)
reads_up_to bytes buf rest place limit (Ok n) within (count, same) = (
  omega (arith, length-take limit bytes, length-append buf rest, within, count),
  take-append-le n buf rest (omega (arith, count)) ∙ same ∙ taken_within bytes place limit n (omega (arith, within, count)),
)
reads_up_to bytes buf rest place limit (Err e) within reads = tt

-- bytes that end in front of the limit
pub shown_all : (bytes : List ℕ) → length bytes ≤ longest_list → shown bytes ≡ bytes
unfolding shown
shown_all bytes fits = take_all longest_list bytes fits
