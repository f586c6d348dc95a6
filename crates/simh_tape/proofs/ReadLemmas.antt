-- Several reads, one behind another.
use Rattle.std.proofs.Common.{◌≡◌, ℕ, ◌+◌, ◌-◌, ◌≤◌, List, ◌++◌, length, take, drop, min, ap, sym, ◌∙◌, arith, length-take, length-drop, length-append}
use Rattle.std.proofs.lemmas.List.{take-append-le, drop-drop}
use Rattle.std.proofs.Math.Seq.{take-add, take-append-add}
use borrow.Rule.Slice.PartMut.{put_mid}

-- first bytes of a buffer, into whose rest a read put some more
take_more : (buffer new : List ℕ) (have count k : ℕ) → have ≤ length buffer → count ≤ length new
    → take (have + count) (put_mid have k buffer new) ≡ take have buffer ++ take count new
take_more buffer new have count k within few =
    let front : length (take have buffer) ≡ have = omega (arith, length-take have buffer) in
    ap (λ (n : ℕ). take (n + count) (put_mid have k buffer new)) (sym front)
    ∙ take-append-add (take have buffer) (new ++ drop k (drop have buffer)) count
    ∙ ap (λ (l : List ℕ). take have buffer ++ l) (take-append-le count new (drop k (drop have buffer)) few)

-- the bytes from a place on, as far as two reads came
pub read_more : (buffer new bytes : List ℕ) (place have count k : ℕ) → have ≤ length buffer → count ≤ length new
    → take have buffer ≡ take have (drop place bytes) → take count new ≡ take count (drop (place + have) bytes)
    → take (have + count) (put_mid have k buffer new) ≡ take (have + count) (drop place bytes)
read_more buffer new bytes place have count k within few before more =
    take_more buffer new have count k within few
    ∙ ap (λ (l : List ℕ). l ++ take count new) before
    ∙ ap (λ (l : List ℕ). take have (drop place bytes) ++ l) (more ∙ ap (take count) (sym (drop-drop have place bytes)))
    ∙ sym (take-add have count (drop place bytes))

-- the buffer behind a read keeps its length
pub put-length : (buffer new : List ℕ) (have k : ℕ) → have ≤ length buffer → length new ≡ min k (length buffer - have)
    → length (put_mid have k buffer new) ≡ length buffer
put-length buffer new have k within long =
    omega (
      arith,
      length-append (take have buffer) (new ++ drop k (drop have buffer)),
      length-append new (drop k (drop have buffer)),
      length-take have buffer,
      length-drop k (drop have buffer),
      length-drop have buffer,
    )
