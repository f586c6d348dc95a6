-- Bytes that were sent, one more at a time.
use Rattle.std.proofs.Common.{◌≡◌, ◌∙◌, ap, sym, arith, ℕ, suc, ◌+◌, ◌<◌, List, [], ◌∷◌, ◌++◌, length, drop, get_or, append_assoc}
use Rattle.std.proofs.Math.Seq.{drop-cons}
use Rattle.host_lines.specs.declared.lines.Sent.{Sent}
use Rattle.host_lines.specs.Traffic.{Caller, sent_bytes}

pub one_kept : (whole kept more : List Sent) (caller i : ℕ) (bytes : List ℕ) → i < length bytes
    → whole ≡ kept ++ sent_bytes (Caller caller) (drop i bytes)
    → more ≡ kept ++ record { caller = caller; byte = get_or bytes i 0 } ∷ []
    → whole ≡ more ++ sent_bytes (Caller caller) (drop (i + 1) bytes)
one_kept whole kept more caller i bytes within is added =
    let one : Sent = record { caller = caller; byte = get_or bytes i 0 } in
    let rest = sent_bytes (Caller caller) (drop (suc i) bytes) in
    let next : suc i ≡ i + 1 = omega arith in
    is ∙ ap (λ (l : List ℕ). kept ++ sent_bytes (Caller caller) l) (drop-cons bytes i 0 within)
    ∙ sym (append_assoc kept (one ∷ []) rest)
    ∙ ap (λ (l : List Sent). l ++ rest) (sym added)
    ∙ ap (λ (k : ℕ). more ++ sent_bytes (Caller caller) (drop k bytes)) next
