use Rattle.std.proofs.Common.{◌≡◌, ◌∙◌, ap, arith, ℕ, ◌+◌, ◌-◌, min, List, ◌++◌, length, take, length-append, length-take}
use Rattle.telnet_lines.proofs.FrontBytes.{taken_of_both, count_of_both, front_of}
use Rattle.telnet_lines.proofs.pieces.first_bytes.Goals as goal

pub returns-clause-count : goal.returns-clause-count
returns-clause-count c =
    let f = c.as_slices.result.0.now in
    let b = c.as_slices.result.1.now in
    let all : length (take 256 (f ++ b)) ≡ length (take 256 c.args.ring.now.items) = ap (λ (l : List ℕ). length (take 256 l)) c.as_slices.ensures in
    omega (arith, c.min-from_front.ensures, c.min-from_back.ensures, count_of_both 256 f b, all)

pub returns-clause-bytes : goal.returns-clause-bytes
returns-clause-bytes c =
    let f = c.as_slices.result.0.now in
    let b = c.as_slices.result.1.now in
    let nf = c.min-from_front.result in
    let nb = c.min-from_back.result in
    let long : nf + nb ≡ length (take nf f ++ take nb b) =
    omega (arith, c.min-from_front.ensures, c.min-from_back.ensures, length-append (take nf f) (take nb b), length-take nf f, length-take nb b) in
    let back : nb ≡ min (length b) (256 - min (length f) 256) = c.min-from_back.ensures ∙ ap (λ (k : ℕ). min (length b) (256 - k)) c.min-from_front.ensures in
    ap (take (nf + nb)) c.copy_both.ensures
    ∙ front_of (nf + nb) (take nf f ++ take nb b) _ long
    ∙ ap (λ (k : ℕ). take k f ++ take nb b) c.min-from_front.ensures
    ∙ ap (λ (k : ℕ). take (min (length f) 256) f ++ take k b) back
    ∙ taken_of_both 256 f b
    ∙ ap (take 256) c.as_slices.ensures
