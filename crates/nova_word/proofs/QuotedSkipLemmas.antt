-- A quoted text that is passed over: how many bytes it has, and what follows it.
use Rattle.std.proofs.Common.{◌≡◌, ℕ, ◌+◌, ◌-◌, ◌==◌, zero, suc, Bool, true, false, if◌then◌else◌, List, [], ◌∷◌, ◌++◌}
use Rattle.std.proofs.Common.{length, take, drop, get_or, ◌<◌, ◌≤◌, Option, Some, None, option_map, option_and_then, refl, sym}
use Rattle.std.proofs.Common.{ap, ◌∙◌, subst, arith}
use Rattle.std.proofs.lemmas.List.{length-take-le, take-append-drop}
use Rattle.std.proofs.lemmas.Bool.{eq-eqb}
use Rattle.std.proofs.lemmas.Bool.Decides.{nat_tests}
use Rattle.nova_word.specs.Quoted.{byte_at, with_byte, inside_read, counted}
use Rattle.nova_word.proofs.QuotedLemmas.{width_found_within}
use Rattle.nova_word.proofs.QuotedReadLemmas.{read_next, plain_no_quote}

counted_more : (n b : ℕ) (o : Option (List ℕ × List ℕ)) → counted n (option_map (with_byte b) o) ≡ counted (n + 1) o
counted_more n b None = refl
counted_more n b (Some q) =
    let more : n + length (b ∷ q.0) ≡ n + 1 + length q.0 = omega arith in
    ap (λ (k : ℕ). Some (k, q.1)) more

skip_next : (n c b width : ℕ) (tail : List ℕ) → (c == 34) ≡ false → byte_at (c ∷ tail) ≡ Some (b, width)
    → counted n (inside_read 0 (c ∷ tail)) ≡ counted (n + 1) (inside_read 0 (drop width (c ∷ tail)))
skip_next n c b zero tail no_quote here = absurd (omega (arith, (width_found_within (c ∷ tail) b zero here).0))
skip_next n c b (suc k) tail no_quote here =
    let within = (width_found_within (c ∷ tail) b (suc k) here).1 in
    let front = take k tail in
    let later = drop k tail in
    let parts : front ++ later ≡ tail = take-append-drop k tail in
    let long : length front ≡ k = length-take-le k tail (omega (arith, within)) in
    let there : byte_at (c ∷ (front ++ later)) ≡ Some (b, suc (length front)) =
    ap (λ (xs : List ℕ). byte_at (c ∷ xs)) parts ∙ here ∙ ap (λ (n : ℕ). Some (b, suc n)) (sym long) in
    ap (λ (xs : List ℕ). counted n (inside_read 0 (c ∷ xs))) (sym parts)
    ∙ ap (counted n) (read_next b c front later no_quote there) ∙ counted_more n b (inside_read 0 later)

skip_never : (n c : ℕ) (tail : List ℕ) → (c == 34) ≡ false → byte_at (c ∷ tail) ≡ None → counted n (inside_read 0 (c ∷ tail)) ≡ None
unfolding inside_read
skip_never n c tail no_quote here =
    let next = λ (found : ℕ × ℕ). option_map (with_byte found.0) (inside_read (found.1 - 1) tail) in
    ap (λ (t : Bool). counted n (if t then Some ([], tail) else option_and_then next (byte_at (c ∷ tail)))) no_quote
    ∙ ap (λ (o : Option (ℕ × ℕ)). counted n (option_and_then next o)) here

skip_here : (n c : ℕ) (tail : List ℕ) → (c == 34) ≡ true → counted n (inside_read 0 (c ∷ tail)) ≡ Some (n, tail)
unfolding inside_read
skip_here n c tail is_quote =
    let next = λ (found : ℕ × ℕ). option_map (with_byte found.0) (inside_read (found.1 - 1) tail) in
    let none : n + 0 ≡ n = omega arith in
    ap (λ (t : Bool). counted n (if t then Some ([], tail) else option_and_then next (byte_at (c ∷ tail)))) is_quote
    ∙ ap (λ (k : ℕ). Some (k, tail)) none

skip_end : (n : ℕ) → counted n (inside_read 0 []) ≡ None
unfolding inside_read
skip_end n = refl

-- the same of bytes that are not empty, by the first of them

pub next_skipped : (n : ℕ) (rest : List ℕ) (b width : ℕ) → 0 < length rest → (get_or rest 0 0 ≡ 34 → ⊥) → byte_at rest ≡ Some (b, width)
    → counted n (inside_read 0 rest) ≡ counted (n + 1) (inside_read 0 (drop width rest))
next_skipped n [] b width some no_quote here = absurd (omega (arith, some))
next_skipped n (c ∷ tail) b width some no_quote here = skip_next n c b width tail (plain_no_quote c no_quote) here

pub never_skipped : (n : ℕ) (rest : List ℕ) → 0 < length rest → (get_or rest 0 0 ≡ 34 → ⊥) → byte_at rest ≡ None → counted n (inside_read 0 rest) ≡ None
never_skipped n [] some no_quote here = absurd (omega (arith, some))
never_skipped n (c ∷ tail) some no_quote here = skip_never n c tail (plain_no_quote c no_quote) here

pub here_skipped : (n : ℕ) (rest : List ℕ) → 0 < length rest → get_or rest 0 0 ≡ 34 → counted n (inside_read 0 rest) ≡ Some (n, drop 1 rest)
here_skipped n [] some is = absurd (omega (arith, some))
here_skipped n (c ∷ tail) some is = skip_here n c tail (eq-eqb c 34 is)

pub end_skipped : (n : ℕ) (rest : List ℕ) → length rest ≡ 0 → counted n (inside_read 0 rest) ≡ None
end_skipped n [] none_left = skip_end n
end_skipped n (c ∷ tail) none_left = absurd (omega (arith, none_left))
