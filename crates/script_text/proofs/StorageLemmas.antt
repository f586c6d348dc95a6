-- Laws of texts that stand behind one another.
use Rattle.std.proofs.Common.{◌≡◌, ℕ, ◌+◌, ◌-◌, ◌<◌, ◌≤◌, zero, suc, List, [], ◌∷◌, ◌++◌, length, take, drop, get_or}
use Rattle.std.proofs.Common.{refl, sym, ap, ◌∙◌, arith}
use Rattle.std.proofs.Common.{set, subst, add-one}
use Rattle.std.proofs.lemmas.List.{get_or-take, get_or_past, length-take-le, take_more_set, length-append}
use Rattle.std.proofs.lemmas.List.{drop_at, take_all, drop-append-le, take-append-le, length-drop}
use Rattle.script_text.specs.Storage.{texts_between, RiseTo}

-- there is one text less than there are places
pub length-texts_between : (bytes places : List ℕ) → length (texts_between bytes places) ≡ length places - 1
length-texts_between bytes [] = refl
length-texts_between bytes (from ∷ []) = refl
length-texts_between bytes (from ∷ to ∷ places) = omega (arith, length-texts_between bytes (to ∷ places))

pub rise_within : (end : ℕ) (places : List ℕ) → RiseTo end places → (k : ℕ) → k < length places →
    get_or places k 0 ≤ end
rise_within end [] rise k within = absurd rise
rise_within end (from ∷ []) rise zero within = omega arith
rise_within end (from ∷ []) rise (suc k) within = absurd (omega arith)
rise_within end (from ∷ to ∷ places) rise zero within =
    omega (arith, rise.0, rise_within end (to ∷ places) rise.1 0 (omega arith))
rise_within end (from ∷ to ∷ places) rise (suc k) within = rise_within end (to ∷ places) rise.1 k (omega arith)

pub rise_next : (end : ℕ) (places : List ℕ) → RiseTo end places → (k : ℕ) → suc k < length places →
    get_or places k 0 ≤ get_or places (suc k) 0
rise_next end [] rise k within = absurd rise
rise_next end (from ∷ []) rise k within = absurd (omega arith)
rise_next end (from ∷ to ∷ places) rise zero within = rise.0
rise_next end (from ∷ to ∷ places) rise (suc k) within = rise_next end (to ∷ places) rise.1 k (omega arith)

pub text_between : (bytes places : List ℕ) (k : ℕ) → suc k < length places →
    get_or (texts_between bytes places) k []
    ≡ take (get_or places (suc k) 0 - get_or places k 0) (drop (get_or places k 0) bytes)
text_between bytes [] k within = absurd (omega arith)
text_between bytes (from ∷ []) k within = absurd (omega arith)
text_between bytes (from ∷ to ∷ places) zero within = refl
text_between bytes (from ∷ to ∷ places) (suc k) within = text_between bytes (to ∷ places) k (omega arith)

-- one more text behind the others

pub rise_push : (end more : ℕ) (places : List ℕ) → RiseTo end places → RiseTo (end + more) (places ++ (end + more) ∷ [])
rise_push end more [] rise = absurd rise
rise_push end more (from ∷ []) rise = (omega (arith, rise), refl)
rise_push end more (from ∷ to ∷ places) rise = (rise.0, rise_push end more (to ∷ places) rise.1)

pub texts_push : (bytes more places : List ℕ) → RiseTo (length bytes) places →
    texts_between (bytes ++ more) (places ++ (length bytes + length more) ∷ [])
    ≡ texts_between bytes places ++ more ∷ []
texts_push bytes more [] rise = absurd rise
texts_push bytes more (from ∷ []) rise =
    let whole : take (length bytes + length more - from) more ≡ more = take_all _ more (omega (arith, rise)) in
    ap (λ (x : List ℕ). take (length bytes + length more - from) x ∷ []) (drop_at bytes more from (sym rise))
    ∙ ap (λ (x : List ℕ). x ∷ []) whole
texts_push bytes more (from ∷ to ∷ places) rise =
    let within = rise_within (length bytes) (to ∷ places) rise.1 0 (omega arith) in
    let left : from ≤ length bytes = omega (arith, within, rise.0) in
    let first : take (to - from) (drop from (bytes ++ more)) ≡ take (to - from) (drop from bytes) =
    ap (take (to - from)) (drop-append-le from bytes more left)
    ∙ take-append-le (to - from) (drop from bytes) more (omega (arith, within, length-drop from bytes)) in
    ap (λ (x : List ℕ). x ∷ texts_between (bytes ++ more) ((to ∷ places) ++ (length bytes + length more) ∷ [])) first
    ∙ ap (λ (x : List (List ℕ)). take (to - from) (drop from bytes) ∷ x) (texts_push bytes more (to ∷ places) rise.1)

-- texts between the first places of more

pub held : (bytes places : List ℕ) (n : ℕ) (value : List (List ℕ)) → n + 1 ≤ length places →
    texts_between bytes (take (n + 1) places) ≡ value → n ≡ length value
held bytes places n value within view =
    omega (
      arith,
      ap length view,
      length-texts_between bytes (take (n + 1) places),
      length-take-le (n + 1) places within,
    )

pub places_rise : (end n k : ℕ) (places : List ℕ) → RiseTo end (take (n + 1) places) → n + 1 ≤ length places → k < n →
    get_or places k 0 ≤ get_or places (k + 1) 0
places_rise end n k places rise within below =
    let next : get_or (take (n + 1) places) k 0 ≤ get_or (take (n + 1) places) (suc k) 0 =
    rise_next end (take (n + 1) places) rise k (omega (arith, length-take-le (n + 1) places within)) in
    rw add-one (omega (
      arith,
      next,
      get_or-take (n + 1) places k 0 (omega arith),
      get_or-take (n + 1) places (suc k) 0 (omega arith),
    ))

pub places_within : (end n k : ℕ) (places : List ℕ) → RiseTo end (take (n + 1) places) → n + 1 ≤ length places → k < n →
    get_or places (k + 1) 0 ≤ end
places_within end n k places rise within below =
    rw add-one (omega (
      arith,
      rise_within end (take (n + 1) places) rise (suc k) (omega (arith, length-take-le (n + 1) places within)),
      get_or-take (n + 1) places (suc k) 0 (omega arith),
    ))

pub text_there : (bytes places : List ℕ) (n k : ℕ) (value : List (List ℕ)) → n + 1 ≤ length places → k < n →
    texts_between bytes (take (n + 1) places) ≡ value →
    take (get_or places (k + 1) 0 - get_or places k 0) (drop (get_or places k 0) bytes) ≡ get_or value k []
text_there bytes places n k value within below view =
    let from = get_or-take (n + 1) places k 0 (omega arith) in
    let to = get_or-take (n + 1) places (suc k) 0 (omega arith) in
    let there = text_between bytes (take (n + 1) places) k (omega (arith, length-take-le (n + 1) places within)) in
    rw add-one (cc)

pub text_missing : (bytes places : List ℕ) (n k : ℕ) (value : List (List ℕ)) → n + 1 ≤ length places → n ≤ k →
    texts_between bytes (take (n + 1) places) ≡ value → get_or value k [] ≡ []
text_missing bytes places n k value within past view =
    get_or_past value k [] (omega (arith, held bytes places n value within view))

pub pushed_rise : (bytes more all places : List ℕ) (n end : ℕ) → RiseTo (length bytes) (take (n + 1) places) →
    n + 1 < length places → all ≡ bytes ++ more → end ≡ length all →
    RiseTo (length all) (take (n + 1 + 1) (set places (n + 1) end))
pushed_rise bytes more all places n end rise within is last =
    let long : length all ≡ length bytes + length more = ap length is ∙ length-append bytes more in
    subst (λ (x : List ℕ). RiseTo (length all) x) (sym (take_more_set places (n + 1) end within))
    (subst (λ (x : ℕ). RiseTo (length all) (take (n + 1) places ++ x ∷ [])) (sym (last ∙ long))
    (subst (λ (x : ℕ). RiseTo x (take (n + 1) places ++ (length bytes + length more) ∷ [])) (sym long)
    (rise_push (length bytes) (length more) (take (n + 1) places) rise)))

pub pushed_texts : (bytes more all places : List ℕ) (n end : ℕ) (value : List (List ℕ)) →
    RiseTo (length bytes) (take (n + 1) places) → n + 1 < length places → all ≡ bytes ++ more → end ≡ length all →
    texts_between bytes (take (n + 1) places) ≡ value →
    texts_between all (take (n + 1 + 1) (set places (n + 1) end)) ≡ value ++ more ∷ []
pushed_texts bytes more all places n end value rise within is last view =
    let long : end ≡ length bytes + length more = last ∙ ap length is ∙ length-append bytes more in
    ap (texts_between all) (take_more_set places (n + 1) end within)
    ∙ ap (λ (x : List ℕ). texts_between x (take (n + 1) places ++ end ∷ [])) is
    ∙ ap (λ (x : ℕ). texts_between (bytes ++ more) (take (n + 1) places ++ x ∷ [])) long
    ∙ texts_push bytes more (take (n + 1) places) rise
    ∙ ap (λ (x : List (List ℕ)). x ++ more ∷ []) view
