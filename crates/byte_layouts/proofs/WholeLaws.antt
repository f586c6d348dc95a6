-- The laws of texts with nothing behind them, over every layout.
use Rattle.std.proofs.Common.{◌≡◌, ◌≢◌, ℕ, ◌<◌, Bool, true, false, cond, eqb, List, [], ◌++◌, length, Result, Ok, Err, refl, sym, ap, subst, ◌∙◌, append-nil, arith, inl, inr}
use Rattle.std.proofs.lemmas.Bool.{eqb-true}
use Rattle.std.proofs.lemmas.List.{length-append, nil_from_length}
use Rattle.byte_layouts.specs.declared.fault.FieldFault.{FieldFault}
use Rattle.byte_layouts.specs.declared.fault.FieldFault.TheVariants.{NotHead, Version, BadField, Truncated, OutOfMemory}
use Rattle.byte_layouts.specs.Readers.{At, at_of, followed, longer, Fails}
use Rattle.byte_layouts.specs.Layout.{Layout, text, reading, Has}
use Rattle.byte_layouts.specs.Held.{Held, at_in, IsBytes}
use Rattle.byte_layouts.specs.Fed.{first_place, LetsGo, Tells}
use Rattle.byte_layouts.specs.Whole.{ended, whole, TextsAreRead}
use Rattle.byte_layouts.proofs.Results.{value_parts, first_chosen, one_value, no_fault}
use Rattle.byte_layouts.proofs.LayoutLaws.{law, one_to_one}

some_left : {A : Type 0} (x : A) (at : At) → 0 < length at.rest → ended x at ≡ Err (BadField at.place)
some_left {A} x at some = by_test (eqb (length at.rest) 0) refl
  where
    by_test : (b : Bool) → eqb (length at.rest) 0 ≡ b → cond b (Ok x) (Err (BadField at.place)) ≡ Err (BadField at.place)
    by_test true e = let none = eqb-true (length at.rest) 0 e in absurd (omega (arith, some, none))
    by_test false e = refl

nothing_left : {A : Type 0} (x y : A) (at : At) → ended x at ≡ Ok y → (at.rest ≡ []) × (x ≡ y)
nothing_left x y at e =
    let g = first_chosen (eqb (length at.rest) 0) (Ok x) (BadField at.place) y e in
    (nil_from_length at.rest (eqb-true (length at.rest) 0 g.0), cc)

read_at_front : {A : Type 0} (l : Layout A) (x : A) (more : List ℕ) → Has l x → reading l (first_place (text l x ++ more)) ≡ Ok (x, at_of (length (text l x)) more)
read_at_front l x more has = (law l).again 0 more x has ∙ ap (λ (k : ℕ). Ok (x, at_of k more)) (omega arith)

read_again : {A : Type 0} (l : Layout A) (x : A) → Has l x → whole l (text l x) ≡ Ok x
unfolding whole
read_again {A} l x has =
    ap (λ (bytes : List ℕ). followed {B = A} (reading l (first_place bytes)) ended) (sym (append-nil (text l x))) ∙ ap (λ (z : Result (A × At) FieldFault). followed {B = A} z ended) (read_at_front l x [] has)

read_only : {A : Type 0} (l : Layout A) (bytes : List ℕ) (x : A) → IsBytes bytes → whole l bytes ≡ Ok x → Has l x × (bytes ≡ text l x)
unfolding whole
read_only {A} l bytes x fits e =
    let p = value_parts (reading l (first_place bytes)) ended x e in
    let one = (law l).takes (first_place bytes) p.1 p.0 fits p.2 in
    let done = nothing_left p.0 x p.1 p.3 in
    subst (λ (y : A). Has l y × (bytes ≡ text l y)) done.1 (one.1, one.0.parts ∙ ap (λ (r : List ℕ). text l p.0 ++ r) done.0 ∙ append-nil (text l p.0))

read_cut : {A : Type 0} (l : Layout A) (bytes missing : List ℕ) (x : A) → IsBytes bytes → Has l x → bytes ++ missing ≡ text l x → 0 < length missing → whole l bytes ≡ Err Truncated
unfolding whole
read_cut {A} l bytes missing x fits has e some = by_read (reading l (first_place bytes)) refl
  where
    all_read : reading l (longer (first_place bytes) missing) ≡ Ok (x, at_of (length (text l x)) [])
    all_read = ap (λ (b : List ℕ). reading l (first_place b)) (e ∙ sym (append-nil (text l x))) ∙ read_at_front l x [] has

    -- all fields would leave what is missing
    left : (y : A) (next : At) → reading l (first_place bytes) ≡ Ok (y, next) → ⊥
    left y next read =
        let more = (law l).more (first_place bytes) next y missing fits read in
        let same = one_value (y, longer next missing) (x, at_of (length (text l x)) []) (reading l (longer (first_place bytes) missing)) more all_read in
        let rest : next.rest ++ missing ≡ [] = ap (λ (p : A × At). p.1.rest) same in
        let size : length (next.rest ++ missing) ≡ 0 = ap (λ (r : List ℕ). length r) rest in
        omega (arith, some, size, length-append next.rest missing)

    -- another fault would still be there with the bytes that are missing
    never : (fault : FieldFault) → reading l (first_place bytes) ≡ Err fault → fault ≢ Truncated → ⊥
    never fault read other = no_fault (x, at_of (length (text l x)) []) fault (reading l (longer (first_place bytes) missing)) all_read ((law l).bad (first_place bytes) fault missing fits read other)

    by_read : (read : Result (A × At) FieldFault) → reading l (first_place bytes) ≡ read → followed {B = A} read ended ≡ Err Truncated
    by_read (Ok y) read = absurd (left y.0 y.1 read)
    by_read (Err Truncated) read = refl
    by_read (Err (BadField place)) read = absurd (never (BadField place) read (λ q. absurd cc))
    by_read (Err NotHead) read = absurd (never NotHead read (λ q. absurd cc))
    by_read (Err (Version n)) read = absurd (never (Version n) read (λ q. absurd cc))
    by_read (Err OutOfMemory) read = absurd (never OutOfMemory read (λ q. absurd cc))

read_behind : {A : Type 0} (l : Layout A) (x : A) (more : List ℕ) → Has l x → 0 < length more → whole l (text l x ++ more) ≡ Err (BadField (length (text l x)))
unfolding whole
read_behind {A} l x more has some =
    ap (λ (z : Result (A × At) FieldFault). followed {B = A} z ended) (read_at_front l x more has) ∙ some_left x (at_of (length (text l x)) more) some

pub texts-are-read : {A : Type 0} (l : Layout A) → TextsAreRead l
texts-are-read l = record { read = read_again l; only = read_only l; cut = read_cut l; behind = read_behind l; one = one_to_one l }

-- ---- in pieces

-- a byte behind the end is one, whatever comes behind it
same_end : {A : Type 0} (x : A) (at : At) (lost : List ℕ) → LetsGo 1 at.rest lost → ended x (longer at lost) ≡ ended x at
same_end x at lost lets = elim lets [
  | inl none ↦ ap (λ (r : List ℕ). ended x (at_of at.place r)) (ap (λ (r : List ℕ). at.rest ++ r) none ∙ append-nil at.rest)
  | inr some ↦ some_left x (longer at lost) (omega (arith, some, length-append at.rest lost)) ∙ sym (some_left x at (omega (arith, some)))
]

-- what was told of a reading, and then of its end
pub told_whole : {A : Type 0} (l : Layout A) (x : A) (h : Held) (fed : List ℕ) → Tells (reading l) x 1 h fed → whole l fed ≡ ended x (at_in h)
unfolding whole
told_whole {A} l x h fed it =
    ap (λ (z : Result (A × At) FieldFault). followed {B = A} z ended) it.says ∙ same_end x (at_in h) it.lost it.lets

pub fails_whole : {A : Type 0} (l : Layout A) (fault : FieldFault) (fed : List ℕ) → Fails fault (reading l (first_place fed)) → Fails fault (whole l fed)
unfolding whole
fails_whole l OutOfMemory fed e = tt
fails_whole {A} l Truncated fed e = ap (λ (z : Result (A × At) FieldFault). followed {B = A} z ended) e
fails_whole {A} l NotHead fed e = ap (λ (z : Result (A × At) FieldFault). followed {B = A} z ended) e
fails_whole {A} l (Version n) fed e = ap (λ (z : Result (A × At) FieldFault). followed {B = A} z ended) e
fails_whole {A} l (BadField place) fed e = ap (λ (z : Result (A × At) FieldFault). followed {B = A} z ended) e

pub told_ended : {A : Type 0} (l : Layout A) (x : A) (kept : ℕ) (h : Held) (fed : List ℕ) → kept ≡ 1 → Tells (reading l) x kept h fed → length h.rest ≡ 0 → whole l fed ≡ Ok x
told_ended {A} l x kept h fed one it none =
    told_whole l x h fed (subst (λ (k : ℕ). Tells (reading l) x k h fed) one it)
    ∙ ap (λ (r : List ℕ). ended x (at_of h.place r)) (nil_from_length h.rest none)

pub told_more : {A : Type 0} (l : Layout A) (x : A) (kept : ℕ) (h : Held) (fed : List ℕ) (place : ℕ) → kept ≡ 1 → Tells (reading l) x kept h fed → place ≡ h.place → length h.rest ≢ 0 → whole l fed ≡ Err (BadField place)
told_more {A} l x kept h fed place one it is some =
    told_whole l x h fed (subst (λ (k : ℕ). Tells (reading l) x k h fed) one it)
    ∙ some_left x (at_in h) (omega (arith, some)) ∙ ap (λ (k : ℕ). Err (BadField k)) (sym is)
