-- What is asked of each reader, and that it goes through the ways in which readers are made.
use Rattle.std.proofs.Common.{◌≡◌, ◌≢◌, ℕ, ◌+◌, ◌≤◌, Bool, true, false, ltb, List, [], ◌++◌, length, take, drop, Result, Ok, Err, refl, sym, ap, subst, ◌∙◌, append_assoc, arith, inl, inr}
use Rattle.std.proofs.lemmas.Bool.{cases_lt, ltb-false, le-ltb}
use Rattle.std.proofs.lemmas.List.{take_at, drop_at, take-append-drop, take-append-le, drop-append-le, length-append, length-take, length-take-le, get_or-drop, get_or-take, get_or_past}
use Rattle.byte_layouts.specs.declared.fault.FieldFault.{FieldFault}
use Rattle.byte_layouts.specs.declared.fault.FieldFault.TheVariants.{Truncated, BadField}
use Rattle.byte_layouts.specs.Readers.{At, at_of, Reader, followed, ◌>>=◌, gives, behind, counted, passed_or, tested_or, tested, longer}
use Rattle.byte_layouts.specs.Held.{IsBytes}
use Rattle.byte_layouts.proofs.Results.{value_parts, fault_parts, first_chosen, second_chosen, first_refused, second_refused, one_value, no_fault}

-- ---- bytes

bytes_behind : (n : ℕ) (bytes : List ℕ) → IsBytes bytes → IsBytes (drop n bytes)
bytes_behind n bytes fits i = rw get_or-drop (fits (n + i))

bytes_before : (n : ℕ) (bytes : List ℕ) → IsBytes bytes → IsBytes (take n bytes)
bytes_before n bytes fits i =
    elim (cases_lt i n) [
      | inl within ↦ rw (get_or-take n bytes i 0 within) (fits i)
      | inr past ↦ rw (get_or_past (take n bytes) i 0 (omega (arith, length-take n bytes))) (omega arith)
    ]

-- ---- what is asked of a reader

-- this text was taken from the front
pub record Took (at : At) (text : List ℕ) (next : At) : Type 0 where
  pub parts : at.rest ≡ text ++ next.rest
  pub place : next.place ≡ at.place + length text
  pub fits : IsBytes next.rest

both_taken : (at mid next : At) (x y : List ℕ) → Took at x mid → Took mid y next → Took at (x ++ y) next
both_taken at mid next x y one two = record {
  parts = one.parts ∙ ap (λ (t : List ℕ). x ++ t) two.parts ∙ sym (append_assoc x y next.rest);
  place = omega (arith, one.place, two.place, length-append x y);
  fits = two.fits;
}

-- It reads values that have something, each from its text: what it takes is the text of what it answers; such a text is read
-- whatever follows; with more bytes at the end the answer is the same, and so is a fault, unless the bytes ended too early.
pub record IsReaderOf {A : Type 0} (reader : Reader A) (text : A → List ℕ) (Has : A → Type 0) : Type 0 where
  pub takes : (at next : At) (x : A) → IsBytes at.rest → reader at ≡ Ok (x, next) → Took at (text x) next × Has x
  pub again : (place : ℕ) (rest : List ℕ) (x : A) → Has x → reader (at_of place (text x ++ rest)) ≡ Ok (x, at_of (place + length (text x)) rest)
  pub more : (at next : At) (x : A) (tail : List ℕ) → IsBytes at.rest → reader at ≡ Ok (x, next) → reader (longer at tail) ≡ Ok (x, longer next tail)
  pub bad : (at : At) (fault : FieldFault) (tail : List ℕ) → IsBytes at.rest → reader at ≡ Err fault → fault ≢ Truncated → reader (longer at tail) ≡ Err fault

-- so no text is the front of another one
pub splits : {A : Type 0} (reader : Reader A) (text : A → List ℕ) (Has : A → Type 0) → IsReaderOf reader text Has → (x y : A) (a b : List ℕ) → Has x → Has y → text x ++ a ≡ text y ++ b
    → (x ≡ y) × (a ≡ b)
splits {A} reader text Has law x y a b hx hy e =
    let one = law.again 0 a x hx in
    let two = ap (λ (l : List ℕ). reader (at_of 0 l)) e ∙ law.again 0 b y hy in
    let same : (x, at_of (0 + length (text x)) a) ≡ (y, at_of (0 + length (text y)) b) = one_value (x, at_of (0 + length (text x)) a) (y, at_of (0 + length (text y)) b) (reader (at_of 0 (text x ++ a))) one two in
    (ap (λ (p : A × At). p.0) same, ap (λ (p : A × At). p.1.rest) same)

-- ---- so many bytes

pub record HasSize (n : ℕ) (bytes : List ℕ) : Type 0 where
  pub size : length bytes ≡ n
  pub fits : IsBytes bytes

pub counted_takes : (n : ℕ) (at next : At) (x : List ℕ) → IsBytes at.rest → counted n at ≡ Ok (x, next) → Took at x next × HasSize n x
unfolding counted
counted_takes n at next x fits e =
    let g = second_chosen (ltb (length at.rest) n) (Ok (take n at.rest, behind n at)) Truncated (x, next) e in
    let is = one_value (take n at.rest, behind n at) (x, next) (Ok (take n at.rest, behind n at)) refl g.1 in
    let enough : n ≤ length at.rest = ltb-false _ _ g.0 in
    let size : length (take n at.rest) ≡ n = length-take-le n at.rest enough in
    let took : Took at (take n at.rest) (behind n at) = record { parts = sym (take-append-drop n at.rest); place = omega (arith, size); fits = bytes_behind n at.rest fits } in
    subst (λ (p : List ℕ × At). Took at p.0 p.1 × HasSize n p.0) is (took, record { size = size; fits = bytes_before n at.rest fits })

pub counted_again : (n place : ℕ) (rest x : List ℕ) → length x ≡ n → counted n (at_of place (x ++ rest)) ≡ Ok (x, at_of (place + length x) rest)
unfolding counted
counted_again n place rest x size =
    let enough : ltb (length (x ++ rest)) n ≡ false = le-ltb _ _ (omega (arith, size, length-append x rest)) in
    rw (enough, take_at x rest n size, drop_at x rest n size, size) refl

pub counted_more : (n : ℕ) (at next : At) (x tail : List ℕ) → counted n at ≡ Ok (x, next) → counted n (longer at tail) ≡ Ok (x, longer next tail)
unfolding counted
counted_more n at next x tail e =
    let g = second_chosen (ltb (length at.rest) n) (Ok (take n at.rest, behind n at)) Truncated (x, next) e in
    let is = one_value (take n at.rest, behind n at) (x, next) (Ok (take n at.rest, behind n at)) refl g.1 in
    let enough : n ≤ length at.rest = ltb-false _ _ g.0 in
    let test : ltb (length (at.rest ++ tail)) n ≡ false = le-ltb _ _ (omega (arith, enough, length-append at.rest tail)) in
    rw (test, take-append-le n at.rest tail enough, drop-append-le n at.rest tail enough) (ap (λ (p : List ℕ × At). Ok (p.0, longer p.1 tail)) is)

pub counted_bad : (n : ℕ) (at : At) (fault : FieldFault) → counted n at ≡ Err fault → fault ≡ Truncated
unfolding counted
counted_bad n at fault e = second_refused (ltb (length at.rest) n) Truncated fault (take n at.rest, behind n at) e

pub counted_is : (n : ℕ) → IsReaderOf (counted n) (λ bytes. bytes) (HasSize n)
counted_is n = record {
  takes = counted_takes n;
  again = λ place rest x has. counted_again n place rest x has.size;
  more = λ at next x tail fits e. counted_more n at next x tail e;
  bad = λ at fault tail fits e other. absurd (other (counted_bad n at fault e));
}

-- ---- one and then another

-- more bytes at the end change neither part
goes_further : {A C : Type 0} (reader : Reader A) (f : A → Reader C) (t : A → List ℕ) (H : A → Type 0) → IsReaderOf reader t H → (at next : At) (x : A) (tail : List ℕ) → IsBytes at.rest
    → reader at ≡ Ok (x, next) → (reader >>= f) (longer at tail) ≡ f x (longer next tail)
goes_further {A} reader f t H law at next x tail fits e = ap (λ (z : Result (A × At) FieldFault). followed z f) (law.more at next x tail fits e)

-- what goes on from each value to values that have something: there, and back
pub joined_is : {A C : Type 0} (reader : Reader A) (f : A → Reader C) (t : A → List ℕ) (H : A → Type 0) (u : A → C → List ℕ) (W : A → C → Type 0) (v : C → List ℕ) (G : C → Type 0)
    → IsReaderOf reader t H → ((x : A) → H x → IsReaderOf (f x) (u x) (W x)) → ((x : A) (y : C) → H x → W x y → (t x ++ u x y ≡ v y) × G y)
    → ((y : C) → G y → (x : A) × H x × W x y × (t x ++ u x y ≡ v y)) → IsReaderOf (reader >>= f) v G
joined_is {A} {C} reader f t H u W v G law others to from = record {
  takes = λ at next y fits e.
      let p = value_parts (reader at) f (y, next) e in
      let one = law.takes at p.1 p.0 fits p.2 in
      let two = (others p.0 one.1).takes p.1 next y one.0.fits p.3 in
      let it = to p.0 y one.1 two.1 in
      (subst (λ (l : List ℕ). Took at l next) it.0 (both_taken at p.1 next (t p.0) (u p.0 y) one.0 two.0), it.1);
  again = λ place rest y has.
      let it = from y has in
      let x = it.0 in
      let first = law.again place (u x y ++ rest) x it.1 in
      let second = (others x it.1).again (place + length (t x)) rest y it.2 in
      let sum : place + length (t x) + length (u x y) ≡ place + length (t x ++ u x y) = omega (arith, length-append (t x) (u x y)) in
      ap (λ (l : List ℕ). followed (reader (at_of place (l ++ rest))) f) (sym it.3)
      ∙ ap (λ (l : List ℕ). followed (reader (at_of place l)) f) (append_assoc (t x) (u x y) rest)
      ∙ ap (λ (z : Result (A × At) FieldFault). followed z f) first ∙ second ∙ ap (λ (k : ℕ). Ok (y, at_of k rest)) sum
      ∙ ap (λ (l : List ℕ). Ok (y, at_of (place + length l) rest)) it.3;
  more = λ at next y tail fits e.
      let p = value_parts (reader at) f (y, next) e in
      let one = law.takes at p.1 p.0 fits p.2 in
      goes_further reader f t H law at p.1 p.0 tail fits p.2 ∙ (others p.0 one.1).more p.1 next y tail one.0.fits p.3;
  bad = λ at fault tail fits e other. elim (fault_parts (reader at) f fault e) [
    | inl h ↦ ap (λ (z : Result (A × At) FieldFault). followed z f) (law.bad at fault tail fits h other)
    | inr p ↦ let one = law.takes at p.1 p.0 fits p.2 in
        goes_further reader f t H law at p.1 p.0 tail fits p.2 ∙ (others p.0 one.1).bad p.1 fault tail one.0.fits p.3 other
  ];
}

-- where the whole gives its first part back
pub bound_is : {A C : Type 0} (reader : Reader A) (f : A → Reader C) (part : C → A) (t : A → List ℕ) (H : A → Type 0) (u : A → C → List ℕ) (W : A → C → Type 0)
    → IsReaderOf reader t H → ((x : A) → H x → IsReaderOf (f x) (u x) (W x)) → ((x : A) (y : C) → H x → W x y → part y ≡ x)
    → IsReaderOf (reader >>= f) (λ y. t (part y) ++ u (part y) y) (λ y. H (part y) × W (part y) y)
bound_is {A} {C} reader f part t H u W law others part_is =
    joined_is reader f t H u W (λ y. t (part y) ++ u (part y) y) (λ y. H (part y) × W (part y) y) law others
    (λ x y h w. subst (λ (z : A). (t x ++ u x y ≡ t z ++ u z y) × (H z × W z y)) (sym (part_is x y h w)) (refl, (h, w)))
    (λ y has. (part y, has.0, has.1, refl))

-- a field of a record, which the record gives back, and the fields behind it
pub field_is : {A C : Type 0} {reader : Reader A} {f : A → Reader C} {t : A → List ℕ} {H : A → Type 0} {u : C → List ℕ} {W : A → C → Type 0} (part : C → A)
    → IsReaderOf reader t H → ((x : A) → H x → IsReaderOf (f x) u (W x)) → ((x : A) (y : C) → H x → W x y → part y ≡ x)
    → IsReaderOf (reader >>= f) (λ y. t (part y) ++ u y) (λ y. H (part y) × W (part y) y)
field_is {reader} {f} {t} {H} {u} {W} part law others part_is = bound_is reader f part t H (λ x y. u y) W law others part_is

-- what reads nothing answers one value, which has no text
pub gives_is : {A : Type 0} (x : A) (t : A → List ℕ) (H : A → Type 0) → t x ≡ [] → H x → ((y : A) → H y → y ≡ x) → IsReaderOf (gives x) t H
gives_is {A} x t H none has only = record {
  takes = λ at next y fits e.
      let is = one_value (x, at) (y, next) (Ok (x, at)) refl e in
      let took : Took at (t x) at = subst (λ (l : List ℕ). Took at l at) (sym none) (record { parts = refl; place = omega arith; fits = fits }) in
      subst (λ (q : A × At). Took at (t q.0) q.1 × H q.0) is (took, has);
  again = λ place rest y h.
      let empty : t y ≡ [] = ap t (only y h) ∙ none in
      rw empty (ap (λ (z : A). Ok (z, at_of place rest)) (sym (only y h)) ∙ ap (λ (k : ℕ). Ok (y, at_of k rest)) (omega arith));
  more = λ at next y tail fits e. ap (λ (q : A × At). Ok (q.0, longer q.1 tail)) (one_value (x, at) (y, next) (Ok (x, at)) refl e);
  bad = λ at fault tail fits e other. absurd (no_fault (x, at) fault (Ok (x, at)) refl e);
}

-- a value that is made of the one that was read
pub made_is : {A C : Type 0} (reader : Reader A) (make : A → C) (part : C → A) (t : A → List ℕ) (H : A → Type 0) (G : C → Type 0)
    → IsReaderOf reader t H → ((x : A) → H x → (part (make x) ≡ x) × G (make x)) → ((y : C) → G y → H (part y) × (make (part y) ≡ y))
    → IsReaderOf (reader >>= (λ x. gives (make x))) (λ y. t (part y)) G
made_is {A} {C} reader make part t H G law there back = record {
  takes = λ at next y fits e.
      let p = value_parts (reader at) (λ x. gives (make x)) (y, next) e in
      let one = law.takes at p.1 p.0 fits p.2 in
      let it = there p.0 one.1 in
      let took : Took at (t (part (make p.0))) p.1 = subst (λ (z : A). Took at (t z) p.1) (sym it.0) one.0 in
      let is = one_value (make p.0, p.1) (y, next) (Ok (make p.0, p.1)) refl p.3 in
      subst (λ (q : C × At). Took at (t (part q.0)) q.1 × G q.0) is (took, it.1);
  again = λ place rest y has.
      let it = back y has in
      ap (λ (z : Result (A × At) FieldFault). followed z (λ x. gives (make x))) (law.again place rest (part y) it.0)
      ∙ ap (λ (z : C). Ok (z, at_of (place + length (t (part y))) rest)) it.1;
  more = λ at next y tail fits e.
      let p = value_parts (reader at) (λ x. gives (make x)) (y, next) e in
      let is = one_value (make p.0, p.1) (y, next) (Ok (make p.0, p.1)) refl p.3 in
      goes_further reader (λ x. gives (make x)) t H law at p.1 p.0 tail fits p.2 ∙ ap (λ (q : C × At). Ok (q.0, longer q.1 tail)) is;
  bad = λ at fault tail fits e other. elim (fault_parts (reader at) (λ x. gives (make x)) fault e) [
    | inl h ↦ ap (λ (z : Result (A × At) FieldFault). followed z (λ x. gives (make x))) (law.bad at fault tail fits h other)
    | inr p ↦ absurd (no_fault (make p.0, p.1) fault (Ok (make p.0, p.1)) refl p.3)
  ];
}

-- the last one
pub last_is : {A C : Type 0} {reader : Reader A} {t : A → List ℕ} {H : A → Type 0} (make : A → C) (part : C → A) (G : C → Type 0)
    → IsReaderOf reader t H → ((x : A) → H x → (part (make x) ≡ x) × G (make x)) → ((y : C) → G y → H (part y) × (make (part y) ≡ y))
    → IsReaderOf (reader >>= (λ x. gives (make x))) (λ y. t (part y)) G
last_is {reader} {t} {H} make part G law there back = made_is reader make part t H G law there back

-- the same text and the same conditions, in other words
pub retold : {A : Type 0} (reader : Reader A) (t u : A → List ℕ) (H G : A → Type 0) → IsReaderOf reader t H → ((x : A) → H x → (t x ≡ u x) × G x) → ((x : A) → G x → H x)
    → IsReaderOf reader u G
retold reader t u H G law to from = record {
  takes = λ at next x fits e. let one = law.takes at next x fits e in let it = to x one.1 in (subst (λ (l : List ℕ). Took at l next) it.0 one.0, it.1);
  again = λ place rest x has.
      let it = (to x (from x has)).0 in
      ap (λ (l : List ℕ). reader (at_of place (l ++ rest))) (sym it) ∙ law.again place rest x (from x has) ∙ ap (λ (l : List ℕ). Ok (x, at_of (place + length l) rest)) it;
  more = law.more;
  bad = law.bad;
}

pub recast : {A : Type 0} {reader : Reader A} {t u : A → List ℕ} {H G : A → Type 0} → IsReaderOf reader t H → ((x : A) → H x → (t x ≡ u x) × G x) → ((x : A) → G x → H x)
    → IsReaderOf reader u G
recast {reader} {t} {u} {H} {G} law to from = retold reader t u H G law to from

-- ---- a test

pub tested_or_is : {A : Type 0} (fault : ℕ → A → FieldFault) (ok : A → Bool) (reader : Reader A) (t : A → List ℕ) (H : A → Type 0) → IsReaderOf reader t H
    → IsReaderOf (tested_or fault ok reader) t (λ x. H x × (ok x ≡ true))
tested_or_is {A} fault ok reader t H law = record {
  takes = λ at next x fits e.
      let p = value_parts (reader at) (λ y mid. passed_or (fault at.place y) (ok y) y mid) (x, next) e in
      let g = first_chosen (ok p.0) (Ok (p.0, p.1)) (fault at.place p.0) (x, next) p.3 in
      let is = one_value (p.0, p.1) (x, next) (Ok (p.0, p.1)) refl g.1 in
      let one = law.takes at p.1 p.0 fits p.2 in
      subst (λ (q : A × At). Took at (t q.0) q.1 × (H q.0 × (ok q.0 ≡ true))) is (one.0, (one.1, g.0));
  again = λ place rest x has. rw (law.again place rest x has.0, has.1) refl;
  more = λ at next x tail fits e.
      let p = value_parts (reader at) (λ y mid. passed_or (fault at.place y) (ok y) y mid) (x, next) e in
      let g = first_chosen (ok p.0) (Ok (p.0, p.1)) (fault at.place p.0) (x, next) p.3 in
      let is = one_value (p.0, p.1) (x, next) (Ok (p.0, p.1)) refl g.1 in
      let test = g.0 in
      rw (law.more at p.1 p.0 tail fits p.2, test) (ap (λ (q : A × At). Ok (q.0, longer q.1 tail)) is);
  bad = λ at f tail fits e other. elim (fault_parts (reader at) (λ y mid. passed_or (fault at.place y) (ok y) y mid) f e) [
    | inl h ↦ rw (law.bad at f tail fits h other) refl
    | inr p ↦ let g = first_refused (ok p.0) (fault at.place p.0) f (p.0, p.1) p.3 in
        let test = g.0 in
        rw (law.more at p.1 p.0 tail fits p.2, test) (ap (λ (d : FieldFault). Err d) (sym g.1))
  ];
}

pub tested_is : {A : Type 0} (ok : A → Bool) (reader : Reader A) (t : A → List ℕ) (H : A → Type 0) → IsReaderOf reader t H → IsReaderOf (tested ok reader) t (λ x. H x × (ok x ≡ true))
tested_is ok reader t H law = tested_or_is (λ place x. BadField place) ok reader t H law
