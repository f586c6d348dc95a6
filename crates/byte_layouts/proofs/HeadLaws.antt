-- The readers of what each text begins with: its first bytes, and the version of its format.
use Rattle.std.proofs.Common.{◌≡◌, ◌≢◌, ℕ, ◌+◌, ◌^◌, Bool, true, false, cond, eqb, List, [], ◌∷◌, ◌++◌, length, take, Result, Ok, Err, refl, sym, ap, ◌∙◌, append_assoc, arith}
use Rattle.std.specs.Prelude.{◌&&◌}
use Rattle.std.specs.Int.{w16}
use Rattle.std.specs.Str.{bytes_eq}
use Rattle.std.proofs.Math.Seq.{take-nil}
use Rattle.std.proofs.lemmas.List.{take_at, take_all, length-append}
use Rattle.std.proofs.lemmas.Slice.Eq.{bytes_eq-Decides}
use Rattle.byte_layouts.specs.declared.fault.FieldFault.{FieldFault}
use Rattle.byte_layouts.specs.declared.fault.FieldFault.TheVariants.{Truncated, NotHead, Version}
use Rattle.byte_layouts.specs.Layout.{number_text}
use Rattle.byte_layouts.specs.Readers.{At, at_of, gives, ◌>>=◌, counted, number, begins, head_at, version_at, longer}
use Rattle.byte_layouts.specs.Held.{IsBytes}
use Rattle.byte_layouts.proofs.Results.{first_chosen}
use Rattle.byte_layouts.proofs.ReaderLaws.{IsReaderOf, Took, counted_takes, counted_again, counted_bad, made_is, tested_or_is}
use Rattle.byte_layouts.proofs.Widths.{Below, u16_is}

-- ---- the first bytes

head_begins : (head rest : List ℕ) → begins head (head ++ rest) ≡ true
head_begins head rest =
    let front : take (length head) (head ++ rest) ≡ head = take_at head rest (length head) refl in
    let whole : take (length (head ++ rest)) head ≡ head = take_all (length (head ++ rest)) head (omega (arith, length-append head rest)) in
    (bytes_eq-Decides (take (length head) (head ++ rest)) (take (length (head ++ rest)) head)).1 (front ∙ sym whole)

both_hold : (b p q : Bool) → (p ≡ true → q ≡ true) → (b && p) ≡ true → (b && q) ≡ true
both_hold true p q f e = f e
both_hold false p q f e = e

-- fewer bytes begin so where more do
fewer_begin : (h xs tail : List ℕ) → bytes_eq (take (length h) (xs ++ tail)) (take (length (xs ++ tail)) h) ≡ true → bytes_eq (take (length h) xs) (take (length xs) h) ≡ true
fewer_begin [] xs tail e = rw take-nil refl
fewer_begin (c ∷ h) [] tail e = refl
fewer_begin (c ∷ h) (x ∷ xs) tail e =
    both_hold (eqb x c) (bytes_eq (take (length h) (xs ++ tail)) (take (length (xs ++ tail)) h)) (bytes_eq (take (length h) xs) (take (length xs) h)) (fewer_begin h xs tail) e

more_differ : (head xs tail : List ℕ) → begins head xs ≡ false → begins head (xs ++ tail) ≡ false
more_differ head xs tail e = by_test (begins head (xs ++ tail)) refl
  where
    by_test : (b : Bool) → begins head (xs ++ tail) ≡ b → begins head (xs ++ tail) ≡ false
    by_test true h = absurd (cc (fewer_begin head xs tail h, e))
    by_test false h = h

-- as many bytes that begin so are those
all_there : (head xs rest : List ℕ) → length xs ≡ length head → begins head (xs ++ rest) ≡ true → xs ≡ head
all_there head xs rest size e =
    let is : take (length head) (xs ++ rest) ≡ take (length (xs ++ rest)) head = (bytes_eq-Decides (take (length head) (xs ++ rest)) (take (length (xs ++ rest)) head)).0 e in
    let front : take (length head) (xs ++ rest) ≡ xs = take_at xs rest (length head) size in
    let whole : take (length (xs ++ rest)) head ≡ head = take_all (length (xs ++ rest)) head (omega (arith, size, length-append xs rest)) in
    sym front ∙ is ∙ whole

head_takes : (head : List ℕ) (at next : At) (x : List ℕ) → IsBytes at.rest → head_at head at ≡ Ok (x, next) → Took at x next × x ≡ head
unfolding head_at
head_takes head at next x fits e =
    let g = first_chosen (begins head at.rest) (counted (length head) at) NotHead (x, next) e in
    let took = counted_takes (length head) at next x fits g.1 in
    let begun : begins head (x ++ next.rest) ≡ true = ap (begins head) (sym took.0.parts) ∙ g.0 in
    (took.0, all_there head x next.rest took.1.size begun)

head_again : (head : List ℕ) (place : ℕ) (rest x : List ℕ) → x ≡ head → head_at head (at_of place (x ++ rest)) ≡ Ok (x, at_of (place + length x) rest)
unfolding head_at
head_again head place rest x is =
    let test : begins head (x ++ rest) ≡ true = ap (λ (l : List ℕ). begins head (l ++ rest)) is ∙ head_begins head rest in
    let size : length x ≡ length head = ap (λ (l : List ℕ). length l) is in
    rw test (counted_again (length head) place rest x size)

head_more : (head : List ℕ) (at next : At) (x tail : List ℕ) → IsBytes at.rest → head_at head at ≡ Ok (x, next) → head_at head (longer at tail) ≡ Ok (x, longer next tail)
head_more head at next x tail fits e =
    let took = head_takes head at next x fits e in
    let regrouped : at.rest ++ tail ≡ x ++ (next.rest ++ tail) = ap (λ (l : List ℕ). l ++ tail) took.0.parts ∙ append_assoc x next.rest tail in
    ap (λ (l : List ℕ). head_at head (at_of at.place l)) regrouped ∙ head_again head at.place (next.rest ++ tail) x took.1 ∙ ap (λ (k : ℕ). Ok (x, at_of k (next.rest ++ tail))) (sym took.0.place)

head_bad : (head : List ℕ) (at : At) (fault : FieldFault) (tail : List ℕ) → head_at head at ≡ Err fault → fault ≢ Truncated → head_at head (longer at tail) ≡ Err fault
unfolding head_at
head_bad head at fault tail e other =
    let g = differs (begins head at.rest) (counted (length head) at) fault e (λ h. other (counted_bad (length head) at fault h)) in
    let test = more_differ head at.rest tail g.0 in
    rw test (ap (λ (d : FieldFault). Err d) (sym g.1))
  where
    differs : {A : Type 0} (b : Bool) (read : Result A FieldFault) (fault : FieldFault) → cond b read (Err NotHead) ≡ Err fault → (read ≡ Err fault → ⊥) → (b ≡ false) × (fault ≡ NotHead)
    differs true read fault e not_read = absurd (not_read e)
    differs false read fault e not_read = (refl, cc)

pub head_law : (head : List ℕ) → IsReaderOf (head_at head >>= (λ bytes. gives tt)) (λ (u : Unit {0}). head) (λ u. Unit {0})
head_law head =
    made_is (head_at head) (λ bytes. tt) (λ (u : Unit {0}). head) (λ (bytes : List ℕ). bytes) (λ bytes. bytes ≡ head) (λ u. Unit {0})
    (record { takes = head_takes head; again = head_again head; more = head_more head; bad = λ at fault tail fits e other. head_bad head at fault tail e other })
    (λ bytes is. (sym is, tt))
    (λ u has. (refl, refl))

-- ---- the version

pub version_law : (ok : ℕ → Bool) → IsReaderOf (version_at ok) (number_text w16) (λ n. Below (2 ^ 16) n × (ok n ≡ true))
unfolding version_at
version_law ok = tested_or_is (λ place n. Version n) ok (number w16) (number_text w16) (Below (2 ^ 16)) u16_is
