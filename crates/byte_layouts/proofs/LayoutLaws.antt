-- What holds of every layout: its texts and what bytes say tell each other.
use Rattle.std.proofs.Common.{◌≡◌, ℕ, Bool, true, List, [], ◌∷◌, ◌++◌, length, refl, sym, ap, subst, ◌∙◌}
use Rattle.byte_layouts.specs.Layout.{Size, width, limit, Layout, Head, Version, Given, Number, Bytes, Sized, Many, Listed, Then, Made, number_text, texts, text, reading, Follow, IsNumber, Has, loose}
use Rattle.byte_layouts.specs.Readers.{Reader, ◌>>=◌, gives, number, counted, tested, chain, with_last}
use Rattle.byte_layouts.proofs.ReaderLaws.{IsReaderOf, HasSize, counted_is, joined_is, bound_is, made_is, retold, gives_is, tested_is, splits}
use Rattle.byte_layouts.proofs.Widths.{Below, sized_number}
use Rattle.byte_layouts.proofs.HeadLaws.{head_law, version_law}
use Rattle.byte_layouts.proofs.Lists.{IsChain, chain_is, bytes_there, bytes_back}

number_law : (size : Size) (ok : ℕ → Bool) → IsReaderOf (tested ok (number (width size))) (number_text (width size)) (IsNumber size ok)
number_law size ok = tested_is ok (number (width size)) (number_text (width size)) (Below (limit size)) (sized_number size)

bytes_law : (count : ℕ) (ok : List ℕ → Bool) → IsReaderOf (tested ok (counted count)) (λ bytes. bytes) (Has (Bytes count ok))
bytes_law count ok =
    retold (tested ok (counted count)) (λ bytes. bytes) (λ bytes. bytes) (λ bytes. HasSize count bytes × (ok bytes ≡ true)) (Has (Bytes count ok))
    (tested_is ok (counted count) (λ bytes. bytes) (HasSize count) (counted_is count))
    (λ bytes has. (refl, ((has.0.size, bytes_there bytes has.0.fits), has.1)))
    (λ bytes has. (record { size = has.0.0; fits = bytes_back bytes has.0.1 }, has.1))

sized_law : (size : Size) (ok : ℕ → Bool) (fits : List ℕ → Bool)
    → IsReaderOf (tested ok (number (width size)) >>= (λ count. tested fits (counted count))) (text (Sized size ok fits)) (Has (Sized size ok fits))
sized_law size ok fits =
    joined_is (tested ok (number (width size))) (λ count. tested fits (counted count)) (number_text (width size)) (IsNumber size ok) (λ count bytes. bytes) (λ count bytes. Has (Bytes count fits) bytes)
    (text (Sized size ok fits)) (Has (Sized size ok fits)) (number_law size ok) (λ count has. bytes_law count fits)
    (λ count bytes has more.
    (ap (λ (n : ℕ). number_text (width size) n ++ bytes) (sym more.0.0), (subst (IsNumber size ok) (sym more.0.0) has, (more.0.1, more.1))))
    (λ bytes has. (length bytes, has.0, ((refl, has.1.0), has.1.1), refl))

listed_law : {A : Type 0} (size : Size) (ok : ℕ → Bool) (each : List A → Reader A) (t : List A → A → List ℕ) (H : List A → A → Type 0) → ((front : List A) → IsReaderOf (each front) (t front) (H front))
    → IsReaderOf (tested ok (number (width size)) >>= (λ count. chain each with_last count [])) (λ xs. number_text (width size) (length xs) ++ texts t with_last [] xs)
    (λ xs. IsNumber size ok (length xs) × Follow H with_last [] xs)
listed_law size ok each t H law =
    joined_is (tested ok (number (width size))) (λ count. chain each with_last count []) (number_text (width size)) (IsNumber size ok) (λ count xs. texts t with_last [] xs) (λ count xs. IsChain H with_last count [] xs)
    (λ xs. number_text (width size) (length xs) ++ texts t with_last [] xs) (λ xs. IsNumber size ok (length xs) × Follow H with_last [] xs) (number_law size ok) (λ count has. chain_is each t H with_last law count [])
    (λ count xs has more.
    (ap (λ (n : ℕ). number_text (width size) n ++ texts t with_last [] xs) (sym more.0), (subst (IsNumber size ok) (sym more.0) has, more.1)))
    (λ xs has. (length xs, has.0, (refl, has.1), refl))

given_law : {A : Type 0} (a : A) → IsReaderOf (gives a) (λ (x : A). []) (λ x. x ≡ a)
given_law {A} a = gives_is a (λ (x : A). []) (λ x. x ≡ a) refl refl (λ y is. is)

-- a pair of that first value
abbrev Behind : {A B : Type 0} → (A → B → Type 0) → A → A × B → Type 0
Behind G x p = (p.0 ≡ x) × G x p.1

behind_law : {A B : Type 0} (a : Reader A) (b : A → Reader B) (x : A) (u : B → List ℕ) (G : A → B → Type 0) → IsReaderOf (b x) u (G x)
    → IsReaderOf {A = A × B} (b x >>= (λ y. gives (x, y))) (λ p. u p.1) (Behind G x)
behind_law {A} {B} a b x u G law =
    made_is (b x) make (λ (p : A × B). p.1) u (G x) (Behind G x) law
    (λ y has. (refl, (refl, has)))
    (λ p has. (has.1, there p has.0))
  where
    make : B → A × B
    make y = (x, y)

    there : (p : A × B) → p.0 ≡ x → make p.1 ≡ p
    there p e = λ i. (sym e i, p.1)

then_law : {A B : Type 0} (a : Reader A) (b : A → Reader B) (t : A → List ℕ) (u : A → B → List ℕ) (H : A → Type 0) (G : A → B → Type 0) → IsReaderOf a t H → ((x : A) → IsReaderOf (b x) (u x) (G x))
    → IsReaderOf {A = A × B} (a >>= (λ x. b x >>= (λ y. gives (x, y)))) (λ p. t p.0 ++ u p.0 p.1) (λ p. H p.0 × G p.0 p.1)
then_law {A} {B} a b t u H G one other =
    retold (a >>= (λ x. b x >>= (λ y. gives (x, y)))) (λ (p : A × B). t p.0 ++ u p.0 p.1) (λ (p : A × B). t p.0 ++ u p.0 p.1) (λ p. H p.0 × Behind G p.0 p) (λ p. H p.0 × G p.0 p.1)
    (bound_is a (λ x. b x >>= (λ y. gives (x, y))) (λ (p : A × B). p.0) t H (λ x p. u x p.1) (Behind G) one
    (λ x has. behind_law a b x (u x) G (other x))
    (λ x p has more. more.0))
    (λ p has. (refl, (has.0, has.1.1)))
    (λ p has. (has.0, (refl, has.1)))

pub law : {A : Type 0} (l : Layout A) → IsReaderOf (reading l) (text l) (Has l)
law (Head head) = head_law head
law (Version ok) = version_law ok
law (Given a) = given_law a
law (Number size ok) = number_law size ok
law (Bytes count ok) = bytes_law count ok
law (Sized size ok fits) = sized_law size ok fits
law (Many count each) = chain_is (λ front. reading (each front)) (λ front. text (each front)) (λ front. Has (each front)) with_last (λ front. law (each front)) count []
law (Listed size ok each) = listed_law size ok (λ front. reading (each front)) (λ front. text (each front)) (λ front. Has (each front)) (λ front. law (each front))
law (Then a b) = then_law (reading a) (λ x. reading (b x)) (text a) (λ x. text (b x)) (Has a) (λ x. Has (b x)) (law a) (λ x. law (b x))
law (Made make part there back a) =
    made_is (reading a) make part (text a) (Has a) (λ y. Has a (part y)) (law a)
    (λ x has. (there x, subst (Has a) (sym (there x)) has))
    (λ y has. (has, back y))

-- ---- one to one

texts_same : {A S : Type 0} (t u : S → A → List ℕ) (next : S → A → S) → ((s : S) (x : A) → t s x ≡ u s x) → (s : S) (xs : List A) → texts t next s xs ≡ texts u next s xs
texts_same t u next same s [] = refl
texts_same t u next same s (x ∷ xs) = λ i. same s x i ++ texts_same t u next same (next s x) xs i

-- what has no test is written the same
loose_text : {A : Type 0} (l : Layout A) (x : A) → text (loose l) x ≡ text l x
loose_text (Head head) u = refl
loose_text (Version ok) n = refl
loose_text (Given a) x = refl
loose_text (Number size ok) n = refl
loose_text (Bytes count ok) bytes = refl
loose_text (Sized size ok fits) bytes = refl
loose_text (Many count each) xs = texts_same (λ front. text (loose (each front))) (λ front. text (each front)) with_last (λ front x. loose_text (each front) x) [] xs
loose_text (Listed size ok each) xs =
    ap (λ (l : List ℕ). number_text (width size) (length xs) ++ l) (texts_same (λ front. text (loose (each front))) (λ front. text (each front)) with_last (λ front x. loose_text (each front) x) [] xs)
loose_text (Then a b) x = λ i. loose_text a x.0 i ++ loose_text (b x.0) x.1 i
loose_text (Made make part there back a) y = loose_text a (part y)

-- also where bytes stand behind them
pub one_to_one_before : {A : Type 0} (l : Layout A) (x y : A) (a b : List ℕ) → Has (loose l) x → Has (loose l) y → text l x ++ a ≡ text l y ++ b → (x ≡ y) × (a ≡ b)
one_to_one_before l x y a b hx hy e =
    splits (reading (loose l)) (text (loose l)) (Has (loose l)) (law (loose l)) x y a b hx hy
    (ap (λ (t : List ℕ). t ++ a) (loose_text l x) ∙ e ∙ ap (λ (t : List ℕ). t ++ b) (sym (loose_text l y)))

pub one_to_one : {A : Type 0} (l : Layout A) (x y : A) → Has (loose l) x → Has (loose l) y → text l x ≡ text l y → x ≡ y
one_to_one l x y hx hy e = (one_to_one_before l x y [] [] hx hy (ap (λ (t : List ℕ). t ++ []) e)).0

follow_same : {A S : Type 0} (H G : S → A → Type 0) (next : S → A → S) → ((s : S) (x : A) → H s x → G s x) → (s : S) (xs : List A) → Follow H next s xs → Follow G next s xs
follow_same H G next more s [] has = tt
follow_same H G next more s (x ∷ xs) has = (more s x has.0, follow_same H G next more (next s x) xs has.1)

-- what passes its tests has its widths
pub loosened : {A : Type 0} (l : Layout A) (x : A) → Has l x → Has (loose l) x
loosened (Head head) u has = tt
loosened (Version ok) n has = (has.0, refl)
loosened (Given a) x has = has
loosened (Number size ok) n has = (has.0, refl)
loosened (Bytes count ok) bytes has = (has.0, refl)
loosened (Sized size ok fits) bytes has = ((has.0.0, refl), (has.1.0, refl))
loosened (Many count each) xs has = (has.0, follow_same (λ front. Has (each front)) (λ front. Has (loose (each front))) with_last (λ front x. loosened (each front) x) [] xs has.1)
loosened (Listed size ok each) xs has = ((has.0.0, refl), follow_same (λ front. Has (each front)) (λ front. Has (loose (each front))) with_last (λ front x. loosened (each front) x) [] xs has.1)
loosened (Then a b) x has = (loosened a x.0 has.0, loosened (b x.0) x.1 has.1)
loosened (Made make part there back a) y has = loosened a (part y) has
