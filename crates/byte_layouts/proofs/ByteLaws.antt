-- The text of a value is of bytes where the byte lists in it are.
use Rattle.std.proofs.Common.{ℕ, List, [], ◌∷◌, ◌++◌, length}
use Rattle.byte_layouts.specs.Layout.{Two, width, Layout, Head, Version, Given, Number, Bytes, Sized, Many, Listed, Then, Made, number_text, texts, text, AreBytes, Follow}
use Rattle.byte_layouts.specs.Readers.{with_last}
use Rattle.byte_layouts.proofs.Widths.{number_bytes}
use Rattle.byte_layouts.proofs.Lists.{bytes_there}

-- Each byte list of a value is of bytes. Nothing is asked of its numbers.
abbrev pub IsOfBytes : {A : Type 0} → Layout A → A → Type 0
IsOfBytes (Head head) u = AreBytes head
IsOfBytes (Version ok) n = Unit {0}
IsOfBytes (Given a) x = Unit {0}
IsOfBytes (Number size ok) n = Unit {0}
IsOfBytes (Bytes count ok) bytes = AreBytes bytes
IsOfBytes (Sized size ok fits) bytes = AreBytes bytes
IsOfBytes (Many count each) xs = Follow (λ front. IsOfBytes (each front)) with_last [] xs
IsOfBytes (Listed size ok each) xs = Follow (λ front. IsOfBytes (each front)) with_last [] xs
IsOfBytes (Then a b) x = IsOfBytes a x.0 × IsOfBytes (b x.0) x.1
IsOfBytes (Made make part there back a) y = IsOfBytes a (part y)

-- one behind the other
pub joined_bytes : (xs ys : List ℕ) → AreBytes xs → AreBytes ys → AreBytes (xs ++ ys)
joined_bytes [] ys h k = k
joined_bytes (x ∷ xs) ys h k = (h.0, joined_bytes xs ys h.1 k)

texts_bytes : {A S : Type 0} (t : S → A → List ℕ) (H : S → A → Type 0) (next : S → A → S) → ((s : S) (x : A) → H s x → AreBytes (t s x)) → (s : S) (xs : List A) → Follow H next s xs → AreBytes (texts t next s xs)
texts_bytes t H next one s [] h = tt
texts_bytes t H next one s (x ∷ xs) h = joined_bytes (t s x) (texts t next (next s x) xs) (one s x h.0) (texts_bytes t H next one (next s x) xs h.1)

pub text_bytes : {A : Type 0} (l : Layout A) (x : A) → IsOfBytes l x → AreBytes (text l x)
text_bytes (Head head) u h = h
text_bytes (Version ok) n h = bytes_there (number_text (width Two) n) (number_bytes Two n)
text_bytes (Given a) x h = tt
text_bytes (Number size ok) n h = bytes_there (number_text (width size) n) (number_bytes size n)
text_bytes (Bytes count ok) bytes h = h
text_bytes (Sized size ok fits) bytes h =
    joined_bytes (number_text (width size) (length bytes)) bytes (bytes_there (number_text (width size) (length bytes)) (number_bytes size (length bytes))) h
text_bytes (Many count each) xs h =
    texts_bytes (λ front. text (each front)) (λ front. IsOfBytes (each front)) with_last (λ front x. text_bytes (each front) x) [] xs h
text_bytes (Listed size ok each) xs h =
    joined_bytes (number_text (width size) (length xs)) (texts (λ front. text (each front)) with_last [] xs) (bytes_there (number_text (width size) (length xs)) (number_bytes size (length xs)))
    (texts_bytes (λ front. text (each front)) (λ front. IsOfBytes (each front)) with_last (λ front x. text_bytes (each front) x) [] xs h)
text_bytes (Then a b) x h = joined_bytes (text a x.0) (text (b x.0) x.1) (text_bytes a x.0 h.0) (text_bytes (b x.0) x.1 h.1)
text_bytes (Made make part there back a) y h = text_bytes a (part y) h
