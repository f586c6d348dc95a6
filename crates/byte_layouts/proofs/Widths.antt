-- Readers of numbers.
use Rattle.std.proofs.Common.{◌≡◌, ℕ, zero, suc, ◌^◌, ◌<◌, List, [], ◌∷◌, length, refl, ap, arith}
use Rattle.std.specs.Int.{Width, w8, w16, w32, w64, byte_len, from_be_bytes, to_be_bytes}
use Rattle.std.proofs.lemmas.Nat.{be_bytes_2, be_bytes_4, be_bytes_8, from_be_bytes-to_be_bytes_2, from_be_bytes-to_be_bytes_4, from_be_bytes-to_be_bytes_8}
use Rattle.byte_layouts.specs.Layout.{Size, One, Two, Four, Eight, width, limit, number_text}
use Rattle.byte_layouts.specs.Readers.{number, counted}
use Rattle.byte_layouts.specs.Held.{IsBytes}
use Rattle.byte_layouts.proofs.ReaderLaws.{IsReaderOf, HasSize, counted_is, made_is}

-- a number below a limit and its bytes tell each other
record TellEachOther (w : Width) (limit : ℕ) : Type 0 where
  size : (n : ℕ) → length (number_text w n) ≡ byte_len w
  fits : (n : ℕ) → IsBytes (number_text w n)
  there : (n : ℕ) → n < limit → from_be_bytes w (number_text w n) ≡ n
  back : (bytes : List ℕ) → length bytes ≡ byte_len w → IsBytes bytes → number_text w (from_be_bytes w bytes) ≡ bytes
  below : (bytes : List ℕ) → IsBytes bytes → from_be_bytes w bytes < limit

eight : TellEachOther w8 (2 ^ 8)
unfolding number_text
eight = record { size = λ n. refl; fits = one; there = λ n lt. omega (arith, lt); back = alone; below = λ bytes fits. omega (arith, fits 0) }
  where
    one : (n : ℕ) → IsBytes (to_be_bytes w8 n)
    one n zero = omega arith
    one n (suc i) = omega arith

    alone : (bytes : List ℕ) → length bytes ≡ byte_len w8 → IsBytes bytes → to_be_bytes w8 (from_be_bytes w8 bytes) ≡ bytes
    alone [] size fits = absurd (omega (arith, size))
    alone (b ∷ []) size fits = let lt = fits 0 in ap (λ (x : ℕ). x ∷ []) (omega (arith, lt))
    alone (b ∷ c ∷ bytes) size fits = absurd (omega (arith, size))

sixteen : TellEachOther w16 (2 ^ 16)
unfolding number_text
sixteen = record {
  size = λ n. refl;
  fits = two;
  there = λ n lt. from_be_bytes-to_be_bytes_2 n lt;
  back = λ bytes size fits. be_bytes_2 bytes _ size fits refl;
  below = λ bytes fits. omega (arith, fits 0, fits 1);
}
  where
    two : (n : ℕ) → IsBytes (to_be_bytes w16 n)
    two n zero = omega arith
    two n (suc zero) = omega arith
    two n (suc (suc i)) = omega arith

thirty_two : TellEachOther w32 (2 ^ 32)
unfolding number_text
thirty_two = record {
  size = λ n. refl;
  fits = four;
  there = λ n lt. from_be_bytes-to_be_bytes_4 n lt;
  back = λ bytes size fits. be_bytes_4 bytes _ size fits refl;
  below = λ bytes fits. omega (arith, fits 0, fits 1, fits 2, fits 3);
}
  where
    four : (n : ℕ) → IsBytes (to_be_bytes w32 n)
    four n zero = omega arith
    four n (suc zero) = omega arith
    four n (suc (suc zero)) = omega arith
    four n (suc (suc (suc zero))) = omega arith
    four n (suc (suc (suc (suc i)))) = omega arith

sixty_four : TellEachOther w64 (2 ^ 64)
unfolding number_text
sixty_four = record {
  size = λ n. refl;
  fits = all;
  there = λ n lt. from_be_bytes-to_be_bytes_8 n lt;
  back = λ bytes size fits. be_bytes_8 bytes _ size fits refl;
  below = λ bytes fits. omega (arith, fits 0, fits 1, fits 2, fits 3, fits 4, fits 5, fits 6, fits 7);
}
  where
    all : (n : ℕ) → IsBytes (to_be_bytes w64 n)
    all n zero = omega arith
    all n (suc zero) = omega arith
    all n (suc (suc zero)) = omega arith
    all n (suc (suc (suc zero))) = omega arith
    all n (suc (suc (suc (suc zero)))) = omega arith
    all n (suc (suc (suc (suc (suc zero))))) = omega arith
    all n (suc (suc (suc (suc (suc (suc zero)))))) = omega arith
    all n (suc (suc (suc (suc (suc (suc (suc zero))))))) = omega arith
    all n (suc (suc (suc (suc (suc (suc (suc (suc i)))))))) = omega arith

-- below a limit
abbrev pub Below : ℕ → ℕ → Type 0
Below limit n = n < limit

number_is : (w : Width) (limit : ℕ) → TellEachOther w limit → IsReaderOf (number w) (number_text w) (Below limit)
unfolding number
number_is w limit tell =
    made_is (counted (byte_len w)) (from_be_bytes w) (number_text w) (λ bytes. bytes) (HasSize (byte_len w)) (Below limit) (counted_is (byte_len w))
    (λ bytes has. (tell.back bytes has.size has.fits, tell.below bytes has.fits))
    (λ n lt. (record { size = tell.size n; fits = tell.fits n }, tell.there n lt))

pub u8_is : IsReaderOf (number w8) (number_text w8) (Below (2 ^ 8))
u8_is = number_is w8 (2 ^ 8) eight

pub u16_is : IsReaderOf (number w16) (number_text w16) (Below (2 ^ 16))
u16_is = number_is w16 (2 ^ 16) sixteen

pub u32_is : IsReaderOf (number w32) (number_text w32) (Below (2 ^ 32))
u32_is = number_is w32 (2 ^ 32) thirty_two

pub u64_is : IsReaderOf (number w64) (number_text w64) (Below (2 ^ 64))
u64_is = number_is w64 (2 ^ 64) sixty_four

pub sized_number : (size : Size) → IsReaderOf (number (width size)) (number_text (width size)) (Below (limit size))
sized_number One = u8_is
sized_number Two = u16_is
sized_number Four = u32_is
sized_number Eight = u64_is

-- a number's text is of bytes, however large it is
pub number_bytes : (size : Size) (n : ℕ) → IsBytes (number_text (width size) n)
number_bytes One n = eight.fits n
number_bytes Two n = sixteen.fits n
number_bytes Four n = thirty_two.fits n
number_bytes Eight n = sixty_four.fits n
