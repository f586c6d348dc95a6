-- A new machine's memory: it has its 32768 words, and each of them is 0.
use Rattle.std.proofs.Common.{◌≡◌, ℕ, ◌^◌, ◌<◌, length, replicate, slice_index, refl, inl, inr, arith}
use Rattle.std.proofs.lemmas.Bool.{cases_lt}
use Rattle.std.specs.Prelude.{All}
use Rattle.std.proofs.lemmas.List.{length-replicate, get_or-replicate, get_or_past}
use Rattle.std.proofs.lemmas.List.Elements.{All-replicate}
use Rattle.std.proofs.lemmas.Bool.Decides.{nat_tests}
use Rattle.nova_memory.specs.Memory.{IsMemory, IsSize, get, blank, blank_words}

pub length-blank_words : length blank_words ≡ 2 ^ 15
unfolding blank_words
length-blank_words = length-replicate {A = ℕ} (2 ^ 15) 0

slice_index-replicate : (n a : ℕ) → slice_index (replicate n 0) a ≡ 0
slice_index-replicate n a =
    elim (cases_lt a n) [
      | inl within ↦ get_or-replicate {A = ℕ} n a 0 0 within
      | inr past ↦ get_or_past (replicate n 0) a 0 (rw (length-replicate {A = ℕ} n 0) past)
    ]

pub slice_index-blank_words : (a : ℕ) → slice_index blank_words a ≡ 0
unfolding blank_words
slice_index-blank_words a = slice_index-replicate (2 ^ 15) a

All-blank_words : All (λ w. w < 2 ^ 16) blank_words
unfolding blank_words
All-blank_words = All-replicate {X = ℕ} (λ w. w < 2 ^ 16) (2 ^ 15) 0 (omega arith)

pub IsMemory-blank : IsMemory blank
IsMemory-blank = record { whole = length-blank_words; words = All-blank_words; size = omega arith; beyond = λ a past. slice_index-blank_words a }

pub IsSize-blank : IsSize blank.size
IsSize-blank = record { step = refl; least = omega arith; most = omega arith }

pub get-blank : (a : ℕ) → get blank a ≡ 0
get-blank a = grind (arith, nat_tests, slice_index-blank_words a)
