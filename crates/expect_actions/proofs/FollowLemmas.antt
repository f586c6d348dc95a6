-- Laws of lines behind others.
use Rattle.std.proofs.Common.{◌≡◌, ℕ, ◌+◌, ◌≤◌, List, [], ◌∷◌, ◌++◌, length, refl, sym, ap, ◌∙◌, subst, arith}
use Rattle.std.proofs.lemmas.List.{append_assoc, append-nil, length-append, length-map}
use Rattle.expect_actions.specs.KeysFile.{Key, KeysLine, most_keys, IsLine, AreLines, none, more, DoNotFall, keys_of}
use Rattle.expect_actions.specs.KeysFile.{all_keys, IsKept}

-- the time of the last line, or that before the first
abbrev pub last_time : ℕ → List KeysLine → ℕ
last_time time [] = time
last_time time (says ∷ others) = last_time says.0 others

pub last_time_push : (time : ℕ) (lines : List KeysLine) (says : KeysLine) → last_time time (lines ++ says ∷ []) ≡ says.0
last_time_push time [] says = refl
last_time_push time (l ∷ lines) says = last_time_push l.0 lines says

pub all_keys_push : (lines : List KeysLine) (says : KeysLine) →
    all_keys (lines ++ says ∷ []) ≡ all_keys lines ++ keys_of says
all_keys_push [] says = append-nil (keys_of says)
all_keys_push (l ∷ lines) says =
    ap (λ (x : List Key). keys_of l ++ x) (all_keys_push lines says)
    ∙ sym (append_assoc (keys_of l) (all_keys lines) (keys_of says))

pub keys_count : (lines : List KeysLine) (says : KeysLine) →
    length (all_keys (lines ++ says ∷ [])) ≡ length (all_keys lines) + length says.1
keys_count lines says =
    ap length (all_keys_push lines says) ∙ length-append (all_keys lines) (keys_of says)
    ∙ ap (λ (n : ℕ). length (all_keys lines) + n) (length-map says.1 (λ b. (says.0, b)))

-- times

falls_push : (time : ℕ) (lines : List KeysLine) (says : KeysLine) → DoNotFall time lines →
    last_time time lines ≤ says.0 → DoNotFall time (lines ++ says ∷ [])
falls_push time [] says falls rises = (rises, tt)
falls_push time (l ∷ lines) says falls rises = (falls.0, falls_push l.0 lines says falls.1 rises)

falls_last : (time : ℕ) (lines : List KeysLine) (says : KeysLine) → DoNotFall time (lines ++ says ∷ []) →
    DoNotFall time lines × (last_time time lines ≤ says.0)
falls_last time [] says falls = (tt, falls.0)
falls_last time (l ∷ lines) says falls =
    let later = falls_last l.0 lines says falls.1 in
    ((falls.0, later.0), later.1)

-- a line that can stand behind others

pub kept_push : (lines : List KeysLine) (says : KeysLine) → IsKept lines → last_time 0 lines ≤ says.0 →
    length (all_keys lines) + length says.1 ≤ most_keys → IsKept (lines ++ says ∷ [])
kept_push lines says kept rises few = record {
  times = falls_push 0 lines says kept.times rises;
  few = omega (arith, keys_count lines says, few);
}

pub kept_last : (lines : List KeysLine) (says : KeysLine) → IsKept (lines ++ says ∷ []) →
    IsKept lines × (last_time 0 lines ≤ says.0) × (length (all_keys lines) + length says.1 ≤ most_keys)
kept_last lines says kept =
    let falls = falls_last 0 lines says kept.times in (
      record { times = falls.0; few = omega (arith, keys_count lines says, kept.few) },
      falls.1,
      omega (arith, keys_count lines says, kept.few),
    )

-- one more line, with its LF

pub are_push : (bytes line : List ℕ) (lines : List KeysLine) (says : KeysLine) → AreLines bytes lines →
    IsLine line says → AreLines (bytes ++ (line ++ 10 ∷ [])) (lines ++ says ∷ [])
are_push bytes line lines says none is = more line [] says [] is none
are_push bytes line lines says (more first rest l others first_is are) is =
    subst (λ (x : List ℕ). AreLines x (l ∷ (others ++ says ∷ [])))
    (sym (append_assoc first (10 ∷ rest) (line ++ 10 ∷ [])))
    (more first (rest ++ (line ++ 10 ∷ [])) l (others ++ says ∷ []) first_is (are_push rest line others says are is))
