-- Files by their names, the bytes of one of which are changed.
use Rattle.std.specs.Prelude.{bytes_eq}
use Rattle.std.proofs.Common.{◌≡◌, ◌≢◌, Bool, true, false, List, [], ◌∷◌, Some, IsSome, refl, ap, sym, ◌∙◌, unwrap_or, if◌then◌else◌, ℕ}
use Rattle.std.proofs.lemmas.Slice.Eq.{bytes_eq-Decides}
use Rattle.file_traits.specs.Lists.{NamedBytes, find_file, bytes_of, changed}

-- the bytes under a name that is there, once they are changed
pub changed_bytes : (files : List NamedBytes) (name : List ℕ) (step : List ℕ → List ℕ) → IsSome (find_file files name) → bytes_of (changed files name step) name ≡ step (bytes_of files name)
changed_bytes [] name step there = absurd (cc)
changed_bytes (f ∷ rest) name step there = by_test f rest name step (bytes_eq f.0 name) refl (λ more. changed_bytes rest name step more) there
  where
    by_test : (f : NamedBytes) (rest : List NamedBytes) (name : List ℕ) (step : List ℕ → List ℕ) (b : Bool) → bytes_eq f.0 name ≡ b
        → (IsSome (find_file rest name) → bytes_of (changed rest name step) name ≡ step (bytes_of rest name))
        → IsSome (if b then Some f.1 else find_file rest name)
        → bytes_of (if b then (f.0, step f.1) ∷ rest else f ∷ changed rest name step) name ≡ step (unwrap_or (if b then Some f.1 else find_file rest name) [])
    by_test f rest name step true is later there = ap (λ (b : Bool). unwrap_or (if b then Some (step f.1) else find_file rest name) []) is
    by_test f rest name step false is later there = ap (λ (b : Bool). unwrap_or (if b then Some f.1 else find_file (changed rest name step) name) []) is ∙ later there

-- two changes under one name, the second of which looks at no bytes
pub changed_twice : (files : List NamedBytes) (name : List ℕ) (step : List ℕ → List ℕ) (bytes : List ℕ) → changed (changed files name step) name (λ old. bytes) ≡ changed files name (λ old. bytes)
changed_twice [] name step bytes = refl
changed_twice (f ∷ rest) name step bytes = by_test f rest name step bytes (bytes_eq f.0 name) refl (changed_twice rest name step bytes)
  where
    by_test : (f : NamedBytes) (rest : List NamedBytes) (name : List ℕ) (step : List ℕ → List ℕ) (bytes : List ℕ) (b : Bool) → bytes_eq f.0 name ≡ b
        → changed (changed rest name step) name (λ old. bytes) ≡ changed rest name (λ old. bytes)
        → changed (if b then (f.0, step f.1) ∷ rest else f ∷ changed rest name step) name (λ old. bytes) ≡ (if b then (f.0, bytes) ∷ rest else f ∷ changed rest name (λ old. bytes))
    by_test f rest name step bytes true is later = ap (λ (b : Bool). if b then (f.0, bytes) ∷ rest else (f.0, step f.1) ∷ changed rest name (λ old. bytes)) is
    by_test f rest name step bytes false is later =
        ap (λ (b : Bool). if b then (f.0, bytes) ∷ changed rest name step else f ∷ changed (changed rest name step) name (λ old. bytes)) is ∙ ap (λ (xs : List NamedBytes). f ∷ xs) later

-- the bytes under a name, put there again
pub put_back : (files : List NamedBytes) (name : List ℕ) → changed files name (λ old. bytes_of files name) ≡ files
put_back [] name = refl
put_back (f ∷ rest) name = by_test f rest name (bytes_eq f.0 name) (put_back rest name)
  where
    by_test : (f : NamedBytes) (rest : List NamedBytes) (name : List ℕ) (b : Bool) → changed rest name (λ old. bytes_of rest name) ≡ rest
        → (if b then (f.0, unwrap_or (if b then Some f.1 else find_file rest name) []) ∷ rest else f ∷ changed rest name (λ old. unwrap_or (if b then Some f.1 else find_file rest name) [])) ≡ f ∷ rest
    by_test f rest name true later = refl
    by_test f rest name false later = ap (λ (xs : List NamedBytes). f ∷ xs) later

-- files that are the same but for the bytes under a name
pub refilled_one : (old new : List NamedBytes) (name : List ℕ) → changed new name (λ bytes. []) ≡ changed old name (λ bytes. []) → new ≡ changed old name (λ bytes. bytes_of new name)
refilled_one old new name same =
    let bytes = bytes_of new name in
    sym (put_back new name)
    ∙ sym (changed_twice new name (λ old. []) bytes)
    ∙ ap (λ (xs : List NamedBytes). changed xs name (λ old. bytes)) same
    ∙ changed_twice old name (λ old. []) bytes

-- a step of the bytes that are there
pub changed_at : (files : List NamedBytes) (name : List ℕ) (step : List ℕ → List ℕ) → changed files name (λ old. step (bytes_of files name)) ≡ changed files name step
changed_at [] name step = refl
changed_at (f ∷ rest) name step = by_test f rest name step (bytes_eq f.0 name) (changed_at rest name step)
  where
    by_test : (f : NamedBytes) (rest : List NamedBytes) (name : List ℕ) (step : List ℕ → List ℕ) (b : Bool) → changed rest name (λ old. step (bytes_of rest name)) ≡ changed rest name step
        → (if b then (f.0, step (unwrap_or (if b then Some f.1 else find_file rest name) [])) ∷ rest else f ∷ changed rest name (λ old. step (unwrap_or (if b then Some f.1 else find_file rest name) [])))
        ≡ (if b then (f.0, step f.1) ∷ rest else f ∷ changed rest name step)
    by_test f rest name step true later = refl
    by_test f rest name step false later = ap (λ (xs : List NamedBytes). f ∷ xs) later

-- the bytes of a file where another one is changed
pub changed_elsewhere : (files : List NamedBytes) (written name : List ℕ) (step : List ℕ → List ℕ) → written ≢ name → bytes_of (changed files written step) name ≡ bytes_of files name
changed_elsewhere [] written name step apart = refl
changed_elsewhere (f ∷ rest) written name step apart = by-test (bytes_eq f.0 written) (bytes_eq f.0 name) refl refl (changed_elsewhere rest written name step apart)
  where
    by-test : (b c : Bool) → bytes_eq f.0 written ≡ b → bytes_eq f.0 name ≡ c → bytes_of (changed rest written step) name ≡ bytes_of rest name
        → bytes_of (if b then (f.0, step f.1) ∷ rest else f ∷ changed rest written step) name ≡ unwrap_or (if c then Some f.1 else find_file rest name) []
    by-test true true here there later = absurd (apart (sym ((bytes_eq-Decides f.0 written).0 here) ∙ (bytes_eq-Decides f.0 name).0 there))
    by-test true false here there later = ap (λ (x : Bool). unwrap_or (if x then Some (step f.1) else find_file rest name) []) there
    by-test false true here there later = ap (λ (x : Bool). unwrap_or (if x then Some f.1 else find_file (changed rest written step) name) []) there
    by-test false false here there later =
        ap (λ (x : Bool). unwrap_or (if x then Some f.1 else find_file (changed rest written step) name) []) there ∙ later

-- a step that changes nothing
pub changed-same : (files : List NamedBytes) (name : List ℕ) (step : List ℕ → List ℕ) → ((bytes : List ℕ) → step bytes ≡ bytes) → changed files name step ≡ files
changed-same [] name step same = refl
changed-same (f ∷ rest) name step same = by-test f rest name step (bytes_eq f.0 name) (same f.1) (changed-same rest name step same)
  where
    by-test : (f : NamedBytes) (rest : List NamedBytes) (name : List ℕ) (step : List ℕ → List ℕ) (b : Bool) → step f.1 ≡ f.1 → changed rest name step ≡ rest
        → (if b then (f.0, step f.1) ∷ rest else f ∷ changed rest name step) ≡ f ∷ rest
    by-test f rest name step true here later = ap (λ (bytes : List ℕ). (f.0, bytes) ∷ rest) here
    by-test f rest name step false here later = ap (λ (xs : List NamedBytes). f ∷ xs) later

-- a name is itself
pub test-same : (name : List ℕ) → bytes_eq name name ≡ true
test-same name = (bytes_eq-Decides name name).1 refl
