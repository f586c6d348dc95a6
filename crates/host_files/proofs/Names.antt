-- Files by their names: places among them.
use Rattle.std.proofs.Common.{append-nil, unwrap_or, map, get_or, option_map, string_bytes, ◌≡◌, ℕ, ◌+◌, ◌<◌, ◌==◌, ◌&&◌, is_some, Bool, true, false, List, [], ◌∷◌, ◌++◌, length, slice_get, slice_set, Option, Some, None, refl, ap, sym, ◌∙◌, arith, if◌then◌else◌}
use Rattle.std.specs.Prelude.{bytes_eq}
use Rattle.std.proofs.lemmas.List.{map-set, length-map, drop_all}
use Rattle.std.proofs.lemmas.Option.{slice_get_within, slice_get-map, slice_get-get_or}
use Rattle.host_files.specs.declared.mem_file.MemFile.{MemFile}
use Rattle.file_traits.specs.Lists.{NamedBytes, find_file, with_file, changed, overwritten, resized}
use Rattle.file_traits.specs.State.{Opened, without}
use Rattle.file_traits.proofs.Changes.{test-same}
use Rattle.host_files.specs.MemFiles.{HasPlace, named_of, are_there}

pub place-first : (f : NamedBytes) (rest : List NamedBytes) (name : List ℕ) → bytes_eq f.0 name ≡ true → HasPlace (f ∷ rest) name 0
place-first f rest name is = record {
  file = f;
  within = omega arith;
  there = refl;
  found = ap (λ (b : Bool). if b then Some f.1 else find_file rest name) is;
  replaced = λ bytes. ap (λ (b : Bool). if b then (f.0, bytes) ∷ rest else f ∷ with_file rest name bytes) is;
  steps = λ step. ap (λ (b : Bool). if b then (f.0, step f.1) ∷ rest else f ∷ changed rest name step) is;
}

pub changed-none : (files : List NamedBytes) (name : List ℕ) (step : List ℕ → List ℕ) → find_file files name ≡ None → changed files name step ≡ files
changed-none [] name step none = refl
changed-none (f ∷ rest) name step none = by-test f rest name step (bytes_eq f.0 name) (λ later. changed-none rest name step later) none
  where
    by-test : (f : NamedBytes) (rest : List NamedBytes) (name : List ℕ) (step : List ℕ → List ℕ) (b : Bool) → (find_file rest name ≡ None → changed rest name step ≡ rest)
        → (if b then Some f.1 else find_file rest name) ≡ None → (if b then (f.0, step f.1) ∷ rest else f ∷ changed rest name step) ≡ f ∷ rest
    by-test f rest name step true later none = absurd (cc)
    by-test f rest name step false later none = ap (λ (xs : List NamedBytes). f ∷ xs) (later none)

-- the file at a place, with other bytes
pub set-changed : (xs : List MemFile) (i : ℕ) (name : List ℕ) (f g : MemFile) (step : List ℕ → List ℕ) → HasPlace (map named_of xs) name i → f ≡ get_or xs i f
    → string_bytes g.name ≡ string_bytes f.name → g.bytes.items ≡ step f.bytes.items → map named_of (slice_set xs i g) ≡ changed (map named_of xs) name step
set-changed xs i name f g step at is same_name bytes =
    let within : i < length xs = slice_get_within xs i f (at-is xs i name f at is) in
    let there : Some (named_of f) ≡ Some at.file = ap (λ (o : Option MemFile). option_map named_of o) (sym (at-is xs i name f at is)) ∙ sym (slice_get-map named_of xs i) ∙ at.there in
    let file : named_of f ≡ at.file = ap (λ (o : Option NamedBytes). unwrap_or o (named_of f)) there in
    map-set named_of xs i g
    ∙ ap (λ (n : List ℕ). slice_set (map named_of xs) i (n, g.bytes.items)) same_name
    ∙ ap (λ (b : List ℕ). slice_set (map named_of xs) i (string_bytes f.name, b)) bytes
    ∙ ap (λ (h : NamedBytes). slice_set (map named_of xs) i (h.0, step h.1)) file
    ∙ sym (at.steps step)
  where
    at-is : (xs : List MemFile) (i : ℕ) (name : List ℕ) (f : MemFile) → HasPlace (map named_of xs) name i → f ≡ get_or xs i f → slice_get xs i ≡ Some f
    at-is xs i name f at is =
        let within = at.within in
        let long = length-map xs named_of in
        slice_get-get_or xs i f (omega (arith, within, long)) ∙ ap (λ (g : MemFile). Some g) (sym is)

-- ---- names stay

-- the name of a file is still there once the bytes under a name are changed
pub changed-there : (files : List NamedBytes) (name : List ℕ) (step : List ℕ → List ℕ) (other : List ℕ) → is_some (find_file (changed files name step) other) ≡ is_some (find_file files other)
changed-there [] name step other = refl
changed-there (f ∷ rest) name step other = by-test f rest name step other (bytes_eq f.0 name) (changed-there rest name step other)
  where
    inner : (f : NamedBytes) (b : Bool) (x y : List ℕ) (p q : Option (List ℕ)) → is_some p ≡ is_some q → is_some (if b then Some x else p) ≡ is_some (if b then Some y else q)
    inner f true x y p q same = refl
    inner f false x y p q same = same

    by-test : (f : NamedBytes) (rest : List NamedBytes) (name : List ℕ) (step : List ℕ → List ℕ) (other : List ℕ) (b : Bool) → is_some (find_file (changed rest name step) other) ≡ is_some (find_file rest other)
        → is_some (find_file (if b then (f.0, step f.1) ∷ rest else f ∷ changed rest name step) other) ≡ is_some (find_file (f ∷ rest) other)
    by-test f rest name step other true same = inner f (bytes_eq f.0 other) (step f.1) f.1 (find_file rest other) (find_file rest other) refl
    by-test f rest name step other false same = inner f (bytes_eq f.0 other) f.1 f.1 (find_file (changed rest name step) other) (find_file rest other) same

pub there-changed : (files : List NamedBytes) (opened : List Opened) (name : List ℕ) (step : List ℕ → List ℕ) → are_there (changed files name step) opened ≡ are_there files opened
there-changed files [] name step = refl
there-changed files (o ∷ rest) name step =
    ap (λ (b : Bool). b && are_there (changed files name step) rest) (changed-there files name step o.name)
    ∙ ap (λ (b : Bool). is_some (find_file files o.name) && b) (there-changed files rest name step)

pub both : (a b : Bool) → (a && b) ≡ true → (a ≡ true) × (b ≡ true)
both true true all = (refl, refl)
both true false all = absurd (cc)
both false b all = absurd (cc)

pub there-without : (files : List NamedBytes) (opened : List Opened) (file : ℕ) → are_there files opened ≡ true → are_there files (without opened file) ≡ true
there-without files [] file all = refl
there-without files (o ∷ rest) file all =
    let parts = both (is_some (find_file files o.name)) (are_there files rest) all in
    by-test files o rest file (o.file == file) parts.0 parts.1 (there-without files rest file parts.1)
  where
    by-test : (files : List NamedBytes) (o : Opened) (rest : List Opened) (file : ℕ) (b : Bool) → is_some (find_file files o.name) ≡ true → are_there files rest ≡ true → are_there files (without rest file) ≡ true
        → are_there files (if b then rest else o ∷ without rest file) ≡ true
    by-test files o rest file true first all later = all
    by-test files o rest file false first all later = ap (λ (c : Bool). c && are_there files (without rest file)) first ∙ later

-- ---- a file more

pub with-new : (files : List NamedBytes) (name bytes : List ℕ) → find_file files name ≡ None → with_file files name bytes ≡ files ++ (name, bytes) ∷ []
with-new [] name bytes none = refl
with-new (f ∷ rest) name bytes none = by-test f rest name bytes (bytes_eq f.0 name) (λ later. with-new rest name bytes later) none
  where
    by-test : (f : NamedBytes) (rest : List NamedBytes) (name bytes : List ℕ) (b : Bool) → (find_file rest name ≡ None → with_file rest name bytes ≡ rest ++ (name, bytes) ∷ [])
        → (if b then Some f.1 else find_file rest name) ≡ None → (if b then (f.0, bytes) ∷ rest else f ∷ with_file rest name bytes) ≡ f ∷ (rest ++ (name, bytes) ∷ [])
    by-test f rest name bytes true later none = absurd (cc)
    by-test f rest name bytes false later none = ap (λ (xs : List NamedBytes). f ∷ xs) (later none)

-- a name that is there stays there
pub more-there : (files : List NamedBytes) (g : NamedBytes) (name : List ℕ) → is_some (find_file files name) ≡ true → is_some (find_file (files ++ g ∷ []) name) ≡ true
more-there [] g name there = absurd (cc)
more-there (f ∷ rest) g name there = by-test f (find_file rest name) (find_file (rest ++ g ∷ []) name) (bytes_eq f.0 name) (λ later. more-there rest g name later) there
  where
    by-test : (f : NamedBytes) (p q : Option (List ℕ)) (b : Bool) → (is_some p ≡ true → is_some q ≡ true) → is_some (if b then Some f.1 else p) ≡ true → is_some (if b then Some f.1 else q) ≡ true
    by-test f p q true later there = refl
    by-test f p q false later there = later there

pub there-more : (files : List NamedBytes) (g : NamedBytes) (opened : List Opened) → are_there files opened ≡ true → are_there (files ++ g ∷ []) opened ≡ true
there-more files g [] all = refl
there-more files g (o ∷ rest) all =
    let parts = both (is_some (find_file files o.name)) (are_there files rest) all in
    ap (λ (b : Bool). b && are_there (files ++ g ∷ []) rest) (more-there files g o.name parts.0) ∙ there-more files g rest parts.1

pub found-last : (files : List NamedBytes) (name bytes : List ℕ) → is_some (find_file (files ++ (name, bytes) ∷ []) name) ≡ true
found-last [] name bytes = ap (λ (b : Bool). is_some (if b then Some bytes else None)) (test-same name)
found-last (f ∷ rest) name bytes = by-test f (find_file (rest ++ (name, bytes) ∷ []) name) (bytes_eq f.0 name) (found-last rest name bytes)
  where
    by-test : (f : NamedBytes) (p : Option (List ℕ)) (b : Bool) → is_some p ≡ true → is_some (if b then Some f.1 else p) ≡ true
    by-test f p true later = refl
    by-test f p false later = later

-- an emptied file
pub emptied : (files : List NamedBytes) (name : List ℕ) → is_some (find_file files name) ≡ true → with_file files name [] ≡ changed files name (λ old. resized old 0)
emptied [] name there = absurd (cc)
emptied (f ∷ rest) name there = by-test f rest name (bytes_eq f.0 name) (λ later. emptied rest name later) there
  where
    by-test : (f : NamedBytes) (rest : List NamedBytes) (name : List ℕ) (b : Bool) → (is_some (find_file rest name) ≡ true → with_file rest name [] ≡ changed rest name (λ old. resized old 0))
        → is_some (if b then Some f.1 else find_file rest name) ≡ true → (if b then (f.0, []) ∷ rest else f ∷ with_file rest name []) ≡ (if b then (f.0, resized f.1 0) ∷ rest else f ∷ changed rest name (λ old. resized old 0))
    by-test f rest name true later there = refl
    by-test f rest name false later there = ap (λ (xs : List NamedBytes). f ∷ xs) (later there)

pub there_pushed : (files more : List NamedBytes) (g : NamedBytes) (opened : List Opened) → more ≡ files ++ g ∷ [] → are_there files opened ≡ true → are_there more opened ≡ true
there_pushed files more g opened is all = ap (λ (xs : List NamedBytes). are_there xs opened) is ∙ there-more files g opened all

-- ---- a file that is put in the place of another

over-empty : (bytes : List ℕ) → overwritten [] 0 bytes ≡ bytes
over-empty [] = refl
over-empty (b ∷ rest) = ap (λ (ys : List ℕ). (b ∷ rest) ++ ys) (drop_all (0 + length (b ∷ rest)) [] (omega arith)) ∙ append-nil (b ∷ rest)

pub refilled : (files : List NamedBytes) (name bytes : List ℕ) → is_some (find_file files name) ≡ true
    → with_file files name bytes ≡ changed (changed files name (λ old. resized old 0)) name (λ old. overwritten old 0 bytes)
refilled [] name bytes there = absurd (cc)
refilled (f ∷ rest) name bytes there = by-test f rest name bytes (bytes_eq f.0 name) refl (λ later. refilled rest name bytes later) there
  where
    by-test : (f : NamedBytes) (rest : List NamedBytes) (name bytes : List ℕ) (b : Bool) → bytes_eq f.0 name ≡ b
        → (is_some (find_file rest name) ≡ true → with_file rest name bytes ≡ changed (changed rest name (λ old. resized old 0)) name (λ old. overwritten old 0 bytes))
        → is_some (if b then Some f.1 else find_file rest name) ≡ true
        → (if b then (f.0, bytes) ∷ rest else f ∷ with_file rest name bytes) ≡ changed (if b then (f.0, resized f.1 0) ∷ rest else f ∷ changed rest name (λ old. resized old 0)) name (λ old. overwritten old 0 bytes)
    by-test f rest name bytes true is later there =
        ap (λ (ys : List ℕ). (f.0, ys) ∷ rest) (sym (over-empty bytes))
        ∙ ap (λ (c : Bool). if c then (f.0, overwritten [] 0 bytes) ∷ rest else (f.0, resized f.1 0) ∷ changed rest name (λ old. overwritten old 0 bytes)) (sym is)
    by-test f rest name bytes false is later there =
        ap (λ (xs : List NamedBytes). f ∷ xs) (later there)
        ∙ ap (λ (c : Bool). if c then (f.0, overwritten f.1 0 bytes) ∷ changed rest name (λ old. resized old 0) else f ∷ changed (changed rest name (λ old. resized old 0)) name (λ old. overwritten old 0 bytes)) (sym is)
