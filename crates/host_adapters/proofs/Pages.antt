-- Bytes that are read from a page of a file.
use Rattle.std.proofs.Common.{◌≡◌, ℕ, ◌+◌, ◌-◌, ◌≤◌, ◌<◌, List, [], ◌∷◌, ◌++◌, length, take, drop, min, replicate, ap, sym, ◌∙◌, arith, refl, subst}
use Rattle.std.specs.Prelude.{zero, suc, Result, Bool, true, false, Option, Some, unwrap_or, bytes_eq, if◌then◌else◌}
use Rattle.std.proofs.lemmas.List.{drop-drop, drop-take, take-take, drop_at, length-append, length-replicate, length-take-le, length-take, length-drop}
use Rattle.file_traits.specs.Lists.{NamedBytes, find_file, bytes_of, changed, filled, overwritten}
use Rattle.file_traits.specs.State.{FileState, Opened, content, name_at}
use Rattle.file_traits.specs.declared.files.WriteFault.{WriteFault}
use Rattle.file_traits.specs.FileCalls.{written_count}
use Rattle.host_adapters.specs.Placed.{IsRead}

-- a part of a page is that part of the file
part-of : (bytes page : List ℕ) (first count start n : ℕ) → IsRead bytes first count page → start + n ≤ count
    → take n (drop start page) ≡ take n (drop (first + start) bytes)
part-of bytes page first count start n read fits =
    let there = drop first bytes in
    sym (drop-take start n page)
    ∙ ap (λ (xs : List ℕ). drop start xs) (sym (take-take (start + n) count page fits))
    ∙ ap (λ (xs : List ℕ). drop start (take (start + n) xs)) read.given
    ∙ ap (λ (xs : List ℕ). drop start xs) (take-take (start + n) count there fits)
    ∙ drop-take start n there
    ∙ ap (λ (xs : List ℕ). take n xs) (drop-drop start first bytes)

-- .. so a read that is answered from it gives the bytes of the file, as many as are wanted
pub read-within : (bytes page given : List ℕ) (first count place start m : ℕ) → IsRead bytes first count page
    → place ≡ first + start → start + m ≤ count → given ≡ take m (drop start page) → length given ≡ m
    → (length given ≡ min (length given) (length bytes - place)) × (take (length given) given ≡ take (length given) (drop place bytes))
read-within bytes page given first count place start m read at fits is long =
    let n = length given in
    let within = read.within in
    let behind : start + n ≤ count = omega (arith, long, fits) in
    let whole = take-take n n (drop start page) (omega arith) in (
      omega (arith, within, behind, at),
      ap (λ (xs : List ℕ). take n xs) (is ∙ ap (λ (k : ℕ). take k (drop start page)) (sym long))
          ∙ whole
          ∙ part-of bytes page first count start n read behind
          ∙ ap (λ (p : ℕ). take n (drop p bytes)) (sym at),
    )

-- the rest of a page
pub read-rest : (bytes page : List ℕ) (place count start k : ℕ) → k ≤ count → IsRead bytes place count (drop start page)
    → IsRead bytes (place + k) (count - k) (drop (start + k) page)
read-rest bytes page place count start k few read =
    let within = read.within in
    record {
      within = omega (arith, within, few);
      given =
          ap (λ (xs : List ℕ). take (count - k) xs) (sym (drop-drop k start page))
          ∙ part-of bytes (drop start page) place count k (count - k) read (omega (arith, few));
    }

-- what stands behind a write stays
behind-write : (bytes piece : List ℕ) (at place : ℕ) → at + length piece ≤ place
    → drop place (overwritten bytes at piece) ≡ drop place bytes
behind-write bytes [] at place behind = refl
behind-write bytes (b ∷ xs) at place behind =
    let piece = b ∷ xs in
    let front = take at (filled bytes at) in
    let middle = at + length piece in
    let tail = drop middle bytes in
    let whole = front ++ piece ++ tail in
    let added = length-append bytes (replicate (at - length bytes) 0) in
    let zeros = length-replicate {A = ℕ} (at - length bytes) 0 in
    let long : length front ≡ at = length-take-le at (filled bytes at) (omega (arith, added, zeros)) in
    let ends : length (front ++ piece) ≡ middle = length-append front piece ∙ ap (λ (n : ℕ). n + length piece) long in
    let more = place - middle in
    let there : middle + more ≡ place = omega (arith, behind) in
    ap (λ (n : ℕ). drop n whole) (sym there)
    ∙ sym (drop-drop more middle whole)
    ∙ ap (λ (zs : List ℕ). drop more zs) (drop_at (front ++ piece) tail middle ends)
    ∙ drop-drop more middle bytes
    ∙ ap (λ (n : ℕ). drop n bytes) there

read-behind : (bytes piece buf : List ℕ) (at place count : ℕ) → at + length piece ≤ place → IsRead bytes place count buf
    → IsRead (overwritten bytes at piece) place count buf
read-behind bytes piece buf at place count behind read =
    let new = overwritten bytes at piece in
    let same = behind-write bytes piece at place behind in
    let within = read.within in
    let long : length new - place ≡ length bytes - place =
    sym (length-drop place new) ∙ ap (λ (xs : List ℕ). length xs) same ∙ length-drop place bytes in
    record {
      within = omega (arith, within, long);
      given = read.given ∙ ap (λ (xs : List ℕ). take count xs) (sym same);
    }

-- a fact on the bytes of one file that a change keeps
hit : (P : List ℕ → Type 0) (c : Bool) (x y : List ℕ) (o : Option (List ℕ)) → (P x → P y)
    → P (unwrap_or (if c then Some x else o) []) → P (unwrap_or (if c then Some y else o) [])
hit P true x y o keeps was = keeps was
hit P false x y o keeps was = was

other : (P : List ℕ → Type 0) (c : Bool) (x : List ℕ) (o p : Option (List ℕ)) → (P (unwrap_or o []) → P (unwrap_or p []))
    → P (unwrap_or (if c then Some x else o) []) → P (unwrap_or (if c then Some x else p) [])
other P true x o p keeps was = was
other P false x o p keeps was = keeps was

front-changed : (P : List ℕ → Type 0) (b : Bool) (f : NamedBytes) (files rest : List NamedBytes) (name : List ℕ)
    (step : List ℕ → List ℕ) → ((xs : List ℕ) → P xs → P (step xs)) → (P (bytes_of files name) → P (bytes_of rest name))
    → P (bytes_of (f ∷ files) name) → P (bytes_of (if b then (f.0, step f.1) ∷ files else f ∷ rest) name)
front-changed P true f files rest name step keeps later was =
    hit P (bytes_eq f.0 name) f.1 (step f.1) (find_file files name) (keeps f.1) was
front-changed P false f files rest name step keeps later was =
    other P (bytes_eq f.0 name) f.1 (find_file files name) (find_file rest name) later was

changed-keeps : (P : List ℕ → Type 0) (files : List NamedBytes) (written name : List ℕ) (step : List ℕ → List ℕ)
    → ((xs : List ℕ) → P xs → P (step xs)) → P (bytes_of files name) → P (bytes_of (changed files written step) name)
changed-keeps P [] written name step keeps was = was
changed-keeps P (f ∷ files) written name step keeps was =
    front-changed P (bytes_eq f.0 written) f files (changed files written step) name step keeps
    (changed-keeps P files written name step keeps) was

-- .. so a write leaves what was read behind it, of whichever file
pub read-stays : (old new : FileState) (file held at place count : ℕ) (piece buf : List ℕ)
    → new.files ≡ changed old.files (name_at old.opened file) (λ bytes. overwritten bytes at piece)
    → new.opened ≡ old.opened → at + length piece ≤ place
    → IsRead (content old held) place count buf → IsRead (content new held) place count buf
read-stays old new file held at place count piece buf files opened behind read =
    let step = λ (bytes : List ℕ). overwritten bytes at piece in
    let kept = changed-keeps (λ (xs : List ℕ). IsRead xs place count buf) old.files (name_at old.opened file)
    (name_at old.opened held) step (λ xs was. read-behind xs piece buf at place count behind was) read in
    let same : bytes_of (changed old.files (name_at old.opened file) step) (name_at old.opened held) ≡ content new held =
    ap (λ (all : List NamedBytes). bytes_of all (name_at old.opened held)) (sym files)
    ∙ ap (λ (all : List Opened). bytes_of new.files (name_at all held)) (sym opened) in
    subst (λ (xs : List ℕ). IsRead xs place count buf) same kept

-- .. and where nothing was read there is nothing to keep
pub read-stays-or-none : (old new : FileState) (file held at place count : ℕ) (piece buf : List ℕ)
    → new.files ≡ changed old.files (name_at old.opened file) (λ bytes. overwritten bytes at piece)
    → new.opened ≡ old.opened → (0 < count → at + length piece ≤ place)
    → IsRead (content old held) place count buf → IsRead (content new held) place count buf
read-stays-or-none old new file held at place zero piece buf files opened behind read =
    record { within = omega arith; given = refl }
read-stays-or-none old new file held at place (suc n) piece buf files opened behind read =
    read-stays old new file held at place (suc n) piece buf files opened (behind (omega arith)) read

-- a write writes at most its piece
pub written-part : (result : Result (Unit {0}) WriteFault) (bytes : List ℕ)
    → length (take (written_count result bytes) bytes) ≤ length bytes
written-part result bytes = let long = length-take (written_count result bytes) bytes in omega (arith, long)
