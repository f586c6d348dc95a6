-- Pages are written over a file one behind another.
use Rattle.std.specs.Prelude.{bytes_eq}
use Rattle.std.proofs.Common.{◌≡◌, ◌<◌, ◌≤◌, ◌+◌, ◌-◌, ◌*◌, ℕ, Bool, true, false, List, [], ◌∷◌, length, get_or, take, drop, Some, None, refl, ap, sym, ◌∙◌, arith, if◌then◌else◌}
use Rattle.std.proofs.lemmas.List.{take_more, take_all, length-take, length-take-le, length-drop}
use Rattle.file_traits.specs.Lists.{NamedBytes, changed, overwritten}
use Rattle.unit_files.specs.Pages.{page_bytes}
use Rattle.unit_files.specs.InStep.{written_page, written_pages}
use Rattle.file_traits.specs.declared.files.FileCall.{FileCall}
use Rattle.file_traits.specs.declared.files.FileCall.TheVariants.{Write}
use Rattle.unit_files.specs.declared.faults.UnitFault.{UnitFault}
use Rattle.unit_files.specs.Acts.{same_call, failure_at}
use Rattle.unit_files.specs.Answers.{failure_in}
use Rattle.unit_files.proofs.Pages.{pages-more, pages-failed}

-- nothing is changed of a file
pub unchanged : (files : List NamedBytes) (name : List ℕ) → files ≡ changed files name (λ old. old)
unchanged [] name = refl
unchanged (f ∷ rest) name = by-test (bytes_eq f.0 name) (unchanged rest name)
  where
    by-test : (b : Bool) → rest ≡ changed rest name (λ old. old)
        → f ∷ rest ≡ (if b then (f.0, f.1) ∷ rest else f ∷ changed rest name (λ old. old))
    by-test true later = refl
    by-test false later = ap (λ (l : List NamedBytes). f ∷ l) later

-- two changes of one file
pub changed-both : (files : List NamedBytes) (name : List ℕ) (first second : List ℕ → List ℕ)
    → changed (changed files name first) name second ≡ changed files name (λ old. second (first old))
changed-both [] name first second = refl
changed-both (f ∷ rest) name first second = by-test (bytes_eq f.0 name) refl (changed-both rest name first second)
  where
    by-test : (b : Bool) → bytes_eq f.0 name ≡ b
        → changed (changed rest name first) name second ≡ changed rest name (λ old. second (first old))
        → changed (if b then (f.0, first f.1) ∷ rest else f ∷ changed rest name first) name second
        ≡ (if b then (f.0, second (first f.1)) ∷ rest else f ∷ changed rest name (λ old. second (first old)))
    by-test true is later =
        ap (λ (b : Bool). if b then (f.0, second (first f.1)) ∷ rest else (f.0, first f.1) ∷ changed rest name second) is
    by-test false is later =
        ap (λ (b : Bool). if b then (f.0, second f.1) ∷ changed rest name first else f ∷ changed (changed rest name first) name second) is
        ∙ ap (λ (l : List NamedBytes). f ∷ l) later

module _ (marks : List Bool) (bytes : List ℕ) (page : ℕ) (below : page < length marks) where
  next-page : (old : List ℕ) → written_page (get_or marks page false) (page * page_bytes) bytes (written_pages (take page marks) 0 bytes old)
      ≡ written_pages (take (page + 1) marks) 0 bytes old
  next-page old =
      let place : 0 + length (take page marks) * page_bytes ≡ page * page_bytes =
      ap (λ (n : ℕ). 0 + n * page_bytes) (length-take-le page marks (omega (arith, below))) ∙ omega arith in
      sym (ap (λ (l : List Bool). written_pages l 0 bytes old) (take_more marks page false below)
      ∙ pages-more (take page marks) (get_or marks page false) 0 bytes old
      ∙ ap (λ (p : ℕ). written_page (get_or marks page false) p bytes (written_pages (take page marks) 0 bytes old)) place)

  -- a page is written, or passed where it has no mark
  pub one-more : (files mid new : List NamedBytes) (name : List ℕ)
      → mid ≡ changed files name (λ old. written_pages (take page marks) 0 bytes old)
      → new ≡ changed mid name (λ old. written_page (get_or marks page false) (page * page_bytes) bytes old)
      → new ≡ changed files name (λ old. written_pages (take (page + 1) marks) 0 bytes old)
  one-more files mid new name before now =
      now
      ∙ ap (λ (l : List NamedBytes). changed l name (λ old. written_page (get_or marks page false) (page * page_bytes) bytes old)) before
      ∙ changed-both files name (λ old. written_pages (take page marks) 0 bytes old) (λ old. written_page (get_or marks page false) (page * page_bytes) bytes old)
      ∙ (λ i. changed files name (λ old. next-page old i))

  -- its write failed behind so many bytes of it
  pub one-failed : (files mid new : List NamedBytes) (name : List ℕ) (n : ℕ) → get_or marks page false ≡ true → n ≤ page_bytes
      → mid ≡ changed files name (λ old. written_pages (take page marks) 0 bytes old)
      → new ≡ changed mid name (λ old. overwritten old (page * page_bytes) (take n (take page_bytes (drop (page * page_bytes) bytes))))
      → new ≡ changed files name (λ old. written_pages marks 0 (take (page * page_bytes + n) bytes) old)
  one-failed files mid new name n marked fits before now =
      let part = λ (old : List ℕ). overwritten old (page * page_bytes) (take n (take page_bytes (drop (page * page_bytes) bytes))) in
      let front : (old : List ℕ) → part (written_pages (take page marks) 0 bytes old) ≡ written_pages marks 0 (take (page * page_bytes + n) bytes) old =
      λ old.
      let here : 0 + page * page_bytes ≡ page * page_bytes = omega arith in
      sym (ap (λ (p : ℕ). written_pages marks 0 (take (p + n) bytes) old) (sym here)
      ∙ pages-failed marks page 0 n bytes old fits marked
      ∙ ap (λ (p : ℕ). overwritten (written_pages (take page marks) 0 bytes old) p (take n (take page_bytes (drop p bytes)))) here) in
      now
      ∙ ap (λ (l : List NamedBytes). changed l name part) before
      ∙ changed-both files name (λ old. written_pages (take page marks) 0 bytes old) part
      ∙ (λ i. changed files name (λ old. front old i))

  -- the same of a call, for the piece at a place of a file that is open under its name
  module _ (files mid new : List NamedBytes) (name name' piece : List ℕ) (place : ℕ) (same : name' ≡ name)
      (there : place ≡ page * page_bytes) (is : piece ≡ take page_bytes (drop place bytes))
      (before : mid ≡ changed files name (λ old. written_pages (take page marks) 0 bytes old)) where
    pub page-written : new ≡ changed mid name' (λ old. if get_or marks page false then overwritten old place piece else old)
        → new ≡ changed files name (λ old. written_pages (take (page + 1) marks) 0 bytes old)
    page-written now =
        one-more files mid new name before
        (now ∙ (λ i. changed mid (same i) (λ old. if get_or marks page false then overwritten old place (is i) else old))
        ∙ (λ i. changed mid name (λ old. if get_or marks page false then overwritten old (there i) (take page_bytes (drop (there i) bytes)) else old)))

    -- .. which failed, where `done` counts from the front of the file
    pub page-failed : (done : ℕ) → get_or marks page false ≡ true → place ≤ done → done ≤ place + length piece
        → new ≡ changed mid name' (λ old. if get_or marks page false then overwritten old place (take (done - place) piece) else old)
        → new ≡ changed files name (λ old. written_pages marks 0 (take done bytes) old)
    page-failed done marked from to now =
        let fits : done - place ≤ page_bytes =
        let long = ap (λ (l : List ℕ). length l) is in omega (arith, to, long, length-take page_bytes (drop place bytes)) in
        let whole : page * page_bytes + (done - place) ≡ done = omega (arith, there, from) in
        one-failed files mid new name (done - place) marked fits before
        (now ∙ (λ i. changed mid (same i) (λ old. if marked i then overwritten old place (take (done - place) (is i)) else old))
        ∙ (λ i. changed mid name (λ old. overwritten old (there i) (take (done - place) (take page_bytes (drop (there i) bytes))))))
        ∙ ap (λ (n : ℕ). changed files name (λ old. written_pages marks 0 (take n bytes) old)) whole

    pub end-within : (done : ℕ) → 0 < length piece → done ≤ place + length piece → done ≤ length bytes
    end-within done some to =
        let long = ap (λ (l : List ℕ). length l) is in
        omega (arith, some, to, long, length-take page_bytes (drop place bytes), length-drop place bytes)

-- all of them are written
pub all-written : (marks : List Bool) (bytes : List ℕ) (page : ℕ) (files new : List NamedBytes) (name : List ℕ) → length marks ≤ page
    → new ≡ changed files name (λ old. written_pages (take page marks) 0 bytes old)
    → new ≡ changed files name (λ old. written_pages marks 0 bytes old)
all-written marks bytes page files new name all is =
    is ∙ ap (λ (l : List Bool). changed files name (λ old. written_pages l 0 bytes old)) (take_all page marks all)

-- a failed write is claimed as one
pub claimed : (f : UnitFault) → f.call ≡ Write → failure_at Write (Some (failure_in f)) ≡ Some (failure_in f)
claimed f is = ap (λ (c : FileCall). if same_call c Write then Some (failure_in f) else None) is
