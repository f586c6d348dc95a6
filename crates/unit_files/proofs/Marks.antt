-- Pages are marked where a sector is written.
use Rattle.std.proofs.Common.{◌≡◌, ◌<◌, ◌≤◌, ◌+◌, ◌-◌, ◌*◌, ◌%◌, ◌⊎◌, ℕ, Bool, true, false, List, [], ◌++◌, length, get_or, take, drop, min, replicate, inl, inr, ap, sym, ◌∙◌, arith, append-nil}
use Rattle.std.proofs.lemmas.Bool.{cases_lt}
use Rattle.std.proofs.lemmas.List.{get_or-drop, get_or-take, get_or_append_left, get_or-append_right, get_or-replicate, length-append, length-drop, length-replicate, length-take-le}
use Rattle.std.proofs.lemmas.Nat.{div-add-mod', mod_below, div-mul-add}
use Rattle.unit_files.specs.Aside.{aside_length}
use Rattle.unit_files.specs.Pages.{page_bytes, disk_pages, no_marks, page_of, marked}
use Rattle.unit_files.specs.Buffer.{sector_bytes, disk_sectors}
use Rattle.unit_files.specs.View.{marks_of}

pub page-some : 0 < page_bytes
unfolding page_bytes
page-some = omega arith

-- each place is in a page
pub page-split : (i : ℕ) → i ≡ page_of i * page_bytes + i % page_bytes
unfolding page_of
page-split i = sym (div-add-mod' i page_bytes)

pub page-rest : (i : ℕ) → i % page_bytes < page_bytes
page-rest i = mod_below i page_bytes page-some

pub page-is : (page k : ℕ) → k < page_bytes → page_of (page * page_bytes + k) ≡ page
unfolding page_of
page-is page k low = div-mul-add page page_bytes k low

-- a sector is within one page of the disk
pub sector-page : (sector k : ℕ) → k < sector_bytes → page_of (sector * sector_bytes + k) ≡ page_of (sector * sector_bytes)
unfolding page_of page_bytes sector_bytes
sector-page sector k low = omega (arith, low)

pub sector-some : 0 < sector_bytes
unfolding sector_bytes
sector-some = omega arith

pub sector-below : (sector : ℕ) → sector < disk_sectors → page_of (sector * sector_bytes) < disk_pages
unfolding page_of page_bytes sector_bytes disk_sectors aside_length
sector-below sector below = omega (arith, below)

pub page-order : (i j : ℕ) → i ≤ j → page_of i ≤ page_of j
unfolding page_of page_bytes
page-order i j order = omega (arith, order)

-- a copy with a mark for each page has these marks, and one without marks has none of its pages marked
pub marks-all : (marks : List Bool) → length marks ≡ disk_pages → marks_of marks ≡ marks
marks-all marks all =
    let none : disk_pages - length marks ≡ 0 = omega (arith, all) in
    ap (λ (n : ℕ). marks ++ replicate n false) none ∙ append-nil marks

pub marks-none : marks_of [] ≡ no_marks
marks-none = ap (λ (n : ℕ). replicate n false) {x = disk_pages - 0} {y = disk_pages} (omega arith)

module _ (first last : ℕ) (marks : List Bool) (order : first ≤ last) (below : last < length marks) where
  front-long : length (take first marks) ≡ first
  front-long = length-take-le first marks (omega (arith, order, below))

  mid-long : length (replicate (last + 1 - first) true) ≡ last + 1 - first
  mid-long = length-replicate (last + 1 - first) true

  both-long : length (take first marks ++ replicate (last + 1 - first) true) ≡ last + 1
  both-long = length-append (take first marks) (replicate (last + 1 - first) true) ∙ omega (arith, front-long, mid-long, order)

  pub marked-long : length (marked first last marks) ≡ length marks
  unfolding marked
  marked-long =
      length-append (take first marks ++ replicate (last + 1 - first) true) (drop (last + 1) marks)
      ∙ omega (arith, both-long, length-drop (last + 1) marks, below)

  pub marked-in : (page : ℕ) → first ≤ page → page ≤ last → get_or (marked first last marks) page false ≡ true
  unfolding marked
  marked-in page from to =
      get_or_append_left (take first marks ++ replicate (last + 1 - first) true) (drop (last + 1) marks) false page (omega (arith, both-long, to))
      ∙ get_or-append_right (take first marks) (replicate (last + 1 - first) true) first page false front-long from
      ∙ get_or-replicate (last + 1 - first) (page - first) true false (omega (arith, from, to))

  pub marked-before : (page : ℕ) → page < first → get_or (marked first last marks) page false ≡ get_or marks page false
  unfolding marked
  marked-before page low =
      get_or_append_left (take first marks ++ replicate (last + 1 - first) true) (drop (last + 1) marks) false page (omega (arith, both-long, low, order))
      ∙ get_or_append_left (take first marks) (replicate (last + 1 - first) true) false page (omega (arith, front-long, low))
      ∙ get_or-take first marks page false low

  pub marked-behind : (page : ℕ) → last < page → get_or (marked first last marks) page false ≡ get_or marks page false
  unfolding marked
  marked-behind page high =
      get_or-append_right (take first marks ++ replicate (last + 1 - first) true) (drop (last + 1) marks) (last + 1) page false both-long (omega (arith, high))
      ∙ get_or-drop (last + 1) marks (page - (last + 1)) false
      ∙ ap (λ (n : ℕ). get_or marks n false) {x = last + 1 + (page - (last + 1))} {y = page} (omega (arith, high))

  -- what has no mark had none, and is not between the two
  pub unmarked : (page : ℕ) → get_or (marked first last marks) page false ≡ false
      → (get_or marks page false ≡ false) × ((page < first) ⊎ (last < page))
  unmarked page not = elim (cases_lt page first) [
    | inl low ↦ (sym (marked-before page low) ∙ not, inl low)
    | inr from ↦ elim (cases_lt last page) [
      | inl high ↦ (sym (marked-behind page high) ∙ not, inr high)
      | inr to ↦ let is = marked-in page from to in absurd (cc)
    ]
  ]

-- there is still a mark for each page once a sector was written
pub sector-marks-long : (count sector : ℕ) (marks : List Bool) → sector < disk_sectors → length marks ≡ disk_pages
    → length (marked (page_of (min count (sector * sector_bytes))) (page_of (sector * sector_bytes)) marks) ≡ disk_pages
sector-marks-long count sector marks below all =
    let low = sector-below sector below in
    marked-long (page_of (min count (sector * sector_bytes))) (page_of (sector * sector_bytes)) marks
    (page-order (min count (sector * sector_bytes)) (sector * sector_bytes) (omega arith)) (omega (arith, low, all)) ∙ all
