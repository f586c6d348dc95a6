-- The marked pages of a copy are written over a file.
use Rattle.std.proofs.Common.{◌≡◌, ◌<◌, ◌≤◌, ◌+◌, ◌-◌, ◌*◌, ℕ, zero, suc, Bool, true, false, List, [], ◌∷◌, ◌++◌, length, get_or, take, drop, inl, inr, refl, ap, sym, ◌∙◌, arith}
use Rattle.std.proofs.lemmas.Bool.{cases_lt}
use Rattle.std.proofs.lemmas.List.{get_or-drop, get_or-take, length-take, length-drop, take_all, take-take, drop-take, drop_all}
use Rattle.file_traits.specs.Lists.{overwritten}
use Rattle.unit_files.specs.Pages.{page_bytes}
use Rattle.unit_files.specs.InStep.{written_page, written_pages}
use Rattle.unit_files.proofs.Overwriting.{at, over-before, over-within, over-behind, over-least, over-most, over-reach}

-- ---- one page

-- the bytes that a copy has of a page
abbrev piece : ℕ → List ℕ → List ℕ
piece place bytes = take page_bytes (drop place bytes)

piece-short : (place : ℕ) (bytes : List ℕ) → length (piece place bytes) ≤ page_bytes
piece-short place bytes = omega (arith, length-take page_bytes (drop place bytes))

piece-within : (place : ℕ) (bytes : List ℕ) → length (piece place bytes) ≤ length bytes - place
piece-within place bytes = omega (arith, length-take page_bytes (drop place bytes), length-drop place bytes)

piece-reach : (place : ℕ) (bytes : List ℕ) (k : ℕ) → k < page_bytes → place + k < length bytes → k < length (piece place bytes)
piece-reach place bytes k low within =
    omega (arith, length-take page_bytes (drop place bytes), length-drop place bytes, low, within)

piece-none : (place : ℕ) (bytes : List ℕ) → length bytes ≤ place → piece place bytes ≡ []
piece-none place bytes past = ap (λ (l : List ℕ). take page_bytes l) (drop_all place bytes past) ∙ take_all page_bytes [] (omega arith)

pub piece-at : (place : ℕ) (bytes : List ℕ) (k : ℕ) → k < page_bytes → at (piece place bytes) k ≡ at bytes (place + k)
piece-at place bytes k low = get_or-take page_bytes (drop place bytes) k 0 low ∙ get_or-drop place bytes k 0

page-before : (mark : Bool) (place : ℕ) (bytes old : List ℕ) (i : ℕ) → i < place → at (written_page mark place bytes old) i ≡ at old i
page-before true place bytes old i low = over-before old place (piece place bytes) i low
page-before false place bytes old i low = refl

page-behind : (mark : Bool) (place : ℕ) (bytes old : List ℕ) (i : ℕ) → place + page_bytes ≤ i → at (written_page mark place bytes old) i ≡ at old i
page-behind true place bytes old i behind =
    over-behind old place (piece place bytes) i (omega (arith, piece-short place bytes, behind))
page-behind false place bytes old i behind = refl

page-past : (mark : Bool) (place : ℕ) (bytes old : List ℕ) (i : ℕ) → length bytes ≤ i → at (written_page mark place bytes old) i ≡ at old i
page-past true place bytes old i past = elim (cases_lt i place) [
  | inl low ↦ over-before old place (piece place bytes) i low
  | inr high ↦ over-behind old place (piece place bytes) i (omega (arith, piece-within place bytes, past, high))
]
page-past false place bytes old i past = refl

page-at : (place : ℕ) (bytes old : List ℕ) (k : ℕ) → k < page_bytes → place + k < length bytes
    → at (written_page true place bytes old) (place + k) ≡ at bytes (place + k)
page-at place bytes old k low within =
    over-within old place (piece place bytes) k (piece-reach place bytes k low within) ∙ piece-at place bytes k low

page-least : (mark : Bool) (place : ℕ) (bytes old : List ℕ) → length old ≤ length (written_page mark place bytes old)
page-least true place bytes old = over-least old place (piece place bytes)
page-least false place bytes old = omega arith

page-most : (mark : Bool) (place : ℕ) (bytes old : List ℕ) (most : ℕ) → length old ≤ most → length bytes ≤ most
    → length (written_page mark place bytes old) ≤ most
page-most true place bytes old most short fits = elim (cases_lt (length bytes) place) [
  | inl past ↦
      let none = piece-none place bytes (omega (arith, past)) in
      omega (arith, ap (λ (l : List ℕ). length (overwritten old place l)) none, short)
  | inr within ↦ over-most old place (piece place bytes) most short (omega (arith, piece-within place bytes, within, fits))
]
page-most false place bytes old most short fits = short

-- no further than to the page's end
page-end : (mark : Bool) (place : ℕ) (bytes old : List ℕ) (most : ℕ) → length old ≤ most → place + page_bytes ≤ most
    → length (written_page mark place bytes old) ≤ most
page-end true place bytes old most short fits =
    over-most old place (piece place bytes) most short (omega (arith, piece-short place bytes, fits))
page-end false place bytes old most short fits = short

-- ---- all pages

pub pages-before : (marks : List Bool) (place : ℕ) (bytes old : List ℕ) (i : ℕ) → i < place
    → at (written_pages marks place bytes old) i ≡ at old i
pages-before [] place bytes old i low = refl
pages-before (mark ∷ marks) place bytes old i low =
    pages-before marks (place + page_bytes) bytes (written_page mark place bytes old) i (omega (arith, low))
    ∙ page-before mark place bytes old i low

pub pages-past : (marks : List Bool) (place : ℕ) (bytes old : List ℕ) (i : ℕ) → length bytes ≤ i
    → at (written_pages marks place bytes old) i ≡ at old i
pages-past [] place bytes old i past = refl
pages-past (mark ∷ marks) place bytes old i past =
    pages-past marks (place + page_bytes) bytes (written_page mark place bytes old) i past
    ∙ page-past mark place bytes old i past

-- nothing is written from the copy's end on
pub pages-none : (marks : List Bool) (place : ℕ) (bytes old : List ℕ) → length bytes ≤ place
    → written_pages marks place bytes old ≡ old
pages-none [] place bytes old past = refl
pages-none (true ∷ marks) place bytes old past =
    pages-none marks (place + page_bytes) bytes (overwritten old place (piece place bytes)) (omega (arith, past))
    ∙ ap (λ (l : List ℕ). overwritten old place l) (piece-none place bytes past)
pages-none (false ∷ marks) place bytes old past = pages-none marks (place + page_bytes) bytes old (omega (arith, past))

-- a place of the next page is one of the same page from there on
next-page : (page place k : ℕ) → place + suc page * page_bytes + k ≡ place + page_bytes + page * page_bytes + k
next-page page place k = grind arith

pub pages-at : (marks : List Bool) (page place : ℕ) (bytes old : List ℕ) (k : ℕ) → k < page_bytes
    → get_or marks page false ≡ true → place + page * page_bytes + k < length bytes
    → at (written_pages marks place bytes old) (place + page * page_bytes + k) ≡ at bytes (place + page * page_bytes + k)
pages-at [] page place bytes old k low marked within = absurd (cc)
pages-at (mark ∷ marks) zero place bytes old k low marked within =
    let here : place + 0 * page_bytes + k ≡ place + k = omega arith in
    ap (λ (i : ℕ). at (written_pages (mark ∷ marks) place bytes old) i) here
    ∙ pages-before marks (place + page_bytes) bytes (written_page mark place bytes old) (place + k) (omega (arith, low))
    ∙ ap (λ (m : Bool). at (written_page m place bytes old) (place + k)) marked
    ∙ page-at place bytes old k low (omega (arith, within))
    ∙ ap (λ (i : ℕ). at bytes i) (sym here)
pages-at (mark ∷ marks) (suc page) place bytes old k low marked within =
    let next = next-page page place k in
    ap (λ (i : ℕ). at (written_pages (mark ∷ marks) place bytes old) i) next
    ∙ pages-at marks page (place + page_bytes) bytes (written_page mark place bytes old) k low marked (omega (arith, next, within))
    ∙ ap (λ (i : ℕ). at bytes i) (sym next)

pub others-at : (marks : List Bool) (page place : ℕ) (bytes old : List ℕ) (k : ℕ) → k < page_bytes
    → get_or marks page false ≡ false
    → at (written_pages marks place bytes old) (place + page * page_bytes + k) ≡ at old (place + page * page_bytes + k)
others-at [] page place bytes old k low marked = refl
others-at (mark ∷ marks) zero place bytes old k low marked =
    let here : place + 0 * page_bytes + k ≡ place + k = omega arith in
    ap (λ (i : ℕ). at (written_pages (mark ∷ marks) place bytes old) i) here
    ∙ pages-before marks (place + page_bytes) bytes (written_page mark place bytes old) (place + k) (omega (arith, low))
    ∙ ap (λ (m : Bool). at (written_page m place bytes old) (place + k)) marked
    ∙ ap (λ (i : ℕ). at old i) (sym here)
others-at (mark ∷ marks) (suc page) place bytes old k low marked =
    let next = next-page page place k in
    ap (λ (i : ℕ). at (written_pages (mark ∷ marks) place bytes old) i) next
    ∙ others-at marks page (place + page_bytes) bytes (written_page mark place bytes old) k low marked
    ∙ page-behind mark place bytes old (place + page_bytes + page * page_bytes + k) (omega arith)
    ∙ ap (λ (i : ℕ). at old i) (sym next)

pub pages-least : (marks : List Bool) (place : ℕ) (bytes old : List ℕ) → length old ≤ length (written_pages marks place bytes old)
pages-least [] place bytes old = omega arith
pages-least (mark ∷ marks) place bytes old =
    let first = page-least mark place bytes old in
    let rest = pages-least marks (place + page_bytes) bytes (written_page mark place bytes old) in
    omega (arith, first, rest)

pub pages-most : (marks : List Bool) (place : ℕ) (bytes old : List ℕ) (most : ℕ) → length old ≤ most → length bytes ≤ most
    → length (written_pages marks place bytes old) ≤ most
pages-most [] place bytes old most short fits = short
pages-most (mark ∷ marks) place bytes old most short fits =
    pages-most marks (place + page_bytes) bytes (written_page mark place bytes old) most
    (page-most mark place bytes old most short fits) fits

pub pages-reach : (marks : List Bool) (page place : ℕ) (bytes old : List ℕ) (k : ℕ) → k < page_bytes
    → get_or marks page false ≡ true → place + page * page_bytes + k < length bytes
    → place + page * page_bytes + k < length (written_pages marks place bytes old)
pages-reach [] page place bytes old k low marked within = absurd (cc)
pages-reach (true ∷ marks) zero place bytes old k low marked within =
    let first = over-reach old place (piece place bytes) k (piece-reach place bytes k low (omega (arith, within))) in
    let rest = pages-least marks (place + page_bytes) bytes (written_page true place bytes old) in
    omega (arith, first, rest)
pages-reach (false ∷ marks) zero place bytes old k low marked within = absurd (cc)
pages-reach (mark ∷ marks) (suc page) place bytes old k low marked within =
    let next = next-page page place k in
    let rest = pages-reach marks page (place + page_bytes) bytes (written_page mark place bytes old) k low marked (omega (arith, next, within)) in
    omega (arith, next, rest)

-- where the last byte of a copy is in a page without a mark, and the file does not reach it, nothing that is written does
pub last-unmarked : (marks : List Bool) (page place : ℕ) (bytes old : List ℕ) (k : ℕ) → k < page_bytes
    → get_or marks page false ≡ false → length bytes ≤ place + page * page_bytes + k + 1
    → length old ≤ place + page * page_bytes + k
    → length (written_pages marks place bytes old) ≤ place + page * page_bytes + k
last-unmarked [] page place bytes old k low marked last short = short
last-unmarked (true ∷ marks) zero place bytes old k low marked last short = absurd (cc)
last-unmarked (false ∷ marks) zero place bytes old k low marked last short =
    let none = pages-none marks (place + page_bytes) bytes old (omega (arith, low, last)) in
    omega (arith, ap (λ (l : List ℕ). length l) none, short)
last-unmarked (mark ∷ marks) (suc page) place bytes old k low marked last short =
    let next = next-page page place k in
    let first = page-end mark place bytes old (place + page_bytes + page * page_bytes + k) (omega (arith, next, short)) (omega arith) in
    let rest = last-unmarked marks page (place + page_bytes) bytes (written_page mark place bytes old) k low marked (omega (arith, next, last)) first in
    omega (arith, next, rest)

-- ---- one page more, and the one that failed

pub pages-more : (marks : List Bool) (mark : Bool) (place : ℕ) (bytes old : List ℕ)
    → written_pages (marks ++ mark ∷ []) place bytes old
    ≡ written_page mark (place + length marks * page_bytes) bytes (written_pages marks place bytes old)
pages-more [] mark place bytes old =
    ap (λ (p : ℕ). written_page mark p bytes old) {x = place} {y = place + 0 * page_bytes} (omega arith)
pages-more (m ∷ marks) mark place bytes old =
    pages-more marks mark (place + page_bytes) bytes (written_page m place bytes old)
    ∙ ap (λ (p : ℕ). written_page mark p bytes (written_pages marks (place + page_bytes) bytes (written_page m place bytes old)))
    {x = place + page_bytes + length marks * page_bytes} {y = place + suc (length marks) * page_bytes} (grind arith)

-- the first bytes of a page
piece-front : (place n : ℕ) (bytes : List ℕ) → n ≤ page_bytes → piece place (take (place + n) bytes) ≡ take n (piece place bytes)
piece-front place n bytes fits =
    ap (λ (l : List ℕ). take page_bytes l) (drop-take place n bytes)
    ∙ take_all page_bytes (take n (drop place bytes)) (omega (arith, length-take n (drop place bytes), fits))
    ∙ sym (take-take n page_bytes (drop place bytes) fits)

-- a page in front of where the bytes end
piece-whole : (place more : ℕ) (bytes : List ℕ) → piece place (take (place + (page_bytes + more)) bytes) ≡ piece place bytes
piece-whole place more bytes =
    ap (λ (l : List ℕ). take page_bytes l) (drop-take place (page_bytes + more) bytes)
    ∙ take-take page_bytes (page_bytes + more) (drop place bytes) (omega arith)

page-whole : (mark : Bool) (place more : ℕ) (bytes old : List ℕ)
    → written_page mark place (take (place + (page_bytes + more)) bytes) old ≡ written_page mark place bytes old
page-whole true place more bytes old = ap (λ (l : List ℕ). overwritten old place l) (piece-whole place more bytes)
page-whole false place more bytes old = refl

pub pages-failed : (marks : List Bool) (page place n : ℕ) (bytes old : List ℕ) → n ≤ page_bytes
    → get_or marks page false ≡ true
    → written_pages marks place (take (place + page * page_bytes + n) bytes) old
    ≡ overwritten (written_pages (take page marks) place bytes old) (place + page * page_bytes)
    (take n (take page_bytes (drop (place + page * page_bytes) bytes)))
pages-failed [] page place n bytes old fits marked = absurd (cc)
pages-failed (mark ∷ marks) zero place n bytes old fits marked =
    let here : place + 0 * page_bytes ≡ place = omega arith in
    let front = take (place + n) bytes in
    ap (λ (p : ℕ). written_pages (mark ∷ marks) place (take (p + n) bytes) old) here
    ∙ pages-none marks (place + page_bytes) front (written_page mark place front old) (omega (arith, length-take (place + n) bytes, fits))
    ∙ ap (λ (m : Bool). written_page m place front old) marked
    ∙ ap (λ (l : List ℕ). overwritten old place l) (piece-front place n bytes fits)
    ∙ ap (λ (p : ℕ). overwritten old p (take n (take page_bytes (drop p bytes)))) (sym here)
pages-failed (mark ∷ marks) (suc page) place n bytes old fits marked =
    let far : place + suc page * page_bytes + n ≡ place + (page_bytes + (page * page_bytes + n)) = grind arith in
    let near : place + suc page * page_bytes + n ≡ place + page_bytes + page * page_bytes + n = grind arith in
    let start : place + page_bytes + page * page_bytes ≡ place + suc page * page_bytes = grind arith in
    let all = take (place + suc page * page_bytes + n) bytes in
    ap (λ (l : List ℕ). written_pages marks (place + page_bytes) all l)
    (ap (λ (i : ℕ). written_page mark place (take i bytes) old) far ∙ page-whole mark place (page * page_bytes + n) bytes old)
    ∙ ap (λ (i : ℕ). written_pages marks (place + page_bytes) (take i bytes) (written_page mark place bytes old)) near
    ∙ pages-failed marks page (place + page_bytes) n bytes (written_page mark place bytes old) fits marked
    ∙ ap (λ (p : ℕ). overwritten (written_pages (take page marks) (place + page_bytes) bytes (written_page mark place bytes old)) p (take n (take page_bytes (drop p bytes)))) start
