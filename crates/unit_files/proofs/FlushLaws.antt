-- The disk's copy is written back over its file.
use Rattle.std.proofs.Common.{◌≡◌, ◌≢◌, ◌<◌, ◌≤◌, ◌+◌, ◌-◌, ◌*◌, ◌%◌, ◌&&◌, ℕ, Bool, true, false, List, ◌++◌, length, max, take, drop, get_or, slice_get, Option, Some, None, IsSome, IfSome, inl, inr, refl, ap, sym, ◌∙◌, subst, arith, if◌then◌else◌}
use Rattle.std.proofs.lemmas.Bool.{cond_both, cases_Bool, cases_lt}
use Rattle.std.proofs.lemmas.List.{ext_get_or, get_or-take, get_or-drop, get_or_append_left, get_or-append_right, length-append, length-drop, length-take-le}
use Rattle.std.proofs.lemmas.Option.{slice_get-get_or, slice_get_within, unwrap_or-slice_get}
use Rattle.std.proofs.Common.{unwrap_or}
use Rattle.file_traits.specs.Lists.{NamedBytes, find_file, bytes_of, changed}
use Rattle.file_traits.specs.declared.files.FileCall.TheVariants.{Write}
use Rattle.file_traits.proofs.Changes.{changed_at, changed_bytes, changed_elsewhere}
use Rattle.unit_trait.specs.declared.kind.UnitName.{UnitName}
use Rattle.unit_files.specs.Attachments.{Attachment, is_disk}
use Rattle.unit_files.specs.Pages.{page_bytes, page_of}
use Rattle.unit_files.specs.InStep.{written_pages, pages_back, pages_flushed, IsCopyOutside, StepAt}
use Rattle.unit_files.specs.Buffer.{Buffer}
use Rattle.unit_files.specs.Acts.{Failure, same_call, failure_at, is_due_back, piece_of, written_over, written_back, flush_files}
use Rattle.unit_files.specs.Shapes.{IsPart}
use Rattle.unit_files.specs.Laws.{HasPages, FlushesLeaveTheCopy, part_of_copy}
use Rattle.unit_files.proofs.Overwriting.{at}
use Rattle.unit_files.proofs.Pages.{pages-at, others-at, pages-past, pages-least, pages-most, pages-reach}
use Rattle.unit_files.proofs.Marks.{page-split, page-rest}

-- ---- pages that were written

-- a place, counted from the front
pub from-front : (page k : ℕ) → 0 + page * page_bytes + k ≡ page * page_bytes + k
from-front page k = omega arith

pub some-same : (xs ys : List ℕ) (i : ℕ) → i < length xs → i < length ys → at xs i ≡ at ys i → slice_get xs i ≡ slice_get ys i
some-same xs ys i in_xs in_ys same =
    slice_get-get_or xs i 0 in_xs ∙ ap (λ (b : ℕ). Some b) same ∙ sym (slice_get-get_or ys i 0 in_ys)

module _ (marks : List Bool) (bytes old : List ℕ) where
  abbrev new : List ℕ
  new = written_pages marks 0 bytes old

  pub reached : (page k : ℕ) → k < page_bytes → get_or marks page false ≡ true → page * page_bytes + k < length bytes
      → page * page_bytes + k < length new
  reached page k low marked within =
      let here = from-front page k in
      let there = pages-reach marks page 0 bytes old k low marked (omega (arith, here, within)) in
      omega (arith, here, there)

  pub at-marked : (page k : ℕ) → k < page_bytes → get_or marks page false ≡ true → page * page_bytes + k < length bytes
      → at new (page * page_bytes + k) ≡ at bytes (page * page_bytes + k)
  at-marked page k low marked within =
      let here = from-front page k in
      ap (λ (i : ℕ). at new i) (sym here) ∙ pages-at marks page 0 bytes old k low marked (omega (arith, here, within))
      ∙ ap (λ (i : ℕ). at bytes i) here

  pub at-other : (page k : ℕ) → k < page_bytes → get_or marks page false ≡ false
      → at new (page * page_bytes + k) ≡ at old (page * page_bytes + k)
  at-other page k low other =
      let here = from-front page k in
      ap (λ (i : ℕ). at new i) (sym here) ∙ others-at marks page 0 bytes old k low other ∙ ap (λ (i : ℕ). at old i) here

  pub has-pages : HasPages marks bytes old new
  has-pages = record {
    pages = λ page k low marked within.
        some-same new bytes (page * page_bytes + k) (reached page k low marked within) within (at-marked page k low marked within);
    others = at-other;
    behind = λ place past. pages-past marks 0 bytes old place past;
    no_shorter = pages-least marks 0 bytes old;
    no_longer = pages-most marks 0 bytes old (max (length old) (length bytes)) (omega arith) (omega arith);
  }

-- ---- a file that was the copy outside the marked pages

module _ (bytes : List ℕ) (marks : List Bool) (old : List ℕ) (outside : IsCopyOutside bytes marks old) where
  abbrev result : List ℕ
  result = written_pages marks 0 bytes old

  -- the byte at a place of the copy
  is-there : (page k : ℕ) → k < page_bytes → page * page_bytes + k < length bytes
      → (page * page_bytes + k < length result) × (at result (page * page_bytes + k) ≡ at bytes (page * page_bytes + k))
  is-there page k low within = elim (cases_Bool (get_or marks page false)) [
    | inl is ↦ (reached marks bytes old page k low is within, at-marked marks bytes old page k low is within)
    | inr not ↦
        let same = outside.same page k low not in
        let held = slice_get_within old (page * page_bytes + k) (at bytes (page * page_bytes + k)) (same ∙ slice_get-get_or bytes (page * page_bytes + k) 0 within) in
        let least = pages-least marks 0 bytes old in (
          omega (arith, held, least),
          at-other marks bytes old page k low not
              ∙ sym (unwrap_or-slice_get old (page * page_bytes + k) 0)
              ∙ ap (λ (b : Option ℕ). unwrap_or b 0) same
              ∙ unwrap_or-slice_get bytes (page * page_bytes + k) 0,
        )
  ]

  placed : (i : ℕ) → i < length bytes → (i < length result) × (at result i ≡ at bytes i)
  placed i within =
      let split = page-split i in
      let there = is-there (page_of i) (i % page_bytes) (page-rest i) (omega (arith, split, within)) in
      (omega (arith, split, there.0), ap (λ (n : ℕ). at result n) split ∙ there.1 ∙ ap (λ (n : ℕ). at bytes n) (sym split))

  long : length result ≡ length bytes
  long = elim (cases_lt (length result) (length bytes)) [
    | inl short ↦ let last = (placed (length bytes - 1) (omega (arith, short))).0 in absurd (omega (arith, last, short))
    | inr reaches ↦ let most = pages-most marks 0 bytes old (length bytes) outside.short (omega arith) in omega (arith, reaches, most)
  ]

  pub copy-left : result ≡ bytes
  copy-left = ext_get_or 0 result bytes long (λ i within. (placed i (omega (arith, long, within))).1)

-- ---- .. of which only the first bytes were written

pub slice-same : (xs ys : List ℕ) (i : ℕ) → i < length xs → slice_get xs i ≡ slice_get ys i → at ys i ≡ at xs i
slice-same xs ys i within same =
    sym (unwrap_or-slice_get ys i 0) ∙ ap (λ (b : Option ℕ). unwrap_or b 0) (sym same) ∙ unwrap_or-slice_get xs i 0

module _ (bytes : List ℕ) (marks : List Bool) (old : List ℕ) (outside : IsCopyOutside bytes marks old) (n : ℕ) (within : n ≤ length bytes) where
  abbrev front-bytes : List ℕ
  front-bytes = take n bytes

  abbrev left : List ℕ
  left = written_pages marks 0 front-bytes old

  pub part-long : length front-bytes ≡ n
  part-long = length-take-le n bytes within

  part-there : (page k : ℕ) → k < page_bytes → page * page_bytes + k < n
      → (page * page_bytes + k < length left) × (at left (page * page_bytes + k) ≡ at bytes (page * page_bytes + k))
  part-there page k low below = elim (cases_Bool (get_or marks page false)) [
    | inl is ↦
        let there : page * page_bytes + k < length front-bytes = omega (arith, below, part-long) in (
          reached marks front-bytes old page k low is there,
          at-marked marks front-bytes old page k low is there ∙ get_or-take n bytes (page * page_bytes + k) 0 below,
        )
    | inr not ↦
        let same = outside.same page k low not in
        let held = slice_get_within old (page * page_bytes + k) (at bytes (page * page_bytes + k)) (same ∙ slice_get-get_or bytes (page * page_bytes + k) 0 (omega (arith, below, within))) in
        let least = pages-least marks 0 front-bytes old in (
          omega (arith, held, least),
          at-other marks front-bytes old page k low not ∙ sym (slice-same old bytes (page * page_bytes + k) held same),
        )
  ]

  part-placed : (i : ℕ) → i < n → (i < length left) × (at left i ≡ at bytes i)
  part-placed i below =
      let split = page-split i in
      let there = part-there (page_of i) (i % page_bytes) (page-rest i) (omega (arith, split, below)) in
      (omega (arith, split, there.0), ap (λ (j : ℕ). at left j) split ∙ there.1 ∙ ap (λ (j : ℕ). at bytes j) (sym split))

  part-reaches : n ≤ length left
  part-reaches = elim (cases_lt (length left) n) [
    | inl short ↦ let last = (part-placed (length left) short).0 in absurd (omega (arith, last))
    | inr reaches ↦ reaches
  ]

  pub joined-long : length (front-bytes ++ drop n old) ≡ n + (length old - n)
  joined-long = length-append front-bytes (drop n old) ∙ (λ i. part-long i + length-drop n old i)

  left-long : length left ≡ length (front-bytes ++ drop n old)
  left-long =
      let least = pages-least marks 0 front-bytes old in
      let most = pages-most marks 0 front-bytes old (max (length old) n) (omega arith) (omega (arith, part-long)) in
      omega (arith, least, most, part-reaches, joined-long)

  joined-at : (i : ℕ) → at left i ≡ at (front-bytes ++ drop n old) i
  joined-at i = elim (cases_lt i n) [
    | inl below ↦
        (part-placed i below).1 ∙ sym (get_or-take n bytes i 0 below)
        ∙ sym (get_or_append_left front-bytes (drop n old) 0 i (omega (arith, below, part-long)))
    | inr past ↦
        pages-past marks 0 front-bytes old i (omega (arith, past, part-long))
        ∙ sym (get_or-append_right front-bytes (drop n old) n i 0 part-long past
        ∙ get_or-drop n old (i - n) 0
        ∙ ap (λ (j : ℕ). at old j) {x = n + (i - n)} {y = i} (omega (arith, past)))
  ]

  pub front-left : left ≡ front-bytes ++ drop n old
  front-left = ext_get_or 0 left (front-bytes ++ drop n old) left-long (λ i _. joined-at i)

-- what is written back by pages over a file that was the copy outside the marked ones is what is written back of the content
over-pages : (o : Option Failure) (bytes : List ℕ) (marks : List Bool) (old : List ℕ) → IfSome o (λ f. f.done ≤ length bytes)
    → IsCopyOutside bytes marks old → written_pages marks 0 (piece_of o bytes) old ≡ written_over o bytes old
over-pages None bytes marks old part outside = copy-left bytes marks old outside
over-pages (Some f) bytes marks old part outside = front-left bytes marks old outside f.done part

-- a failure that is met wrote no more than it wrote
pub part-met : (fault : Option Failure) (most : ℕ) → IfSome fault (λ f. f.done ≤ most) → IfSome (failure_at Write fault) (λ f. f.done ≤ most)
part-met None most part = part
part-met (Some f) most part =
    cond_both (same_call f.call Write) (Some f) None (λ (o : Option Failure). IfSome o (λ g. g.done ≤ most)) (λ _. part) (λ _. tt)

pub pages-content : (fault : Option Failure) (disk : Buffer) (marks : List Bool) (old : List ℕ) → IsPart fault disk
    → IsCopyOutside disk.bytes marks old → pages_back fault disk marks old ≡ written_back fault disk old
pages-content fault disk marks old part outside =
    over-pages (failure_at Write fault) disk.bytes marks old (part-met fault (length disk.bytes) part) outside

-- ---- the file of the disk

module _ (fault : Option Failure) (unit : UnitName) (a : Attachment) (disk : Buffer) (marks : List Bool) (files : List NamedBytes) where
  written : is_due_back unit disk ≡ true → pages_flushed fault unit (Some a) disk marks files ≡ changed files a.name (pages_back fault disk marks)
  unfolding pages_flushed
  written due = ap (λ (b : Bool). if b then changed files a.name (pages_back fault disk marks) else files) due

  pub bytes-left : is_due_back unit disk ≡ true → IsSome (find_file files a.name)
      → bytes_of (pages_flushed fault unit (Some a) disk marks files) a.name ≡ pages_back fault disk marks (bytes_of files a.name)
  bytes-left due there =
      ap (λ (xs : List NamedBytes). bytes_of xs a.name) (written due)
      ∙ changed_bytes files a.name (pages_back fault disk marks) there

  front : is_due_back unit disk ≡ true → IsSome (find_file files a.name)
      → HasPages marks (part_of_copy fault disk) (bytes_of files a.name)
      (bytes_of (pages_flushed fault unit (Some a) disk marks files) a.name)
  front due there =
      subst (λ (new : List ℕ). HasPages marks (part_of_copy fault disk) (bytes_of files a.name) new)
      (sym (bytes-left due there)) (has-pages marks (part_of_copy fault disk) (bytes_of files a.name))

  others : (name : List ℕ) → a.name ≢ name → bytes_of (pages_flushed fault unit (Some a) disk marks files) name ≡ bytes_of files name
  unfolding pages_flushed
  others name apart =
      cond_both (is_due_back unit disk) (changed files a.name (pages_back fault disk marks)) files (λ (xs : List NamedBytes). bytes_of xs name ≡ bytes_of files name)
      (λ _. changed_elsewhere files a.name name (pages_back fault disk marks) apart) (λ _. refl)

whole : (unit : UnitName) (a : Attachment) (disk : Buffer) (marks : List Bool) (files : List NamedBytes)
    → is_due_back unit disk ≡ true → IsSome (find_file files a.name) → IsCopyOutside disk.bytes marks (bytes_of files a.name)
    → bytes_of (pages_flushed None unit (Some a) disk marks files) a.name ≡ disk.bytes
whole unit a disk marks files due there outside =
    bytes-left None unit a disk marks files due there ∙ copy-left disk.bytes marks (bytes_of files a.name) outside

nothing : (fault : Option Failure) (unit : UnitName) (a : Option Attachment) (disk : Buffer) (marks : List Bool) (files : List NamedBytes)
    → is_due_back unit disk ≡ false → pages_flushed fault unit a disk marks files ≡ files
unfolding pages_flushed
nothing fault unit None disk marks files not_due = refl
nothing fault unit (Some a) disk marks files not_due =
    ap (λ (b : Bool). if b then changed files a.name (pages_back fault disk marks) else files) not_due

-- two changes that make the same of the bytes which are there
same-change : (files : List NamedBytes) (name : List ℕ) (one other : List ℕ → List ℕ)
    → one (bytes_of files name) ≡ other (bytes_of files name) → changed files name one ≡ changed files name other
same-change files name one other same =
    sym (changed_at files name one) ∙ ap (λ (bytes : List ℕ). changed files name (λ old. bytes)) same ∙ changed_at files name other

pub content : (fault : Option Failure) (unit : UnitName) (a : Option Attachment) (disk : Buffer) (marks : List Bool) (files : List NamedBytes)
    → IsPart fault disk → (is_disk unit.kind ≡ true → StepAt a disk marks files)
    → pages_flushed fault unit a disk marks files ≡ flush_files fault unit a disk files
unfolding pages_flushed flush_files
content fault unit None disk marks files part step = refl
content fault unit (Some a) disk marks files part step = by-disk (is_disk unit.kind) disk.written refl
  where
    by-disk : (b w : Bool) → is_disk unit.kind ≡ b
        → (if b && w then changed files a.name (pages_back fault disk marks) else files) ≡ (if b && w then changed files a.name (written_back fault disk) else files)
    by-disk true true is =
        same-change files a.name (pages_back fault disk marks) (written_back fault disk)
        (pages-content fault disk marks (bytes_of files a.name) part (step is).outside)
    by-disk true false is = refl
    by-disk false w is = refl

pub flushes-leave : FlushesLeaveTheCopy
flushes-leave = record { whole = whole; front = front; others = others; nothing = nothing; content = content }
