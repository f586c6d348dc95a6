-- What a claim says of the count of its file: that it rose in that very call, once or twice.
use Rattle.std.proofs.Common.{◌≡◌, ℕ, zero, suc, ◌+◌, ◌-◌, ◌^◌, ◌≤◌, max, min, Option, Some, None, IfSome, sym, ap, ◌∙◌}
use Rattle.std.proofs.Common.{subst, arith}
use Rattle.fault_counts.specs.Faults.{raised, Rose}
use Rattle.file_traits.specs.declared.files.FileId.{FileId}
use Rattle.whole_files.specs.declared.whole.FailedCall.{FailedCall}
use Rattle.whole_files.specs.declared.whole.Whole.{Whole}
use Rattle.whole_files.specs.Claims.{raised_by, claims_of, claims_on, is_of, HasShape}
use Rattle.whole_files.proofs.Counts.{one_if, one-here}

raised-keeps : (a b last : ℕ) → a ≤ b → max a (min (a + 1) last) ≤ max b (min (b + 1) last)
raised-keeps a b last less = omega (arith, less)

raised-more : (count last : ℕ) → count ≤ max count (min (count + 1) last)
raised-more count last = omega arith

-- a count does not fall
pub not-fallen : (faults count : ℕ) → count ≤ raised_by faults count
not-fallen zero count = omega arith
not-fallen (suc faults) count =
    let before = not-fallen faults count in
    let more = raised-more (raised_by faults count) (2 ^ 64 - 1) in
    omega (arith, before, more)

pub some-rose : (more count : ℕ) → Rose count (raised_by (suc more) count)
some-rose more count = raised-keeps count (raised_by more count) (2 ^ 64 - 1) (not-fallen more count)

-- a claim of a file is one fault of it
pub claimed-once : (claim : Option FailedCall) (f : FailedCall) (id : FileId) → claim ≡ Some f → f.file ≡ Some id
    → claims_of claim id.0 ≡ 1
claimed-once claim f id is file =
    ap (λ (c : Option FailedCall). claims_of c id.0) is
    ∙ ap (λ (x : Option FileId). one_if (is_of x id.0)) file
    ∙ one-here id

-- the counts before and behind a reading that claims so much
module _ (w : Whole) (before behind : ℕ → ℕ)
    (counted : (file : ℕ) → behind file ≡ raised_by (claims_on w file) (before file)) where
  pub later : (file : ℕ) → before file ≤ behind file
  later file = subst (λ (n : ℕ). before file ≤ n) (sym (counted file)) (not-fallen (claims_on w file) (before file))

  times : (file faults : ℕ) → claims_on w file ≡ faults → behind file ≡ raised_by faults (before file)
  times file faults is = counted file ∙ ap (λ (n : ℕ). raised_by n (before file)) is

  rose : (file more : ℕ) → claims_on w file ≡ suc more → Rose (before file) (behind file)
  rose file more is =
      subst (λ (n : ℕ). Rose (before file) n) (sym (times file (suc more) is)) (some-rose more (before file))

  -- the call before the closing, and the closing alone
  pub failed-once : (f : FailedCall) (id : FileId) → w.failed ≡ Some f → f.file ≡ Some id → w.closing ≡ None
      → behind id.0 ≡ raised (before id.0)
  failed-once f id is file none =
      let one = claimed-once w.failed f id is file in
      let no : claims_of w.closing id.0 ≡ 0 = ap (λ (c : Option FailedCall). claims_of c id.0) none in
      times id.0 (suc zero) (omega (arith, one, no))

  pub closing-once : (c : FailedCall) (id : FileId) → w.closing ≡ Some c → c.file ≡ Some id → w.failed ≡ None
      → behind id.0 ≡ raised (before id.0)
  closing-once c id is file none =
      let one = claimed-once w.closing c id is file in
      let no : claims_of w.failed id.0 ≡ 0 = ap (λ (f : Option FailedCall). claims_of f id.0) none in
      times id.0 (suc zero) (omega (arith, one, no))

  -- both, one behind the other
  pub both-twice : (f c : FailedCall) (id : FileId) → w.failed ≡ Some f → w.closing ≡ Some c → f.file ≡ Some id
      → c.file ≡ Some id → behind id.0 ≡ raised (raised (before id.0))
  both-twice f c id is closing file same =
      let one = claimed-once w.failed f id is file in
      let other = claimed-once w.closing c id closing same in
      times id.0 (suc (suc zero)) (omega (arith, one, other))

  -- whatever else is claimed
  pub failed-rose : (f : FailedCall) (id : FileId) → w.failed ≡ Some f → f.file ≡ Some id
      → Rose (before id.0) (behind id.0)
  failed-rose f id is file =
      let one = claimed-once w.failed f id is file in
      rose id.0 (claims_of w.closing id.0) (omega (arith, one))

  pub closing-rose : (c : FailedCall) (id : FileId) → w.closing ≡ Some c → c.file ≡ Some id
      → Rose (before id.0) (behind id.0)
  closing-rose c id is file =
      let one = claimed-once w.closing c id is file in
      rose id.0 (claims_of w.failed id.0) (omega (arith, one))

-- the file of both claims is one
pub same-file : (w : Whole) (f c : FailedCall) (id : FileId) → HasShape w → w.failed ≡ Some f → w.closing ≡ Some c
    → c.file ≡ Some id → f.file ≡ Some id
same-file w f c id shape is closing file =
    let of_closing = subst (λ (x : Option FailedCall). IfSome x (λ (y : FailedCall). IfSome w.failed
    (λ (z : FailedCall). z.file ≡ y.file))) closing shape.one_file in
    let same : f.file ≡ c.file =
    subst (λ (x : Option FailedCall). IfSome x (λ (z : FailedCall). z.file ≡ c.file)) is of_closing in
    same ∙ file
