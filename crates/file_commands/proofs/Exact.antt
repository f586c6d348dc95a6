-- Notes that are just as many as the counts of files have risen, over two spans, and of one call.
use Rattle.std.proofs.Common.{◌≡◌, inl, inr, ℕ, zero, suc, ◌+◌, ◌<◌, ◌≤◌, nat_lt, Bool, true, false, IsTrue, List, [], ◌++◌, refl, ap, sym, ◌∙◌, subst, arith}
use Rattle.std.proofs.lemmas.Bool.Decides.{nat_tests}
use Rattle.fault_counts.specs.Faults.{raised}
use Rattle.file_traits.specs.State.{FileState}
use Rattle.whole_files.specs.Claims.{raised_by}
use Rattle.unit_files.specs.Causes.{IsNewId, IsQuiet, AtMostOnceMore}
use Rattle.file_commands.specs.declared.note.FaultNote.{FaultNote}
use Rattle.file_commands.specs.Counts.{noted, AreAll, AreExact}
use Rattle.file_commands.proofs.Adding.{noted-append, raised-both}

-- ---- two spans

later-none : (gives : Bool) (old mid new : FileState) (file : ℕ) → mid.given ≤ new.given → (IsTrue gives → IsNewId old new file → ⊥) → IsTrue gives → IsNewId old mid file → ⊥
later-none gives old mid new file later none is fresh =
    let first = fresh.0 in
    let last = fresh.1 in
    none is (first, omega (arith, last, later))

earlier-none : (gives : Bool) (old mid new : FileState) (file : ℕ) → old.given ≤ mid.given → (IsTrue gives → IsNewId old new file → ⊥) → IsTrue gives → IsNewId mid new file → ⊥
earlier-none gives old mid new file later none is fresh =
    let first = fresh.0 in
    none is (omega (arith, first, later), fresh.1)

raised-out : (n count : ℕ) → raised_by n (raised count) ≡ raised (raised_by n count)
raised-out zero count = refl
raised-out (suc n) count = ap raised (raised-out n count)

-- one more, if it is, comes in the first span
most-first : (m n old mid new : ℕ) → AtMostOnceMore (raised_by m old) mid → new ≡ raised_by n mid → AtMostOnceMore (raised_by (m + n) old) new
most-first m n old mid new (inl is) then = inl (then ∙ ap (raised_by n) is ∙ sym (raised-both m n old))
most-first m n old mid new (inr is) then =
    inr (then ∙ ap (raised_by n) is ∙ raised-out n (raised_by m old) ∙ ap raised (sym (raised-both m n old)))

-- .. or in the second
most-last : (m n old mid new : ℕ) → mid ≡ raised_by m old → AtMostOnceMore (raised_by n mid) new → AtMostOnceMore (raised_by (m + n) old) new
most-last m n old mid new first then = subst (λ (c : ℕ). AtMostOnceMore c new) (ap (raised_by n) first ∙ sym (raised-both m n old)) then

-- no file is opened in both
most-both : (gives : Bool) (first second : List FaultNote) (old mid new : FileState) → AreExact gives first old mid → AreExact gives second mid new
    → (file : ℕ) → AtMostOnceMore (raised_by (noted file (first ++ second)) (old.faults file)) (new.faults file)
most-both gives first second old mid new a b file =
    subst (λ (n : ℕ). AtMostOnceMore (raised_by n (old.faults file)) (new.faults file)) (sym (noted-append file first second)) (by (nat_lt file mid.given) refl)
  where
    by : (c : Bool) → nat_lt file mid.given ≡ c → AtMostOnceMore (raised_by (noted file first + noted file second) (old.faults file)) (new.faults file)
    by true is =
        let below : file < mid.given = grind (arith, nat_tests) in
        most-first (noted file first) (noted file second) (old.faults file) (mid.faults file) (new.faults file) (a.most file)
        (b.files file (λ given fresh. let from = fresh.0 in omega (arith, from, below)))
    by false is =
        let behind : mid.given ≤ file = grind (arith, nat_tests) in
        most-last (noted file first) (noted file second) (old.faults file) (mid.faults file) (new.faults file)
        (a.files file (λ given fresh. let to = fresh.1 in omega (arith, to, behind))) (b.most file)

pub exact-both : (gives : Bool) (first second : List FaultNote) (old mid new : FileState) → AreExact gives first old mid → AreExact gives second mid new → AreExact gives (first ++ second) old new
exact-both gives first second old mid new a b = record {
  files = λ file none.
      b.files file (earlier-none gives old mid new file a.ids none) ∙ ap (raised_by (noted file second)) (a.files file (later-none gives old mid new file b.ids none))
      ∙ sym (raised-both (noted file first) (noted file second) (old.faults file)) ∙ sym (ap (λ (n : ℕ). raised_by n (old.faults file)) (noted-append file first second));
  most = most-both gives first second old mid new a b;
  ids = let one = a.ids in let two = b.ids in omega (arith, one, two);
}

pub exact-none : (gives : Bool) (s : FileState) → AreExact gives [] s s
exact-none gives s = record { files = λ file none. refl; most = λ file. inl refl; ids = omega arith }

-- ---- one call

-- a command that gives nothing back
pub exact-kept : (gives : Bool) (notes : List FaultNote) (old new : FileState) → AreExact false notes old new → AreExact gives notes old new
exact-kept gives notes old new a = record {
  files = λ file none. a.files file (λ is. absurd (cc));
  most = a.most;
  ids = a.ids;
}

pub exact-every : (gives : Bool) (notes : List FaultNote) (old new : FileState) → AreExact gives notes old new → AreExact true notes old new
exact-every true notes old new a = a
exact-every false notes old new a = exact-kept true notes old new a

pub exact-when : (gives : Bool) (notes : List FaultNote) (old new : FileState) → ((file : ℕ) → new.faults file ≡ raised_by (noted file notes) (old.faults file)) → old.given ≤ new.given
    → AreExact gives notes old new
exact-when gives notes old new all later = record { files = λ file none. all file; most = λ file. inl (all file); ids = later }

pub exact-all : (gives : Bool) (notes : List FaultNote) (old new : FileState) → AreAll notes old new → AreExact gives notes old new
exact-all gives notes old new all = exact-when gives notes old new all.files (let same = all.ids in omega (arith, same))

pub exact-quiet : (gives : Bool) (old new : FileState) → IsQuiet old new → AreExact gives [] old new
exact-quiet gives old new quiet =
    exact-when gives [] old new (λ file. ap (λ (f : ℕ → ℕ). f file) quiet.counts) (let same = quiet.ids in omega (arith, same))
