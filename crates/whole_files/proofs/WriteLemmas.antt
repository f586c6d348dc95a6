-- A file is written whole: what is behind that, and the counts of faults.
use Rattle.std.proofs.Common.{◌≡◌, ◌≢◌, ℕ, ◌+◌, ◌≤◌, Bool, true, false, List, [], ◌∷◌, ◌++◌, length, take}
use Rattle.std.proofs.Common.{Option, Some, None, IfSome, IsSome, option_map, unwrap_or, Result, Ok, Err, refl, ap, sym, ◌∙◌, subst}
use Rattle.std.proofs.Common.{if◌then◌else◌, append-nil, arith}
use Rattle.std.specs.Prelude.{IfErr}
use Rattle.std.specs.Prelude.{bytes_eq}
use Rattle.std.proofs.lemmas.Bool.{eq-eqb}
use Rattle.std.proofs.lemmas.List.{drop_all}
use Rattle.std.proofs.Math.Seq.{take-length}
use Rattle.fault_counts.specs.Faults.{CountsFault}
use Rattle.file_traits.specs.declared.files.FileCall.TheVariants.{Write}
use Rattle.file_traits.specs.declared.files.FileId.{FileId}
use Rattle.file_traits.specs.declared.files.OpenFault.{OpenFault}
use Rattle.file_traits.specs.declared.files.OpenFault.TheVariants as opening
use Rattle.file_traits.specs.declared.files.WriteFault.{WriteFault}
use Rattle.file_traits.specs.Lists.{NamedBytes, with_file, changed, overwritten}
use Rattle.file_traits.specs.FileCalls.{written_count}
use Rattle.file_traits.specs.State.{Opened, opened_at, name_at}
use Rattle.whole_files.specs.declared.whole.FailedCall.{FailedCall}
use Rattle.whole_files.specs.Claims.{raised_by, claims_of}
use Rattle.whole_files.specs.Reading.{IsClosing, failure_count}
use Rattle.whole_files.specs.Writing.{WriteSaid, AllWritten, WriteFailed, write_act, said_of_writing, claimed_in_writing, HasWriteShape}
use Rattle.whole_files.specs.Writing.{write_claims_on, written_of, unmade_of}
use Rattle.whole_files.proofs.Counts.{one-here, none-elsewhere, calls-counted}
use Rattle.file_traits.proofs.Changes.{test-same}

-- ---- the file behind a write

over-empty : (piece : List ℕ) → overwritten [] 0 piece ≡ piece
over-empty [] = refl
over-empty (b ∷ rest) =
    ap (λ (ys : List ℕ). (b ∷ rest) ++ ys) (drop_all (0 + length (b ∷ rest)) [] (omega arith)) ∙ append-nil (b ∷ rest)

-- a piece that is written at the front of a file that was made or emptied is all that it has
pub written-new : (files : List NamedBytes) (name piece : List ℕ)
    → changed (with_file files name []) name (λ old. overwritten old 0 piece) ≡ with_file files name piece
written-new [] name piece =
    ap (λ (b : Bool). if b then (name, overwritten [] 0 piece) ∷ [] else (name, []) ∷ []) (test-same name)
    ∙ ap (λ (ys : List ℕ). (name, ys) ∷ []) (over-empty piece)
written-new (f ∷ rest) name piece = by-test f rest name piece (bytes_eq f.0 name) refl (written-new rest name piece)
  where
    by-test : (f : NamedBytes) (rest : List NamedBytes) (name piece : List ℕ) (b : Bool) → bytes_eq f.0 name ≡ b
        → changed (with_file rest name []) name (λ old. overwritten old 0 piece) ≡ with_file rest name piece
        → changed (if b then (f.0, []) ∷ rest else f ∷ with_file rest name []) name (λ old. overwritten old 0 piece)
        ≡ (if b then (f.0, piece) ∷ rest else f ∷ with_file rest name piece)
    by-test f rest name piece true is later =
        ap (λ (c : Bool). if c then (f.0, overwritten [] 0 piece) ∷ rest
        else (f.0, []) ∷ changed rest name (λ old. overwritten old 0 piece)) is
        ∙ ap (λ (ys : List ℕ). (f.0, ys) ∷ rest) (over-empty piece)
    by-test f rest name piece false is later =
        ap (λ (c : Bool). if c then (f.0, overwritten f.1 0 piece) ∷ with_file rest name []
        else f ∷ changed (with_file rest name []) name (λ old. overwritten old 0 piece)) is
        ∙ ap (λ (xs : List NamedBytes). f ∷ xs) later

-- the newest of the open files
pub name-first : (o : Opened) (rest : List Opened) → name_at (o ∷ rest) o.file ≡ o.name
name-first o rest =
    ap (λ (b : Bool). unwrap_or (option_map (λ (p : Opened). p.name) (if b then Some o else opened_at rest o.file)) [])
    (eq-eqb o.file o.file refl)

-- the files behind a write to the newest open file, which was made or emptied
pub files-written : (o : Opened) (opened rest : List Opened) (files made new : List NamedBytes) (piece : List ℕ)
    → opened ≡ o ∷ rest → made ≡ with_file files o.name []
    → new ≡ changed made (name_at opened o.file) (λ old. overwritten old 0 piece) → new ≡ with_file files o.name piece
files-written o opened rest files made new piece is emptied wrote =
    wrote
    ∙ ap (λ (l : List Opened). changed made (name_at l o.file) (λ old. overwritten old 0 piece)) is
    ∙ ap (λ (name : List ℕ). changed made name (λ old. overwritten old 0 piece)) (name-first o rest)
    ∙ ap (λ (l : List NamedBytes). changed l o.name (λ old. overwritten old 0 piece)) emptied
    ∙ written-new files o.name piece

-- ---- what is said of it

pub write-said : (id : FileId) (write : Result (Unit {0}) WriteFault) (closing : Option FailedCall) (name piece : List ℕ)
    (files new : List NamedBytes) → IsClosing id closing
    → new ≡ with_file files name (take (written_count write piece) piece)
    → IfSome (said_of_writing (written_of id write closing).answer) (λ (said : WriteSaid).
    write_act (claimed_in_writing (written_of id write closing)) name piece files
    ≡ record { said = said; met = length (claimed_in_writing (written_of id write closing)); files = new })
unfolding write_act
write-said id (Ok u) None name piece files new is wrote =
    ap (λ (l : List NamedBytes). record { said = AllWritten; met = 0; files = l })
    (ap (with_file files name) (sym (take-length piece)) ∙ sym wrote)
write-said id (Ok u) (Some c) name piece files new is wrote =
    ap (λ (x : FailedCall). write_act ((x.call, 0) ∷ []) name piece files) is
    ∙ ap (λ (l : List NamedBytes). record { said = AllWritten; met = 1; files = l })
    (ap (with_file files name) (sym (take-length piece)) ∙ sym wrote)
write-said id (Err f) None name piece files new is wrote =
    ap (λ (l : List NamedBytes). record { said = WriteFailed; met = 1; files = l }) (sym wrote)
write-said id (Err f) (Some c) name piece files new is wrote =
    ap (λ (x : FailedCall).
    write_act ((Write, f.done) ∷ (x.call, 0) ∷ []) name piece files) is
    ∙ ap (λ (l : List NamedBytes). record { said = WriteFailed; met = 2; files = l }) (sym wrote)

-- ---- which failing calls are claimed

pub write-shape : (id : FileId) (write : Result (Unit {0}) WriteFault) (closing : Option FailedCall) (piece : List ℕ)
    → IfErr write (λ f. f.done ≤ length piece) → IsClosing id closing → HasWriteShape piece (written_of id write closing)
write-shape id (Ok u) None piece bound is = record {
  failed = refl;
  before = tt;
  done = omega arith;
  whole = λ none. refl;
  closing = tt;
  one_file = tt;
  unopened = λ un. refl;
  fits = λ long. absurd (cc);
}
write-shape id (Ok u) (Some c) piece bound is = record {
  failed = refl;
  before = tt;
  done = omega arith;
  whole = λ none. refl;
  closing = (ap (λ (x : FailedCall). x.call) is, subst (λ (x : FailedCall). IsSome x.file) (sym is) refl);
  one_file = tt;
  unopened = λ un. absurd un;
  fits = λ long. absurd (cc);
}
write-shape id (Err f) None piece bound is = record {
  failed = refl;
  before = tt;
  done = bound;
  whole = λ none. absurd (cc);
  closing = tt;
  one_file = tt;
  unopened = λ un. refl;
  fits = λ long. absurd (cc);
}
write-shape id (Err f) (Some c) piece bound is = record {
  failed = refl;
  before = tt;
  done = bound;
  whole = λ none. absurd (cc);
  closing = (ap (λ (x : FailedCall). x.call) is, subst (λ (x : FailedCall). IsSome x.file) (sym is) refl);
  one_file = sym (ap (λ (x : FailedCall). x.file) is);
  unopened = λ un. absurd un;
  fits = λ long. absurd (cc);
}

pub unmade-shape : (fault : OpenFault) (piece : List ℕ) → HasWriteShape piece (unmade_of fault)
unmade-shape opening.NoFile piece = record {
  failed = refl;
  before = tt;
  done = omega arith;
  whole = λ none. refl;
  closing = tt;
  one_file = tt;
  unopened = λ un. refl;
  fits = λ long. absurd (cc);
}
unmade-shape opening.Failed piece = record {
  failed = refl;
  before = refl;
  done = omega arith;
  whole = λ none. absurd (cc);
  closing = tt;
  one_file = tt;
  unopened = λ un. refl;
  fits = λ long. absurd (cc);
}
unmade-shape opening.OutOfMemory piece = record {
  failed = refl;
  before = tt;
  done = omega arith;
  whole = λ none. refl;
  closing = tt;
  one_file = tt;
  unopened = λ un. refl;
  fits = λ long. absurd (cc);
}

-- ---- the counts

write_failures : Result (Unit {0}) WriteFault → ℕ
write_failures (Ok u) = 0
write_failures (Err f) = 1

write-here : (id : FileId) (write : Result (Unit {0}) WriteFault) (closing : Option FailedCall)
    → claims_of (written_of id write closing).failed id.0 ≡ write_failures write
unfolding write_failures
write-here id (Ok u) closing = refl
write-here id (Err f) closing = one-here id

write-elsewhere : (id : FileId) (write : Result (Unit {0}) WriteFault) (closing : Option FailedCall) (file : ℕ) → file ≢ id.0
    → claims_of (written_of id write closing).failed file ≡ 0
write-elsewhere id (Ok u) closing file not = refl
write-elsewhere id (Err f) closing file not = none-elsewhere id file not

same-closing : (id : FileId) (write : Result (Unit {0}) WriteFault) (closing : Option FailedCall)
    → (written_of id write closing).closing ≡ closing
same-closing id (Ok u) closing = refl
same-closing id (Err f) closing = refl

write-rise : (write : Result (Unit {0}) WriteFault) (before now : ℕ) → CountsFault before now write
    → now ≡ raised_by (write_failures write) before
unfolding write_failures
write-rise (Ok u) before now counts = counts
write-rise (Err f) before now counts = counts

-- behind a write and a closing each count has risen by what is claimed of its file
pub write-counted : (id : FileId) (write : Result (Unit {0}) WriteFault) (closing : Option FailedCall) (f g h : ℕ → ℕ)
    → IsClosing id closing → CountsFault (f id.0) (g id.0) write → ((other : ℕ) → other ≢ id.0 → g other ≡ f other)
    → h id.0 ≡ raised_by (failure_count closing) (g id.0) → ((other : ℕ) → other ≢ id.0 → h other ≡ g other)
    → (file : ℕ) → h file ≡ raised_by (write_claims_on (written_of id write closing) file) (f file)
write-counted id write closing f g h is here others closed behind file =
    calls-counted id (written_of id write closing).failed closing (write_failures write) f g h (write-here id write closing)
    (write-elsewhere id write closing) is (write-rise write (f id.0) (g id.0) here) others closed behind file
    ∙ ap (λ (c : Option FailedCall).
    raised_by (claims_of (written_of id write closing).failed file + claims_of c file) (f file))
    (sym (same-closing id write closing))
