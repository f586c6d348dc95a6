-- The reading of a file of the words, with its notes.
use Rattle.std.proofs.Common.{◌≡◌, inl, ℕ, ◌+◌, ◌<◌, ◌≤◌, ◌==◌, ◌||◌, ◌-◌, Bool, true, false, List, [], ◌∷◌, ◌++◌, length, drop, take, get_or, refl, ap, sym, ◌∙◌, subst, arith, add-one, append_assoc, Option, Some, None, IfSome, IfOk, IsSome, is_some, String, Global, string_bytes, Result, Ok, Err, if◌then◌else◌}
use Rattle.std.specs.Global.{Vec}
use Rattle.std.specs.List.{AllByRecursion}
use Rattle.std.proofs.lemmas.List.{map-append, length-map, drop-map}
use Rattle.std.proofs.Math.Seq.{take-suc}
use Rattle.fault_counts.specs.Faults.{raised}
use Rattle.file_traits.specs.declared.files.FileCall.{FileCall}
use Rattle.file_traits.specs.declared.files.FileCall.TheVariants.{Opening, Length, Read, Write, SetLength, Closing}
use Rattle.file_traits.specs.declared.files.FileId.{FileId}
use Rattle.file_traits.specs.Lists.{NamedBytes}
use Rattle.file_traits.specs.State.{FileState}
use Rattle.file_commands.specs.declared.note.FaultNote.{FaultNote}
use Rattle.file_commands.specs.declared.note.Subject.{Subject}
use Rattle.file_commands.specs.declared.note.Subject.TheVariants as subject
use Rattle.file_commands.specs.Notes.{Note, said_of, notes_said}
use Rattle.file_commands.specs.Possible.{IsPossible}
use Rattle.file_commands.proofs.Possible.{none-done, possible-both}
use Rattle.file_commands.specs.Counts.{one_if, noted, openings_noted, RoseBy}
use Rattle.file_commands.specs.Counts as counts
use Rattle.unit_files.specs.Attachments.{no_files}
use Rattle.file_commands.specs.OwnFiles.{AreOwn}
use Rattle.file_commands.proofs.OwnFiles.{own-both}
use Rattle.command_session.specs.WholeCalls.{both_notes}
use Rattle.command_session.proofs.WholeLemmas.{read-claims, rose-by}
use Rattle.command_session.proofs.OwnFileLemmas.{whole-own}
use Rattle.file_commands.proofs.Adding.{noted-append, openings-append, counted-both}
use Rattle.file_commands.proofs.Exact.{exact-both, exact-when}
use Rattle.file_commands.proofs.Causes.{rose-one}
use Rattle.whole_files.specs.declared.whole.FailedCall.{FailedCall}
use Rattle.whole_files.specs.declared.whole.Whole.{Whole}
use Rattle.whole_files.specs.declared.whole.WholeFault.{WholeFault}
use Rattle.whole_files.specs.declared.whole.WholeFault.TheVariants as whole
use Rattle.whole_files.specs.Whole.{whole_act}
use Rattle.whole_files.specs.Claims as claims
use Rattle.whole_files.specs.Claims.{said_of_bytes, call_of, claimed, ComesBefore, HasShape, raised_by, claims_of, claims_on, is_opening, opening_counted}
use Rattle.expect_actions.specs.KeysFile.{Key}
use Rattle.program_start.specs.WordFiles.{AddsNoted, AreWordClosings, noted_call, word_notes, AddsClosings, IsWant, ReadsFile, ComesOf, IsTaken, Takes}
use Rattle.command_words.specs.declared.options.Options.{Options}
use Rattle.program_start.specs.declared.word_files.Refusal.{Refusal}
use Rattle.program_start.specs.declared.word_files.Refusal.TheVariants as refused
use Rattle.command_words.specs.Words.{keys_name, script_name, script_words, texts_of}
use Rattle.program_start.specs.Start.{keys_from, taken_keys, script_from, taken_script}
use Rattle.command_words.proofs.WordsLemmas.{rest-same}
use Rattle.program_start.proofs.WordFileLemmas.{file-taken, name-at}

-- ---- the notes

noted-said : (whose : Subject) (f : Option FailedCall) → notes_said (noted_call whose f) ≡ word_notes whose (call_of f)
noted-said whose None = refl
noted-said whose (Some f) = refl

word-both : (whose : Subject) (first second : List FileCall) → word_notes whose first ++ word_notes whose second ≡ word_notes whose (first ++ second)
word-both whose [] second = refl
word-both whose (call ∷ first) second = ap (λ (l : List Note). record { command = 0; note = record { time = 0; subject = whose; failure = record { call = call; done = 0 } } } ∷ l) (word-both whose first second)

pub two-kept : (whose : Subject) (kept one two : List FaultNote) (w : Whole) → one ≡ kept ++ noted_call whose w.failed → two ≡ one ++ noted_call whose w.closing → two ≡ kept ++ (noted_call whose w.failed ++ noted_call whose w.closing)
two-kept whose kept one two w first second =
    second ∙ ap (λ (l : List FaultNote). l ++ noted_call whose w.closing) first ∙ append_assoc kept (noted_call whose w.failed) (noted_call whose w.closing)

pub reads-file : (whose : Subject) (name name' : List ℕ) (files : List NamedBytes) (kept one two : List FaultNote) (w : Whole) → one ≡ kept ++ noted_call whose w.failed → two ≡ one ++ noted_call whose w.closing → name' ≡ name
    → IfSome (claims.said_of w) (λ said. whole_act (claimed w) name' files ≡ (said, length (claimed w))) → ReadsFile whose name files kept two w.bytes
reads-file whose name name' files kept one two w first second same said = record {
  calls = claimed w;
  added = ap notes_said (two-kept whose kept one two w first second)
      ∙ map-append said_of kept (noted_call whose w.failed ++ noted_call whose w.closing)
      ∙ ap (λ (l : List Note). notes_said kept ++ l) (map-append said_of (noted_call whose w.failed) (noted_call whose w.closing)
      ∙ (λ i. noted-said whose w.failed i ++ noted-said whose w.closing i) ∙ word-both whose (call_of w.failed) (call_of w.closing));
  said = subst (λ (n : List ℕ). IfSome (said_of_bytes w.bytes) (λ said. whole_act (claimed w) n files ≡ (said, length (claimed w)))) same said;
}

-- ---- their counts

test-one : (b : Bool) → one_if b + 0 ≡ (if b then 1 else 0)
test-one true = refl
test-one false = refl

noted-claim : (whose : Subject) (f : Option FailedCall) (file : ℕ) → noted file (noted_call whose f) ≡ claims_of f file
noted-claim whose None file = refl
noted-claim whose (Some f) file = by-file f.file
  where
    by-file : (o : Option FileId) → one_if (counts.is_of file o) + 0 ≡ (if claims.is_of o file then 1 else 0)
    by-file None = refl
    by-file (Some id) = test-one (id.0 == file)

noted-both : (whose : Subject) (w : Whole) (file : ℕ) → noted file (noted_call whose w.failed ++ noted_call whose w.closing) ≡ claims_on w file
noted-both whose w file =
    noted-append file (noted_call whose w.failed) (noted_call whose w.closing) ∙ (λ i. noted-claim whose w.failed file i + noted-claim whose w.closing file i)

files-rose : (whose : Subject) (w : Whole) (file before now : ℕ) → now ≡ raised_by (claims_on w file) before → RoseBy (noted file (noted_call whose w.failed ++ noted_call whose w.closing)) before now
files-rose whose w file before now is =
    subst (λ (n : ℕ). RoseBy n before now) (sym (noted-both whose w file)) (subst (λ (n : ℕ). RoseBy (claims_on w file) before n) (sym is) (rose-by (claims_on w file) before))

open-one : (whose : Subject) (f : Option FailedCall) → IfSome f (λ f. ComesBefore f.call f.file) → openings_noted (noted_call whose f) ≡ one_if (is_opening f)
open-one whose None before = refl
open-one whose (Some f) before = by-call f.call f.file before
  where
    by-call : (call : FileCall) (o : Option FileId) → ComesBefore call o → one_if (counts.is_opening o) + 0 ≡ one_if (is_opening (Some (record { file = o; call = call })))
    by-call Opening None h = refl
    by-call Opening (Some id) h = absurd h
    by-call Length None h = absurd h
    by-call Length (Some id) h = refl
    by-call Read None h = absurd h
    by-call Read (Some id) h = refl
    by-call Write o h = absurd h
    by-call SetLength o h = absurd h
    by-call Closing o h = absurd h

close-none : (whose : Subject) (f : Option FailedCall) → IfSome f (λ c. (c.call ≡ Closing) × IsSome c.file) → openings_noted (noted_call whose f) ≡ 0
close-none whose None closing = refl
close-none whose (Some f) closing = by-file f.file closing.1
  where
    by-file : (o : Option FileId) → IsSome o → one_if (counts.is_opening o) + 0 ≡ 0
    by-file None there = absurd (let no_file : false ≡ true = there in cc)
    by-file (Some id) there = refl

by-test : (a b : Bool) (before : ℕ) → RoseBy (one_if a + 0) before (if a || b then raised before else before)
by-test true b before = rose-one before (raised before) (omega arith)
by-test false true before = (omega arith, inl (omega arith))
by-test false false before = (omega arith, inl (omega arith))

-- a reading writes nothing
possible-read : (whose : Subject) (f : Option FailedCall) → AllByRecursion IsPossible (noted_call whose f)
possible-read whose None = tt
possible-read whose (Some f) = (none-done f.call whose 0 refl, tt)

openings-rose : (whose : Subject) (w : Whole) (tells : Bool) (before now : ℕ) → HasShape w → now ≡ (if opening_counted tells w then raised before else before)
    → RoseBy (openings_noted (noted_call whose w.failed ++ noted_call whose w.closing)) before now
openings-rose whose w tells before now shape is =
    let many : openings_noted (noted_call whose w.failed ++ noted_call whose w.closing) ≡ one_if (is_opening w.failed) + 0 =
    openings-append (noted_call whose w.failed) (noted_call whose w.closing) ∙ (λ i. open-one whose w.failed shape.before i + close-none whose w.closing shape.closing i) in
    subst (λ (n : ℕ). RoseBy n before now) (sym many) (subst (λ (n : ℕ). RoseBy (one_if (is_opening w.failed) + 0) before n) (sym is) (by-test (is_opening w.failed) _ before))

pub reads-kept : (whose : Subject) (kept one two : List FaultNote) (w : Whole) (tells : Bool) (old new : FileState) → one ≡ kept ++ noted_call whose w.failed → two ≡ one ++ noted_call whose w.closing → HasShape w
    → ((file : ℕ) → new.faults file ≡ raised_by (claims_on w file) (old.faults file)) → new.open_faults ≡ (if opening_counted tells w then raised old.open_faults else old.open_faults) → old.given ≤ new.given
    → AddsNoted kept two old new
reads-kept whose kept one two w tells old new first second shape files openings ids = record {
  more = noted_call whose w.failed ++ noted_call whose w.closing;
  added = two-kept whose kept one two w first second;
  counted = record {
    files = λ file. files-rose whose w file (old.faults file) (new.faults file) (files file);
    openings = openings-rose whose w tells old.open_faults new.open_faults shape openings;
    possible = possible-both (noted_call whose w.failed) (noted_call whose w.closing) (possible-read whose w.failed) (possible-read whose w.closing);
  };
  exact = exact-when false (noted_call whose w.failed ++ noted_call whose w.closing) old new
      (λ file. files file ∙ ap (λ (n : ℕ). raised_by n (old.faults file)) (sym (noted-both whose w file))) ids;
}

-- the notes are of the file that was opened
pub noted-as : (whose : Subject) (failed closing : Option FailedCall)
    → noted_call whose failed ++ noted_call whose closing ≡ both_notes whose (record { command = 0; time = 0 }) 0 failed closing
noted-as whose None None = refl
noted-as whose None (Some c) = refl
noted-as whose (Some f) None = refl
noted-as whose (Some f) (Some c) = refl

pub reads-own : (whose : Subject) (kept one two : List FaultNote) (w : Whole) (old new : FileState) → one ≡ kept ++ noted_call whose w.failed → two ≡ one ++ noted_call whose w.closing
    → HasShape w → claims.IsNew w.failed old new → claims.IsNew w.closing old new → old.given ≤ new.given → AreOwn no_files no_files kept two old new
reads-own whose kept one two w old new first second shape failed closing ids =
    whole-own whose (record { command = 0; time = 0 }) 0 w.failed w.closing no_files no_files kept two old new refl (read-claims w shape) failed closing ids
    (two-kept whose kept one two w first second ∙ ap (λ (l : List FaultNote). kept ++ l) (noted-as whose w.failed w.closing))

pub own-from-none : (first second third : List FaultNote) (old mid new : FileState) → first ≡ [] → AreOwn no_files no_files first second old mid
    → AreOwn no_files no_files second third mid new → AreOwn no_files no_files [] third old new
own-from-none first second third old mid new none a b =
    subst (λ (l : List FaultNote). AreOwn no_files no_files l third old new) none (own-both no_files no_files no_files first second third old mid new a b)

-- where the reading did not fail, closings alone were noted
not-failed : (bytes : Result (Vec ℕ) WholeFault) → (bytes ≡ Err whole.Failed → ⊥) → claims.is_failed bytes ≡ false
not-failed (Ok v) other = refl
not-failed (Err whole.NoFile) other = refl
not-failed (Err whole.TooLong) other = refl
not-failed (Err whole.Failed) other = absurd (other refl)
not-failed (Err whole.OutOfMemory) other = refl

pub reads-closings : (whose : Subject) (kept one two : List FaultNote) (w : Whole) → one ≡ kept ++ noted_call whose w.failed → two ≡ one ++ noted_call whose w.closing
    → HasShape w → (w.bytes ≡ Err whole.Failed → ⊥) → AddsClosings kept two
reads-closings whose kept one two w first second shape other = record {
  more = noted_call whose w.failed ++ noted_call whose w.closing;
  added = two-kept whose kept one two w first second;
  are = by-calls w.failed w.closing (shape.failed ∙ not-failed w.bytes other) shape.closing;
}
  where
    by-calls : (failed closing : Option FailedCall) → is_some failed ≡ false → IfSome closing (λ (c : FailedCall). (c.call ≡ Closing) × IsSome c.file)
        → AreWordClosings (notes_said (noted_call whose failed ++ noted_call whose closing))
    by-calls None None none has = tt
    by-calls None (Some c) none has = ((refl, refl, has.0), tt)
    by-calls (Some f) closing none has = absurd (cc)

pub is-want : (r : Refusal) → refused.OutOfMemory ≡ r → IsWant r
is-want r is = subst IsWant is tt

pub closings-none : (first second : List FaultNote) → first ≡ [] → AddsClosings first second → AreWordClosings (notes_said second)
closings-none first second none a =
    subst (λ (l : List FaultNote). AreWordClosings (notes_said l)) (sym (a.added ∙ ap (λ (l : List FaultNote). l ++ a.more) none)) a.are

pub closings-both : (first second third : List FaultNote) → AddsClosings first second → AddsClosings second third → AddsClosings first third
closings-both first second third a b = record {
  more = a.more ++ b.more;
  added = b.added ∙ ap (λ (l : List FaultNote). l ++ b.more) a.added ∙ append_assoc first a.more b.more;
  are = all a.more a.are;
}
  where
    all : (more : List FaultNote) → AreWordClosings (notes_said more) → AreWordClosings (notes_said (more ++ b.more))
    all [] are = b.are
    all (n ∷ more) are = (are.0, all more are.1)

-- ---- what is taken of a file

-- a place that is named is that of a word
pub named-at : (o : Option ℕ) (n place : ℕ) → IfSome o (λ (p : ℕ). p < n) → o ≡ Some place → place < n
named-at o n place named is = subst (λ (k : Option ℕ). IfSome k (λ (p : ℕ). p < n)) is named

pub word-there : (words : List (String Global)) (place : ℕ) → place < length (texts_of words) → place < length words
word-there words place within = let many = length-map words (λ (w : String Global). string_bytes w) in omega (arith, within, many)

pub keys-take : (words : List (String Global)) (options : Options) (files : List NamedBytes) (place : ℕ) (word : String Global) (kept kept' : List FaultNote) (bytes : Result (Vec ℕ) WholeFault) (result : Result (List Key) Refusal)
    → options.keys ≡ Some place → place < length (texts_of words) → word ≡ get_or words place word → ReadsFile subject.Keys (string_bytes word) files kept kept' bytes
    → ((ws : List (List ℕ)) → ComesOf ws (keys_from (get_or ws place [])) (said_of_bytes bytes) result)
    → Takes subject.Keys (texts_of words) (taken_keys (keys_name (texts_of words) options) files) kept kept' result
keys-take words options files place word kept kept' bytes result some within is r comes =
    let ws : List (List ℕ) = texts_of words in
    let at = name-at words place word (word-there words place within) is in
    let name : keys_name ws options ≡ Some (string_bytes word) = (λ i. keys_name ws (record options { keys = some i })) ∙ ap (λ (n : List ℕ). Some n) at in
    record {
      calls = r.calls;
      added = r.added;
      taken = λ more none. subst (λ (o : Option (List ℕ)). IsTaken ws result (taken_keys o files (word_notes subject.Keys r.calls ++ more)) (length r.calls)) (sym name)
          (file-taken subject.Keys ws (string_bytes word) files (keys_from (string_bytes word)) bytes result r.calls more refl
          (subst (λ (n : List ℕ). ComesOf ws (keys_from n) (said_of_bytes bytes) result) at (comes ws)) r.said none);
    }

pub script-take : (words : List (String Global)) (options : Options) (files : List NamedBytes) (place : ℕ) (word : String Global) (kept kept' : List FaultNote) (bytes : Result (Vec ℕ) WholeFault) (result : Result (Option (List ℕ)) Refusal)
    → options.script ≡ Some place → place < length (texts_of words) → word ≡ get_or words place word → ReadsFile subject.Script (string_bytes word) files kept kept' bytes
    → ((ws : List (List ℕ)) → ComesOf ws (script_from (get_or ws place [])) (said_of_bytes bytes) result)
    → Takes subject.Script (texts_of words) (taken_script (script_name (texts_of words) options) files) kept kept' result
script-take words options files place word kept kept' bytes result some within is r comes =
    let ws : List (List ℕ) = texts_of words in
    let at = name-at words place word (word-there words place within) is in
    let name : script_name ws options ≡ Some (string_bytes word) = (λ i. script_name ws (record options { script = some i })) ∙ ap (λ (n : List ℕ). Some n) at in
    record {
      calls = r.calls;
      added = r.added;
      taken = λ more none. subst (λ (o : Option (List ℕ)). IsTaken ws result (taken_script o files (word_notes subject.Script r.calls ++ more)) (length r.calls)) (sym name)
          (file-taken subject.Script ws (string_bytes word) files (script_from (string_bytes word)) bytes result r.calls more refl
          (subst (λ (n : List ℕ). ComesOf ws (script_from n) (said_of_bytes bytes) result) at (comes ws)) r.said none);
    }

-- ---- the copies of words

pub copied-more : (copies words : List (String Global)) (i : ℕ) (word copy : String Global) → i < length words → word ≡ get_or words i word → string_bytes copy ≡ string_bytes word
    → texts_of copies ≡ take i (texts_of words) → texts_of (copies ++ copy ∷ []) ≡ take (i + 1) (texts_of words)
copied-more copies words i word copy within is same so_far =
    let many = length-map words (λ (w : String Global). string_bytes w) in
    let there : i < length (texts_of words) = omega (arith, within, many) in
    map-append (λ (w : String Global). string_bytes w) copies (copy ∷ [])
    ∙ ap (λ (l : List (List ℕ)). l ++ string_bytes copy ∷ []) so_far
    ∙ ap (λ (t : List ℕ). take i (texts_of words) ++ t ∷ []) (same ∙ sym (name-at words i word within is))
    ∙ sym (ap (λ (n : ℕ). take n (texts_of words)) (add-one i) ∙ take-suc (texts_of words) i [] there)

pub script-copied : {E : Type 0} (words : List (String Global)) (options : Options) (place : ℕ) (r : Result (Vec (String Global)) E) → options.script ≡ Some place
    → IfOk r (λ (v : Vec (String Global)). texts_of v.items ≡ texts_of (take (length words - place) (drop place words))) → IfOk r (λ (v : Vec (String Global)). texts_of v.items ≡ script_words (texts_of words) options)
script-copied {E} words options place (Ok v) some same =
    same ∙ ap texts_of (rest-same words place) ∙ sym (drop-map (λ (w : String Global). string_bytes w) place words) ∙ sym (λ i. script_words (texts_of words) (record options { script = some i }))
script-copied {E} words options place (Err e) some same = tt

-- ---- both files

pub kept-both : (first second third : List FaultNote) (old mid new : FileState) → first ≡ [] → AddsNoted first second old mid → AddsNoted second third mid new → AddsNoted [] third old new
kept-both first second third old mid new none a b = record {
  more = a.more ++ b.more;
  added = b.added ∙ ap (λ (l : List FaultNote). l ++ b.more) (a.added ∙ ap (λ (l : List FaultNote). l ++ a.more) none);
  counted = counted-both a.more b.more old mid new a.counted b.counted;
  exact = exact-both false a.more b.more old mid new a.exact b.exact;
}
