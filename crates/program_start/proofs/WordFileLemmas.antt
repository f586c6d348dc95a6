-- The files that the words name, and how the program starts with them.
use Rattle.std.proofs.Common.{◌≡◌, ℕ, ◌+◌, ◌<◌, Bool, true, false, suc, List, [], ◌∷◌, ◌++◌, length, drop, take, get_or, map, refl, ap, sym, ◌∙◌, subst, arith, append_assoc, length-append, Option, Some, None, IfSome, String, Global, string_bytes, Result, Ok, Err}
use Rattle.std.specs.Prelude.{cond, take_while}
use Rattle.std.specs.List.{prefix_len}
use Rattle.std.specs.Global.{Vec}
use Rattle.std.proofs.lemmas.List.{length-map, get_or-map}
use Rattle.std.proofs.Math.Seq.{drop-append_seam}
use Rattle.file_traits.specs.declared.files.FileCall.{FileCall}
use Rattle.file_traits.specs.Lists.{NamedBytes}
use Rattle.file_commands.specs.declared.note.FaultNote.{FaultNote}
use Rattle.file_commands.specs.declared.note.Subject.{Subject}
use Rattle.file_commands.specs.declared.note.Subject.TheVariants as subject
use Rattle.file_commands.specs.Notes.{CommandNote, Note, same_subject, handed, Follow, notes_said}
use Rattle.file_commands.proofs.Handing.{handed-none}
use Rattle.whole_files.specs.declared.whole.WholeFault.{WholeFault}
use Rattle.whole_files.specs.Whole.{WholeSaid, whole_act}
use Rattle.whole_files.specs.Claims.{said_of_bytes}
use Rattle.expect_actions.specs.KeysFile.{Key}
use Rattle.command_words.specs.declared.options.Options.{Options}
use Rattle.program_start.specs.declared.word_files.Refusal.{Refusal}
use Rattle.program_start.specs.declared.word_files.Beginning.{Beginning}
use Rattle.command_words.specs.Words.{keys_name, script_name, texts_of}
use Rattle.program_start.specs.Workload.{first_text}
use Rattle.command_words.proofs.WordsLemmas.{some-weaker}
use Rattle.program_start.specs.Start.{Denial, is_call_on, calls_on, word_file, taken_keys, taken_script, Start, Begins, denied, start_by, start_of}
use Rattle.program_start.specs.WordFiles.{StartsWith, word_notes, denial_of, ComesOf, IsTaken, Takes, BeginsAs}

-- ---- which calls stand first

take-one : {A : Type 0} (x : A) (xs : List A) (n : ℕ) → take (1 + n) (x ∷ xs) ≡ x ∷ take n xs
take-one x xs n = let e : 1 + n ≡ suc n = omega arith in ap (λ k. take k (x ∷ xs)) e

while-yes : {A : Type 0} (p : A → Bool) (x : A) (xs : List A) → p x ≡ true → take_while p (x ∷ xs) ≡ x ∷ take_while p xs
while-yes p x xs on = ap (λ b. take (cond b (1 + prefix_len p xs) 0) (x ∷ xs)) on ∙ take-one x xs (prefix_len p xs)

while-no : {A : Type 0} (p : A → Bool) (x : A) (xs : List A) → p x ≡ false → take_while p (x ∷ xs) ≡ []
while-no p x xs off = ap (λ b. take (cond b (1 + prefix_len p xs) 0) (x ∷ xs)) off

calls_in : List CommandNote → List FileCall
calls_in notes = map (λ (n : CommandNote). n.failure.call) notes

of-call : Subject → FileCall → CommandNote
of-call whose call = record { time = 0; subject = whose; failure = record { call = call; done = 0 } }

-- the calls of a subject, before others
calls-front : (whose : Subject) (calls : List FileCall) (more : List Note) → same_subject whose whose ≡ true → calls_on whose more ≡ [] → calls_on whose (word_notes whose calls ++ more) ≡ calls
unfolding calls_in of-call
calls-front whose [] more same none = none
calls-front whose (call ∷ calls) more same none =
    ap calls_in (while-yes (is_call_on whose) (of-call whose call) (handed 0 (word_notes whose calls ++ more)) same) ∙ ap (λ (l : List FileCall). call ∷ l) (calls-front whose calls more same none)

-- notes of later commands are of no file of the words
pub calls-none : (whose : Subject) (more : List Note) → Follow 0 more → calls_on whose more ≡ []
unfolding calls_in
calls-none whose more follow = ap (λ (l : List CommandNote). calls_in (take_while (is_call_on whose) l)) (handed-none 0 more follow)

-- nor are those of the script of the keys file
calls-other : (calls : List FileCall) (more : List Note) → Follow 0 more → calls_on subject.Keys (word_notes subject.Script calls ++ more) ≡ []
unfolding calls_in of-call
calls-other [] more follow = calls-none subject.Keys more follow
calls-other (call ∷ calls) more follow =
    ap calls_in (while-no (is_call_on subject.Keys) (of-call subject.Script call) (handed 0 (word_notes subject.Script calls ++ more)) refl)

-- ---- what is taken of a file

by-said : {T : Type 0} (words : List (List ℕ)) (from : WholeSaid → Result T Denial) (o : Option WholeSaid) (result : Result T Refusal) (read : WholeSaid × ℕ) (n : ℕ)
    → ComesOf words from o result → IfSome o (λ said. read ≡ (said, n)) → IsTaken words result (from read.0, read.1) n
by-said {T} words from (Some said) (Ok value) read n comes is =
    ap (λ (r : WholeSaid × ℕ). (from r.0, r.1)) is ∙ ap (λ (v : Result T Denial). (v, n)) comes
by-said {T} words from (Some said) (Err refusal) read n comes is =
    some-weaker (λ (d : Denial). from said ≡ Err d) (λ (d : Denial). ◌≡◌ {A = Result T Denial × ℕ} (from read.0, read.1) (Err d, n)) (denial_of words refusal)
    (λ d e. ap (λ (r : WholeSaid × ℕ). (from r.0, r.1)) is ∙ ap (λ (v : Result T Denial). (v, n)) e) comes
by-said {T} words from None (Ok value) read n comes is = absurd comes
by-said {T} words from None (Err refusal) read n comes is =
    subst (λ (o : Option Denial). IfSome o (λ (d : Denial). ◌≡◌ {A = Result T Denial × ℕ} (from read.0, read.1) (Err d, n))) (sym comes) tt

pub file-taken : {T : Type 0} (whose : Subject) (words : List (List ℕ)) (name : List ℕ) (files : List NamedBytes) (from : WholeSaid → Result T Denial) (bytes : Result (Vec ℕ) WholeFault) (result : Result T Refusal) (calls : List FileCall) (more : List Note)
    → same_subject whose whose ≡ true → ComesOf words from (said_of_bytes bytes) result → IfSome (said_of_bytes bytes) (λ said. whole_act calls name files ≡ (said, length calls))
    → calls_on whose more ≡ [] → IsTaken words result (from (word_file whose name files (word_notes whose calls ++ more)).0, (word_file whose name files (word_notes whose calls ++ more)).1) (length calls)
file-taken whose words name files from bytes result calls more same comes is none =
    by-said words from (said_of_bytes bytes) result (word_file whose name files (word_notes whose calls ++ more)) (length calls) comes
    (some-weaker (λ (said : WholeSaid). whole_act calls name files ≡ (said, length calls)) (λ (said : WholeSaid). word_file whose name files (word_notes whose calls ++ more) ≡ (said, length calls)) (said_of_bytes bytes)
    (λ said e. ap (λ (c : List FileCall). whole_act c name files) (calls-front whose calls more same none) ∙ e) is)

-- the name of a file, by the place of its word
pub name-at : (words : List (String Global)) (place : ℕ) (word : String Global) → place < length words → word ≡ get_or words place word → get_or (texts_of words) place [] ≡ string_bytes word
name-at words place word within is = get_or-map (λ (w : String Global). string_bytes w) words place word [] within ∙ ap (λ (w : String Global). string_bytes w) (sym is)

-- ---- how it starts with them

notes-many : (whose : Subject) (calls : List FileCall) → length (word_notes whose calls) ≡ length calls
notes-many whose calls = length-map calls (λ (call : FileCall). record { command = 0; note = record { time = 0; subject = whose; failure = record { call = call; done = 0 } } })

behind-calls : (whose : Subject) (calls : List FileCall) (rest : List Note) → drop (length calls) (word_notes whose calls ++ rest) ≡ rest
behind-calls whose calls rest = ap (λ (n : ℕ). drop n (word_notes whose calls ++ rest)) (sym (notes-many whose calls)) ∙ drop-append_seam (word_notes whose calls) rest

starts-as : (words : List (List ℕ)) (options : Options) (files : List NamedBytes) (kept kept' : List Note) (start : Start) → kept ≡ kept' → StartsWith words options files kept' start → StartsWith words options files kept start
starts-as words options files kept kept' start same h = subst (λ (n : List Note). StartsWith words options files n start) (sym same) h

-- the keys file was refused
keys-refuse : (words : List (List ℕ)) (options : Options) (files : List NamedBytes) (calls : List FileCall) (o : Option Denial)
    → ((more : List Note) → calls_on subject.Keys more ≡ [] → IfSome o (λ d. taken_keys (keys_name words options) files (word_notes subject.Keys calls ++ more) ≡ (Err d, length calls)))
    → IfSome o (λ d. StartsWith words options files (word_notes subject.Keys calls) (denied d))
keys-refuse words options files calls None all = tt
keys-refuse words options files calls (Some d) all = λ more follow.
    ap (λ (k : Result (List Key) Denial × ℕ). start_by options k (taken_script (script_name words options) files (drop k.1 (word_notes subject.Keys calls ++ more)))) (all more (calls-none subject.Keys more follow))
    ∙ ap (λ (n : ℕ). (denied d, n)) (sym (notes-many subject.Keys calls))

pub keys-denied : (words : List (List ℕ)) (options : Options) (files : List NamedBytes) (kept kept' : List FaultNote) (refusal : Refusal) → kept ≡ []
    → Takes subject.Keys words (taken_keys (keys_name words options) files) kept kept' (Err refusal)
    → IfSome (denial_of words refusal) (λ d. StartsWith words options files (notes_said kept') (denied d))
keys-denied words options files kept kept' refusal none t =
    let added : notes_said kept' ≡ word_notes subject.Keys t.calls = t.added ∙ ap (λ (k : List FaultNote). notes_said k ++ word_notes subject.Keys t.calls) none in
    some-weaker (λ (d : Denial). StartsWith words options files (word_notes subject.Keys t.calls) (denied d)) (λ (d : Denial). StartsWith words options files (notes_said kept') (denied d)) (denial_of words refusal)
    (λ d. starts-as words options files (notes_said kept') (word_notes subject.Keys t.calls) (denied d) added)
    (keys-refuse words options files t.calls (denial_of words refusal) t.taken)

-- behind the keys
behind-keys : (words : List (List ℕ)) (options : Options) (files : List NamedBytes) (keys : List Key) (first second : List FileCall) (o : Result (Option (List ℕ)) Denial) (start : Start)
    → ((more : List Note) → calls_on subject.Keys more ≡ [] → taken_keys (keys_name words options) files (word_notes subject.Keys first ++ more) ≡ (Ok keys, length first))
    → ((more : List Note) → calls_on subject.Script more ≡ [] → taken_script (script_name words options) files (word_notes subject.Script second ++ more) ≡ (o, length second))
    → start_by options (Ok keys, length first) (o, length second) ≡ (start, length first + length second)
    → StartsWith words options files (word_notes subject.Keys first ++ word_notes subject.Script second) start
behind-keys words options files keys first second o start by_keys by_script is = λ more follow.
    let rest : List Note = word_notes subject.Script second ++ more in
    let many : length first + length second ≡ length (word_notes subject.Keys first ++ word_notes subject.Script second) =
    sym (length-append (word_notes subject.Keys first) (word_notes subject.Script second) ∙ (λ i. notes-many subject.Keys first i + notes-many subject.Script second i)) in
    ap (λ (n : List Note). start_of (Some options) words files n) (append_assoc (word_notes subject.Keys first) (word_notes subject.Script second) more)
    ∙ ap (λ (k : Result (List Key) Denial × ℕ). start_by options k (taken_script (script_name words options) files (drop k.1 (word_notes subject.Keys first ++ rest)))) (by_keys rest (calls-other second more follow))
    ∙ ap (λ (n : List Note). start_by options (Ok keys, length first) (taken_script (script_name words options) files n)) (behind-calls subject.Keys first rest)
    ∙ ap (λ (s : Result (Option (List ℕ)) Denial × ℕ). start_by options (Ok keys, length first) s) (by_script more (calls-none subject.Script more follow))
    ∙ is ∙ ap (λ (n : ℕ). (start, n)) many

both-kept : (kept kept' kept'' : List FaultNote) (first second : List FileCall) → kept ≡ [] → notes_said kept' ≡ notes_said kept ++ word_notes subject.Keys first → notes_said kept'' ≡ notes_said kept' ++ word_notes subject.Script second
    → notes_said kept'' ≡ word_notes subject.Keys first ++ word_notes subject.Script second
both-kept kept kept' kept'' first second none one two =
    two ∙ ap (λ (n : List Note). n ++ word_notes subject.Script second) (one ∙ ap (λ (k : List FaultNote). notes_said k ++ word_notes subject.Keys first) none)

script-refuse : (words : List (List ℕ)) (options : Options) (files : List NamedBytes) (keys : List Key) (first second : List FileCall) (o : Option Denial)
    → ((more : List Note) → calls_on subject.Keys more ≡ [] → taken_keys (keys_name words options) files (word_notes subject.Keys first ++ more) ≡ (Ok keys, length first))
    → ((more : List Note) → calls_on subject.Script more ≡ [] → IfSome o (λ d. taken_script (script_name words options) files (word_notes subject.Script second ++ more) ≡ (Err d, length second)))
    → IfSome o (λ d. StartsWith words options files (word_notes subject.Keys first ++ word_notes subject.Script second) (denied d))
script-refuse words options files keys first second None by_keys by_script = tt
script-refuse words options files keys first second (Some d) by_keys by_script = behind-keys words options files keys first second (Err d) (denied d) by_keys by_script refl

pub script-denied : (words : List (List ℕ)) (options : Options) (files : List NamedBytes) (keys : List Key) (kept kept' kept'' : List FaultNote) (refusal : Refusal) → kept ≡ []
    → Takes subject.Keys words (taken_keys (keys_name words options) files) kept kept' (Ok keys)
    → Takes subject.Script words (taken_script (script_name words options) files) kept' kept'' (Err refusal)
    → IfSome (denial_of words refusal) (λ d. StartsWith words options files (notes_said kept'') (denied d))
script-denied words options files keys kept kept' kept'' refusal none k s =
    let both : List Note = word_notes subject.Keys k.calls ++ word_notes subject.Script s.calls in
    some-weaker (λ (d : Denial). StartsWith words options files both (denied d)) (λ (d : Denial). StartsWith words options files (notes_said kept'') (denied d)) (denial_of words refusal)
    (λ d. starts-as words options files (notes_said kept'') both (denied d) (both-kept kept kept' kept'' k.calls s.calls none k.added s.added))
    (script-refuse words options files keys k.calls s.calls (denial_of words refusal) k.taken s.taken)

pub both-begin : (words : List (List ℕ)) (options : Options) (files : List NamedBytes) (keys : List Key) (script : Option (List ℕ)) (kept kept' kept'' : List FaultNote) → kept ≡ []
    → Takes subject.Keys words (taken_keys (keys_name words options) files) kept kept' (Ok keys)
    → Takes subject.Script words (taken_script (script_name words options) files) kept' kept'' (Ok script)
    → StartsWith words options files (notes_said kept'') (Begins options keys (first_text options.workload script))
both-begin words options files keys script kept kept' kept'' none k s =
    starts-as words options files (notes_said kept'') (word_notes subject.Keys k.calls ++ word_notes subject.Script s.calls) (Begins options keys (first_text options.workload script)) (both-kept kept kept' kept'' k.calls s.calls none k.added s.added)
    (behind-keys words options files keys k.calls s.calls (Ok script) (Begins options keys (first_text options.workload script)) k.taken s.taken refl)

-- the same of what the code hands on
pub denied-along : (words : List (List ℕ)) (options : Options) (files : List NamedBytes) (kept : List Note) (refusal : Refusal) (r : Result Beginning Refusal) → r ≡ Err refusal
    → IfSome (denial_of words refusal) (λ d. StartsWith words options files kept (denied d)) → BeginsAs words options files kept r
denied-along words options files kept refusal r is h = subst (λ (r : Result Beginning Refusal). BeginsAs words options files kept r) (sym is) h
