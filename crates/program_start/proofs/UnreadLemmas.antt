-- Why the keys file or the script was not read.
use Rattle.std.proofs.Common.{◌≡◌, inl, inr, ℕ, ◌+◌, ◌<◌, ◌≤◌, ◌&&◌, not, Bool, false, IsTrue, List, [], ◌∷◌, ◌++◌, length, get_or, refl, ap, sym, ◌∙◌, subst, arith, append_assoc, Option, Some, None, is_some, String, Global, string_bytes, Result, Ok, Err, IfOk, if◌then◌else◌}
use Rattle.std.specs.Global.{Vec}
use Rattle.fault_counts.specs.Faults.{raised}
use Rattle.file_traits.specs.Lists.{NamedBytes, find_file, bytes_of}
use Rattle.file_traits.specs.State.{FileState}
use Rattle.file_commands.specs.declared.note.FaultNote.{FaultNote}
use Rattle.file_commands.specs.declared.note.Subject.{Subject}
use Rattle.file_commands.specs.declared.note.Subject.TheVariants as subject
use Rattle.file_commands.specs.Notes.{notes_said}
use Rattle.file_commands.specs.Counts.{one_if, openings_noted}
use Rattle.whole_files.specs.declared.whole.Whole.{Whole}
use Rattle.whole_files.specs.declared.whole.WholeFault.{WholeFault}
use Rattle.whole_files.specs.declared.whole.WholeFault.TheVariants as whole
use Rattle.whole_files.specs.Whole.{longest_file}
use Rattle.whole_files.specs.Claims.{HasShape, raised_by, claims_on, opening_counted, is_missing, Fits, WholeCause}
use Rattle.command_session.specs.Doing as doing
use Rattle.command_session.specs.Doing.{AllClosings, FileCause, KeepsOwn}
use Rattle.command_session.specs.declared.next.Next.TheVariants.{Go}
use Rattle.command_session.specs.Reply.{Answer}
use Rattle.command_session.specs.WholeCalls.{whole_answer}
use Rattle.command_session.proofs.WholeLemmas.{read-keeps}
use Rattle.program_start.specs.WordFiles.{AddsNoted, AreWordClosings, noted_call, AddsClosings}
use Rattle.command_words.specs.declared.options.Options.{Options}
use Rattle.program_start.specs.declared.word_files.Refusal.{Refusal}
use Rattle.program_start.specs.declared.word_files.Refusal.TheVariants.{Unopened, BadKeys, OutOfMemory}
use Rattle.command_words.specs.Words.{keys_name, script_name, texts_of}
use Rattle.program_start.specs.Unread.{NotRead, NamedFits, keys_ids, behind_ids, NotedAs, WordCause, AnswersRead, TakesCause, BeginsCause}
use Rattle.program_start.proofs.WordFileLemmas.{name-at}
use Rattle.program_start.proofs.ReadingLemmas.{two-kept, noted-as, word-there}

-- ---- the notes of a reading

-- as a command that does nothing with what it read
abbrev goes : List ℕ → Answer
goes bytes = Ok Go

noted-by : (tells : Bool) (whose : Subject) (bytes : Result (Vec ℕ) WholeFault) (notes : List FaultNote) (old new : FileState)
    → FileCause (record { command = 0; time = 0 }) tells (whole_answer whose goes bytes) notes old new → NotedAs whose bytes notes
noted-by tells whose (Ok v) notes old new cause = cause
noted-by tells whose (Err whole.NoFile) notes old new cause = subst AllClosings (sym cause.0) tt
noted-by tells whose (Err whole.TooLong) notes old new cause = cause
noted-by tells whose (Err whole.Failed) notes old new cause = cause
noted-by tells whose (Err whole.OutOfMemory) notes old new cause = cause

missing-same : (whose : Subject) (bytes : Result (Vec ℕ) WholeFault) → doing.is_missing (whole_answer whose goes bytes) ≡ is_missing bytes
missing-same whose (Ok v) = refl
missing-same whose (Err whole.NoFile) = refl
missing-same whose (Err whole.TooLong) = refl
missing-same whose (Err whole.Failed) = refl
missing-same whose (Err whole.OutOfMemory) = refl

pub word-cause : (tells : Bool) (whose : Subject) (name name' : List ℕ) (kept one two : List FaultNote) (w : Whole) (old new : FileState)
    → one ≡ kept ++ noted_call whose w.failed → two ≡ one ++ noted_call whose w.closing → name' ≡ name → HasShape w
    → ((file : ℕ) → new.faults file ≡ raised_by (claims_on w file) (old.faults file))
    → new.open_faults ≡ (if opening_counted tells w then raised old.open_faults else old.open_faults)
    → old.given ≤ new.given → new.given ≤ old.given + 1 → WholeCause tells name' w.bytes old new → WordCause tells whose name w.bytes kept two old new
word-cause tells whose name name' kept one two w old new first second same shape counts openings ids most cause =
    let keeps : KeepsOwn 0 0 tells (whole_answer whose goes w.bytes) kept two old new =
    read-keeps whose 0 0 tells goes w (whole_answer whose goes w.bytes) kept two old new (λ bytes notes shut. shut) refl shape
    (record { counts = counts; openings = openings; ids = ids; one = most })
    (two-kept whose kept one two w first second ∙ ap (λ (l : List FaultNote). kept ++ l) (noted-as whose w.failed w.closing)) in
    let none = keeps.openings.few in
    let named = ap (λ (b : Bool). one_if (b && not tells)) (missing-same whose w.bytes) in
    let all : keeps.openings.unnoted + (openings_noted keeps.kept + one_if (doing.is_missing (whole_answer whose goes w.bytes) && not tells))
    ≡ one_if (is_missing w.bytes && not tells) + openings_noted keeps.kept = omega (arith, none, named) in
    record {
      more = keeps.kept;
      added = keeps.added;
      noted = noted-by tells whose w.bytes keeps.kept old new keeps.cause;
      openings = keeps.openings.count ∙ ap (λ (n : ℕ). raised_by n old.open_faults) all;
      cause = subst (λ (n : List ℕ). WholeCause tells n w.bytes old new) same cause;
    }

-- ---- what is taken of a file

pub word-taken : {T : Type 0} (tells : Bool) (whose : Subject) (name : List ℕ) (bytes : Result (Vec ℕ) WholeFault) (result : Result T Refusal) (kept kept' : List FaultNote) (old new : FileState)
    → IfOk bytes (λ v. old.given < new.given) → WordCause tells whose name bytes kept kept' old new → AnswersRead bytes result → TakesCause tells whose (Some name) result kept kept' old new
word-taken tells whose name (Ok v) (Ok value) kept kept' old new opens w answers = w.cause
word-taken tells whose name (Ok v) (Err (Unopened place)) kept kept' old new opens w answers = absurd answers
word-taken tells whose name (Ok v) (Err (BadKeys place)) kept kept' old new opens w answers = record { was_opened = opens; bytes = v.items; faulty = answers }
word-taken tells whose name (Ok v) (Err OutOfMemory) kept kept' old new opens w answers = λ more. w.cause
word-taken tells whose name (Err whole.OutOfMemory) (Ok value) kept kept' old new opens w answers = absurd answers
word-taken tells whose name (Err whole.OutOfMemory) (Err (Unopened place)) kept kept' old new opens w answers = absurd answers
word-taken tells whose name (Err whole.OutOfMemory) (Err (BadKeys place)) kept kept' old new opens w answers = absurd answers
word-taken tells whose name (Err whole.OutOfMemory) (Err OutOfMemory) kept kept' old new opens w answers = w.cause
word-taken tells whose name (Err whole.NoFile) (Ok value) kept kept' old new opens w answers = absurd answers
word-taken tells whose name (Err whole.NoFile) (Err (Unopened place)) kept kept' old new opens w answers = (w.more, w.added, inl (w.noted, w.cause))
word-taken tells whose name (Err whole.NoFile) (Err (BadKeys place)) kept kept' old new opens w answers = absurd answers
word-taken tells whose name (Err whole.NoFile) (Err OutOfMemory) kept kept' old new opens w answers = absurd answers
word-taken tells whose name (Err whole.TooLong) (Ok value) kept kept' old new opens w answers = absurd answers
word-taken tells whose name (Err whole.TooLong) (Err (Unopened place)) kept kept' old new opens w answers = (w.more, w.added, inr (inr (w.noted, w.cause)))
word-taken tells whose name (Err whole.TooLong) (Err (BadKeys place)) kept kept' old new opens w answers = absurd answers
word-taken tells whose name (Err whole.TooLong) (Err OutOfMemory) kept kept' old new opens w answers = absurd answers
word-taken tells whose name (Err whole.Failed) (Ok value) kept kept' old new opens w answers = absurd answers
word-taken tells whose name (Err whole.Failed) (Err (Unopened place)) kept kept' old new opens w answers = (w.more, w.added, inr (inl w.noted))
word-taken tells whose name (Err whole.Failed) (Err (BadKeys place)) kept kept' old new opens w answers = absurd answers
word-taken tells whose name (Err whole.Failed) (Err OutOfMemory) kept kept' old new opens w answers = absurd answers

-- the same of the file that the word at a place names
pub keys-cause : {T : Type 0} (tells : Bool) (words : List (String Global)) (options : Options) (place : ℕ) (word : String Global) (bytes : Result (Vec ℕ) WholeFault) (result : Result T Refusal)
    (kept kept' : List FaultNote) (old new : FileState) → options.keys ≡ Some place → place < length (texts_of words) → word ≡ get_or words place word
    → IfOk bytes (λ v. old.given < new.given) → WordCause tells subject.Keys (string_bytes word) bytes kept kept' old new → AnswersRead bytes result
    → TakesCause tells subject.Keys (keys_name (texts_of words) options) result kept kept' old new
keys-cause tells words options place word bytes result kept kept' old new some within is opens w answers =
    let ws : List (List ℕ) = texts_of words in
    let at = name-at words place word (word-there words place within) is in
    let name : keys_name ws options ≡ Some (string_bytes word) = (λ i. keys_name ws (record options { keys = some i })) ∙ ap (λ (n : List ℕ). Some n) at in
    subst (λ (o : Option (List ℕ)). TakesCause tells subject.Keys o result kept kept' old new) (sym name)
    (word-taken tells subject.Keys (string_bytes word) bytes result kept kept' old new opens w answers)

pub script-cause : {T : Type 0} (tells : Bool) (words : List (String Global)) (options : Options) (place : ℕ) (word : String Global) (bytes : Result (Vec ℕ) WholeFault) (result : Result T Refusal)
    (kept kept' : List FaultNote) (old new : FileState) → options.script ≡ Some place → place < length (texts_of words) → word ≡ get_or words place word
    → IfOk bytes (λ v. old.given < new.given) → WordCause tells subject.Script (string_bytes word) bytes kept kept' old new → AnswersRead bytes result
    → TakesCause tells subject.Script (script_name (texts_of words) options) result kept kept' old new
script-cause tells words options place word bytes result kept kept' old new some within is opens w answers =
    let ws : List (List ℕ) = texts_of words in
    let at = name-at words place word (word-there words place within) is in
    let name : script_name ws options ≡ Some (string_bytes word) = (λ i. script_name ws (record options { script = some i })) ∙ ap (λ (n : List ℕ). Some n) at in
    subst (λ (o : Option (List ℕ)). TakesCause tells subject.Script o result kept kept' old new) (sym name)
    (word-taken tells subject.Script (string_bytes word) bytes result kept kept' old new opens w answers)

-- the keys file that was read took one id
pub keys-given : {T : Type 0} (bytes : Result (Vec ℕ) WholeFault) (result : Result T Refusal) (keys : Option ℕ) (place : ℕ) (old new : FileState) → keys ≡ Some place
    → AnswersRead bytes result → IfOk bytes (λ v. old.given < new.given) → new.given ≤ old.given + 1 → IfOk result (λ value. new.given ≡ old.given + keys_ids keys)
keys-given (Ok v) (Ok value) keys place old new some answers taken one = let at = ap keys_ids some in omega (arith, at, taken, one)
keys-given (Ok v) (Err refusal) keys place old new some answers taken one = tt
keys-given (Err whole.NoFile) (Ok value) keys place old new some answers taken one = absurd answers
keys-given (Err whole.TooLong) (Ok value) keys place old new some answers taken one = absurd answers
keys-given (Err whole.Failed) (Ok value) keys place old new some answers taken one = absurd answers
keys-given (Err whole.OutOfMemory) (Ok value) keys place old new some answers taken one = absurd answers
keys-given (Err why) (Err refusal) keys place old new some answers taken one = tt

-- without one none was given
pub none-given : (keys : Option ℕ) (s : FileState) → keys ≡ None → s.given ≡ s.given + keys_ids keys
none-given keys s none = let at = ap keys_ids none in omega (arith, at)

-- without a name nothing was opened
pub none-taken : {T : Type 0} (tells : Bool) (whose : Subject) (name : Option (List ℕ)) (value : T) (kept : List FaultNote) (state : FileState)
    → name ≡ None → TakesCause tells whose name (Ok value) kept kept state state
none-taken {T} tells whose name value kept state none =
    subst (λ (o : Option (List ℕ)). TakesCause {T = T} tells whose o (Ok value) kept kept state state) (sym none) refl

-- ---- behind the keys

fits-before : (tells : Bool) (name : List ℕ) (old mid : FileState) → (IsTrue tells → mid.files ≡ old.files) → Fits tells name mid → Fits tells name old
fits-before tells name old mid same fits = λ told. subst (λ (f : List NamedBytes). length (bytes_of f name) ≤ longest_file) (same told) (fits told)

pub closings-append : (notes more : List FaultNote) → AllClosings notes → AllClosings more → AllClosings (notes ++ more)
closings-append [] more first second = second
closings-append (n ∷ notes) more first second = (first.0, closings-append notes more first.1 second)

pub closings-said : (notes : List FaultNote) → AreWordClosings (notes_said notes) → AllClosings notes
closings-said [] are = tt
closings-said (n ∷ notes) are = (are.0.2, closings-said notes are.1)

not-read-behind : (tells : Bool) (whose : Subject) (name : List ℕ) (first more : List FaultNote) (ids : ℕ) (old mid new : FileState)
    → AllClosings first → (IsTrue tells → mid.files ≡ old.files) → old.open_faults ≤ mid.open_faults → mid.given ≡ old.given + ids
    → NotRead tells whose name more mid new → NotRead tells whose name (first ++ more) (behind_ids ids old) new
not-read-behind tells whose name first more ids old mid new shut same rise given (inl h) =
    inl (
      closings-append first more shut h.0,
      (
        λ told. subst (λ (f : List NamedBytes). is_some (find_file f name) ≡ false) (same told) (h.1.0 told),
        λ untold. let rose = h.1.1 untold in omega (arith, rose, rise),
      ),
    )
not-read-behind tells whose name first more ids old mid new shut same rise given (inr (inl h)) =
    inr (inl (record {
      before = first ++ h.before;
      own = h.own;
      behind = h.behind;
      are = ap (λ (l : List FaultNote). first ++ l) h.are ∙ sym (append_assoc first h.before (h.own ∷ h.behind));
      refused = h.refused;
      earlier = closings-append first h.before shut h.earlier;
      later = h.later;
    }))
not-read-behind tells whose name first more ids old mid new shut same rise given (inr (inr h)) =
    inr (inr (
      closings-append first more shut h.0,
      (
        let less = h.1.0 in omega (arith, less, given),
        λ told. subst (λ (f : List NamedBytes). longest_file < length (bytes_of f name)) (same told) (h.1.1 told),
      ),
    ))

-- what was taken is not too long
taken-fits : {T : Type 0} (tells : Bool) (whose : Subject) (named : Option (List ℕ)) (value : T) (kept kept' : List FaultNote) (old mid new : FileState)
    → (IsTrue tells → mid.files ≡ old.files) → TakesCause tells whose named (Ok value) kept kept' mid new → NamedFits tells named old
taken-fits tells whose None value kept kept' old mid new same cause = tt
taken-fits tells whose (Some name) value kept kept' old mid new same cause = fits-before tells name old mid same cause

-- ---- how it begins

pub from-none : (kept kept' more : List FaultNote) → kept ≡ [] → kept' ≡ kept ++ more → kept' ≡ more
from-none kept kept' more none added = added ∙ ap (λ (l : List FaultNote). l ++ more) none

-- the keys were refused
pub keys-refused : (T : Type 0) (tells : Bool) (words : List (List ℕ)) (options : Options) (refusal : Refusal) (kept kept' : List FaultNote) (old new : FileState) → kept ≡ []
    → new.given ≤ old.given + keys_ids options.keys → TakesCause {T = T} tells subject.Keys (keys_name words options) (Err refusal) kept kept' old new
    → BeginsCause tells words options (Err refusal) kept' old new
keys-refused T tells words options refusal kept kept' old new none most cause = by-name refusal (keys_name words options) refl cause
  where
    by-name : (r : Refusal) (named : Option (List ℕ)) → keys_name words options ≡ named → TakesCause {T = T} tells subject.Keys named (Err r) kept kept' old new
        → BeginsCause tells words options (Err r) kept' old new
    by-name r None is cause = absurd cause
    by-name (Unopened place) (Some name) is (more, added, unread) =
        inl (name, is, subst (λ (l : List FaultNote). NotRead tells subject.Keys name l old new) (sym (from-none kept kept' more none added)) unread)
    by-name (BadKeys place) (Some name) is cause = cause
    by-name OutOfMemory (Some name) is cause =
        (λ more. subst (λ (o : Option (List ℕ)). NamedFits tells o old) (sym is) (cause more), λ more. absurd (omega (arith, more, most)))

-- what stands once the keys were taken
pub record KeysTaken (tells : Bool) (words : List (List ℕ)) (options : Options) (kept kept' : List FaultNote) (old mid : FileState) : Type 0 where
  pub none : kept ≡ []
  pub fits : NamedFits tells (keys_name words options) old
  pub given : mid.given ≡ old.given + keys_ids options.keys
  pub closings : AllClosings kept'
  pub same : IsTrue tells → mid.files ≡ old.files
  pub rise : old.open_faults ≤ mid.open_faults

pub keys-taken : {T : Type 0} (tells : Bool) (words : List (List ℕ)) (options : Options) (value : T) (kept kept' : List FaultNote) (old mid : FileState) → kept ≡ []
    → TakesCause tells subject.Keys (keys_name words options) (Ok value) kept kept' old mid → AddsClosings kept kept' → (IsTrue tells → mid.files ≡ old.files)
    → AddsNoted kept kept' old mid → mid.given ≡ old.given + keys_ids options.keys → KeysTaken tells words options kept kept' old mid
keys-taken {T} tells words options value kept kept' old mid none cause closings same keeps given = record {
  none = none;
  fits = taken-fits tells subject.Keys (keys_name words options) value kept kept' old old mid (λ _. refl) cause;
  given = given;
  closings = subst AllClosings (sym (from-none kept kept' closings.more none closings.added)) (closings-said closings.more closings.are);
  same = same;
  rise = keeps.counted.openings.0;
}

-- the script was refused behind them
pub script-refused : (T : Type 0) (tells : Bool) (words : List (List ℕ)) (options : Options) (refusal : Refusal) (kept kept' kept'' : List FaultNote) (old mid new : FileState)
    → KeysTaken tells words options kept kept' old mid → TakesCause {T = T} tells subject.Script (script_name words options) (Err refusal) kept' kept'' mid new
    → BeginsCause tells words options (Err refusal) kept'' old new
script-refused T tells words options refusal kept kept' kept'' old mid new keys cause = by-name refusal (script_name words options) refl cause
  where
    by-name : (r : Refusal) (named : Option (List ℕ)) → script_name words options ≡ named → TakesCause {T = T} tells subject.Script named (Err r) kept' kept'' mid new
        → BeginsCause tells words options (Err r) kept'' old new
    by-name r None is cause = absurd cause
    by-name (Unopened place) (Some name) is (more, added, unread) =
        inr (
          name,
          is,
          subst (λ (l : List FaultNote). NotRead tells subject.Script name l (behind_ids (keys_ids options.keys) old) new) (sym added)
              (not-read-behind tells subject.Script name kept' more (keys_ids options.keys) old mid new keys.closings keys.same keys.rise keys.given unread),
        )
    by-name (BadKeys place) (Some name) is cause =
        record { was_opened = let given = keys.given in let opens = cause.was_opened in omega (arith, given, opens); bytes = cause.bytes; faulty = cause.faulty }
    by-name OutOfMemory (Some name) is cause = (
      λ more. keys.fits,
      λ more. let given = keys.given in
          subst (λ (o : Option (List ℕ)). NamedFits tells o old) (sym is) (fits-before tells name old mid keys.same (cause (omega (arith, more, given)))),
    )

-- both were taken
pub both-fit : {T : Type 0} (tells : Bool) (words : List (List ℕ)) (options : Options) (value : T) (kept kept' kept'' : List FaultNote) (old mid new : FileState)
    → KeysTaken tells words options kept kept' old mid → TakesCause tells subject.Script (script_name words options) (Ok value) kept' kept'' mid new
    → NamedFits tells (keys_name words options) old × NamedFits tells (script_name words options) old
both-fit tells words options value kept kept' kept'' old mid new keys cause =
    (keys.fits, taken-fits tells subject.Script (script_name words options) value kept' kept'' old mid new keys.same cause)
