-- How many openings of the files that the words name failed, and how many ids these files were given.
use Rattle.std.proofs.Common.{◌≡◌, ℕ, ◌+◌, ◌<◌, ◌≤◌, ◌&&◌, not, Bool, List, [], refl, ap, sym, ◌∙◌, subst, arith, append-nil, Option, Some, None, is_some, Result, Ok, Err, IfOk}
use Rattle.std.specs.Global.{Vec}
use Rattle.file_traits.specs.State.{FileState}
use Rattle.file_commands.specs.declared.note.FaultNote.{FaultNote}
use Rattle.file_commands.specs.declared.note.Subject.{Subject}
use Rattle.file_commands.specs.Counts.{one_if, openings_noted}
use Rattle.file_commands.proofs.Adding.{openings-append, raised-both}
use Rattle.whole_files.specs.declared.whole.WholeFault.{WholeFault}
use Rattle.whole_files.specs.declared.whole.WholeFault.TheVariants as whole
use Rattle.whole_files.specs.Claims.{raised_by, is_missing}
use Rattle.command_session.specs.Doing.{AllClosings}
use Rattle.program_start.specs.declared.word_files.Refusal.{Refusal}
use Rattle.program_start.specs.declared.word_files.Refusal.TheVariants.{Unopened, BadKeys, OutOfMemory}
use Rattle.program_start.specs.WordFiles.{AddsClosings}
use Rattle.program_start.specs.Unread.{keys_ids, NotedAs, WordCause, AnswersRead}
use Rattle.program_start.specs.WordCounts.{is_unopened, CountsWordFiles}
use Rattle.program_start.proofs.UnreadLemmas.{from-none, closings-append, closings-said, keys-given}

-- ---- one file

-- a missing file is answered as one that was not read
unread-few : {T : Type 0} (tells : Bool) (bytes : Result (Vec ℕ) WholeFault) (result : Result T Refusal) → AnswersRead bytes result
    → one_if (is_missing bytes && not tells) ≤ one_if (is_unopened result && not tells)
unread-few tells (Ok v) result answers = omega arith
unread-few tells (Err whole.TooLong) result answers = omega arith
unread-few tells (Err whole.Failed) result answers = omega arith
unread-few tells (Err whole.OutOfMemory) result answers = omega arith
unread-few tells (Err whole.NoFile) (Ok value) answers = absurd answers
unread-few tells (Err whole.NoFile) (Err (Unopened place)) answers = omega arith
unread-few tells (Err whole.NoFile) (Err (BadKeys place)) answers = absurd answers
unread-few tells (Err whole.NoFile) (Err OutOfMemory) answers = absurd answers

-- then nothing is noted but closings
missing-shut : (tells : Bool) (whose : Subject) (bytes : Result (Vec ℕ) WholeFault) (notes : List FaultNote) → NotedAs whose bytes notes
    → one_if (is_missing bytes && not tells) ≡ 1 → AllClosings notes
missing-shut tells whose (Ok v) notes noted one = noted
missing-shut tells whose (Err whole.NoFile) notes noted one = noted
missing-shut tells whose (Err whole.TooLong) notes noted one = noted
missing-shut tells whose (Err whole.Failed) notes noted one = absurd (omega (arith, one))
missing-shut tells whose (Err whole.OutOfMemory) notes noted one = noted

one-named : (named : Option ℕ) → keys_ids named ≡ one_if (is_some named)
one-named None = refl
one-named (Some place) = refl

pub word-counted : {T : Type 0} (tells : Bool) (whose : Subject) (name : List ℕ) (bytes : Result (Vec ℕ) WholeFault) (result : Result T Refusal) (named : Option ℕ) (place : ℕ)
    (kept kept' : List FaultNote) (old new : FileState) → named ≡ Some place → IfOk bytes (λ v. old.given < new.given) → new.given ≤ old.given + 1
    → WordCause tells whose name bytes kept kept' old new → AnswersRead bytes result → CountsWordFiles tells (one_if (is_some named)) result kept kept' old new
word-counted tells whose name bytes result named place kept kept' old new some opens one w answers = record {
  more = w.more;
  added = w.added;
  missed = one_if (is_missing bytes && not tells);
  few = unread-few tells bytes result answers;
  missing = missing-shut tells whose bytes w.more w.noted;
  openings = w.openings;
  ids = let at = ap (λ (o : Option ℕ). one_if (is_some o)) some in omega (arith, at, one);
  opened =
      subst (λ (n : ℕ). IfOk result (λ value. new.given ≡ old.given + n)) (one-named named)
      (keys-given bytes result named place old new some answers opens one);
}

-- without a name nothing was opened
pub none-counted : {T : Type 0} (tells : Bool) (named : Option ℕ) (value : T) (kept : List FaultNote) (state : FileState) → named ≡ None
    → CountsWordFiles tells (one_if (is_some named)) (Ok value) kept kept state state
none-counted tells named value kept state none = record {
  more = [];
  added = sym (append-nil kept);
  missed = 0;
  few = omega arith;
  missing = λ one. tt;
  openings = refl;
  ids = omega arith;
  opened = let at = ap (λ (o : Option ℕ). one_if (is_some o)) none in omega (arith, at);
}

-- ---- both

-- where the keys were taken, nothing is noted but closings
pub keys-shut : (kept kept' : List FaultNote) → kept ≡ [] → AddsClosings kept kept' → AllClosings kept'
keys-shut kept kept' none closings = subst AllClosings (sym (from-none kept kept' closings.more none closings.added)) (closings-said closings.more closings.are)

few-again : (T U : Type 0) (tells : Bool) (refusal : Refusal) (n : ℕ) → n ≤ one_if (is_unopened {T = T} (Err refusal) && not tells)
    → n ≤ one_if (is_unopened {T = U} (Err refusal) && not tells)
few-again T U tells (Unopened place) n few = few
few-again T U tells (BadKeys place) n few = few
few-again T U tells OutOfMemory n few = few

-- the keys file was refused, so the script was not opened
pub keys-counted : (T U : Type 0) (tells : Bool) (files more : ℕ) (refusal : Refusal) (kept kept' : List FaultNote) (old new : FileState) → kept ≡ []
    → CountsWordFiles {T = T} tells files (Err refusal) kept kept' old new → CountsWordFiles {T = U} tells (files + more) (Err refusal) [] kept' old new
keys-counted T U tells files more refusal kept kept' old new none k =
    let same : kept' ≡ k.more = from-none kept kept' k.more none k.added in
    record {
      more = kept';
      added = refl;
      missed = k.missed;
      few = few-again T U tells refusal k.missed k.few;
      missing = λ one. subst AllClosings (sym same) (k.missing one);
      openings = k.openings ∙ ap (λ (l : List FaultNote). raised_by (k.missed + openings_noted l) old.open_faults) (sym same);
      ids = let most = k.ids in omega (arith, most);
      opened = tt;
    }

-- the script behind the keys, which were taken
both-counted : {T U V : Type 0} (tells : Bool) (files more : ℕ) (value : T) (result : Result U Refusal) (result' : Result V Refusal) (kept kept' kept'' : List FaultNote) (old mid new : FileState)
    → kept ≡ [] → AllClosings kept' → CountsWordFiles tells files (Ok value) kept kept' old mid → CountsWordFiles tells more result kept' kept'' mid new
    → ((n : ℕ) → n ≤ one_if (is_unopened result && not tells) → n ≤ one_if (is_unopened result' && not tells)) → IfOk result' (λ v. new.given ≡ old.given + (files + more))
    → CountsWordFiles tells (files + more) result' [] kept'' old new
both-counted tells files more value result result' kept kept' kept'' old mid new none shut k s along given =
    let same : openings_noted kept' ≡ openings_noted k.more = ap openings_noted (from-none kept kept' k.more none k.added) in
    let all : openings_noted kept'' ≡ openings_noted kept' + openings_noted s.more = ap openings_noted s.added ∙ openings-append kept' s.more in
    let few = k.few in
    let sum : (k.missed + openings_noted k.more) + (s.missed + openings_noted s.more) ≡ s.missed + openings_noted kept'' = omega (arith, same, all, few) in
    record {
      more = kept'';
      added = refl;
      missed = s.missed;
      few = along s.missed s.few;
      missing = λ one. subst AllClosings (sym s.added) (closings-append kept' s.more shut (s.missing one));
      openings =
          s.openings ∙ ap (λ (n : ℕ). raised_by (s.missed + openings_noted s.more) n) k.openings
          ∙ sym (raised-both (k.missed + openings_noted k.more) (s.missed + openings_noted s.more) old.open_faults)
          ∙ ap (λ (n : ℕ). raised_by n old.open_faults) sum;
      ids = let first = k.ids in let second = s.ids in omega (arith, first, second);
      opened = given;
    }

pub script-counted : (T U V : Type 0) (tells : Bool) (files more : ℕ) (value : T) (refusal : Refusal) (kept kept' kept'' : List FaultNote) (old mid new : FileState)
    → kept ≡ [] → AllClosings kept' → CountsWordFiles tells files (Ok value) kept kept' old mid → CountsWordFiles {T = U} tells more (Err refusal) kept' kept'' mid new
    → CountsWordFiles {T = V} tells (files + more) (Err refusal) [] kept'' old new
script-counted T U V tells files more value refusal kept kept' kept'' old mid new none shut k s =
    both-counted {U = U} {V = V} tells files more value (Err refusal) (Err refusal) kept kept' kept'' old mid new none shut k s (few-again U V tells refusal) tt

-- both were taken, and memory may have run out behind them
pub taken-counted : {T U V : Type 0} (tells : Bool) (files more : ℕ) (value : T) (value' : U) (begun : V) (kept kept' kept'' : List FaultNote) (old mid new : FileState)
    → kept ≡ [] → AllClosings kept' → CountsWordFiles tells files (Ok value) kept kept' old mid → CountsWordFiles tells more (Ok value') kept' kept'' mid new
    → CountsWordFiles tells (files + more) (Ok begun) [] kept'' old new
taken-counted tells files more value value' begun kept kept' kept'' old mid new none shut k s =
    both-counted tells files more value (Ok value') (Ok begun) kept kept' kept'' old mid new none shut k s (λ n few. few)
    (let first = k.opened in let second = s.opened in omega (arith, first, second))

pub wanting-counted : {T U : Type 0} (V : Type 0) (tells : Bool) (files more : ℕ) (value : T) (value' : U) (kept kept' kept'' : List FaultNote) (old mid new : FileState)
    → kept ≡ [] → AllClosings kept' → CountsWordFiles tells files (Ok value) kept kept' old mid → CountsWordFiles tells more (Ok value') kept' kept'' mid new
    → CountsWordFiles {T = V} tells (files + more) (Err OutOfMemory) [] kept'' old new
wanting-counted V tells files more value value' kept kept' kept'' old mid new none shut k s =
    both-counted {V = V} tells files more value (Ok value') (Err OutOfMemory) kept kept' kept'' old mid new none shut k s (λ n few. few) tt
