-- RESTORE, as its calls say it.
use Rattle.std.proofs.Common.{◌≡◌, ℕ, ◌+◌, ◌||◌, Bool, true, false, List, [], ◌∷◌, ◌++◌, length, map, drop, is_some, IfSome, Option, Some, None, Result, Ok, Err, refl, ap, sym, ◌∙◌, subst, if◌then◌else◌, append-nil, append_assoc}
use Rattle.std.specs.List.{take_while}
use Rattle.std.proofs.lemmas.List.{length_push}
use Rattle.std.specs.Global.{Vec}
use Rattle.std.proofs.lemmas.Bool.{eq-eqb}
use Rattle.file_traits.specs.declared.files.FileCall.{FileCall}
use Rattle.file_traits.specs.declared.files.FileCall.TheVariants.{Opening, Length, Read}
use Rattle.observations.specs.Observations.{text_of, sent_of}
use Rattle.unit_trait.specs.declared.kind.UnitName.{UnitName}
use Rattle.unit_files.specs.declared.faults.UnitFault.{UnitFault}
use Rattle.unit_files.specs.Acts.{Failure}
use Rattle.unit_files.specs.Answers.{failure_in}
use Rattle.unit_files.specs.Attachments.{no_attachments}
use Rattle.file_commands.specs.declared.note.Subject.TheVariants as subject
use Rattle.file_commands.specs.declared.note.FaultNote.{FaultNote}
use Rattle.file_commands.specs.declared.stamp.Stamp.{Stamp}
use Rattle.file_commands.specs.Kept.{fault_note, own_note}
use Rattle.file_commands.specs.Notes.{CommandNote, Note, numbered, notes_said, said_of}
use Rattle.whole_files.specs.declared.whole.Whole.{Whole}
use Rattle.whole_files.specs.declared.whole.WholeFault.{WholeFault}
use Rattle.whole_files.specs.declared.whole.WholeFault.TheVariants as unread
use Rattle.whole_files.specs.Whole.{WholeSaid, WholeIs, NotThere, TooLong, CallFailed, whole_act}
use Rattle.whole_files.specs.Claims.{claimed}
use Rattle.nova_machine.specs.Comes.{Output}
use Rattle.nova_machine.specs.LineChanges.{heard_with}
use Rattle.nova_machine.specs.Seen.{attached_in}
use Rattle.nova_machine.proofs.Hearing.{heard-nothing}
use Rattle.state_text.specs.declared.fault.StateFault.{StateFault}
use Rattle.state_text.specs.declared.fault.StateFault.TheVariants as state
use Rattle.saved_session.specs.Parts.{State}
use Rattle.state_transfer.specs.PutBack.{misses_unit}
use Rattle.state_text.specs.Reading.{reading}
use Rattle.saved_files.specs.Putting.{FileRefusal, CallFails, first_refused}
use Rattle.command_session.specs.declared.next.Next.TheVariants.{Ran}
use Rattle.command_session.specs.declared.fault.CommandFault.TheVariants.{Console, OutOfMemory, AlreadyAttached, NoFile, FileTooLong, FileFailed, MissingUnit}
use Rattle.state_commands.specs.StateFaults.{state_fault}
use Rattle.command_session.specs.FaultText.{whole_fault}
use Rattle.command_session.specs.Live.{Live, Standing, standing}
use Rattle.command_session.specs.Reply.{Answer, Reply, refused}
use Rattle.command_session.specs.WholeCalls.{is_of_whole, whole_calls, read_notes}
use Rattle.state_commands.specs.StateEffects.{unit_claim, restored_by, unless_missing, restored_as, restored_from, restore_reply}
use Rattle.command_session.specs.Occupied.{is_occupied}
use Rattle.command_session.specs.Doing.{Does, Did, IsSaid, ComeBehind, IsRestoreAnswer}
use Rattle.host_lines.specs.State.{LineState}
use Rattle.telnet_lines.specs.Line.{LineOf}
use Rattle.telnet_lines.specs.Joined.{seen_line}
use Rattle.unit_files.specs.Attachments.{is_any_attached}
use Rattle.whole_files.specs.Claims.{said_of as said_of_whole, said_of_bytes}
use Rattle.nova_machine.specs.Machine.{MachineState}
use Rattle.nova_machine.specs.Seen.{erased}
use Rattle.state_text.specs.Gives.{Fails}
use Rattle.command_session.specs.Occupied.{has_port}
use Rattle.command_session.proofs.SeenLemmas.{attached-erased}
use Rattle.command_session.proofs.CloseLemmas.{said-append}
use Rattle.state_commands.proofs.LateClaims.{late-unmet, refused-unmet}
use Rattle.command_session.proofs.WholeLemmas.{own_both, state-is, read-calls, read-many, both-said, none-behind, first-note, not-whole}

-- nothing is printed, and what is answered is that of the definition
silent : (reply : Reply) (answer : Answer) (at : Standing) (tells : Bool) (out : Output) → IsRestoreAnswer answer → answer ≡ reply.answer → at ≡ reply.after → reply.made ≡ []
    → Does reply answer at tells out out
silent reply answer at tells out plain is after none = by-answer answer plain is
  where
    said : IsSaid reply at tells out out
    said = record {
      after_is = after;
      written = λ _. sym (ap (λ l. out.console ++ text_of l) none ∙ append-nil out.console);
      heard = sym (ap (λ l. heard_with out.heard (sent_of l)) none ∙ heard-nothing out.heard);
    }

    by-answer : (a : Answer) → IsRestoreAnswer a → a ≡ reply.answer → Does reply a at tells out out
    by-answer (Ok (Ran stop)) plain is = absurd plain
    by-answer (Err Console) plain is = absurd plain
    by-answer (Err OutOfMemory) plain is = tt
    by-answer (Ok next) plain is = (is, said)
    by-answer (Err fault) plain is = (is, said)

drop-all : (front behind : List CommandNote) → drop (length front) (front ++ behind) ≡ behind
drop-all [] behind = refl
drop-all (n ∷ front) behind = drop-all front behind

-- a command that stops so
abbrev pub ends : Answer → ℕ → Live → Reply
ends answer used live = record { made = []; answer = answer; after = standing used live }

-- ---- something is attached

pub occupied-reply : (notes : List CommandNote) (live : Live) (force : Bool) (name : List ℕ) → is_occupied (attached_in live.machine) live.lines ≡ true
    → restore_reply notes live force name ≡ refused AlreadyAttached live
unfolding restore_reply
occupied-reply notes live force name is =
    ap (λ (b : Bool). if b then refused AlreadyAttached live else restored_from force (whole_act (whole_calls subject.State live.machine.time notes) name live.files) notes live) is

-- ---- behind the reading of its file

module _ (live : Live) (force : Bool) (name : List ℕ) (w : Whole) (free : is_occupied (attached_in live.machine) live.lines ≡ false) where
  abbrev pub time : ℕ
  time = live.machine.time

  abbrev pub own : List CommandNote
  own = own_both subject.State time 0 w.failed w.closing

  read-is : (said : WholeSaid) (tail : List CommandNote) → whole_act (claimed w) name live.files ≡ (said, length (claimed w))
      → take_while (is_of_whole subject.State time) tail ≡ []
      → restore_reply (own ++ tail) live force name ≡ restored_from force (said, length own) (own ++ tail) live
  unfolding restore_reply
  read-is said tail read none =
      ap (λ (b : Bool). if b then refused AlreadyAttached live else restored_from force (whole_act (whole_calls subject.State time (own ++ tail)) name live.files) (own ++ tail) live) free
      ∙ ap (λ (calls : List FileCall). restored_from force (whole_act calls name live.files) (own ++ tail) live) (read-calls subject.State time w tail state-is none)
      ∙ ap (λ (x : WholeSaid × ℕ). restored_from force x (own ++ tail) live) (read ∙ ap (λ (n : ℕ). (said, n)) (sym (read-many subject.State time w)))

  module _ (number : ℕ) (tells : Bool) (out : Output) (notes notes' : List FaultNote) where
    kept-own : notes' ≡ notes ++ read_notes subject.State (record { command = number; time = time }) w → notes_said notes' ≡ notes_said notes ++ numbered number own
    kept-own noted =
        ap notes_said noted ∙ said-append notes (read_notes subject.State (record { command = number; time = time }) w)
        ∙ ap (λ (l : List Note). notes_said notes ++ l) (both-said subject.State number time 0 w.failed w.closing)

    -- it ends with what the reading says
    pub unread-did : (said : WholeSaid) (answer : Answer) (new : Live) → IsRestoreAnswer answer
        → ((tail : List CommandNote) → restored_from force (said, length own) tail live ≡ ends answer (length own) live) → new ≡ live
        → whole_act (claimed w) name live.files ≡ (said, length (claimed w))
        → notes' ≡ notes ++ read_notes subject.State (record { command = number; time = time }) w
        → Did (λ (own : List CommandNote). restore_reply own live force name) number answer new tells out out (notes_said notes) (notes_said notes')
    unread-did said answer new plain comes same read noted = record {
      own = own;
      kept = kept-own noted;
      does = λ behind come.
          subst (λ (r : Reply). Does r answer (standing (length own) new) tells out out)
          (sym (read-is said behind read (none-behind subject.State time new behind state-is come) ∙ comes (own ++ behind)))
          (silent (ends answer (length own) live) answer (standing (length own) new) tells out plain refl (ap (standing (length own)) same) refl);
    }

    -- memory ran out for its bytes
    pub unread-want : (new : Live) → notes' ≡ notes ++ read_notes subject.State (record { command = number; time = time }) w
        → Did (λ (own : List CommandNote). restore_reply own live force name) number (Err OutOfMemory) new tells out out (notes_said notes) (notes_said notes')
    unread-want new noted = record { own = own; kept = kept-own noted; does = λ behind come. tt }

    -- its bytes are no state
    pub unfit-did : (bytes : List ℕ) (fault : StateFault) (new : Live) → (fault ≡ state.OutOfMemory → ⊥) → reading bytes ≡ Err fault → new ≡ live
        → whole_act (claimed w) name live.files ≡ (WholeIs bytes, length (claimed w))
        → notes' ≡ notes ++ read_notes subject.State (record { command = number; time = time }) w
        → Did (λ (own : List CommandNote). restore_reply own live force name) number (Err (state_fault fault)) new tells out out (notes_said notes) (notes_said notes')
    unfit-did bytes fault new some is same read noted =
        unread-did (WholeIs bytes) (Err (state_fault fault)) new (plain-fault fault)
        (λ tail. ap (λ (r : Result State StateFault). restored_as force (length own) (drop (length own) tail) r live) is) same read noted
      where
        plain-fault : (f : StateFault) → IsRestoreAnswer (Err (state_fault f))
        plain-fault state.NotState = tt
        plain-fault (state.Version version) = tt
        plain-fault (state.BadDigest kept found) = tt
        plain-fault (state.BadField place) = tt
        plain-fault state.Truncated = tt
        plain-fault state.OutOfMemory = tt

    -- it has a unit that is missing
    pub missing-did : (bytes : List ℕ) (s : State) → reading bytes ≡ Ok s → whole_act (claimed w) name live.files ≡ (WholeIs bytes, length (claimed w))
        → misses_unit s.machine live.machine.units ≡ true → (new : Live) → new ≡ live
        → notes' ≡ notes ++ read_notes subject.State (record { command = number; time = time }) w
        → Did (λ (own : List CommandNote). restore_reply own live force name) number (Err MissingUnit) new tells out out (notes_said notes) (notes_said notes')
    missing-did bytes s is read misses new same noted =
        unread-did (WholeIs bytes) (Err MissingUnit) new tt
        (λ tail. ap (λ (r : Result State StateFault). restored_as force (length own) (drop (length own) tail) r live) is
        ∙ ap (λ (b : Bool). unless_missing b (length own) live
        (restored_by (first_refused (unit_claim time (drop (length own) tail)) force s.files no_attachments live.files) (length own) s live)) misses)
        same read noted

    module _ (bytes : List ℕ) (s : State) (is : reading bytes ≡ Ok s) (read : whole_act (claimed w) name live.files ≡ (WholeIs bytes, length (claimed w)))
        (found : misses_unit s.machine live.machine.units ≡ false) where
      as-state : (tail : List CommandNote) → restored_from force (WholeIs bytes, length own) (own ++ tail) live
          ≡ restored_by (first_refused (unit_claim time tail) force s.files no_attachments live.files) (length own) s live
      as-state tail =
          ap (λ (r : Result State StateFault). restored_as force (length own) (drop (length own) (own ++ tail)) r live) is
          ∙ ap (λ (b : Bool). unless_missing b (length own) live
          (restored_by (first_refused (unit_claim time (drop (length own) (own ++ tail))) force s.files no_attachments live.files) (length own) s live)) found
          ∙ ap (λ (l : List CommandNote). restored_by (first_refused (unit_claim time l) force s.files no_attachments live.files) (length own) s live) (drop-all own tail)

      -- what comes behind is no call of these files
      late-same : (new : Live) (behind : List CommandNote) → ComeBehind new behind
          → first_refused (unit_claim time behind) force s.files no_attachments live.files ≡ first_refused None force s.files no_attachments live.files
      late-same new behind come =
          refused-unmet (unit_claim time behind) force live.files (late-unmet Opening new time behind come refl (λ written. refl))
          (late-unmet Length new time behind come refl (λ written. refl)) (late-unmet Read new time behind come refl (λ written. refl)) s.files no_attachments

      -- no call on the files of its units failed
      pub back-did : (answer : Answer) (new end : Live) → IsRestoreAnswer answer
          → restored_by (first_refused None force s.files no_attachments live.files) (length own) s live ≡ ends answer (length own) end → new ≡ end
          → notes' ≡ notes ++ read_notes subject.State (record { command = number; time = time }) w
          → Did (λ (own : List CommandNote). restore_reply own live force name) number answer new tells out out (notes_said notes) (notes_said notes')
      back-did answer new end plain comes same noted = record {
        own = own;
        kept = kept-own noted;
        does = λ behind come.
            subst (λ (r : Reply). Does r answer (standing (length own) new) tells out out)
            (sym (read-is (WholeIs bytes) behind read (none-behind subject.State time new behind state-is come) ∙ as-state behind
            ∙ ap (λ (o : Option (UnitName × FileRefusal)). restored_by o (length own) s live) (late-same new behind come) ∙ comes))
            (silent (ends answer (length own) end) answer (standing (length own) new) tells out plain refl (ap (standing (length own)) same) refl);
      }

      -- one failed
      pub failed-did : (f : UnitFault) (new : Live)
          → first_refused (Some (f.unit, failure_in f)) force s.files no_attachments live.files ≡ Some (f.unit, CallFails (failure_in f)) → new ≡ live
          → notes' ≡ (notes ++ read_notes subject.State (record { command = number; time = time }) w) ++ fault_note (record { command = number; time = time }) f ∷ []
          → Did (λ (own : List CommandNote). restore_reply own live force name) number (Err (FileFailed (subject.Unit f.unit))) new tells out out (notes_said notes) (notes_said notes')
      failed-did f new refusal same noted = record {
        own = own ++ own_note time f ∷ [];
        kept = kept-all;
        does = λ behind come.
            subst (λ (r : Reply). Does r (Err (FileFailed (subject.Unit f.unit))) (standing (length (own ++ own_note time f ∷ [])) new) tells out out) (sym (reply-is behind))
            (silent (ends (Err (FileFailed (subject.Unit f.unit))) (length own + 1) live) (Err (FileFailed (subject.Unit f.unit))) (standing (length (own ++ own_note time f ∷ [])) new)
            tells out tt refl (λ i. standing (one-more own i) (same i)) refl);
      }
        where
          stamp : Stamp
          stamp = record { command = number; time = time }

          one-more : (l : List CommandNote) → length (l ++ own_note time f ∷ []) ≡ length l + 1
          one-more l = length_push l (own_note time f)

          numbered-more : (l : List CommandNote) → numbered number (l ++ own_note time f ∷ []) ≡ numbered number l ++ said_of (fault_note stamp f) ∷ []
          numbered-more [] = refl
          numbered-more (n ∷ l) = ap (λ (more : List Note). record { command = number; note = n } ∷ more) (numbered-more l)

          kept-all : notes_said notes' ≡ notes_said notes ++ numbered number (own ++ own_note time f ∷ [])
          kept-all =
              ap notes_said noted ∙ said-append (notes ++ read_notes subject.State stamp w) (fault_note stamp f ∷ [])
              ∙ ap (λ (l : List Note). l ++ said_of (fault_note stamp f) ∷ [])
              (said-append notes (read_notes subject.State stamp w) ∙ ap (λ (l : List Note). notes_said notes ++ l) (both-said subject.State number time 0 w.failed w.closing))
              ∙ append_assoc (notes_said notes) (numbered number own) (said_of (fault_note stamp f) ∷ [])
              ∙ ap (λ (l : List Note). notes_said notes ++ l) (sym (numbered-more own))

          unit-first : (behind : List CommandNote) → take_while (is_of_whole subject.State time) (own_note time f ∷ behind) ≡ []
          unit-first behind = first-note subject.State time (own_note time f) behind false (not-whole subject.State time (own_note time f) f.unit state-is refl)

          claim-is : (behind : List CommandNote) → unit_claim time (own_note time f ∷ behind) ≡ Some (f.unit, failure_in f)
          claim-is behind = ap (λ (b : Bool). if b then Some (f.unit, failure_in f) else None) (eq-eqb time time refl)

          reply-is : (behind : List CommandNote) → restore_reply ((own ++ own_note time f ∷ []) ++ behind) live force name
              ≡ ends (Err (FileFailed (subject.Unit f.unit))) (length own + 1) live
          reply-is behind =
              ap (λ (l : List CommandNote). restore_reply l live force name) (append_assoc own (own_note time f ∷ []) behind)
              ∙ read-is (WholeIs bytes) (own_note time f ∷ behind) read (unit-first behind)
              ∙ as-state (own_note time f ∷ behind)
              ∙ ap (λ (claim : Option (UnitName × Failure)). restored_by (first_refused claim force s.files no_attachments live.files) (length own) s live) (claim-is behind)
              ∙ ap (λ (o : Option (UnitName × FileRefusal)). restored_by o (length own) s live) refusal

-- ---- seen as it stands

has-port-seen : (s : LineState) (lines : List (LineOf ℕ)) → has_port (map (seen_line s) lines) ≡ has_port lines
has-port-seen s [] = refl
has-port-seen s (line ∷ lines) = ap (λ (b : Bool). is_some line.port || b) (has-port-seen s lines)

pub occupied-seen : (s : LineState) (m : MachineState) → is_occupied (attached_in (erased m)) (map (seen_line s) m.lines) ≡ is_occupied (attached_in m) m.lines
occupied-seen s m = λ i. is_any_attached (attached-erased m i) || has-port-seen s m.lines i

-- ---- by the fault of the reading

pub unread-by : (live : Live) (force : Bool) (name : List ℕ) (w : Whole) (number : ℕ) (tells : Bool) (out : Output) (notes notes' : List FaultNote) (why : WholeFault) (answer : Answer) (new : Live)
    → is_occupied (attached_in live.machine) live.lines ≡ false → w.bytes ≡ Err why → answer ≡ Err (whole_fault subject.State why) → new ≡ live
    → IfSome (said_of_whole w) (λ (said : WholeSaid). whole_act (claimed w) name live.files ≡ (said, length (claimed w)))
    → notes' ≡ notes ++ read_notes subject.State (record { command = number; time = live.machine.time }) w
    → Did (λ (own : List CommandNote). restore_reply own live force name) number answer new tells out out (notes_said notes) (notes_said notes')
unread-by live force name w number tells out notes notes' why answer new free is answered same told noted =
    subst (λ (a : Answer). Did (λ (own : List CommandNote). restore_reply own live force name) number a new tells out out (notes_said notes) (notes_said notes')) (sym answered)
    (by why (subst (λ (r : Result (Vec ℕ) WholeFault). IfSome (said_of_bytes r) (λ (said : WholeSaid). whole_act (claimed w) name live.files ≡ (said, length (claimed w)))) is told))
  where
    by : (why : WholeFault) → IfSome (said_of_bytes (Err why)) (λ (said : WholeSaid). whole_act (claimed w) name live.files ≡ (said, length (claimed w)))
        → Did (λ (own : List CommandNote). restore_reply own live force name) number (Err (whole_fault subject.State why)) new tells out out (notes_said notes) (notes_said notes')
    by unread.NoFile told = unread-did live force name w free number tells out notes notes' NotThere (Err NoFile) new tt (λ tail. refl) same told noted
    by unread.TooLong told = unread-did live force name w free number tells out notes notes' TooLong (Err FileTooLong) new tt (λ tail. refl) same told noted
    by unread.Failed told = unread-did live force name w free number tells out notes notes' CallFailed (Err (FileFailed subject.State)) new tt (λ tail. refl) same told noted
    by unread.OutOfMemory told = unread-want live force name w free number tells out notes notes' new noted

-- its bytes are no state
pub unfit-by : (live : Live) (force : Bool) (name : List ℕ) (w : Whole) (number : ℕ) (tells : Bool) (out : Output) (notes notes' : List FaultNote) (bytes : List ℕ) (fault : StateFault) (answer : Answer) (new : Live)
    → is_occupied (attached_in live.machine) live.lines ≡ false → Fails fault (reading bytes) → answer ≡ Err (state_fault fault) → new ≡ live
    → whole_act (claimed w) name live.files ≡ (WholeIs bytes, length (claimed w))
    → notes' ≡ notes ++ read_notes subject.State (record { command = number; time = live.machine.time }) w
    → Did (λ (own : List CommandNote). restore_reply own live force name) number answer new tells out out (notes_said notes) (notes_said notes')
unfit-by live force name w number tells out notes notes' bytes fault answer new free fails answered same read noted =
    subst (λ (a : Answer). Did (λ (own : List CommandNote). restore_reply own live force name) number a new tells out out (notes_said notes) (notes_said notes')) (sym answered) (by fault fails)
  where
    by : (f : StateFault) → Fails f (reading bytes) → Did (λ (own : List CommandNote). restore_reply own live force name) number (Err (state_fault f)) new tells out out (notes_said notes) (notes_said notes')
    by state.NotState fails = unfit-did live force name w free number tells out notes notes' bytes state.NotState new (λ is. absurd (cc)) fails same read noted
    by (state.Version v) fails = unfit-did live force name w free number tells out notes notes' bytes (state.Version v) new (λ is. absurd (cc)) fails same read noted
    by (state.BadDigest kept found) fails = unfit-did live force name w free number tells out notes notes' bytes (state.BadDigest kept found) new (λ is. absurd (cc)) fails same read noted
    by (state.BadField place) fails = unfit-did live force name w free number tells out notes notes' bytes (state.BadField place) new (λ is. absurd (cc)) fails same read noted
    by state.Truncated fails = unfit-did live force name w free number tells out notes notes' bytes state.Truncated new (λ is. absurd (cc)) fails same read noted
    by state.OutOfMemory fails = unread-want live force name w free number tells out notes notes' new noted
