-- What SAVE leaves of a session, and what RESTORE puts in place of the one that was saved.
use Rattle.std.proofs.Common.{◌≡◌, ℕ, zero, suc, Bool, true, false, List, [], ◌∷◌, ◌++◌, length, map, drop, inl, inr, Option, Some, None, IsTrue, Result, Ok, Err, refl, ap, sym, ◌∙◌, subst, arith, if◌then◌else◌}
use Rattle.std.specs.Prelude.{nat_lt, nat_le, ◌&&◌, slice_get, is_some, IsSome, unwrap_or}
use Rattle.std.specs.Str.{bytes_eq}
use Rattle.std.proofs.lemmas.List.{length-map}
use Rattle.file_traits.specs.declared.files.FileCall.{FileCall}
use Rattle.file_traits.specs.declared.files.FileCall.TheVariants.{Opening, Length, Read, Closing}
use Rattle.file_traits.specs.Lists.{NamedBytes, find_file, bytes_of, with_file}
use Rattle.file_traits.proofs.Changes.{test-same}
use Rattle.host_lines.specs.Traffic.{Ahead, Answer as LineAnswer, Failed, listening}
use Rattle.telnet_lines.specs.Line.{LineOf}
use Rattle.unit_trait.specs.declared.kind.UnitName.{UnitName}
use Rattle.unit_files.specs.declared.modes.AttachMode.TheVariants as modes
use Rattle.unit_files.specs.Acts.{Failure, failure_at, attach_said, opening_said, opened_said, flush_said, flushed_as, is_due_back}
use Rattle.unit_files.specs.Attachments.{Attachment, attachment_at, file_units, no_attachments}
use Rattle.unit_files.specs.Buffer.{Buffer, disk_unit}
use Rattle.unit_files.specs.Digests.{digest_read, digest_flushed}
use Rattle.file_commands.specs.declared.note.Subject.TheVariants as subject
use Rattle.file_commands.specs.Notes.{CommandNote}
use Rattle.whole_files.specs.Whole.{WholeSaid, WholeIs, NotThere, TooLong, CallFailed, longest_file, closed, bytes_act, open_act, found_act, whole_act}
use Rattle.whole_files.specs.Writing.{write_act}
use Rattle.terminal_ports.specs.Rows.{row_from}
use Rattle.terminal_ports.specs.Listening.{unless_failed, listening_each}
use Rattle.nova_machine.specs.Machine.{console_place, place_of as line_place}
use Rattle.nova_machine.specs.Seen.{attached_in}
use Rattle.nova_machine.specs.Valid.{CopyIsFile}
use Rattle.state_text.specs.declared.fault.StateFault.{StateFault}
use Rattle.saved_files.specs.declared.taking.UnitPlace.{UnitPlace}
use Rattle.saved_session.specs.declared.saved.SavedPorts.{SavedPorts}
use Rattle.state_transfer.specs.Ports.{how_many, multiplexer_lines, assigned, ports_wanted}
use Rattle.saved_session.specs.Parts.{State, FilePart}
use Rattle.saved_session.specs.Ranges.{kind_at}
use Rattle.state_transfer.specs.PutBack.{misses_unit, machine_from, lines_from, put_back}
use Rattle.saved_session.specs.SavedWatch.{watch_from}
use Rattle.state_text.specs.Reading.{reading}
use Rattle.saved_files.specs.Putting.{FileRefusal, unit_of, is_only_read, mode_of, with_file as with_part, behind_attaching, refusal_of, at_unit, first_of, first_refused}
use Rattle.saved_files.specs.Taking.{unit_at, place_of, file_places, saved_file, saved_at, saved_files, undigested, failing_first, first_undigested, unless_unflushed, files_flushed, first_unsaved}
use Rattle.state_transfer.specs.Session.{saved_machine, saved_ports, saved}
use Rattle.saved_session.specs.SavedWatch.{saved_watch}
use Rattle.state_text.specs.Text.{text}
use Rattle.state_laws.proofs.SavedValidLemmas.{saved-is-valid}
use Rattle.state_laws.proofs.PutBackLemmas.{files-back, saving-puts-back}
use Rattle.scp_parser.specs.Command.{Save, Restore}
use Rattle.command_session.specs.declared.next.Next.TheVariants.{Go}
use Rattle.command_session.specs.declared.fault.CommandFault.TheVariants.{AlreadyAttached}
use Rattle.command_session.specs.Live.{Live}
use Rattle.command_session.specs.DiskFile.{is_of_both, is_left_by_disk, is_by_disk_at, disk_alone}
use Rattle.command_session.specs.Reply.{Reply, refused}
use Rattle.command_session.specs.WholeCalls.{whole_calls}
use Rattle.state_commands.specs.StateEffects.{unit_claim, flushed_with, save_by, save_reply, listened_back, restored_by, unless_missing, restored_as, restored_from, restore_reply}
use Rattle.command_session.specs.Occupied.{is_occupied}
use Rattle.scp_commands.specs.Effect.{effect}
use Rattle.command_laws.proofs.AtRest.{savable}
use Rattle.command_laws.proofs.OwnLines.{kinds-by-lines}
use Rattle.state_text.proofs.LooseLaws.{valid_widths}
use Rattle.state_text.proofs.OwnTexts.{read_own, read_own_first}
use Rattle.command_laws.specs.Valid.{ValidLive}
use Rattle.command_laws.specs.Resumption.{done_with, left_by_save, ahead_behind, ports_saved, continued, saved_among, HoldsSaved, IsSavable, IsLike, IsRestored, RestorePutsBack}

-- ---- a file that is read whole

-- what is said of a file that has these bytes, where it is read
IsOf : List ℕ → WholeSaid → Type 0
IsOf all (WholeIs bytes) = bytes ≡ all
IsOf all said = Unit {0}

closed-said : (said : WholeSaid) (failing : List FileCall) (met : ℕ) → (closed said failing met).0 ≡ said
closed-said said [] met = refl
closed-said said (Closing ∷ failing) met = refl
closed-said said (call ∷ failing) met = refl

of-closed : (all : List ℕ) (said : WholeSaid) (failing : List FileCall) (met : ℕ) → IsOf all said → IsOf all (closed said failing met).0
of-closed all said failing met is = subst (IsOf all) (sym (closed-said said failing met)) is

of-bytes : (failing : List FileCall) (bytes : List ℕ) → IsOf bytes (bytes_act failing bytes).0
unfolding IsOf
of-bytes [] bytes = of-closed bytes (WholeIs bytes) [] 0 refl
of-bytes (Read ∷ failing) [] = of-closed [] (WholeIs []) (Read ∷ failing) 0 refl
of-bytes (Read ∷ failing) (b ∷ bytes) = of-closed (b ∷ bytes) CallFailed failing 1 tt
of-bytes (call ∷ failing) bytes = of-closed bytes (WholeIs bytes) (call ∷ failing) 0 refl

of-measured : (b : Bool) (failing : List FileCall) (bytes : List ℕ) → IsOf bytes (if b then closed TooLong failing 0 else bytes_act failing bytes).0
unfolding IsOf
of-measured true failing bytes = of-closed bytes TooLong failing 0 tt
of-measured false failing bytes = of-bytes failing bytes

of-open : (failing : List FileCall) (bytes : List ℕ) → IsOf bytes (open_act failing bytes).0
unfolding IsOf
of-open [] bytes = of-measured (nat_lt longest_file (length bytes)) [] bytes
of-open (Length ∷ failing) bytes = of-closed bytes CallFailed failing 1 tt
of-open (call ∷ failing) bytes = of-measured (nat_lt longest_file (length bytes)) (call ∷ failing) bytes

of-found : (failing : List FileCall) (o : Option (List ℕ)) → IsOf (unwrap_or o []) (found_act failing o).0
unfolding IsOf
of-found failing None = tt
of-found failing (Some bytes) = of-open failing bytes

of-whole : (failing : List FileCall) (name : List ℕ) (files : List NamedBytes) → IsOf (bytes_of files name) (whole_act failing name files).0
unfolding IsOf whole_act
of-whole [] name files = of-found [] (find_file files name)
of-whole (Opening ∷ failing) name files = tt
of-whole (call ∷ failing) name files = of-found (call ∷ failing) (find_file files name)

-- ---- RESTORE

-- what comes to be where ports are listened on, and that is done
all-heard : (ports : List ℕ) (ahead : Ahead) (used : ℕ) (v : State) (live : Live) → (listened_back (listening_each ports ahead) used v live).answer ≡ Ok Go
    → listened_back (listening_each ports ahead) used v live ≡ done_with used (record (put_back v live) { ahead = ahead_behind ports ahead })
unfolding listening_each
all-heard [] ahead used v live done = refl
all-heard (port ∷ ports) ahead used v live done = by (listening ahead).answer (all-heard ports (listening ahead).ahead used v live) done
  where
    after : Reply
    after = done_with used (record (put_back v live) { ahead = ahead_behind ports (listening ahead).ahead })

    by : (a : LineAnswer)
        → ((listened_back (listening_each ports (listening ahead).ahead) used v live).answer ≡ Ok Go → listened_back (listening_each ports (listening ahead).ahead) used v live ≡ after)
        → (listened_back (unless_failed a (listening ahead).ahead (listening_each ports)) used v live).answer ≡ Ok Go
        → listened_back (unless_failed a (listening ahead).ahead (listening_each ports)) used v live ≡ after
    by Failed more done = absurd (cc)
    by other more done = more done

-- as many lines are there at the same places
there-same : {P Q : Type 0} (place : ℕ) (lines : List (LineOf P)) (others : List (LineOf Q)) → length lines ≡ length others → is_some (slice_get lines place) ≡ is_some (slice_get others place)
there-same place [] [] same = refl
there-same place [] (k ∷ others) same = absurd (omega (arith, same))
there-same place (l ∷ lines) [] same = absurd (omega (arith, same))
there-same zero (l ∷ lines) (k ∷ others) same = refl
there-same (suc place) (l ∷ lines) (k ∷ others) same = there-same place lines others (omega (arith, same))

wanted-same : {P Q : Type 0} (p : SavedPorts) (lines : List (LineOf P)) (others : List (LineOf Q)) → length lines ≡ length others → ports_wanted p lines ≡ ports_wanted p others
unfolding assigned
wanted-same p lines others same =
    let one = there-same (line_place 0) lines others same in
    let last = there-same (line_place multiplexer_lines) lines others same in
    λ i. map (λ (g : ℕ × ℕ). g.1) (row_from (how_many p.tti1 1 (one i)) (line_place 0) p.tti1
    ++ (row_from (how_many p.qty multiplexer_lines (last i)) (line_place 1) p.qty
    ++ row_from (how_many p.console 1 true) console_place p.console))

-- the first file of a session in which the disk has one is the disk's
first-file : (files : List NamedBytes) (attached : List (Option Attachment)) (a : Attachment) → attachment_at attached disk_unit ≡ Some a
    → (rest : List FilePart) × (saved_files files attached file_places ≡ saved_file (place_of 0 0) a (bytes_of files a.name) ∷ rest)
unfolding file_places kind_at
first-file files attached a at =
    let rest = saved_files files attached (drop 1 file_places) in
    (rest, ap (λ (o : Option Attachment). saved_at files (place_of 0 0) o ++ rest) at)

-- where no file is refused, the first one is not
first-kept : (fails : Option (UnitName × Failure)) (force : Bool) (f : FilePart) (fs : List FilePart) (attached : List (Option Attachment)) (files : List NamedBytes)
    → first_refused fails force (f ∷ fs) attached files ≡ None → refusal_of (at_unit (unit_of f) fails) force f attached files ≡ None
unfolding first_refused
first-kept fails force f fs attached files none = by (refusal_of (at_unit (unit_of f) fails) force f attached files) none
  where
    by : (o : Option FileRefusal) → first_of o (unit_of f) (first_refused fails force fs (with_part attached f) files) ≡ None → o ≡ None
    by None none = refl
    by (Some refusal) none = absurd (cc)

-- and a file that is not refused is there
module _ (fault : Option Failure) (name : List ℕ) (files : List NamedBytes) (force : Bool) (f : FilePart) (bytes : List ℕ) where
  found-there : (found : Option (List ℕ)) → behind_attaching (opened_said fault disk_unit name (if is_some found then Some files else None)) fault force f bytes ≡ None → IsSome found
  found-there None none = absurd (cc)
  found-there (Some all) none = refl

  read-there : (o : Option Failure) → behind_attaching (opening_said o fault modes.ReadOnly disk_unit name files) fault force f bytes ≡ None → IsSome (find_file files name)
  read-there (Some g) none = absurd (cc)
  read-there None none = found-there (find_file files name) none

  changed-there : (o : Option Failure) → behind_attaching (opening_said o fault modes.MustExist disk_unit name files) fault force f bytes ≡ None → IsSome (find_file files name)
  changed-there (Some g) none = absurd (cc)
  changed-there None none = found-there (find_file files name) none

  mode-there : (b : Bool) → behind_attaching (attach_said fault (mode_of b) disk_unit name no_attachments files) fault force f bytes ≡ None → IsSome (find_file files name)
  unfolding attach_said
  mode-there true none = read-there (failure_at Opening fault) none
  mode-there false none = changed-there (failure_at Opening fault) none

kept-there : (fails : Option Failure) (force : Bool) (a : Attachment) (then_bytes : List ℕ) (files : List NamedBytes)
    → refusal_of fails force (saved_file (place_of 0 0) a then_bytes) no_attachments files ≡ None → IsSome (find_file files a.name)
unfolding refusal_of kind_at
kept-there fails force a then_bytes files none =
    let f = saved_file (place_of 0 0) a then_bytes in
    mode-there fails a.name files force f (bytes_of files a.name) (is_only_read f) none

module _ (live s : Live) (then_files : List NamedBytes) (name : List ℕ) (holds : HoldsSaved live.files then_files name s) (like : IsLike live s) where
  abbrev what : State
  what = saved_among then_files s

  can : IsSavable then_files s
  can = savable s then_files holds.rest holds.lengths

  twelve : length (attached_in s.machine) ≡ file_units
  twelve = length-map s.machine.slots _ ∙ can.can.places

  -- what is attached does not depend on the bytes of files
  among : put_back what live ≡ put_back (saved s) live
  among =
      ap (λ (attached : List (Option Attachment)). record live {
        machine = machine_from (saved_machine s.machine) live.machine.units attached live.files;
        watch = watch_from (saved_watch s.watch);
        lines = lines_from (saved_ports s.lines) live.lines;
      })
      (files-back then_files (attached_in s.machine) twelve ∙ sym (files-back s.files (attached_in s.machine) twelve))

  in-place : record (put_back what live) { ahead = ahead_behind (ports_saved s) live.ahead } ≡ continued s live
  in-place =
      ap (λ (l : Live). record l { ahead = ahead_behind (ports_saved s) live.ahead }) (among ∙ saving-puts-back.back s live can.can like.files like.kinds like.many)
      ∙ ap (λ (files : List NamedBytes). record s { keys = live.keys; files = files; ahead = ahead_behind (ports_saved s) live.ahead }) (sym like.files)

  -- it is the only session that its bytes say
  only-what : (v : State) → reading (bytes_of live.files name) ≡ Ok v → v ≡ what
  only-what v read = elim holds.bytes [
    | inl now ↦ read_own what v can.fits can.widths (sym (ap reading now) ∙ read)
    | inr first ↦ read_own_first what v can.fits can.widths first.0 (sym (ap reading first.1) ∙ read)
  ]

  by-files : (o : Option (UnitName × FileRefusal)) (used : ℕ) → (restored_by o used what live).answer ≡ Ok Go → restored_by o used what live ≡ done_with used (continued s live)
  by-files (Some refusal) used done = absurd (cc)
  by-files None used done =
      all-heard (ports_wanted (saved_ports s.lines) live.lines) live.ahead used what live done
      ∙ ap (λ (ports : List ℕ). done_with used (record (put_back what live) { ahead = ahead_behind ports live.ahead })) (wanted-same (saved_ports s.lines) live.lines s.lines like.many)
      ∙ ap (done_with used) in-place

  abbrev Puts : Reply → ℕ → Type 0
  Puts reply used = reply.answer ≡ Ok Go → reply ≡ done_with used (continued s live)

  found-puts : (b : Bool) (reply : Reply) (used : ℕ) → Puts reply used → Puts (unless_missing b used live reply) used
  found-puts true reply used puts = λ done. absurd (cc)
  found-puts false reply used puts = puts

  by-state : (bytes : List ℕ) → bytes ≡ bytes_of live.files name → (force : Bool) (used : ℕ) (notes : List CommandNote) (r : Result State StateFault) → reading bytes ≡ r → Puts (restored_as force used notes r live) used
  by-state bytes is force used notes (Err fault) read = λ done. absurd (cc)
  by-state bytes is force used notes (Ok v) read =
      subst (λ (w : State). Puts (restored_as force used notes (Ok w) live) used) (sym (only-what v (ap reading (sym is) ∙ read)))
      (found-puts (misses_unit what.machine live.machine.units) _ used (by-files (first_refused (unit_claim live.machine.time notes) force what.files no_attachments live.files) used))

  by-said : (said : WholeSaid) (used : ℕ) → IsOf (bytes_of live.files name) said → (force : Bool) (notes : List CommandNote) → Puts (restored_from force (said, used) notes live) used
  unfolding IsOf
  by-said (WholeIs bytes) used is force notes = by-state bytes is force used (drop used notes) (reading bytes) refl
  by-said NotThere used is force notes = λ done. absurd (cc)
  by-said TooLong used is force notes = λ done. absurd (cc)
  by-said CallFailed used is force notes = λ done. absurd (cc)

  used-so : (reply : Reply) (met used : ℕ) → reply.after.used ≡ used → reply ≡ done_with met (continued s live) → reply ≡ done_with used (continued s live)
  used-so reply met used uses is = is ∙ ap (λ (n : ℕ). done_with n (continued s live)) (sym (ap (λ (r : Reply). r.after.used) is) ∙ uses)

  by-occupied : (b : Bool) (reply : Reply) (met used : ℕ) → Puts reply met → (if b then refused AlreadyAttached live else reply).answer ≡ Ok Go → (if b then refused AlreadyAttached live else reply).after.used ≡ used
      → (if b then refused AlreadyAttached live else reply) ≡ done_with used (continued s live)
  by-occupied true reply met used puts done uses = absurd (cc)
  by-occupied false reply met used puts done uses = used-so reply met used uses (puts done)

  is-restored : (limit : ℕ) (notes : List CommandNote) (force : Bool) (used : ℕ) → IsRestored limit notes live force name used → effect limit notes live (Restore force name) ≡ done_with used (continued s live)
  unfolding effect restore_reply
  is-restored limit notes force used is =
      let calls = whole_calls subject.State live.machine.time notes in
      let read = whole_act calls name live.files in
      by-occupied (is_occupied (attached_in live.machine) live.lines) (restored_from force read notes live) read.1 used
      (by-said read.0 read.1 (of-whole calls name live.files) force notes) is.done is.uses

  -- ---- its files

  by-attached : (o : Option (UnitName × FileRefusal)) (used : ℕ) → (restored_by o used what live).answer ≡ Ok Go → o ≡ None
  by-attached (Some refusal) used done = absurd (cc)
  by-attached None used done = refl

  -- none was refused
  abbrev Attached : Bool → List CommandNote → Type 0
  Attached force notes = first_refused (unit_claim live.machine.time notes) force what.files no_attachments live.files ≡ None

  found-answer : (b : Bool) (reply : Reply) (used : ℕ) → (unless_missing b used live reply).answer ≡ Ok Go → reply.answer ≡ Ok Go
  found-answer true reply used done = absurd (cc)
  found-answer false reply used done = done

  state-attached : (bytes : List ℕ) → bytes ≡ bytes_of live.files name → (force : Bool) (used : ℕ) (notes : List CommandNote) (r : Result State StateFault) → reading bytes ≡ r
      → (restored_as force used notes r live).answer ≡ Ok Go → Attached force notes
  state-attached bytes is force used notes (Err fault) read = λ done. absurd (cc)
  state-attached bytes is force used notes (Ok v) read =
      subst (λ (w : State). (restored_as force used notes (Ok w) live).answer ≡ Ok Go → Attached force notes) (sym (only-what v (ap reading (sym is) ∙ read)))
      (λ done. by-attached (first_refused (unit_claim live.machine.time notes) force what.files no_attachments live.files) used
      (found-answer (misses_unit what.machine live.machine.units) _ used done))

  said-attached : (said : WholeSaid) (used : ℕ) → IsOf (bytes_of live.files name) said → (force : Bool) (notes : List CommandNote) → (restored_from force (said, used) notes live).answer ≡ Ok Go
      → (left : List CommandNote) × Attached force left
  unfolding IsOf
  said-attached (WholeIs bytes) used is force notes = λ done. (drop used notes, state-attached bytes is force used (drop used notes) (reading bytes) refl done)
  said-attached NotThere used is force notes = λ done. absurd (cc)
  said-attached TooLong used is force notes = λ done. absurd (cc)
  said-attached CallFailed used is force notes = λ done. absurd (cc)

  behind-occupied : (b : Bool) (reply : Reply) → (if b then refused AlreadyAttached live else reply).answer ≡ Ok Go → reply.answer ≡ Ok Go
  behind-occupied true reply done = absurd (cc)
  behind-occupied false reply done = done

  is-attached : (limit : ℕ) (notes : List CommandNote) (force : Bool) (used : ℕ) → IsRestored limit notes live force name used → (left : List CommandNote) × Attached force left
  unfolding effect restore_reply
  is-attached limit notes force used is =
      let calls = whole_calls subject.State live.machine.time notes in
      let read = whole_act calls name live.files in
      said-attached read.0 read.1 (of-whole calls name live.files) force notes
      (behind-occupied (is_occupied (attached_in live.machine) live.lines) (restored_from force read notes live) is.done)

  -- so the disk's is there, and has what the disk holds
  disk-there : (force : Bool) (notes : List CommandNote) (a : Attachment) → attachment_at (attached_in s.machine) disk_unit ≡ Some a → Attached force notes → IsSome (find_file live.files a.name)
  disk-there force notes a at none =
      let first = first-file then_files (attached_in s.machine) a at in
      let part = saved_file (place_of 0 0) a (bytes_of then_files a.name) in
      let fails = unit_claim live.machine.time notes in
      kept-there (at_unit (unit_of part) fails) force a (bytes_of then_files a.name) live.files
      (first-kept fails force part first.0 no_attachments live.files (ap (λ (l : List FilePart). first_refused fails force l no_attachments live.files) (sym first.1) ∙ none))

  disk-left : (a : Attachment) (found : Option (List ℕ)) → attachment_at (attached_in s.machine) disk_unit ≡ Some a → find_file live.files a.name ≡ found → IsSome found
      → is_left_by_disk s.machine.disk (bytes_of live.files a.name) found ≡ true
  disk-left a None at is there = absurd (cc)
  disk-left a (Some bytes) at is there =
      let disk = s.machine.disk in
      let copy : CopyIsFile (Some a) disk s.files = subst (λ (o : Option Attachment). CopyIsFile o disk s.files) at holds.rest.copy in
      let held : disk.bytes ≡ bytes = copy holds.rest.written ∙ ap (λ (files : List NamedBytes). bytes_of files a.name) (sym like.files) ∙ ap (λ (o : Option (List ℕ)). unwrap_or o []) is in
      ap (λ (b : Bool). if b then nat_le (length (bytes_of live.files a.name)) (length bytes) && nat_le (length bytes) (length disk.bytes) && is_of_both bytes (bytes_of live.files a.name) disk.bytes
      else bytes_eq bytes disk.bytes) holds.rest.written
      ∙ ap (λ (l : List ℕ). bytes_eq bytes l) held ∙ test-same bytes

  is-alone : (limit : ℕ) (notes : List CommandNote) (force : Bool) (used : ℕ) → IsRestored limit notes live force name used → IsTrue (disk_alone live (continued s live))
  unfolding disk_alone
  is-alone limit notes force used is = by (attachment_at (attached_in s.machine) disk_unit) refl
    where
      either : (before : Option Attachment) (a : Attachment) → is_left_by_disk s.machine.disk (bytes_of live.files a.name) (find_file live.files a.name) ≡ true
          → is_by_disk_at before (Some a) s.machine.disk live.files live.files ≡ true
      either None a left = left
      either (Some b) a left = left

      by : (o : Option Attachment) → attachment_at (attached_in s.machine) disk_unit ≡ o → is_by_disk_at (attachment_at (attached_in live.machine) disk_unit) o s.machine.disk live.files live.files ≡ true
      by None at = refl
      by (Some a) at =
          let attached = is-attached limit notes force used is in
          either (attachment_at (attached_in live.machine) disk_unit) a
          (disk-left a (find_file live.files a.name) at refl (disk-there force attached.0 a at attached.1))

-- sessions with as many lines have units of the same kinds
are-like : (present s : Live) → ValidLive present → ValidLive s → present.files ≡ s.files → length present.lines ≡ length s.lines → IsLike present s
are-like present s one two files many = record {
  files = files;
  kinds = kinds-by-lines present.machine.units s.machine.units one.machine.units two.machine.units (sym one.count ∙ many ∙ two.count);
  many = many;
}

is-unoccupied : (limit : ℕ) (notes : List CommandNote) (live : Live) (force : Bool) (name : List ℕ) (used : ℕ) → IsRestored limit notes live force name used
    → is_occupied (attached_in live.machine) live.lines ≡ false
unfolding effect restore_reply
is-unoccupied limit notes live force name used is =
    by (is_occupied (attached_in live.machine) live.lines) (restored_from force (whole_act (whole_calls subject.State live.machine.time notes) name live.files) notes live) is.done
  where
    by : (b : Bool) (reply : Reply) → (if b then refused AlreadyAttached live else reply).answer ≡ Ok Go → b ≡ false
    by true reply done = absurd (cc)
    by false reply done = refl

-- ---- SAVE

digested : (o : Option Attachment) (files : List NamedBytes) (unit : UnitName) (rest : Option (UnitName × Failure)) → rest ≡ None
    → failing_first (undigested (digest_flushed None o files)) unit rest ≡ None
digested None files unit rest none = none
digested (Some a) files unit rest none = by (nat_lt 0 (length (bytes_of files a.name)))
  where
    by : (b : Bool) → failing_first (undigested (digest_read (if b then None else None) (bytes_of files a.name))) unit rest ≡ None
    by true = none
    by false = none

all-digested : (files : List NamedBytes) (attached : List (Option Attachment)) (ps : List UnitPlace) → first_undigested None files attached ps ≡ None
all-digested files attached [] = refl
all-digested files attached (p ∷ ps) = digested (attachment_at attached (unit_at p)) files (unit_at p) (first_undigested None files attached ps) (all-digested files attached ps)

written-back : (o : Option Attachment) (disk : Buffer) (rest : Option (UnitName × Failure)) → rest ≡ None → unless_unflushed (flush_said None disk_unit o disk) rest ≡ None
written-back None disk rest none = none
written-back (Some a) disk rest none = by (is_due_back disk_unit disk)
  where
    by : (b : Bool) → unless_unflushed (flushed_as (if b then None else None)) rest ≡ None
    by true = none
    by false = none

all-saved : (attached : List (Option Attachment)) (disk : Buffer) (files : List NamedBytes) → first_unsaved None attached disk files ≡ None
unfolding first_unsaved
all-saved attached disk files =
    written-back (attachment_at attached disk_unit) disk (first_undigested None (files_flushed None attached disk files) attached file_places)
    (all-digested (files_flushed None attached disk files) attached file_places)

is-saved : (limit : ℕ) (live : Live) (name : List ℕ) → effect limit [] live (Save name) ≡ done_with 0 (left_by_save name live)
unfolding effect save_reply write_act
is-saved limit live name = ap (λ (o : Option (UnitName × Failure)). save_by o [] name (flushed_with None live)) (all-saved (attached_in live.machine) live.machine.disk live.files)

-- a file that was made has the bytes that it was given
made-so : (files : List NamedBytes) (name bytes : List ℕ) → bytes_of (with_file files name bytes) name ≡ bytes
made-so [] name bytes = ap (λ (b : Bool). unwrap_or (if b then Some bytes else None) []) (test-same name)
made-so (f ∷ files) name bytes = by-test (bytes_eq f.0 name) refl (made-so files name bytes)
  where
    by-test : (b : Bool) → bytes_eq f.0 name ≡ b → bytes_of (with_file files name bytes) name ≡ bytes
        → bytes_of (if b then (f.0, bytes) ∷ files else f ∷ with_file files name bytes) name ≡ bytes
    by-test true is later = ap (λ (b : Bool). unwrap_or (if b then Some bytes else find_file files name) []) is
    by-test false is later = ap (λ (b : Bool). unwrap_or (if b then Some f.1 else find_file (with_file files name bytes) name) []) is ∙ later

is-held : (live : Live) (name : List ℕ) → bytes_of (left_by_save name live).files name ≡ text (saved_among (flushed_with None live).files (left_by_save name live))
is-held live name = made-so (flushed_with None live).files name (text (saved (flushed_with None live)))

pub restore-puts-back : RestorePutsBack
restore-puts-back = record {
  savable = savable;
  restored = λ limit notes live s force name then_files used is holds like. is-restored live s then_files name holds like limit notes force used is;
  alone = λ limit notes live s force name then_files used is holds like. is-alone live s then_files name holds like limit notes force used is;
  like = are-like;
  unoccupied = is-unoccupied;
  standard = λ s is. (saved-is-valid.fits s is, valid_widths (saved s) (saved-is-valid.valid s is));
  saved = is-saved;
  holds = is-held;
}
