-- Why a service stops, and what it makes of the watch tables.
use Rattle.std.proofs.Common.{inl, ◌≡◌, ◌≢◌, ℕ, zero, suc, ◌+◌, ◌<◌, ◌≤◌, ◌==◌, Bool, true, false, IsTrue, List, [], ◌∷◌, ◌++◌, Option, Some, None, Ok, nat_lt, option_map, option_and_then, slice_index, slice_get, refl, ap, sym, subst, ◌∙◌, arith, nat_le, if◌then◌else◌}
use Rattle.std.specs.Prelude.{IfSome}
use Rattle.std.proofs.lemmas.Bool.Decides.{nat_tests}
use Rattle.unit_trait.specs.declared.kind.Kind.{Kind}
use Rattle.unit_trait.specs.declared.kind.Kind.TheVariants.{Dsk, Mta, Lpt, Ptr, Ptp, Clk, Tti, Tto, Tti1, Tto1}
use Rattle.unit_trait.specs.declared.kind.UnitName.{UnitName}
use Rattle.unit_trait.specs.declared.calls.Want.{Want}
use Rattle.unit_trait.specs.declared.calls.Want.TheVariants as want
use Rattle.unit_trait.specs.declared.calls.Got.{Got}
use Rattle.unit_trait.specs.declared.calls.Got.TheVariants as got
use Rattle.unit_trait.specs.declared.calls.UnitStop.{UnitStop}
use Rattle.unit_trait.specs.declared.calls.UnitStop.TheVariants as unit_stop
use Rattle.unit_trait.specs.Device.{position}
use Rattle.unit_trait.specs.Registers.{pos_number}
use Rattle.unit_trait.specs.Kinds.{code_of}
use Rattle.unit_trait.specs.Calls.{UnitState, Due, Answered, Row, holds}
use Rattle.unit_trait.specs.Row.{row, row_of, moved, console_want, line_want}
use Rattle.unit_trait.specs.Usual.{flagged, completed, stopping}
use Rattle.unit_trait.specs.Disk.{with_status, disk_missing, disk_error}
use Rattle.unit_trait.specs.Tape.{tape_stop, tape_answered, is_medium}
use Rattle.unit_trait.specs.Reader.{reader_row}
use Rattle.unit_trait.specs.Writer.{writer_row}
use Rattle.unit_trait.specs.Clock.{clock_row}
use Rattle.unit_trait.specs.Keyboard.{keyboard_row}
use Rattle.unit_trait.specs.Teleprinter.{teleprinter_row}
use Rattle.unit_trait.specs.Multiplexer.{lines_row}
use Rattle.unit_list.specs.Bus.{unit_at, row_or_nothing, row_at, after_at}
use Rattle.unit_list.proofs.Calls.{after-here}
use Rattle.unit_list.proofs.Room.{kind-found}
use Rattle.unit_files.specs.Attachments.{Attachment, Held, attachment_at, attachments_of, only_writes, takes_files}
use Rattle.unit_files.specs.declared.faults.ByteAnswer.{ByteAnswer}
use Rattle.unit_files.specs.declared.faults.ByteAnswer.TheVariants as byte
use Rattle.unit_files.specs.Acts.{NothingThere, WasWritten, AtEnd, most_bytes, write_act}
use Rattle.unit_files.specs.Answers.{said_of_byte, failure_of_byte}
use Rattle.expect_actions.specs.Breaks.{BreakTable}
use Rattle.expect_actions.specs.Expects.{ExpectTable, match_at}
use Rattle.expect_actions.specs.Sends.{Send, due_send, sends_left}
use Rattle.expect_actions.specs.KeysFile.{due_key}
use Rattle.expect_actions.specs.Watch.{WatchState}
use Rattle.nova_machine.specs.declared.machine.Stop.{Stop}
use Rattle.nova_machine.specs.declared.machine.Stop.TheVariants.{Wru, Expect}
use Rattle.nova_machine.specs.declared.service.Hosted.{Hosted}
use Rattle.nova_machine.specs.declared.service.Hosted.TheVariants.{Gets, Matched, Stops}
use Rattle.nova_machine.specs.declared.service.Hosted.TheVariants as hosted
use Rattle.nova_machine.specs.Machine.{MachineState}
use Rattle.nova_machine.specs.Seen.{attached_in}
use Rattle.nova_machine.specs.OnLines.{IsOfLine, is_ported}
use Rattle.nova_machine.specs.Service.{want_at, asked, answered}
use Rattle.nova_machine.specs.Hosting.{CanBeHosted, hosted_of, bytes_printed, watch_behind}
use Rattle.nova_machine.specs.Wants.{first_key, typed_key, wru, key_stop, own_stop, watch_after, taken_after, bytes_of, stop_by}
use Rattle.nova_machine.specs.StopCauses.{IsThere, stop_ioe_number, StopsForFile, IsFull, IsAtFileEnd, IsWithoutFile, IsGotOf, IsPastRoom, IsMadeOf, Moment, moment_of, AreCountedDown, console_bytes, all_printed, NoneMatches, LastMatches, Matches, Watches, TookWru, ServiceCause}
use Rattle.memory_transfer.specs.Operated.{IsOfTape}
use Rattle.telnet_lines.specs.Line.{LineOf}
use Rattle.nova_machine.specs.OnLine.{IsOffLine}
use Rattle.nova_machine.proofs.Causes.{counted-same, IsNoMatch, matches-none, none-bytes}

-- ---- a unit that stops has STOP_IOE on, and was told of an end, or that it has no file

abbrev IsEnd : Got → Type 0
IsEnd got.End = Unit {0}
IsEnd (got.Tape tape) = Unit {0}
IsEnd other = ⊥

abbrev IsNoFile : Got → Type 0
IsNoFile got.NoFile = Unit {0}
IsNoFile other = ⊥

record StopsRow (kind : Kind) (g : Got) (r : Row) : Type 0 where
  takes : r.stop ≢ unit_stop.Go → IsTrue (takes_files kind)
  on : r.stop ≢ unit_stop.Go → slice_index r.registers 2 ≡ 1
  ended : r.stop ≡ unit_stop.End → IsEnd g
  none : r.stop ≡ unit_stop.NoFile → IsNoFile g

goes-row : (kind : Kind) (g : Got) (r : Row) → r.stop ≡ unit_stop.Go → StopsRow kind g r
goes-row kind g r go = record {
  takes = λ other. absurd (other go);
  on = λ other. absurd (other go);
  ended = λ is. let both : unit_stop.End ≡ unit_stop.Go = sym is ∙ go in absurd (cc);
  none = λ is. let both : unit_stop.NoFile ≡ unit_stop.Go = sym is ∙ go in absurd (cc);
}

-- where the stop is that of an answer, while STOP_IOE is on
stop-if : (b : Bool) (why : UnitStop) → (if b then why else unit_stop.Go) ≢ unit_stop.Go → b ≡ true
stop-if true why other = refl
stop-if false why other = absurd (other refl)

stop-is : (b : Bool) (why stop : UnitStop) → (if b then why else unit_stop.Go) ≡ stop → stop ≢ unit_stop.Go → why ≡ stop
stop-is true why stop is other = is
stop-is false why stop is other = absurd (other (sym is))

stops-row : (kind : Kind) (g : Got) (why : UnitStop) (r : Row) → IsTrue (takes_files kind) → (why ≡ unit_stop.End → IsEnd g) → (why ≡ unit_stop.NoFile → IsNoFile g) → StopsRow kind g (stopping why r)
stops-row kind g why r takes ended none =
    let b = slice_index r.registers 2 == 1 in
    record {
      takes = λ other. takes;
      on = λ other. let yes : b ≡ true = stop-if b why other in grind (arith, nat_tests);
      ended = λ is. ended (stop-is b why unit_stop.End is (λ e. absurd (cc)));
      none = λ is. none (stop-is b why unit_stop.NoFile is (λ e. absurd (cc)));
    }

end-row : (kind : Kind) (r : Row) → IsTrue (takes_files kind) → StopsRow kind got.End (stopping unit_stop.End r)
end-row kind r takes = stops-row kind got.End unit_stop.End r takes (λ _. tt) (λ e. absurd (cc))

none-row : (kind : Kind) (r : Row) → IsTrue (takes_files kind) → StopsRow kind got.NoFile (stopping unit_stop.NoFile r)
none-row kind r takes = stops-row kind got.NoFile unit_stop.NoFile r takes (λ e. absurd (cc)) (λ _. tt)

reader-stops : (values : List ℕ) (n : ℕ) (g : Got) → StopsRow Ptr g (reader_row values (Answered n g))
unfolding reader_row
reader-stops values n got.End = end-row Ptr (holds values) refl
reader-stops values n got.NoFile = none-row Ptr (holds values) refl
reader-stops values n g = goes-row Ptr g _ refl

punch-stops : (values : List ℕ) (n : ℕ) (g : Got) → StopsRow Ptp g (row_of Ptp values (Answered n g))
unfolding row_of writer_row
punch-stops values n got.End = end-row Ptp (completed values) refl
punch-stops values n got.NoFile = none-row Ptp (completed values) refl
punch-stops values n g = goes-row Ptp g _ refl

printer-stops : (values : List ℕ) (n : ℕ) (g : Got) → StopsRow Lpt g (row_of Lpt values (Answered n g))
unfolding row_of writer_row
printer-stops values n got.End = end-row Lpt (completed values) refl
printer-stops values n got.NoFile = none-row Lpt (completed values) refl
printer-stops values n g = goes-row Lpt g _ refl

no-file-if : (b : Bool) → (if b then unit_stop.End else unit_stop.Go) ≢ unit_stop.NoFile
no-file-if true e = absurd (cc)
no-file-if false e = absurd (cc)

tape-why : (g : Got) → (tape_stop g ≡ unit_stop.End → IsEnd g) × (tape_stop g ≡ unit_stop.NoFile → IsNoFile g)
tape-why (got.Tape tape) = ((λ e. tt), (λ e. absurd (no-file-if (is_medium tape.end) e)))
tape-why got.NoFile = ((λ e. absurd (cc)), (λ e. tt))
tape-why g = ((λ e. absurd (cc)), (λ e. absurd (cc)))

tape-stops : (values : List ℕ) (n : ℕ) (g : Got) → StopsRow Mta g (row_of Mta values (Answered n g))
unfolding row_of
tape-stops values n g = stops-row Mta g (tape_stop g) (holds (tape_answered n g values)) refl (tape-why g).0 (tape-why g).1

-- the disk says in STAT that there is no file, and leaves STOP_IOE
disk-third : (values : List ℕ) (stat : ℕ) → slice_index (flagged 0 1 (with_status stat values)) 2 ≡ slice_index values 2
disk-third [] stat = refl
disk-third (a ∷ []) stat = refl
disk-third (a ∷ b ∷ []) stat = refl
disk-third (a ∷ b ∷ c ∷ rest) stat = refl

disk-stops : (values : List ℕ) (n : ℕ) (g : Got) → StopsRow Dsk g (row_of Dsk values (Answered n g))
unfolding row_of
disk-stops values n got.NoFile =
    let b = slice_index values 2 == 1 in
    record {
      takes = λ other. refl;
      on = λ other.
          let yes : b ≡ true = stop-if b unit_stop.NoFile other in
          let is : slice_index values 2 ≡ 1 = grind (arith, nat_tests) in
          disk-third values (disk_missing + disk_error) ∙ is;
      ended = λ is. let both = stop-is b unit_stop.NoFile unit_stop.End is (λ e. absurd (cc)) in absurd (cc);
      none = λ is. tt;
    }
disk-stops values n g = goes-row Dsk g _ refl

clock-stops : (values : List ℕ) (n : ℕ) (g : Got) → StopsRow Clk g (clock_row values (Answered n g))
unfolding clock_row
clock-stops values n got.Done = goes-row Clk got.Done _ refl
clock-stops values n g = goes-row Clk g _ refl

keyboard-stops : (kind : Kind) (key : Want) (values : List ℕ) (n : ℕ) (g : Got) → StopsRow kind g (keyboard_row key values (Answered n g))
unfolding keyboard_row
keyboard-stops kind key values n (got.Key byte) = goes-row kind (got.Key byte) _ refl
keyboard-stops kind key values n got.NoKey = goes-row kind got.NoKey _ refl
keyboard-stops kind key values n g = goes-row kind g _ refl

teleprinter-stops : (kind : Kind) (print : ℕ → Want) (values : List ℕ) (n : ℕ) (g : Got) → StopsRow kind g (teleprinter_row print values (Answered n g))
unfolding teleprinter_row
teleprinter-stops kind print values n got.Done = goes-row kind got.Done _ refl
teleprinter-stops kind print values n got.LineFull = goes-row kind got.LineFull _ refl
teleprinter-stops kind print values n g = goes-row kind g _ refl

row-stops : (kind : Kind) (values : List ℕ) (n : ℕ) (g : Got) → StopsRow kind g (row_of kind values (Answered n g))
unfolding row_of lines_row
row-stops Dsk values n g = disk-stops values n g
row-stops Mta values n g = tape-stops values n g
row-stops Lpt values n g = printer-stops values n g
row-stops Ptr values n g = reader-stops values n g
row-stops Ptp values n g = punch-stops values n g
row-stops Clk values n g = clock-stops values n g
row-stops Tti values n g = keyboard-stops Tti want.Key values n g
row-stops Tto values n g = teleprinter-stops Tto console_want values n g
row-stops Tti1 values n g = keyboard-stops Tti1 (want.LineKey 0) values n g
row-stops Tto1 values n g = teleprinter-stops Tto1 (line_want 0) values n g
row-stops kind values n g = goes-row kind g _ refl

-- a register that holds another value than 0 is there
found-value : (values : List ℕ) (i v : ℕ) → 0 < v → slice_index values i ≡ v → slice_get values i ≡ Some v
found-value [] zero v some is = absurd (omega (arith, some, is))
found-value [] (suc i) v some is = absurd (omega (arith, some, is))
found-value (x ∷ values) zero v some is = ap Some is
found-value (x ∷ values) (suc i) v some is = found-value values i v some is

-- the unit that is found by the code of a kind
record StopsUnit (kind : Kind) (n : ℕ) (g : Got) (there : Option UnitState) : Type 0 where
  row : StopsRow kind g (row_or_nothing (Answered n g) there)
  register : (row_or_nothing (Answered n g) there).stop ≢ unit_stop.Go
      → option_and_then (λ (u : UnitState). slice_get u.registers stop_ioe_number) (option_map (λ u. moved u (Answered n g)) there) ≡ Some 1

unit-stops : (kind : Kind) (n : ℕ) (g : Got) (there : Option UnitState) → IfSome there (λ u. u.kind ≡ kind) → StopsUnit kind n g there
unit-stops kind n g None same = record { row = goes-row kind g _ refl; register = λ other. absurd (other refl) }
unit-stops kind n g (Some u) same =
    let r = row-stops u.kind u.registers n g in
    record {
      row = subst (λ (k : Kind). StopsRow k g (row u (Answered n g))) same r;
      register = λ other. found-value (row u (Answered n g)).registers 2 1 (omega arith) (r.on other);
    }

-- ---- a unit that only writes and is at its end

sixth-kept : (values : List ℕ) → slice_index (flagged 0 1 values) 5 ≡ slice_index values 5
sixth-kept [] = refl
sixth-kept (a ∷ []) = refl
sixth-kept (a ∷ b ∷ rest) = refl

-- what a unit of that kind comes to that is asked, and then gets an answer
abbrev Behind : Kind → List ℕ → ℕ → Got → Row
Behind kind values n g = row_of kind (row_of kind values (Due n)).registers (Answered n g)

full-values : (values : List ℕ) (most : ℕ) → 0 < most → most ≤ slice_index values 5 → slice_index values 5 ≤ most → slice_get (flagged 0 1 values) 5 ≡ Some most
full-values values most some least largest =
    let is : slice_index values 5 ≡ most = omega (arith, least, largest) in
    found-value (flagged 0 1 values) 5 most some (sixth-kept values ∙ is)

full-printer : (values : List ℕ) (n : ℕ) (g : Got) → IsPastRoom (row_of Lpt values (Due n)).want (Gets g) → CanBeHosted (row_of Lpt values (Due n)).want Lpt
    → (Behind Lpt values n g).stop ≡ unit_stop.End → slice_get (Behind Lpt values n g).registers 5 ≡ Some position.largest
unfolding row_of writer_row
full-printer values n got.End past can is = full-values values position.largest (omega arith) past can.1
full-printer values n got.NoFile past can is = let other = stop-is (slice_index (completed values).registers 2 == 1) unit_stop.NoFile unit_stop.End is (λ e. absurd (cc)) in absurd (cc)
full-printer values n g past can is = absurd (cc)

full-punch : (values : List ℕ) (n : ℕ) (g : Got) → IsPastRoom (row_of Ptp values (Due n)).want (Gets g) → CanBeHosted (row_of Ptp values (Due n)).want Ptp
    → (Behind Ptp values n g).stop ≡ unit_stop.End → slice_get (Behind Ptp values n g).registers 5 ≡ Some position.largest
unfolding row_of writer_row
full-punch values n got.End past can is = full-values values position.largest (omega arith) past can.1
full-punch values n got.NoFile past can is = let other = stop-is (slice_index (completed values).registers 2 == 1) unit_stop.NoFile unit_stop.End is (λ e. absurd (cc)) in absurd (cc)
full-punch values n g past can is = absurd (cc)

full-kind : (kind : Kind) (values : List ℕ) (n : ℕ) (g : Got) → only_writes kind ≡ true → IsPastRoom (row_of kind values (Due n)).want (Gets g) → CanBeHosted (row_of kind values (Due n)).want kind
    → (Behind kind values n g).stop ≡ unit_stop.End → slice_get (Behind kind values n g).registers 5 ≡ Some position.largest
full-kind Lpt values n g writes past can is = full-printer values n g past can is
full-kind Ptp values n g writes past can is = full-punch values n g past can is
full-kind kind values n g writes past can is = absurd (cc)

full-found : (kind : Kind) (n : ℕ) (g : Got) (there : Option UnitState) → IfSome there (λ u. u.kind ≡ kind) → only_writes kind ≡ true → IsPastRoom (row_or_nothing (Due n) there).want (Gets g)
    → CanBeHosted (row_or_nothing (Due n) there).want kind → (row_or_nothing (Answered n g) (option_map (λ (u : UnitState). moved u (Due n)) there)).stop ≡ unit_stop.End
    → option_and_then (λ (u : UnitState). slice_get u.registers pos_number) (option_map (λ u. moved u (Answered n g)) (option_map (λ (u : UnitState). moved u (Due n)) there)) ≡ Some position.largest
full-found kind n g None same writes past can is = absurd (cc)
full-found kind n g (Some u) same writes past can is =
    full-kind u.kind u.registers n g (ap only_writes same ∙ writes) past (subst (λ (k : Kind). CanBeHosted (row u (Due n)).want k) (sym same) can) is

got-there : (a : Option Attachment) (g : Got) → IsEnd g → IsGotOf a g → IsThere a
got-there a got.End end of = of
got-there a (got.Tape tape) end of = of
got-there a g end of = absurd end

got-none : (a : Option Attachment) (g : Got) → IsNoFile g → IsGotOf a g → a ≡ None
got-none a got.NoFile none of = of
got-none a g none of = absurd none

ends-not : (why : UnitStop) → why ≡ unit_stop.End → why ≢ unit_stop.Go
ends-not why is go = let both : unit_stop.End ≡ unit_stop.Go = sym is ∙ go in absurd (cc)

none-not : (why : UnitStop) → why ≡ unit_stop.NoFile → why ≢ unit_stop.Go
none-not why is go = let both : unit_stop.NoFile ≡ unit_stop.Go = sym is ∙ go in absurd (cc)

unit-cause : (keys : List (ℕ × ℕ)) (start : Moment) (watch : WatchState) (u : UnitName) (now : MachineState) (why : UnitStop) → (why ≡ unit_stop.End → IsAtFileEnd u now)
    → (why ≡ unit_stop.NoFile → IsWithoutFile u now) → ServiceCause (stop_by u why) keys start watch now
unit-cause keys start watch u now unit_stop.Go ended none = tt
unit-cause keys start watch u now unit_stop.End ended none = ended refl
unit-cause keys start watch u now unit_stop.NoFile ended none = none refl

-- a unit gets an answer, and may stop the machine
answered-cause : (keys : List (ℕ × ℕ)) (start : Moment) (watch : WatchState) (u : UnitName) (g : Got) (h now : MachineState) (a : Option Attachment) (stop : Option Stop)
    → IsGotOf a g → attachment_at (attached_in now) u ≡ a
    → ((row_or_nothing (Answered u.unit g) (unit_at (code_of u.kind) h.units)).stop ≡ unit_stop.End → IsFull u now)
    → stop ≡ (answered u g h).stop → now ≡ (answered u g h).machine → ServiceCause stop keys start watch now
unfolding answered
answered-cause keys start watch u g h now a stop of held full stops is =
    let call = Answered u.unit g in
    let code = code_of u.kind in
    let there = unit_at code h.units in
    let found = unit-stops u.kind u.unit g there (kind-found u.kind h.units) in
    let why = (row_or_nothing call there).stop in
    let units : now.units ≡ after_at code call h.units = ap (λ (m : MachineState). m.units) is in
    let here : unit_at code now.units ≡ option_map (λ x. moved x call) there = ap (unit_at code) units ∙ after-here code call h.units in
    let register : why ≢ unit_stop.Go → StopsForFile u now =
    λ other. ap (λ (o : Option UnitState). option_and_then (λ (x : UnitState). slice_get x.registers stop_ioe_number) o) here ∙ found.register other in
    let none : a ≡ None → attachment_at (attached_in now) u ≡ None = λ gone. held ∙ gone in
    let file : IsThere a → IsThere (attachment_at (attached_in now) u) = λ it. (it.0, held ∙ it.1) in
    let P : Option Stop → Type 0 = λ o. ServiceCause o keys start watch now in
    subst P (sym stops) (unit-cause keys start watch u now why (λ same. record {
      kind = found.row.takes (ends-not why same);
      file = file (got-there a g (found.row.ended same) of);
      stops = register (ends-not why same);
      full = full same;
    }) (λ same. record {
      kind = found.row.takes (none-not why same);
      none = none (got-none a g (found.row.none same) of);
      stops = register (none-not why same);
    }))

-- and its stop is at no text
pub answered-no-match : (u : UnitName) (g : Got) (h : MachineState) (stop : Option Stop) → stop ≡ (answered u g h).stop → IsNoMatch stop
unfolding answered
answered-no-match u g h stop is =
    subst (λ (o : Option Stop). IsNoMatch o) (sym is) (by-stop (row_at (code_of u.kind) (Answered u.unit g) h.units).stop)
  where
    by-stop : (s : UnitStop) → IsNoMatch (stop_by u s)
    by-stop unit_stop.Go = tt
    by-stop unit_stop.End = tt
    by-stop unit_stop.NoFile = tt

-- ---- what was made of a want, and the watch tables behind it

unmatched : (place : Option ℕ) → option_map Expect place ≡ None → place ≡ None
unmatched None is = refl
unmatched (Some k) is = absurd (cc)

matched-at : (place : Option ℕ) (k : ℕ) → option_map Expect place ≡ Some (Expect k) → place ≡ Some k
matched-at None k is = absurd (cc)
matched-at (Some j) k is = ap Some (ap (λ (o : Option Stop). place-of o) is)
  where
    place-of : Option Stop → ℕ
    place-of (Some (Expect n)) = n
    place-of other = 0

unmatched-wru : (place : Option ℕ) → option_map Expect place ≢ Some Wru
unmatched-wru None is = absurd (cc)
unmatched-wru (Some k) is = absurd (cc)

no-key-match : (key : Option ℕ) (k : ℕ) → key_stop key ≢ Some (Expect k)
no-key-match None k is = absurd (cc)
no-key-match (Some key) k is = by-test (key == wru) is
  where
    by-test : (b : Bool) → (if b then Some Wru else None) ≢ Some (Expect k)
    by-test true e = absurd (cc)
    by-test false e = absurd (cc)

key-wru : (key : Option ℕ) → key_stop key ≡ Some Wru → key ≡ Some wru
key-wru None is = absurd (cc)
key-wru (Some key) is = ap Some (by-test (key == wru) refl is)
  where
    by-test : (b : Bool) → (key == wru) ≡ b → (if b then Some Wru else None) ≡ Some Wru → key ≡ wru
    by-test true same e = grind (arith, nat_tests)
    by-test false same e = absurd (cc)

gets-matches : (w : Want) (g : Got) (key : Option ℕ) (expects : ExpectTable) → own_stop key expects w ≡ None → NoneMatches (bytes_printed w (Gets g)) expects
gets-matches (want.Console byte) g key expects none = (unmatched (match_at byte expects) none, tt)
gets-matches w g key expects none = tt

wru-matches : (w : Want) (key : Option ℕ) (expects : ExpectTable) → own_stop key expects w ≡ Some Wru → NoneMatches (bytes_printed w hosted.Wru) expects
wru-matches (want.Console byte) key expects is = absurd (unmatched-wru (match_at byte expects) is)
wru-matches w key expects is = tt

matched-matches : (w : Want) (k : ℕ) (key : Option ℕ) (expects : ExpectTable) → own_stop key expects w ≡ Some (Expect k) → LastMatches k (bytes_printed w (Matched k)) expects
matched-matches (want.Console byte) k key expects is = matched-at (match_at byte expects) k is
matched-matches want.Key k key expects is = absurd (no-key-match key k is)
matched-matches w k key expects is = absurd (cc)

-- the stop of a service, by what was made of the want: a text's, or another
abbrev pub StopsAs : Hosted → Option Stop → Type 0
StopsAs (Matched k) stop = stop ≡ Some (Expect k)
StopsAs made stop = IsNoMatch stop

-- the stop of what was made matches the bytes that it printed
pub made-matches : (w : Want) (kind : Kind) (a : Option Attachment) (key : Option ℕ) (expects : ExpectTable) (made : Hosted) (stop : Option Stop) → IsMadeOf w kind a key expects made
    → StopsAs made stop → Matches stop (bytes_printed w made) expects
made-matches w kind a key expects (Gets g) stop of is = matches-none stop (bytes_printed w (Gets g)) expects is (gets-matches w g key expects of.1)
made-matches w kind a key expects hosted.Wru stop of is = matches-none stop (bytes_printed w hosted.Wru) expects is (wru-matches w key expects of)
made-matches w kind a key expects (Matched k) stop of is =
    subst (λ (o : Option Stop). Matches o (bytes_printed w (Matched k)) expects) (sym is) (matched-matches w k key expects of)
made-matches w kind a key expects (Stops why) stop of is = matches-none stop [] expects is tt

-- a stop of a unit that gets no answer is at no text
pub stops-no-match : (w : Want) (kind : Kind) (a : Option Attachment) (key : Option ℕ) (expects : ExpectTable) (why : Stop) → IsMadeOf w kind a key expects (Stops why) → IsNoMatch (Some why)
stops-no-match w kind a key expects (Expect k) of = absurd of
stops-no-match w kind a key expects why of = tt

sends-front : (now : ℕ) (sends : List Send) → (front : List Send) × (sends ≡ front ++ sends_left now sends)
sends-front now [] = ([], refl)
sends-front now (send ∷ others) = by-time (nat_le send.0 now)
  where
    by-time : (b : Bool) → (front : List Send) × (send ∷ others ≡ front ++ (if b then others else send ∷ others))
    by-time true = (send ∷ [], refl)
    by-time false = ([], refl)

-- what is left of the tables
record Leaves (bytes : List ℕ) (old new : WatchState) : Type 0 where
  compared : new.expects ≡ all_printed bytes old.expects
  breaks : new.breaks ≡ old.breaks
  front : List Send
  sends : old.sends ≡ front ++ new.sends

leaves-after : (time : ℕ) (w : Want) (old : WatchState) → Leaves (bytes_of w) old (watch_after time w old)
leaves-after time want.Key old = record { compared = refl; breaks = refl; front = (sends-front time old.sends).0; sends = (sends-front time old.sends).1 }
leaves-after time (want.Console byte) old = record { compared = refl; breaks = refl; front = []; sends = refl }
leaves-after time w old = record { compared = refl; breaks = refl; front = []; sends = refl }

leaves-behind : (time : ℕ) (w : Want) (made : Hosted) (old : WatchState) → Leaves (bytes_printed w made) old (watch_behind time w made old)
leaves-behind time w (Stops stop) old = record { compared = refl; breaks = refl; front = []; sends = refl }
leaves-behind time w made old = leaves-after time w old

never-back : (taken : ℕ) (key : Option ℕ) (w : Want) → taken ≤ taken_after taken key w
never-back taken (Some key) want.Key = omega arith
never-back taken None w = omega arith
never-back taken (Some key) w = omega arith

-- a byte is printed only where the console line has no port
off-bytes : (w : Want) (made : Hosted) (ported : Bool) (due : Option ℕ) → IsOffLine w ported due → console_bytes ported (bytes_printed w made) ≡ bytes_printed w made
off-bytes (want.Console byte) made ported due off = ap (λ (b : Bool). console_bytes b (bytes_printed (want.Console byte) made)) off
off-bytes w (Stops stop) ported due off = none-bytes ported
off-bytes w made ported due off = none-bytes ported

pub made-watches : (stop : Option Stop) (w : Want) (made : Hosted) (time : ℕ) (typed : Option ℕ) (old new : Moment) (tells : Bool) (before after : List ℕ)
    → new.watch ≡ watch_behind time w made old.watch → new.taken ≡ taken_after old.taken typed w → Matches stop (bytes_printed w made) old.watch.expects
    → (IsTrue tells → after ≡ before ++ bytes_printed w made) → console_bytes old.ported (bytes_printed w made) ≡ bytes_printed w made → new.ported ≡ old.ported
    → Watches stop old new tells before after
made-watches stop w made time typed old new tells before after watch_is taken_is matches written off ported =
    let leaves : Leaves (bytes_printed w made) old.watch new.watch = subst (λ (x : WatchState). Leaves (bytes_printed w made) old.watch x) (sym watch_is) (leaves-behind time w made old.watch) in
    record {
      bytes = bytes_printed w made;
      written = λ told. written told ∙ ap (λ (l : List ℕ). before ++ l) (sym off);
      ported = ported;
      compared = leaves.compared;
      matches = matches;
      breaks = subst (λ (x : BreakTable). AreCountedDown old.watch.breaks.list x.list) (sym leaves.breaks) (counted-same old.watch.breaks.list);
      front = leaves.front;
      sends = leaves.sends;
      keys = subst (λ (n : ℕ). old.taken ≤ n) (sym taken_is) (never-back old.taken typed w);
    }

pub made-breaks : (time : ℕ) (w : Want) (made : Hosted) (old new : WatchState) → new ≡ watch_behind time w made old → new.breaks ≡ old.breaks
made-breaks time w made old new is = ap (λ (x : WatchState). x.breaks) is ∙ (leaves-behind time w made old).breaks

-- the key that stops a run
wru-key : (w : Want) (key : Option ℕ) (expects : ExpectTable) → own_stop key expects w ≡ Some Wru → (w ≡ want.Key) × (key ≡ Some wru)
wru-key want.Key key expects is = (refl, key-wru key is)
wru-key (want.Console byte) key expects is = absurd (unmatched-wru (match_at byte expects) is)
wru-key w key expects is = absurd (cc)

wru-taken : (keys : List (ℕ × ℕ)) (start : Moment) (watch : WatchState) (m : MachineState) (w : Want) (expects : ExpectTable)
    → own_stop (first_key (due_send m.time start.watch.sends) (due_key keys start.taken m.time)) expects w ≡ Some Wru
    → watch ≡ watch_behind m.time w hosted.Wru start.watch
    → m.taken ≡ taken_after start.taken (typed_key (due_send m.time start.watch.sends) (due_key keys start.taken m.time)) w → TookWru keys start watch m
wru-taken keys start watch m w expects is watch_is taken_is =
    let key = wru-key w _ expects is in
    record {
      front = [];
      sends = start.watch.sends;
      waited = refl;
      taken = start.taken;
      later = omega arith;
      key = inl key.1;
      sends_now = ap (λ (x : WatchState). x.sends) (watch_is ∙ ap (λ (x : Want). watch_behind m.time x hosted.Wru start.watch) key.0);
      taken_now = taken_is ∙ ap (taken_after start.taken (typed_key (due_send m.time start.watch.sends) (due_key keys start.taken m.time))) key.0;
    }

pub asked-ported : (u : UnitName) (m : MachineState) → is_ported (asked u m).lines ≡ is_ported m.lines
unfolding asked
asked-ported u m = refl

pub asked-taken : (u : UnitName) (m : MachineState) → (asked u m).taken ≡ m.taken
unfolding asked
asked-taken u m = refl

pub answered-taken : (u : UnitName) (g : Got) (m : MachineState) → (answered u g m).machine.taken ≡ m.taken
unfolding answered
answered-taken u g m = refl

-- What the host of a want has left: the machine n that was asked, that which it left, and that behind the answer.
pub record Hosts (keys : List (ℕ × ℕ)) (u : UnitName) (w : Want) (made : Hosted) (watch watch' : WatchState) (m n h now : MachineState) : Type 0 where
  pub asked_is : n ≡ asked u m
  pub time : n.time ≡ m.time
  pub after : now.time ≡ n.time
  pub taken : h.taken ≡ taken_after n.taken (typed_key (due_send n.time watch.sends) (due_key keys n.taken n.time)) w
  pub kept : now.taken ≡ h.taken
  pub watched : watch' ≡ watch_behind n.time w made watch
  pub made_is : IsMadeOf w u.kind (attachment_at (attached_in n) u) (first_key (due_send n.time watch.sends) (due_key keys n.taken n.time)) watch.expects made

pub off-still : (keys : List (ℕ × ℕ)) (watch : WatchState) (w : Want) (n now : MachineState) → now ≡ n → IsOffLine w (is_ported n.lines) (first_key (due_send n.time watch.sends) (due_key keys n.taken n.time))
    → IsOffLine w (is_ported now.lines) (first_key (due_send now.time watch.sends) (due_key keys now.taken now.time))
off-still keys watch w n now same off =
    subst (λ (x : MachineState). IsOffLine w (is_ported x.lines) (first_key (due_send x.time watch.sends) (due_key keys x.taken x.time))) (sym same) off

pub hosts-watches : (keys : List (ℕ × ℕ)) (u : UnitName) (w : Want) (made : Hosted) (watch watch' : WatchState) (m n h now : MachineState) (stop : Option Stop) (tells : Bool) (before after : List ℕ)
    → Hosts keys u w made watch watch' m n h now → StopsAs made stop → (IsTrue tells → after ≡ before ++ bytes_printed w made) → now.lines ≡ n.lines
    → IsOffLine w (is_ported n.lines) (first_key (due_send n.time watch.sends) (due_key keys n.taken n.time)) → Watches stop (moment_of watch m) (moment_of watch' now) tells before after
hosts-watches keys u w made watch watch' m n h now stop tells before after x is written kept off =
    let same : n.taken ≡ m.taken = ap (λ (y : MachineState). y.taken) x.asked_is ∙ asked-taken u m in
    let typed = typed_key (due_send n.time watch.sends) (due_key keys n.taken n.time) in
    let port : is_ported n.lines ≡ is_ported m.lines = ap (λ (y : MachineState). is_ported y.lines) x.asked_is ∙ asked-ported u m in
    let due = first_key (due_send n.time watch.sends) (due_key keys n.taken n.time) in
    made-watches stop w made n.time typed (moment_of watch m) (moment_of watch' now) tells before after x.watched
    (x.kept ∙ x.taken ∙ ap (λ (k : ℕ). taken_after k typed w) same) (made-matches w u.kind (attachment_at (attached_in n) u) (first_key (due_send n.time watch.sends) (due_key keys n.taken n.time)) watch.expects made stop x.made_is is) written
    (off-bytes w made (is_ported m.lines) due (subst (λ (b : Bool). IsOffLine w b due) port off)) (ap (λ (ls : List (LineOf ℕ)). is_ported ls) kept ∙ port)

pub hosts-wru : (keys : List (ℕ × ℕ)) (u : UnitName) (w : Want) (watch watch' : WatchState) (m n h now : MachineState) → Hosts keys u w hosted.Wru watch watch' m n h now
    → TookWru keys (moment_of watch m) watch' now
hosts-wru keys u w watch watch' m n h now x =
    let same : n.taken ≡ m.taken = ap (λ (y : MachineState). y.taken) x.asked_is ∙ asked-taken u m in
    let time : n.time ≡ now.time = sym x.after in
    let O : ℕ → ℕ → Type 0 = λ t k. own_stop (first_key (due_send t watch.sends) (due_key keys k t)) watch.expects w ≡ Some Wru in
    let T : ℕ → ℕ → Type 0 = λ t k. now.taken ≡ taken_after k (typed_key (due_send t watch.sends) (due_key keys k t)) w in
    let W : ℕ → Type 0 = λ t. watch' ≡ watch_behind t w hosted.Wru watch in
    wru-taken keys (moment_of watch m) watch' now w watch.expects
    (subst (λ (t : ℕ). O t m.taken) time (subst (λ (k : ℕ). O n.time k) same x.made_is))
    (subst W time x.watched)
    (subst (λ (t : ℕ). T t m.taken) time (subst (λ (k : ℕ). T n.time k) same (x.kept ∙ x.taken)))

asked-units : (u : UnitName) (m : MachineState) → (asked u m).units ≡ after_at (code_of u.kind) (Due u.unit) m.units
unfolding asked
asked-units u m = refl

answered-units : (u : UnitName) (g : Got) (h : MachineState) → (answered u g h).machine.units ≡ after_at (code_of u.kind) (Answered u.unit g) h.units
unfolding answered
answered-units u g h = refl

-- a unit that only writes is at the largest place where it is told that it is at the end
full-behind : (u : UnitName) (g : Got) (m n h now : MachineState) → n ≡ asked u m → h.units ≡ n.units → now ≡ (answered u g h).machine → IsPastRoom (want_at u m) (Gets g) → CanBeHosted (want_at u m) u.kind
    → (row_or_nothing (Answered u.unit g) (unit_at (code_of u.kind) h.units)).stop ≡ unit_stop.End → IsFull u now
full-behind u g m n h now asks units is past can ends = λ writes.
    let code = code_of u.kind in
    let there = unit_at code m.units in
    let before : unit_at code h.units ≡ option_map (λ (x : UnitState). moved x (Due u.unit)) there =
    ap (unit_at code) (units ∙ ap (λ (y : MachineState). y.units) asks ∙ asked-units u m) ∙ after-here code (Due u.unit) m.units in
    let behind : unit_at code now.units ≡ option_map (λ x. moved x (Answered u.unit g)) (unit_at code h.units) =
    ap (unit_at code) (ap (λ (y : MachineState). y.units) is ∙ answered-units u g h) ∙ after-here code (Answered u.unit g) h.units in
    let stop : (row_or_nothing (Answered u.unit g) (option_map (λ (x : UnitState). moved x (Due u.unit)) there)).stop ≡ unit_stop.End =
    subst (λ (o : Option UnitState). (row_or_nothing (Answered u.unit g) o).stop ≡ unit_stop.End) before ends in
    ap (λ (o : Option UnitState). option_and_then (λ (x : UnitState). slice_get x.registers pos_number) o)
    (behind ∙ ap (λ (o : Option UnitState). option_map (λ x. moved x (Answered u.unit g)) o) before)
    ∙ full-found u.kind u.unit g there (kind-found u.kind m.units) writes past can stop

-- a unit is answered
pub hosts-gets : (keys : List (ℕ × ℕ)) (u : UnitName) (w : Want) (g : Got) (watch watch' : WatchState) (m n h now : MachineState) (stop : Option Stop) → Hosts keys u w (Gets g) watch watch' m n h now
    → now.slots ≡ n.slots → w ≡ want_at u m → h.units ≡ n.units → CanBeHosted w u.kind → IsPastRoom w (Gets g)
    → stop ≡ (answered u g h).stop → now ≡ (answered u g h).machine → ServiceCause stop keys (moment_of watch m) watch' now
hosts-gets keys u w g watch watch' m n h now stop x slots want_is units can past stops is =
    answered-cause keys (moment_of watch m) watch' u g h now (attachment_at (attached_in n) u) stop x.made_is.0
    (ap (λ (s : List (Option Held)). attachment_at (attachments_of s) u) slots)
    (full-behind u g m n h now x.asked_is units is (subst (λ (y : Want). IsPastRoom y (Gets g)) want_is past) (subst (λ (y : Want). CanBeHosted y u.kind) want_is can)) stops is

-- a unit is answered of a line
of-no-file : (a : Option Attachment) (g : Got) → IsOfLine g → IsGotOf a g
of-no-file a got.End of = absurd of
of-no-file a got.NoFile of = absurd of
of-no-file a (got.Tape tape) of = absurd of
of-no-file a g of = tt

no-end : (g : Got) → IsOfLine g → ¬ IsEnd g
no-end got.End of = λ end. of
no-end got.NoFile of = λ end. end
no-end (got.Tape tape) of = λ end. of
no-end g of = λ end. end

pub line-cause : (keys : List (ℕ × ℕ)) (start : Moment) (watch : WatchState) (u : UnitName) (g : Got) (h now : MachineState) (stop : Option Stop) → IsOfLine g
    → stop ≡ (answered u g h).stop → now ≡ (answered u g h).machine → ServiceCause stop keys start watch now
line-cause keys start watch u g h now stop of stops is =
    let there = unit_at (code_of u.kind) h.units in
    let found = unit-stops u.kind u.unit g there (kind-found u.kind h.units) in
    let a = attachment_at (attached_in now) u in
    answered-cause keys start watch u g h now a stop (of-no-file a g of) refl (λ same. absurd (no-end g of (found.row.ended same))) stops is

-- ---- what the files of units say

-- a byte is written
pub write-made : (answer : ByteAnswer) (a : Option Attachment) (place byte_written : ℕ) (kind : Kind) (key : Option ℕ) (expects : ExpectTable) → said_of_byte answer ≡ write_act (failure_of_byte answer) a place
    → IsMadeOf (want.WriteByte place byte_written) kind a key expects (hosted_of answer)
unfolding write_act
write-made (byte.Byte x) a place b kind key expects said = (tt, refl)
write-made byte.Written a place b kind key expects said = (tt, refl)
write-made byte.End None place b kind key expects said = absurd (cc)
write-made byte.End (Some a) place b kind key expects said = ((a, refl), refl)
write-made byte.NoFile None place b kind key expects said = (refl, refl)
write-made byte.NoFile (Some a) place b kind key expects said = absurd (never (nat_lt place most_bytes) said)
  where
    never : (t : Bool) → NothingThere ≢ (if t then WasWritten else AtEnd)
    never true e = absurd (cc)
    never false e = absurd (cc)
write-made (byte.Failed f) a place b kind key expects said = tt

pub write-past : (answer : ByteAnswer) (a : Option Attachment) (place byte_written : ℕ) → said_of_byte answer ≡ write_act (failure_of_byte answer) a place
    → IsPastRoom (want.WriteByte place byte_written) (hosted_of answer)
unfolding write_act most_bytes
write-past byte.End None place b said = absurd (cc)
write-past byte.End (Some a) place b said = by-test (nat_lt place 16777216) refl said
  where
    by-test : (t : Bool) → nat_lt place 16777216 ≡ t → AtEnd ≡ (if t then WasWritten else AtEnd) → position.largest ≤ place
    by-test true low e = absurd (cc)
    by-test false low e = grind (arith, nat_tests)
write-past answer a place b said = tt

-- an operation on the file of a drive has an answer
pub tape-made : (g : Got) (a : Option Attachment) → IsThere a → IsOfTape (Ok g) → IsGotOf a g
tape-made (got.Tape tape) a there of = there
tape-made got.Done a there of = tt
tape-made g a there of = absurd of
