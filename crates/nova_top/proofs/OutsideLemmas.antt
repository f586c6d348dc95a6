-- The whole program against its outcome.
use Rattle.std.proofs.Common.{◌≡◌, ◌≢◌, inl, inr, ℕ, zero, suc, ◌+◌, ◌-◌, nat_le, Bool, true, false, if◌then◌else◌, ◌<◌, List, [], ◌++◌, length, take, drop, refl, ap, sym, ◌∙◌, arith, append-nil, length-take-le, Option, Some, None}
use Rattle.file_traits.specs.Lists.{NamedBytes}
use Rattle.observations.specs.Observations.{Trace}
use Rattle.observations.specs.Cut.{ends, cut_trace, sent_until, map_outcome}
use Rattle.observations.proofs.CutLemmas.{cut-printed, cut-refused, cut-map, sent-map, whole, all-sent}
use Rattle.file_commands.specs.Notes.{Note}
use Rattle.expect_actions.specs.KeysFile.{Key}
use Rattle.unit_trait.specs.Calls.{UnitState}
use Rattle.nova_machine.specs.Machine.{MachineState}
use Rattle.host_lines.specs.declared.lines.Sent.{Sent}
use Rattle.host_lines.specs.Traffic.{Ahead}
use Rattle.host_lines.specs.Told.{ahead_of, Heard, Named, Unnamed}
use Rattle.nova_machine.specs.Seen.{seen, beside}
use Rattle.nova_machine.specs.Comes.{output}
use Rattle.nova_machine.specs.LineChanges.{heard_with}
use Rattle.command_session.specs.Live.{Beyond}
use Rattle.scp_script.specs.declared.progress.Finish.{Finish}
use Rattle.scp_script.specs.declared.progress.Finish.TheVariants.{Exit, EndOfInput, FlushFailed, Commands, Console, Input, OutOfMemory}
use Rattle.session_texts.specs.Lines.{reads_left}
use Rattle.scp_script.specs.Session.{State, trace}
use Rattle.scp_script.specs.Loop.{IsExitStatus, LetsThrough, status_of}
use Rattle.scp_script.specs.Perform.{IsSession}
use Rattle.command_words.specs.declared.options.Options.{Options}
use Rattle.command_words.specs.Words.{options_of}
use Rattle.expect_actions.specs.Watch.{WatchState}
use Rattle.nova_top.specs.Outside.{Outside, Left, left_by, session_with, opening, trace_from, whole_trace, trace_of, outcome, sent_by}
use Rattle.program_start.specs.Start.{Start, Refused, Begins, start_of}
use Rattle.nova_top.specs.Ends.{IsOutcome, IsComplete, left_at, handed_in, IsWholeOutcome}
use Rattle.program_start.specs.WordFiles.{IsRefused}

-- the outcome by how it starts, and what was sent
outcome-start : (units : List UnitState) (words : List (List ℕ)) (input : List ℕ) (old : Beyond) (notes : List Note) (takes gives : ℕ) (start : Start) (used : ℕ) (own : List Note)
    → start_of (options_of words) words old.files notes ≡ (start, used) → drop used notes ≡ own
    → outcome (handed_in units words input old notes takes gives) ≡ cut_trace takes gives (trace_from units words start old.files (ahead_of old.lines.told old.whole) input own)
unfolding outcome whole_trace
outcome-start units words input old notes takes gives start used own is rest =
    let ahead = ahead_of old.lines.told old.whole in
    ap (λ (p : Start × ℕ). cut_trace takes gives (trace_from units words p.0 old.files ahead input (drop p.1 notes))) is
    ∙ ap (λ (n : List Note). cut_trace takes gives (trace_from units words start old.files ahead input n)) rest

sent-start : (units : List UnitState) (words : List (List ℕ)) (input : List ℕ) (old : Beyond) (notes : List Note) (takes gives : ℕ) (start : Start) (used : ℕ) (own : List Note)
    → start_of (options_of words) words old.files notes ≡ (start, used) → drop used notes ≡ own
    → sent_by (handed_in units words input old notes takes gives) ≡ sent_until takes gives (trace_from units words start old.files (ahead_of old.lines.told old.whole) input own).made
unfolding sent_by whole_trace
sent-start units words input old notes takes gives start used own is rest =
    let ahead = ahead_of old.lines.told old.whole in
    ap (λ (p : Start × ℕ). sent_until takes gives (trace_from units words p.0 old.files ahead input (drop p.1 notes)).made) is
    ∙ ap (λ (n : List Note). sent_until takes gives (trace_from units words start old.files ahead input n).made) rest

-- ---- a text that refuses

text-cut : (units : List UnitState) (words : List (List ℕ)) (status : ℕ) (text : List ℕ) (old : Beyond) (input : List ℕ) (gives : ℕ)
    → cut_trace (length text) gives (trace_from units words (Refused status text) old.files (ahead_of old.lines.told old.whole) input []) ≡ ends status text 0 (left_at None old)
text-cut units words status text old input gives =
    let left : Left = left_at None old in
    cut-printed text left [] (record { status = status; state = left }) (length text) gives (omega arith)
    ∙ ap (λ (t : List ℕ). ends status t 0 left) (append-nil text)

text-refused : (units : List UnitState) (words : List (List ℕ)) (status : ℕ) (text : List ℕ) (old : Beyond) (input : List ℕ) (n gives : ℕ) → n < length text
    → cut_trace n gives (trace_from units words (Refused status text) old.files (ahead_of old.lines.told old.whole) input []) ≡ ends 102 (take n text) 0 (left_at None old)
text-refused units words status text old input n gives short =
    let left : Left = left_at None old in
    cut-refused text left [] (record { status = status; state = left }) n gives short

-- nothing is sent with it
either-same : (sent : List (ℕ × ℕ)) (b : Bool) → (if b then sent else sent) ≡ sent
either-same sent true = refl
either-same sent false = refl

refusal-sent : (units : List UnitState) (words : List (List ℕ)) (status : ℕ) (text : List ℕ) (old : Beyond) (input : List ℕ) (n gives : ℕ)
    → sent_until n gives (trace_from units words (Refused status text) old.files (ahead_of old.lines.told old.whole) input []).made ≡ []
refusal-sent units words status text old input n gives = either-same [] (nat_le (length text) n)

abbrev no_bytes : List ℕ
no_bytes = []

heard-none : (h : Heard) → heard_with h [] ≡ h
heard-none (Named sent) = ap (λ (l : List Sent). Named l) (append-nil sent)
heard-none (Unnamed room bytes) = ap (λ (l : List ℕ). Unnamed room l) (ap (λ (l : List ℕ). bytes ++ l) (take-nil (room - length bytes)) ∙ append-nil bytes)
  where
    take-nil : (n : ℕ) → take n no_bytes ≡ no_bytes
    take-nil zero = refl
    take-nil (suc n) = refl

left-same : (old new : Beyond) (machine : Option MachineState) (status : ℕ) (text : List ℕ) → machine ≡ None → new ≡ old
    → ends {S = Left} status text 0 (left_at None old) ≡ ends {S = Left} status text 0 (left_at machine new)
left-same old new machine status text none same = sym (λ i. ends {S = Left} status text 0 (left_at (none i) (same i)))

-- callers have heard nothing more
heard-same : (units : List UnitState) (words : List (List ℕ)) (input : List ℕ) (old new : Beyond) (notes : List Note) (takes gives status : ℕ) (text : List ℕ) (used : ℕ)
    → start_of (options_of words) words old.files notes ≡ (Refused status text, used) → drop used notes ≡ [] → new ≡ old
    → new.lines.sent ≡ heard_with old.lines.sent (sent_by (handed_in units words input old notes takes gives))
heard-same units words input old new notes takes gives status text used start rest same =
    ap (λ (b : Beyond). b.lines.sent) same ∙ sym (heard-none old.lines.sent)
    ∙ ap (heard_with old.lines.sent) (sym (sent-start units words input old notes takes gives (Refused status text) used [] start rest ∙ refusal-sent units words status text old input takes gives))

pub refused-outcome : (units : List UnitState) (words : List (List ℕ)) (input before after : List ℕ) (old new : Beyond) (status_there status : ℕ) (text : List ℕ) (machine : Option MachineState) (notes : List Note) (used : ℕ)
    → start_of (options_of words) words old.files notes ≡ (Refused status_there text, used) → drop used notes ≡ [] → machine ≡ None → new ≡ old → status_there ≢ 106
    → IsRefused status_there text status before after → IsOutcome units words input input before after old new status machine notes
refused-outcome units words input before after old new status_there status text machine notes used start rest none same other (inl h) =
    record {
      taken = text;
      gives = length input + 1;
      made = 0;
      failed_read = λ s. absurd (other (sym h.0 ∙ s));
      no_failed_read = λ _. refl;
      written = h.1;
      rest = refl;
      is = outcome-start units words input old notes (length text) (length input + 1) (Refused status_there text) used [] start rest
          ∙ text-cut units words status_there text old input (length input + 1)
          ∙ left-same old new machine status_there text none same
          ∙ ap (λ (s : ℕ). ends {S = Left} s text 0 (left_at machine new)) (sym h.0);
      heard = heard-same units words input old new notes (length text) (length input + 1) status_there text used start rest same;
    }
refused-outcome units words input before after old new status_there status text machine notes used start rest none same other (inr h) =
    let n = h.1.0 in
    record {
      taken = take n text;
      gives = length input + 1;
      made = 0;
      failed_read = λ s. absurd (omega (arith, s, h.0));
      no_failed_read = λ _. refl;
      written = h.1.2;
      rest = refl;
      is = outcome-start units words input old notes (length (take n text)) (length input + 1) (Refused status_there text) used [] start rest
          ∙ ap (λ (k : ℕ). cut_trace k (length input + 1) (trace_from units words (Refused status_there text) old.files (ahead_of old.lines.told old.whole) input [])) (length-take-le n text (omega (arith, h.1.1)))
          ∙ text-refused units words status_there text old input n (length input + 1) h.1.1
          ∙ left-same old new machine 102 (take n text) none same
          ∙ ap (λ (s : ℕ). ends {S = Left} s (take n text) 0 (left_at machine new)) (sym h.0);
      heard = heard-same units words input old new notes (length (take n text)) (length input + 1) status_there text used start rest same;
    }

-- ---- a session

-- a session's cut, with what is left in each place, and what is sent until then
session-cut : (units : List UnitState) (words : List (List ℕ)) (options : Options) (keys : List Key) (script : Option (List ℕ)) (files : List NamedBytes) (ahead : Ahead) (input : List ℕ) (own : List Note) (takes gives status made : ℕ) (taken : List ℕ) (state : State)
    → cut_trace takes gives (trace (opening units words options keys script files ahead input own)) ≡ ends status taken made state
    → cut_trace takes gives (trace_from units words (Begins options keys script) files ahead input own) ≡ ends status taken made (left_by state)
session-cut units words options keys script files ahead input own takes gives status made taken state e =
    let t : Trace State = trace (opening units words options keys script files ahead input own) in
    cut-map left_by t.made t.ended takes gives ∙ ap (map_outcome left_by) e

failed-lets : (finish : Finish) (gives made all : ℕ) → LetsThrough finish gives made all → IsExitStatus finish → status_of finish ≡ 106 → gives ≡ made
failed-lets (Exit status) gives made all h small s = absurd (omega (arith, small, s))
failed-lets EndOfInput gives made all h small s = absurd (omega (arith, s))
failed-lets FlushFailed gives made all h small s = absurd (omega (arith, s))
failed-lets Commands gives made all h small s = absurd (omega (arith, s))
failed-lets Console gives made all h small s = absurd (omega (arith, s))
failed-lets Input gives made all h small s = h
failed-lets OutOfMemory gives made all h small s = absurd (omega (arith, s))

other-lets : (finish : Finish) (gives made all : ℕ) → LetsThrough finish gives made all → status_of finish ≢ 106 → gives ≡ all
other-lets (Exit status) gives made all h s = h
other-lets EndOfInput gives made all h s = h
other-lets FlushFailed gives made all h s = h
other-lets Commands gives made all h s = h
other-lets Console gives made all h s = h
other-lets Input gives made all h s = absurd (s refl)
other-lets OutOfMemory gives made all h s = h

opening-input : (units : List UnitState) (words : List (List ℕ)) (options : Options) (keys : List Key) (script : Option (List ℕ)) (files : List NamedBytes) (ahead : Ahead) (input : List ℕ) (own : List Note)
    → (opening units words options keys script files ahead input own).input ≡ input
unfolding session_with
opening-input units words options keys script files ahead input own = refl

opening-reads : (units : List UnitState) (words : List (List ℕ)) (options : Options) (keys : List Key) (script : Option (List ℕ)) (files : List NamedBytes) (ahead : Ahead) (input : List ℕ) (own : List Note)
    → reads_left (opening units words options keys script files ahead input own).open_ (opening units words options keys script files ahead input own).input ≡ length input + 1
unfolding session_with
opening-reads units words options keys script files ahead input own = refl

pub session-outcome : (units : List UnitState) (words : List (List ℕ)) (options : Options) (keys keys' : List Key) (script : Option (List ℕ)) (input left before after : List ℕ) (old new : Beyond) (finish : Finish) (watch : WatchState) (now : MachineState) (notes own : List Note) (used : ℕ)
    → start_of (options_of words) words old.files notes ≡ (Begins options keys script, used) → drop used notes ≡ own → IsExitStatus finish
    → IsSession (opening units words options keys script old.files (ahead_of old.lines.told old.whole) input own) finish (seen (beside watch keys' new.files new.lines) new.whole now) left
    (output before old.lines.sent) (output after new.lines.sent) → IsOutcome units words input left before after old new (status_of finish) (Some now) notes
session-outcome units words options keys keys' script input left before after old new finish watch now notes own used start rest small s =
    let ahead = ahead_of old.lines.told old.whole in
    let t : Trace State = trace (opening units words options keys script old.files ahead input own) in
    record {
      taken = s.end.taken;
      gives = s.gives;
      made = s.made;
      failed_read = failed-lets finish s.gives s.made _ s.lets_through small;
      no_failed_read = λ other. other-lets finish s.gives s.made _ s.lets_through other ∙ opening-reads units words options keys script old.files ahead input own;
      written = s.end.written;
      rest = s.rest ∙ ap (drop s.made) (opening-input units words options keys script old.files ahead input own);
      is = outcome-start units words input old notes (length s.end.taken) s.gives (Begins options keys script) used own start rest
          ∙ session-cut units words options keys script old.files ahead input own (length s.end.taken) s.gives (status_of finish) s.made s.end.taken
          (record { live = seen (beside watch keys' new.files new.lines) new.whole now; notes = [] }) s.end.outcome;
      heard = s.end.heard
          ∙ ap (heard_with old.lines.sent) (sym (sent-start units words input old notes (length s.end.taken) s.gives (Begins options keys script) used own start rest
          ∙ sent-map left_by t.made (length s.end.taken) s.gives));
    }

-- ---- without faults

pub whole-outcome : (o : Outside) → (outcome o).status ≢ 102 → (outcome o).status ≢ 106 → IsWholeOutcome o
unfolding outcome sent_by
whole-outcome o p r =
    let t : Trace Left = trace_of o in
    let w = whole t.made t.ended o.takes o.gives p r in
    record { status = w.status; console = w.console; reads = w.reads; state = w.state; sent = all-sent t.made t.ended o.takes o.gives p r }

-- without faults the program comes to the end of the whole trace
pub complete : (units : List UnitState) (words : List (List ℕ)) (input left before after : List ℕ) (old new : Beyond) (status : ℕ) (machine : Option MachineState) → status ≢ 102 → status ≢ 106
    → IsOutcome units words input left before after old new status machine [] → IsComplete units words input left before after old new status machine
complete units words input left before after old new status machine console read o =
    let is = o.is in
    let same = ap (λ o. o.status) is in
    let w = whole-outcome (handed_in units words input old [] (length o.taken) o.gives) (λ e. console (sym same ∙ e)) (λ e. read (sym same ∙ e)) in
    record {
      status_is = sym same ∙ w.status;
      is = ap (λ o. o.state) (sym is) ∙ w.state;
      printed = o.written ∙ ap (λ (t : List ℕ). before ++ t) (sym (ap (λ o. o.console) is) ∙ w.console);
      rest = o.rest ∙ ap (λ (n : ℕ). drop n input) (sym (ap (λ o. o.reads) is) ∙ w.reads);
      heard = o.heard ∙ ap (heard_with old.lines.sent) w.sent;
    }
