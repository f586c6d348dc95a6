-- A session at rest can be saved, and what is saved of it fits the fields of a state file.
use Rattle.std.proofs.Common.{◌≡◌, ◌≢◌, ℕ, zero, suc, ◌<◌, ◌≤◌, ◌^◌, List, [], ◌∷◌, ◌++◌, length, map, Option, Some, None, IfSome, refl, sym, ap, ◌∙◌, subst, arith}
use Rattle.std.specs.Prelude.{get_or, unwrap_or, slice_get}
use Rattle.std.specs.Str.{bytes_eq}
use Rattle.std.specs.List.{AllByRecursion}
use Rattle.std.proofs.lemmas.Bool.{cond_both}
use Rattle.std.proofs.lemmas.List.{length-map, length-replicate}
use Rattle.std.proofs.lemmas.List.Concat.{flat_map-cons}
use Rattle.file_traits.specs.Lists.{NamedBytes, find_file, bytes_of}
use Rattle.host_lines.specs.Traffic.{Peer}
use Rattle.telnet_lines.specs.Line.{LineOf}
use Rattle.unit_files.specs.Attachments.{Attachment, Held, attachments_of, attachment_at, file_place}
use Rattle.expect_actions.specs.declared.breaks.Break.{Break}
use Rattle.expect_actions.specs.declared.expects.Expect.{Expect}
use Rattle.expect_actions.specs.Sends.{Send, InTime}
use Rattle.expect_actions.specs.Watch.{WatchState}
use Rattle.nova_machine.specs.Machine.{MachineState, line_count, console_place, place_of as line_place}
use Rattle.nova_machine.specs.Seen.{erased, attached_in}
use Rattle.nova_machine.specs.Valid.{IsByteName, HasByteName, ValidBreak, ValidExpect, ValidWatch, IsPort, ValidLine}
use Rattle.saved_files.specs.declared.taking.UnitPlace.{UnitPlace}
use Rattle.saved_session.specs.Parts.{FilePart}
use Rattle.state_text.specs.Laws.{HasWidths}
use Rattle.state_text.proofs.LooseLaws.{FileHasWidths, BreakHasWidths, ExpectHasWidths, SendHasWidths, PortsHaveWidths, session_widths}
use Rattle.saved_session.specs.Valid.{BreaksFit, ExpectsFit, WatchFits, Fits}
use Rattle.state_transfer.specs.PutBack.{IsIdleLine}
use Rattle.saved_files.specs.Taking.{unit_at, file_places, saved_file, saved_at, saved_files}
use Rattle.state_transfer.specs.Session.{saved_machine, port_number, port_of, saved_ports}
use Rattle.saved_session.specs.SavedWatch.{saved_break, saved_expect, saved_send, saved_watch}
use Rattle.state_laws.proofs.SavedLemmas.{machine-valid}
use Rattle.state_laws.proofs.SavedFileLemmas.{file-widths, few-saved}
use Rattle.state_transfer.proofs.TakenFits.{machine-fits}
use Rattle.command_session.specs.Live.{Live}
use Rattle.command_laws.specs.Valid.{IsProgramMachine, ValidLive}
use Rattle.command_laws.specs.Resumption.{saved_among, HasNobody, HaveLengths, IsAtRest, IsSavable}

-- ---- the files

measured : (files : List NamedBytes) (name : List ℕ) → HaveLengths files → length (bytes_of files name) < 2 ^ 64
measured [] name all = omega arith
measured (f ∷ files) name all =
    cond_both (bytes_eq f.0 name) (Some f.1) (find_file files name) (λ (o : Option (List ℕ)). length (unwrap_or o []) < 2 ^ 64) (λ _. all.0) (λ _. measured files name all.1)

-- a place whose numbers are bytes
abbrev IsLow : UnitPlace → Type 0
IsLow p = (p.position < 2 ^ 8) × (p.unit < 2 ^ 8)

all-low : AllByRecursion IsLow file_places
unfolding file_places
all-low = (
  (omega arith, omega arith),
  (
    (omega arith, omega arith),
    (
      (omega arith, omega arith),
      (
        (omega arith, omega arith),
        (
          (omega arith, omega arith),
          (
            (omega arith, omega arith),
            (
              (omega arith, omega arith),
              (
                (omega arith, omega arith),
                ((omega arith, omega arith), ((omega arith, omega arith), ((omega arith, omega arith), ((omega arith, omega arith), tt)))),
              ),
            ),
          ),
        ),
      ),
    ),
  ),
)

-- what a field of the file takes
record FitsPart (f : FilePart) : Type 0 where
  name : length f.name < 2 ^ 16
  widths : FileHasWidths f

part-fits : (files : List NamedBytes) (p : UnitPlace) (a : Attachment) → HaveLengths files → IsLow p → IsByteName a.name → FitsPart (saved_file p a (bytes_of files a.name))
part-fits files p a all low named =
    let few = named.short in
    let short : length a.name < 2 ^ 16 = omega (arith, few) in
    record {
      name = short;
      widths = file-widths p a (bytes_of files a.name) low.0 low.1 short named.bytes (measured files a.name all);
    }

name-at : (slots : List (Option Held)) (place : ℕ) → AllByRecursion HasByteName slots → IfSome (get_or (attachments_of slots) place None) (λ (a : Attachment). IsByteName a.name)
name-at [] place all = tt
name-at (None ∷ slots) zero all = tt
name-at (Some h ∷ slots) zero all = all.0
name-at (slot ∷ slots) (suc place) all = name-at slots place all.1

every-both : {A : Type 0} (P : A → Type 0) (xs ys : List A) → AllByRecursion P xs → AllByRecursion P ys → AllByRecursion P (xs ++ ys)
every-both P [] ys first second = second
every-both P (x ∷ xs) ys first second = (first.0, every-both P xs ys first.1 second)

parts-fit : (slots : List (Option Held)) (files : List NamedBytes) (ps : List UnitPlace) → HaveLengths files → AllByRecursion IsLow ps → AllByRecursion HasByteName slots
    → AllByRecursion FitsPart (saved_files files (attachments_of slots) ps)
parts-fit slots files [] all low named = tt
parts-fit slots files (p ∷ ps) all low named =
    subst (AllByRecursion FitsPart) (sym (flat_map-cons (λ (q : UnitPlace). saved_at files q (attachment_at (attachments_of slots) (unit_at q))) p ps))
    (every-both FitsPart (saved_at files p (attachment_at (attachments_of slots) (unit_at p))) (saved_files files (attachments_of slots) ps)
    (one (attachment_at (attachments_of slots) (unit_at p)) (name-at slots (file_place (unit_at p)) named)) (parts-fit slots files ps all low.1 named))
  where
    one : (a : Option Attachment) → IfSome a (λ (b : Attachment). IsByteName b.name) → AllByRecursion FitsPart (saved_at files p a)
    one None named = tt
    one (Some a) named = (part-fits files p a all low.0 named, tt)

every-gives : {A : Type 0} (P Q : A → Type 0) (xs : List A) → ((x : A) → P x → Q x) → AllByRecursion P xs → AllByRecursion Q xs
every-gives P Q [] gives all = tt
every-gives P Q (x ∷ xs) gives all = (gives x all.0, every-gives P Q xs gives all.1)

-- ---- what a run watches

breaks-fit : (bs : List Break) → AllByRecursion ValidBreak bs → BreaksFit (map saved_break bs)
breaks-fit [] all = tt
breaks-fit (b ∷ bs) all = let short = all.0.actions.short in (omega (arith, short), breaks-fit bs all.1)

breaks-widths : (bs : List Break) → AllByRecursion ValidBreak bs → AllByRecursion BreakHasWidths (map saved_break bs)
breaks-widths [] all = tt
breaks-widths (b ∷ bs) all =
    let low = all.0.address in let short = all.0.actions.short in
    (((omega (arith, low), refl), ((all.0.count, refl), ((omega (arith, short), refl), (all.0.actions.bytes, refl)))), breaks-widths bs all.1)

expects-fit : (es : List Expect) → AllByRecursion ValidExpect es → ExpectsFit (map saved_expect es)
expects-fit [] all = tt
expects-fit (e ∷ es) all = let long = all.0.long in let short = all.0.actions.short in ((omega (arith, long), omega (arith, short)), expects-fit es all.1)

expects-widths : (es : List Expect) → AllByRecursion ValidExpect es → AllByRecursion ExpectHasWidths (map saved_expect es)
expects-widths [] all = tt
expects-widths (e ∷ es) all =
    let long = all.0.long in let short = all.0.actions.short in
    (((all.0.count, refl), (((omega (arith, long), refl), (all.0.text, refl)), ((omega (arith, short), refl), (all.0.actions.bytes, refl)))), expects-widths es all.1)

sends-widths : (sends : List Send) → InTime sends → AllByRecursion (λ (send : Send). send.1 < 2 ^ 8) sends → AllByRecursion SendHasWidths (map saved_send sends)
sends-widths [] times bytes = tt
sends-widths (send ∷ sends) times bytes = let most = times.0 in (((omega (arith, most), refl), (bytes.0, refl)), sends-widths sends times.2 bytes.1)

watch-fits : (w : WatchState) → ValidWatch w → WatchFits (saved_watch w)
unfolding saved_watch
watch-fits w is =
    let breaks = length-map w.breaks.list saved_break in
    let expects = length-map w.expects.list saved_expect in
    let sends = length-map w.sends saved_send in
    let few = is.breaks in let some = is.expects in let short = is.tail in let most = is.sends in
    record {
      breaks = omega (arith, breaks, few);
      actions = breaks-fit w.breaks.list is.each;
      expects = omega (arith, expects, some);
      texts = expects-fit w.expects.list is.texts;
      tail = omega (arith, short);
      sends = omega (arith, sends, most);
    }

-- ---- the lines

low-at : (place : ℕ) (lines : List (LineOf Peer)) → AllByRecursion ValidLine lines → port_of (slice_get lines place) < 2 ^ 16
low-at place [] all = omega arith
low-at zero (line ∷ lines) all = by line.port all.0.port
  where
    by : (port : Option ℕ) → IfSome port IsPort → port_number port < 2 ^ 16
    by None is = omega arith
    by (Some port) is = is.1
low-at (suc place) (line ∷ lines) all = low-at place lines all.1

ports-low : (lines : List (LineOf Peer)) → AllByRecursion ValidLine lines → PortsHaveWidths (saved_ports lines)
unfolding saved_ports
ports-low lines all =
    record { tti1 = low-at (line_place 0) lines all; qty = low-at (line_place 1) lines all; console = low-at console_place lines all }

idle-line : (line : LineOf Peer) → ValidLine line → HasNobody line → IsIdleLine line
idle-line line is none = record { nobody = is.nothing none; port = not-0 line.port is.port }
  where
    not-0 : (port : Option ℕ) → IfSome port IsPort → port ≢ Some 0
    not-0 None is = λ e. absurd (cc)
    not-0 (Some port) is = λ e. let low : 1 ≤ 0 = subst (λ (o : Option ℕ). IfSome o (λ (n : ℕ). 1 ≤ n)) e is.0 in absurd (omega (arith, low))

idle-lines : (lines : List (LineOf Peer)) → AllByRecursion ValidLine lines → AllByRecursion HasNobody lines → AllByRecursion IsIdleLine lines
idle-lines [] all nobody = tt
idle-lines (line ∷ lines) all nobody = (idle-line line all.0 nobody.0, idle-lines lines all.1 nobody.1)

-- ---- all of it

erased-same : (m : MachineState) → IsProgramMachine m → erased m ≡ m
erased-same m is =
    λ i. record m { slots = is.numbers i; aside = sym is.aside i; lines = sym is.lines i }

fits : (s : Live) (files : List NamedBytes) → ValidLive s → AllByRecursion FitsPart (saved_files files (attached_in s.machine) file_places) → Fits (saved_among files s)
fits s files is parts =
    let valid = is.valid in
    record {
      machine = machine-fits s.machine valid.machine.memory valid.machine.size valid.machine.core is.machine.units;
      files = few-saved files (attached_in s.machine);
      names = every-gives FitsPart (λ (f : FilePart). length f.name < 2 ^ 16) (saved_files files (attached_in s.machine) file_places) (λ f x. x.name) parts;
      watch = watch-fits s.watch valid.watch;
    }

widths : (s : Live) (files : List NamedBytes) → ValidLive s → AllByRecursion FitsPart (saved_files files (attached_in s.machine) file_places) → HasWidths (saved_among files s)
unfolding saved_machine saved_watch
widths s files is parts =
    let valid = is.valid in
    session_widths (saved_among files s) (machine-valid s.machine valid.machine is.time valid.taken is.machine.units) (fits s files is parts)
    (every-gives FitsPart FileHasWidths (saved_files files (attached_in s.machine) file_places) (λ f x. x.widths) parts) (ports-low s.lines valid.lines)
    (record {
      breaks = breaks-widths s.watch.breaks.list valid.watch.each;
      expects = expects-widths s.watch.expects.list valid.watch.texts;
      tail = valid.watch.printed;
      sends = sends-widths s.watch.sends valid.watch.in_time valid.watch.bytes;
    })

pub savable : (s : Live) (files : List NamedBytes) → IsAtRest s → HaveLengths files → IsSavable files s
savable s files rest all =
    let is = rest.session in
    let valid = is.valid in
    let parts = parts-fit s.machine.slots files file_places all all-low valid.machine.names in
    record {
      can = record {
        memory = valid.machine.memory;
        size = valid.machine.size;
        places = valid.machine.places;
        seen = erased-same s.machine is.machine;
        copy = rest.copy;
        written = rest.written;
        watch = rest.watch;
        many = is.count ∙ ap suc (length-replicate (line_count s.machine.units) _);
        numbered = is.numbered;
        idle = idle-lines s.lines valid.lines rest.nobody;
      };
      fits = fits s files is parts;
      widths = widths s files is parts;
    }
