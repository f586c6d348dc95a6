-- A session is in range once a valid state was put back.
use Rattle.std.proofs.Common.{◌≡◌, ◌≢◌, ℕ, zero, suc, ◌+◌, ◌≤◌, ◌<◌, ◌^◌, ◌&&◌, ◌||◌, not, Bool, true, false, List, [], ◌∷◌, ◌++◌, length, map, Option, Some, None, IfSome, refl, sym, ap, ◌∙◌, subst, arith}
use Rattle.std.specs.Prelude.{nat_le}
use Rattle.std.specs.List.{AllByRecursion}
use Rattle.std.proofs.lemmas.Bool.{and_parts, leb-true}
use Rattle.host_lines.specs.Traffic.{Peer}
use Rattle.telnet_lines.specs.Line.{LineOf, unconnected}
use Rattle.terminal_ports.specs.Ports.{changed_at}
use Rattle.terminal_ports.specs.Rows.{row_from, with_ports}
use Rattle.nova_machine.specs.Machine.{console_place, place_of as line_place}
use Rattle.unit_files.specs.Attachments.{Attachment, no_attachments, attachment_at}
use Rattle.unit_files.specs.Buffer.{disk_unit}
use Rattle.expect_actions.specs.KeysFile.{most_keys}
use Rattle.nova_machine.specs.Run.{last_time}
use Rattle.nova_machine.specs.Seen.{Seen}
use Rattle.nova_machine.specs.Valid.{IsPort, ValidLine, Valid as ValidSeen, CopyIsFile, DiskIsItsFile}
use Rattle.saved_session.specs.Parts.{State}
use Rattle.saved_session.specs.declared.saved.SavedPorts.{SavedPorts}
use Rattle.saved_session.specs.Ranges.{has_multiplexer, is_among, is_multiplexer_port}
use Rattle.saved_session.specs.Valid.{ArePorts, Valid}
use Rattle.saved_files.specs.Putting.{with_all, copy_of}
use Rattle.state_transfer.specs.Ports.{how_many, is_line, multiplexer_lines, assigned}
use Rattle.state_transfer.specs.PutBack.{machine_from, lines_from, put_back}
use Rattle.state_transfer.specs.SavedValid.{AreStandard}
use Rattle.state_laws.specs.PutBackValid.{PutBackIsValid}
use Rattle.state_transfer.proofs.PutBackMachineLemmas.{units-standard}
use Rattle.state_laws.proofs.LinesBack.{not-none, how-many}
use Rattle.state_laws.proofs.PutBackRange.{copy-is, as-many-places, slots-back, HasName, names-put, machine-in-range}
use Rattle.nova_machine.proofs.Each.{every-replicate}
use Rattle.saved_session.specs.Order.{place_of}
use Rattle.state_laws.proofs.PutBackWatchLemmas.{watch-in-range}

-- ---- the lines

-- each of these is a port
AreGiven : List (ℕ × ℕ) → Type 0
AreGiven given = AllByRecursion (λ (g : ℕ × ℕ). IsPort g.1) given

-- a row of ports, where there is one, ends below 65536
row-given : (count place port : ℕ) → (0 < count → 1 ≤ port) → port + count ≤ 2 ^ 16 → AreGiven (row_from count place port)
unfolding row_from AreGiven
row-given zero place port some low = tt
row-given (suc count) place port some low =
    let one = some (omega arith) in
    ((one, omega (arith, low)), row-given count (suc place) (suc port) (λ more. omega arith) (omega (arith, low)))

-- so many lines of a row get a port, or none does
some-given : (port count place : ℕ) (there : Bool) → port < 2 ^ 16 → (port ≢ 0 → port + count ≤ 2 ^ 16) → AreGiven (row_from (how_many port count there) place port)
unfolding row_from AreGiven
some-given port count place false low fits = tt
some-given zero count place true low fits = tt
some-given (suc port) count place true low fits =
    subst (λ (k : ℕ). AreGiven (row_from k place (suc port))) (sym (how-many port count)) (row-given count place (suc port) (λ more. omega arith) (fits (λ none. absurd (omega (arith, none)))))

both-given : (first second : List (ℕ × ℕ)) → AreGiven first → AreGiven second → AreGiven (first ++ second)
unfolding AreGiven
both-given [] second one two = two
both-given (g ∷ first) second one two = (one.0, both-given first second one.1 two)

-- the first port of the multiplexer's lines has room for all of theirs
many-fit : (listed : Bool) (tti1 first : ℕ) → is_multiplexer_port listed tti1 first ≡ true → first ≢ 0 → first + 64 ≤ 2 ^ 16
many-fit listed tti1 zero is some = absurd (some refl)
many-fit listed tti1 (suc first) is some =
    let rest = nat_le (suc first) 65472 && not (is_among (suc first) tti1) in
    let parts = and_parts listed rest (sym (ap (λ (b : Bool). b || (listed && rest)) (not-none first)) ∙ is) in
    let low = leb-true (suc first) 65472 (and_parts (nat_le (suc first) 65472) (not (is_among (suc first) tti1)) parts.1).0 in
    omega (arith, low)

low-first : (first : ℕ) → (first ≢ 0 → first + 64 ≤ 2 ^ 16) → first < 2 ^ 16
low-first zero fits = omega arith
low-first (suc first) fits = let top = fits (λ none. absurd (omega (arith, none))) in omega (arith, top)

ports-given : (listed : Bool) (p : SavedPorts) (lines : List (LineOf Peer)) → ArePorts listed p → AreGiven (assigned p lines)
unfolding assigned
ports-given listed p lines are =
    let many = many-fit listed p.tti1 p.qty are.qty in
    let one = are.tti1 in let last = are.console in
    both-given (row_from (how_many p.tti1 1 (is_line 0 lines)) (line_place 0) p.tti1)
    (row_from (how_many p.qty multiplexer_lines (is_line multiplexer_lines lines)) (line_place 1) p.qty ++ row_from (how_many p.console 1 true) console_place p.console)
    (some-given p.tti1 1 (line_place 0) (is_line 0 lines) one (λ some. omega (arith, one)))
    (both-given (row_from (how_many p.qty multiplexer_lines (is_line multiplexer_lines lines)) (line_place 1) p.qty)
    (row_from (how_many p.console 1 true) console_place p.console)
    (some-given p.qty multiplexer_lines (line_place 1) (is_line multiplexer_lines lines) (low-first p.qty many) many)
    (some-given p.console 1 console_place true last (λ some. omega (arith, last))))

idle-in-range : (port : Option ℕ) → IfSome port IsPort → ValidLine (unconnected port)
idle-in-range port is = record {
  port = is;
  nothing = λ none. refl;
  keys = tt;
  output = tt;
  few_keys = omega arith;
  few_bytes = omega arith;
}

closed-in-range : (lines : List (LineOf Peer)) → AllByRecursion ValidLine (map (λ (line : LineOf Peer). unconnected None) lines)
closed-in-range [] = tt
closed-in-range (line ∷ lines) = (idle-in-range None tt, closed-in-range lines)

one-in-range : (place : ℕ) (port : Option ℕ) (lines : List (LineOf Peer)) → IfSome port IsPort → AllByRecursion ValidLine lines
    → AllByRecursion ValidLine (changed_at place (λ (line : LineOf Peer). unconnected port) lines)
one-in-range place port [] is are = tt
one-in-range zero port (line ∷ lines) is are = (idle-in-range port is, are.1)
one-in-range (suc place) port (line ∷ lines) is are = (are.0, one-in-range place port lines is are.1)

given-in-range : (given : List (ℕ × ℕ)) (lines : List (LineOf Peer)) → AreGiven given → AllByRecursion ValidLine lines → AllByRecursion ValidLine (with_ports given lines)
unfolding AreGiven
given-in-range [] lines ports are = are
given-in-range (g ∷ given) lines ports are =
    given-in-range given (changed_at g.0 (λ (line : LineOf Peer). unconnected (Some g.1)) lines) ports.1 (one-in-range g.0 (Some g.1) lines ports.0 are)

lines-in-range : (listed : Bool) (p : SavedPorts) (lines : List (LineOf Peer)) → ArePorts listed p → AllByRecursion ValidLine (lines_from p lines)
lines-in-range listed p lines are =
    given-in-range (assigned p lines) (map (λ (line : LineOf Peer). unconnected None) lines) (ports-given listed p lines are) (closed-in-range lines)

-- ---- all of it

valid : (v : State) (present : Seen) → Valid v → ValidSeen present → ValidSeen (put_back v present)
unfolding machine_from
valid v present is in_range = record {
  machine = machine-in-range v.machine present.machine.units (with_all no_attachments v.files) present.files is.machine
      (as-many-places no_attachments v.files)
      (names-put no_attachments (place_of 0 0) v.files (every-replicate HasName 12 None tt) is.files.each) in_range.files;
  watch = watch-in-range v.watch is.watch;
  taken = leb-true v.machine.cpu.keys_taken most_keys is.machine.cpu.keys_taken;
  known = in_range.known;
  keys = in_range.keys;
  files = in_range.files;
  lines = lines-in-range (has_multiplexer (length v.machine.units)) v.ports present.lines is.ports;
  ahead = in_range.ahead;
}

time : (v : State) (present : Seen) → Valid v → (put_back v present).machine.time ≤ last_time
unfolding machine_from
time v present is = leb-true v.machine.cpu.time last_time is.machine.cpu.time

units : (v : State) (present : Seen) → Valid v → AreStandard (put_back v present).machine.units
unfolding machine_from
units v present is = units-standard v.machine present.machine.units is.machine

disk : (v : State) (present : Seen) → DiskIsItsFile (put_back v present)
unfolding machine_from
disk v present =
    let attached = with_all no_attachments v.files in
    subst
    (λ (l : List (Option Attachment)). CopyIsFile (attachment_at l disk_unit)
    (copy_of (attachment_at attached disk_unit) present.files) present.files)
    (sym (slots-back attached)) (copy-is (attachment_at attached disk_unit) present.files)

pub put-back-is-valid : PutBackIsValid
put-back-is-valid = record { valid = valid; time = time; units = units; disk = disk }
