-- Which lines get the ports of a saved session: 0 is no port.
use Rattle.std.specs.Prelude.{ℕ, ◌==◌, ◌&&◌, Bool, true, not, List, ◌++◌, map, slice_get, is_some, if◌then◌else◌}
use Rattle.telnet_lines.specs.Line.{LineOf}
use Rattle.terminal_ports.specs.Rows.{row_from}
use Rattle.nova_machine.specs.Machine.{console_place, place_of as line_place}
use Rattle.saved_session.specs.declared.saved.SavedPorts.{SavedPorts}

-- How many lines of a row get a port: all of so many where there is a port for the first, and all of them are there; else
-- none.
abbrev pub how_many : ℕ → ℕ → Bool → ℕ
how_many port count there = if there && not (port == 0) then count else 0

-- whether a terminal line is there, by its number
abbrev pub is_line : {P : Type 0} → ℕ → List (LineOf P) → Bool
is_line number lines = is_some (slice_get lines (line_place number))

-- how many lines the multiplexer has: they are those behind line 0
abbrev pub multiplexer_lines : ℕ
multiplexer_lines = 64

-- The lines that get a port, each by its place, in the order in which their ports are listened on: that of the second
-- teletype, those of the multiplexer, whose ports rise by one, and that of the console, which is always there.
unfoldable pub assigned : {P : Type 0} → SavedPorts → List (LineOf P) → List (ℕ × ℕ)
assigned p lines =
    row_from (how_many p.tti1 1 (is_line 0 lines)) (line_place 0) p.tti1
    ++ (row_from (how_many p.qty multiplexer_lines (is_line multiplexer_lines lines)) (line_place 1) p.qty
    ++ row_from (how_many p.console 1 true) console_place p.console)

-- the ports that are listened on, in their order
abbrev pub ports_wanted : {P : Type 0} → SavedPorts → List (LineOf P) → List ℕ
ports_wanted p lines = map (λ (g : ℕ × ℕ). g.1) (assigned p lines)
