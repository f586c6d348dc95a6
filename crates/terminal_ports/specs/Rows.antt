-- Lines in a row, of several that stand in one list: so many of them, the first at a place.
use Rattle.std.specs.Prelude.{◌≡◌, ◌||◌, ℕ, ◌+◌, zero, suc, Bool, false, List, [], ◌∷◌, slice_get, Option, Some, None, IfSome, is_some, if◌then◌else◌}
use Rattle.telnet_lines.specs.Line.{LineOf, unconnected}
use Rattle.terminal_ports.specs.Ports.{changed_at, is_taken}

-- each of them changed so
unfoldable pub changed_row : {P : Type 0} → ℕ → ℕ → (LineOf P → LineOf P) → List (LineOf P) → List (LineOf P)
changed_row zero place change lines = lines
changed_row (suc left) place change lines = changed_row left (suc place) change (changed_at place change lines)

-- ---- the ports that they get

-- each by its place, with its port: the first has that one, and each other one the port behind that of the line before it
unfoldable pub row_from : ℕ → ℕ → ℕ → List (ℕ × ℕ)
row_from zero place port = []
row_from (suc left) place port = (place, port) ∷ row_from left (suc place) (suc port)

-- lines with those ports, to which nobody is connected; all others are as they were
abbrev pub with_ports : {P : Type 0} → List (ℕ × ℕ) → List (LineOf P) → List (LineOf P)
with_ports [] lines = lines
with_ports {P} (g ∷ more) lines = with_ports more (changed_at g.0 (λ (line : LineOf P). unconnected (Some g.1)) lines)

-- ---- the ports that they have

-- the port of a line, where that is there and has one
abbrev pub port_at : {P : Type 0} → Option (LineOf P) → Option ℕ
port_at None = None
port_at (Some line) = line.port

abbrev pub or_port : Option ℕ → Option ℕ → Option ℕ
or_port None other = other
or_port (Some port) other = Some port

-- that of the first of them that has one
unfoldable pub first_port : {P : Type 0} → ℕ → ℕ → List (LineOf P) → Option ℕ
first_port zero place lines = None
first_port (suc left) place lines = or_port (port_at (slice_get lines place)) (first_port left (suc place) lines)

-- each of them that is there has none, nobody is connected to it, and nothing waits
unfoldable pub AreFree : ℕ → ℕ → List (LineOf ℕ) → Type 0
AreFree zero place lines = Unit {0}
AreFree (suc left) place lines =
    IfSome (slice_get lines place) (λ (line : LineOf ℕ). line ≡ unconnected None) × AreFree left (suc place) lines

-- whether any line has one of so many ports, from one on
unfoldable pub are_taken : {P : Type 0} → ℕ → ℕ → List (LineOf P) → Bool
are_taken zero port lines = false
are_taken (suc left) port lines = is_taken port lines || are_taken left (suc port) lines

-- ---- who is connected to them

abbrev pub is_connected : {P : Type 0} → Option (LineOf P) → Bool
is_connected None = false
is_connected (Some line) = is_some line.connection

-- to how many of them somebody is
unfoldable pub connected_in : {P : Type 0} → ℕ → ℕ → List (LineOf P) → ℕ
connected_in zero place lines = 0
connected_in (suc left) place lines =
    (if is_connected (slice_get lines place) then 1 else 0) + connected_in left (suc place) lines
