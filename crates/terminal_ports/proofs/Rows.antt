-- Rows of lines, one line behind another, and what they are as they are seen.
use Rattle.std.proofs.Common.{◌≡◌, ◌||◌, ℕ, zero, suc, ◌+◌, ◌-◌, ◌<◌, false, List, [], ◌∷◌, ◌++◌, length, map, slice_get, Option, Some, None, IfSome, is_some, option_map, refl, ap, subst, ◌∙◌, arith}
use Rattle.std.specs.Prelude.{if◌then◌else◌}
use Rattle.std.proofs.lemmas.Option.{slice_get-map}
use Rattle.host_lines.specs.Traffic.{Peer}
use Rattle.host_lines.specs.State.{LineState, parties}
use Rattle.telnet_lines.specs.Line.{LineOf, unconnected}
use Rattle.telnet_lines.specs.Joined.{seen_line}
use Rattle.terminal_ports.specs.Ports.{changed_at, is_taken}
use Rattle.terminal_ports.specs.Listening.{rising}
use Rattle.terminal_ports.specs.Rows.{changed_row, row_from, with_ports, port_at, or_port, first_port, AreFree, are_taken, is_connected, connected_in}
use Rattle.terminal_ports.proofs.PortsApart.{taken-by}

-- ---- a row of none, and one of some

pub none-from : (n place port : ℕ) → n ≡ 0 → row_from n place port ≡ []
unfolding row_from
none-from zero place port none = refl
none-from (suc n) place port none = absurd (omega (arith, none))

pub some-from : (n place port : ℕ) → 0 < n → row_from n place port ≡ (place, port) ∷ row_from (n - 1) (place + 1) (port + 1)
unfolding row_from
some-from zero place port some = absurd (omega (arith, some))
some-from (suc n) place port some =
    let left : n ≡ suc n - 1 = omega arith in
    let next : suc place ≡ place + 1 = omega arith in
    let behind : suc port ≡ port + 1 = omega arith in
    λ i. (place, port) ∷ row_from (left i) (next i) (behind i)

pub none-changed : {P : Type 0} (n place : ℕ) (change : LineOf P → LineOf P) (lines : List (LineOf P)) → n ≡ 0 → changed_row n place change lines ≡ lines
unfolding changed_row
none-changed zero place change lines none = refl
none-changed (suc n) place change lines none = absurd (omega (arith, none))

pub some-changed : {P : Type 0} (n place : ℕ) (change : LineOf P → LineOf P) (lines : List (LineOf P)) → 0 < n
    → changed_row n place change lines ≡ changed_row (n - 1) (place + 1) change (changed_at place change lines)
unfolding changed_row
some-changed zero place change lines some = absurd (omega (arith, some))
some-changed (suc n) place change lines some =
    let left : n ≡ suc n - 1 = omega arith in
    let next : suc place ≡ place + 1 = omega arith in
    λ i. changed_row (left i) (next i) change (changed_at place change lines)

pub none-first : {P : Type 0} (n place : ℕ) (lines : List (LineOf P)) → n ≡ 0 → first_port n place lines ≡ None
unfolding first_port
none-first zero place lines none = refl
none-first (suc n) place lines none = absurd (omega (arith, none))

pub some-first : {P : Type 0} (n place : ℕ) (lines : List (LineOf P)) → 0 < n
    → first_port n place lines ≡ or_port (port_at (slice_get lines place)) (first_port (n - 1) (place + 1) lines)
unfolding first_port
some-first zero place lines some = absurd (omega (arith, some))
some-first (suc n) place lines some =
    let left : n ≡ suc n - 1 = omega arith in
    let next : suc place ≡ place + 1 = omega arith in
    λ i. or_port (port_at (slice_get lines place)) (first_port (left i) (next i) lines)

pub none-free : (n place : ℕ) (lines : List (LineOf ℕ)) → n ≡ 0 → AreFree n place lines
unfolding AreFree
none-free zero place lines none = tt
none-free (suc n) place lines none = absurd (omega (arith, none))

pub some-free : (n place : ℕ) (lines : List (LineOf ℕ)) → 0 < n → IfSome (slice_get lines place) (λ (line : LineOf ℕ). line ≡ unconnected None)
    → AreFree (n - 1) (place + 1) lines → AreFree n place lines
unfolding AreFree
some-free zero place lines some here behind = absurd (omega (arith, some))
some-free (suc n) place lines some here behind =
    let left : suc n - 1 ≡ n = omega arith in
    let next : place + 1 ≡ suc place = omega arith in
    (here, subst (λ (k : ℕ). AreFree k (suc place) lines) left (subst (λ (k : ℕ). AreFree (suc n - 1) k lines) next behind))

pub free-parts : (n place : ℕ) (lines : List (LineOf ℕ)) → 0 < n → AreFree n place lines
    → IfSome (slice_get lines place) (λ (line : LineOf ℕ). line ≡ unconnected None) × AreFree (n - 1) (place + 1) lines
unfolding AreFree
free-parts zero place lines some free = absurd (omega (arith, some))
free-parts (suc n) place lines some free =
    let left : n ≡ suc n - 1 = omega arith in
    let next : suc place ≡ place + 1 = omega arith in
    (free.0, subst (λ (k : ℕ). AreFree k (place + 1) lines) left (subst (λ (k : ℕ). AreFree n k lines) next free.1))

pub none-taken : {P : Type 0} (n port : ℕ) (lines : List (LineOf P)) → n ≡ 0 → are_taken n port lines ≡ false
unfolding are_taken
none-taken zero port lines none = refl
none-taken (suc n) port lines none = absurd (omega (arith, none))

pub some-taken : {P : Type 0} (n port : ℕ) (lines : List (LineOf P)) → 0 < n → are_taken n port lines ≡ (is_taken port lines || are_taken (n - 1) (port + 1) lines)
unfolding are_taken
some-taken zero port lines some = absurd (omega (arith, some))
some-taken (suc n) port lines some =
    let left : n ≡ suc n - 1 = omega arith in
    let behind : suc port ≡ port + 1 = omega arith in
    λ i. is_taken port lines || are_taken (left i) (behind i) lines

pub none-connected : {P : Type 0} (n place : ℕ) (lines : List (LineOf P)) → n ≡ 0 → connected_in n place lines ≡ 0
unfolding connected_in
none-connected zero place lines none = refl
none-connected (suc n) place lines none = absurd (omega (arith, none))

pub some-connected : {P : Type 0} (n place : ℕ) (lines : List (LineOf P)) → 0 < n
    → connected_in n place lines ≡ (if is_connected (slice_get lines place) then 1 else 0) + connected_in (n - 1) (place + 1) lines
unfolding connected_in
some-connected zero place lines some = absurd (omega (arith, some))
some-connected (suc n) place lines some =
    let left : n ≡ suc n - 1 = omega arith in
    let next : suc place ≡ place + 1 = omega arith in
    λ i. (if is_connected (slice_get lines place) then 1 else 0) + connected_in (left i) (next i) lines

-- ---- the ports of a row, and of one behind another

pub row-ports : (n place port : ℕ) → map (λ (g : ℕ × ℕ). g.1) (row_from n place port) ≡ rising n port
unfolding row_from rising
row-ports zero place port = refl
row-ports (suc n) place port = ap (λ (ports : List ℕ). port ∷ ports) (row-ports n (suc place) (suc port))

pub ports-both : (first second : List (ℕ × ℕ))
    → map (λ (g : ℕ × ℕ). g.1) (first ++ second) ≡ map (λ (g : ℕ × ℕ). g.1) first ++ map (λ (g : ℕ × ℕ). g.1) second
ports-both [] second = refl
ports-both (g ∷ first) second = ap (λ (ports : List ℕ). g.1 ∷ ports) (ports-both first second)

-- ---- how many lines there are

pub changed-length : {P : Type 0} (place : ℕ) (change : LineOf P → LineOf P) (lines : List (LineOf P)) → length (changed_at place change lines) ≡ length lines
changed-length place change [] = refl
changed-length zero change (line ∷ lines) = refl
changed-length (suc place) change (line ∷ lines) = ap suc (changed-length place change lines)

pub row-length : {P : Type 0} (n place : ℕ) (change : LineOf P → LineOf P) (lines : List (LineOf P)) → length (changed_row n place change lines) ≡ length lines
unfolding changed_row
row-length zero place change lines = refl
row-length (suc n) place change lines = row-length n (suc place) change (changed_at place change lines) ∙ changed-length place change lines

-- ---- as they are seen

-- lines have the ports with which they are seen
seen-numbers : (s : LineState) (lines : List (LineOf ℕ)) → map (λ (line : LineOf Peer). line.port) (map (seen_line s) lines) ≡ map (λ (line : LineOf ℕ). line.port) lines
seen-numbers s [] = refl
seen-numbers s (line ∷ lines) = ap (λ (ports : List (Option ℕ)). line.port ∷ ports) (seen-numbers s lines)

pub seen-taken : (s : LineState) (n port : ℕ) (lines : List (LineOf ℕ)) → are_taken n port (map (seen_line s) lines) ≡ are_taken n port lines
unfolding are_taken
seen-taken s zero port lines = refl
seen-taken s (suc n) port lines =
    let here : is_taken port (map (seen_line s) lines) ≡ is_taken port lines = taken-by port lines (map (seen_line s) lines) (seen-numbers s lines) in
    let behind = seen-taken s n (suc port) lines in
    λ i. here i || behind i

seen-port : (s : LineState) (o : Option (LineOf ℕ)) → port_at (option_map (seen_line s) o) ≡ port_at o
seen-port s None = refl
seen-port s (Some line) = refl

pub seen-first : (s : LineState) (n place : ℕ) (lines : List (LineOf ℕ)) → first_port n place (map (seen_line s) lines) ≡ first_port n place lines
unfolding first_port
seen-first s zero place lines = refl
seen-first s (suc n) place lines =
    let here : port_at (slice_get (map (seen_line s) lines) place) ≡ port_at (slice_get lines place) =
    ap port_at (slice_get-map (seen_line s) lines place) ∙ seen-port s (slice_get lines place) in
    let behind = seen-first s n (suc place) lines in
    λ i. or_port (here i) (behind i)

seen-one : (s : LineState) (o : Option (LineOf ℕ)) → is_connected (option_map (seen_line s) o) ≡ is_connected o
seen-one s None = refl
seen-one s (Some line) = by line.connection
  where
    by : (conn : Option ℕ) → is_some (option_map (parties s) conn) ≡ is_some conn
    by None = refl
    by (Some c) = refl

pub seen-connected : (s : LineState) (n place : ℕ) (lines : List (LineOf ℕ)) → connected_in n place (map (seen_line s) lines) ≡ connected_in n place lines
unfolding connected_in
seen-connected s zero place lines = refl
seen-connected s (suc n) place lines =
    let here : is_connected (slice_get (map (seen_line s) lines) place) ≡ is_connected (slice_get lines place) =
    ap is_connected (slice_get-map (seen_line s) lines place) ∙ seen-one s (slice_get lines place) in
    let behind = seen-connected s n (suc place) lines in
    λ i. (if here i then 1 else 0) + behind i

-- a change of a line that is seen as one of the line that is seen
module _ (s : LineState) (change : LineOf ℕ → LineOf ℕ) (seen : LineOf Peer → LineOf Peer)
    (same : (line : LineOf ℕ) → seen_line s (change line) ≡ seen (seen_line s line)) where
  pub seen-changed : (place : ℕ) (lines : List (LineOf ℕ)) → map (seen_line s) (changed_at place change lines) ≡ changed_at place seen (map (seen_line s) lines)
  seen-changed place [] = refl
  seen-changed zero (line ∷ lines) = ap (λ (l : LineOf Peer). l ∷ map (seen_line s) lines) (same line)
  seen-changed (suc place) (line ∷ lines) = ap (λ (ls : List (LineOf Peer)). seen_line s line ∷ ls) (seen-changed place lines)

  pub seen-row : (n place : ℕ) (lines : List (LineOf ℕ)) → map (seen_line s) (changed_row n place change lines) ≡ changed_row n place seen (map (seen_line s) lines)
  unfolding changed_row
  seen-row zero place lines = refl
  seen-row (suc n) place lines = seen-row n (suc place) (changed_at place change lines) ∙ ap (changed_row n (suc place) seen) (seen-changed place lines)

-- lines that get ports are seen so
pub seen-ports : (s : LineState) (given : List (ℕ × ℕ)) (lines : List (LineOf ℕ)) → map (seen_line s) (with_ports given lines) ≡ with_ports given (map (seen_line s) lines)
seen-ports s [] lines = refl
seen-ports s (g ∷ given) lines =
    seen-ports s given (changed_at g.0 (λ (line : LineOf ℕ). unconnected (Some g.1)) lines)
    ∙ ap (with_ports given) (seen-changed s (λ (line : LineOf ℕ). unconnected (Some g.1)) (λ (line : LineOf Peer). unconnected (Some g.1)) (λ line. refl) g.0 lines)
