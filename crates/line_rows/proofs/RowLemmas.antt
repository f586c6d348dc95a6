-- Rows of lines of a machine, whose places are those behind the console line.
use Rattle.std.proofs.Common.{◌≡◌, ℕ, zero, suc, ◌+◌, ◌-◌, ◌<◌, ◌≤◌, ◌||◌, Bool, true, false, List, [], ◌∷◌, length, slice_get, Option, Some, None, is_some, option_map, ap, sym, refl, ◌∙◌, arith}
use Rattle.std.specs.Prelude.{nat_le, nat_lt, if◌then◌else◌}
use Rattle.std.proofs.lemmas.Bool.{le-leb, lt-leb}
use Rattle.std.proofs.lemmas.Bool.Decides.{nat_tests}
use Rattle.telnet_lines.specs.Line.{LineOf, unconnected}
use Rattle.terminal_ports.specs.Ports.{changed_at, is_taken}
use Rattle.terminal_ports.specs.Rows.{row_from, with_ports, port_at, or_port, first_port, are_taken, is_connected, connected_in}
use Rattle.terminal_ports.proofs.Rows.{some-from, some-first, some-taken, some-connected}
use Rattle.nova_machine.specs.Machine.{MachineState, place_of}

-- one line of a row more has its port
pub one-more : (old m : MachineState) (n number port : ℕ) → 0 < n
    → m ≡ record old { lines = changed_at (place_of number) (λ (line : LineOf ℕ). unconnected (Some port)) old.lines }
    → record m { lines = with_ports (row_from (n - 1) (place_of (number + 1)) (port + 1)) m.lines }
    ≡ record old { lines = with_ports (row_from n (place_of number) port) old.lines }
one-more old m n number port some becomes =
    let next : place_of (number + 1) ≡ place_of number + 1 = omega arith in
    let all : row_from n (place_of number) port
    ≡ (place_of number, port) ∷ row_from (n - 1) (place_of (number + 1)) (port + 1) =
    some-from n (place_of number) port some
    ∙ ap (λ (place : ℕ). (place_of number, port) ∷ row_from (n - 1) place (port + 1)) (sym next) in
    ap (λ (x : MachineState). record x { lines = with_ports (row_from (n - 1) (place_of (number + 1)) (port + 1)) x.lines }) becomes
    ∙ sym (ap (λ (given : List (ℕ × ℕ)). record old { lines = with_ports given old.lines }) all)

one-more-below : (a b : ℕ) → nat_le a b ≡ nat_le (suc a) (suc b)
one-more-below a b = grind (arith, nat_tests)

-- a place before the end of a list, and the line there
there-below : {P : Type 0} (lines : List (LineOf P)) (place : ℕ) → is_some (slice_get lines place) ≡ nat_le (suc place) (length lines)
there-below [] place = sym (lt-leb (suc place) 0 (omega arith))
there-below (line ∷ lines) zero = sym (le-leb 1 (suc (length lines)) (omega arith))
there-below (line ∷ lines) (suc place) = there-below lines place ∙ one-more-below (suc place) (length lines)

pub some-mapped : {A B : Type 0} (f : A → B) (o : Option A) → is_some o ≡ is_some (option_map f o)
some-mapped f None = refl
some-mapped f (Some a) = refl

-- a row is there, where its last line is
pub row-there : {P : Type 0} (number count : ℕ) (lines : List (LineOf P)) → 1 ≤ count
    → is_some (slice_get lines (place_of (number + (count - 1)))) ≡ nat_le (place_of number + count) (length lines)
row-there number count lines some =
    there-below lines (place_of (number + (count - 1)))
    ∙ ap (λ (n : ℕ). nat_le n (length lines)) (omega (arith, some))

-- the same, by how many lines the units of a machine give
pub row-counted : (number count many : ℕ) → 1 ≤ count → nat_lt (number + (count - 1)) many ≡ nat_le (number + count) many
row-counted number count many some = grind (arith, nat_tests)

-- ---- a row and its first line

pub next-place : (number : ℕ) → place_of number + 1 ≡ place_of (number + 1)
next-place number = omega arith

module _ (n number : ℕ) (lines : List (LineOf ℕ)) (some : 0 < n) where
  row-first : first_port n (place_of number) lines
      ≡ or_port (port_at (slice_get lines (place_of number))) (first_port (n - 1) (place_of (number + 1)) lines)
  row-first =
      some-first n (place_of number) lines some
      ∙ ap (λ (k : ℕ). or_port (port_at (slice_get lines (place_of number))) (first_port (n - 1) k lines)) (next-place number)

  -- its port is that of its first line, where that has one
  pub first-here : (port : ℕ) → Some port ≡ port_at (slice_get lines (place_of number)) → Some port ≡ first_port n (place_of number) lines
  first-here port is = sym (row-first ∙ ap (λ (o : Option ℕ). or_port o (first_port (n - 1) (place_of (number + 1)) lines)) (sym is))

  -- and else that of the others
  pub first-behind : (result : Option ℕ) → None ≡ port_at (slice_get lines (place_of number)) → result ≡ first_port (n - 1) (place_of (number + 1)) lines
      → result ≡ first_port n (place_of number) lines
  first-behind result none others =
      others ∙ sym (row-first ∙ ap (λ (o : Option ℕ). or_port o (first_port (n - 1) (place_of (number + 1)) lines)) (sym none))

  row-connected : connected_in n (place_of number) lines
      ≡ (if is_connected (slice_get lines (place_of number)) then 1 else 0) + connected_in (n - 1) (place_of (number + 1)) lines
  row-connected =
      some-connected n (place_of number) lines some
      ∙ ap (λ (k : ℕ). (if is_connected (slice_get lines (place_of number)) then 1 else 0) + connected_in (n - 1) k lines) (next-place number)

  module _ (others : ℕ) (here : Bool) (is : others ≡ connected_in (n - 1) (place_of (number + 1)) lines)
      (tells : here ≡ is_connected (slice_get lines (place_of number))) where
    pub one-connected : here ≡ true → others + 1 ≡ connected_in n (place_of number) lines
    one-connected has =
        let one : ◌≡◌ {A = ℕ} (if is_connected (slice_get lines (place_of number)) then 1 else 0) 1 = ap (λ (b : Bool). if b then 1 else 0) (sym tells ∙ has) in
        omega (arith, row-connected, one, is)

    pub others-connected : here ≡ false → others ≡ connected_in n (place_of number) lines
    others-connected has =
        let none : ◌≡◌ {A = ℕ} (if is_connected (slice_get lines (place_of number)) then 1 else 0) 0 = ap (λ (b : Bool). if b then 1 else 0) (sym tells ∙ has) in
        omega (arith, row-connected, none, is)

-- ---- ports in a row that lines have

module _ (n port wide : ℕ) (lines : List (LineOf ℕ)) (some : 0 < n) (same : wide ≡ port) (here : Bool) (is : here ≡ is_taken wide lines) where
  row-taken : are_taken n port lines ≡ (here || are_taken (n - 1) (port + 1) lines)
  row-taken =
      some-taken n port lines some
      ∙ ap (λ (b : Bool). b || are_taken (n - 1) (port + 1) lines) (ap (λ (k : ℕ). is_taken k lines) (sym same) ∙ sym is)

  pub first-taken : here ≡ true → here ≡ are_taken n port lines
  first-taken has = has ∙ sym (row-taken ∙ ap (λ (b : Bool). b || are_taken (n - 1) (port + 1) lines) has)

  pub others-taken : (others : Bool) → here ≡ false → others ≡ are_taken (n - 1) (port + 1) lines → others ≡ are_taken n port lines
  others-taken others none taken = taken ∙ sym (row-taken ∙ ap (λ (b : Bool). b || are_taken (n - 1) (port + 1) lines) none)
