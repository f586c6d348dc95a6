-- The ports of several lines that stand in one list, in which each is named by its place.
use Rattle.std.specs.Prelude.{◌≡◌, ◌≢◌, ◌==◌, ℕ, zero, suc, Bool, false, List, [], ◌∷◌, Option, Some, None, option_map}
use Rattle.std.specs.List.{AllByRecursion, list_any}
use Rattle.telnet_lines.specs.Line.{LineOf}

-- the lines, with the one at a place changed so; where there is none, they are as they were
abbrev pub changed_at : {P : Type 0} → ℕ → (LineOf P → LineOf P) → List (LineOf P) → List (LineOf P)
changed_at place change [] = []
changed_at zero change (line ∷ others) = change line ∷ others
changed_at (suc place) change (line ∷ others) = line ∷ changed_at place change others

-- whether a line has that port
abbrev pub is_of : ℕ → Option ℕ → Bool
is_of port None = false
is_of port (Some own) = own == port

abbrev pub owns : {P : Type 0} → ℕ → LineOf P → Bool
owns port line = is_of port line.port

-- whether one of these lines has it
unfoldable pub is_taken : {P : Type 0} → ℕ → List (LineOf P) → Bool
is_taken port lines = list_any (owns port) lines

-- a line has another port than that one, where that is one, or has none
abbrev pub HasOther : {P : Type 0} → Option ℕ → LineOf P → Type 0
HasOther None line = Unit {0}
HasOther (Some port) line = line.port ≢ Some port

-- no line has that port, where that is one
abbrev pub OthersHaveNone : {P : Type 0} → Option ℕ → List (LineOf P) → Type 0
OthersHaveNone port lines = AllByRecursion (HasOther port) lines

-- no two lines have one port, and none has the port 0
abbrev pub HavePortsApart : {P : Type 0} → List (LineOf P) → Type 0
HavePortsApart [] = Unit {0}
HavePortsApart (line ∷ others) = (line.port ≢ Some 0) × (OthersHaveNone line.port others × HavePortsApart others)

-- no line has a port
abbrev pub HaveNone : {P : Type 0} → List (LineOf P) → Type 0
HaveNone {P} lines = AllByRecursion (λ (line : LineOf P). line.port ≡ None) lines

-- the first of these lines has that port, and each other one the port behind that of the line before it; or none of them has one
abbrev pub HavePortsFrom : {P : Type 0} → Option ℕ → List (LineOf P) → Type 0
HavePortsFrom port [] = Unit {0}
HavePortsFrom port (line ∷ others) = (line.port ≡ port) × HavePortsFrom (option_map suc port) others

-- the same, whichever port the first of them has, if any
abbrev pub AreNumbered : {P : Type 0} → List (LineOf P) → Type 0
AreNumbered [] = Unit {0}
AreNumbered (line ∷ others) = HavePortsFrom (option_map suc line.port) others
