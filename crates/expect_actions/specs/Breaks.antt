-- Breaks: addresses at which a run stops, each with a count of tests and with actions (SIMH Users' Guide,
-- "Breakpoints").
use Rattle.std.specs.Prelude.{◌≡◌, ℕ, ◌-◌, ◌<◌, ◌^◌, ◌==◌, ◌&&◌, nat_lt, nat_le, not, Bool, false, List, [], ◌∷◌, ◌++◌, map, filter, length}
use Rattle.std.specs.Prelude.{is_some, Option, Some, None, option_map, unwrap_or, slice_get, slice_index_or, if◌then◌else◌}
use Rattle.std.specs.List.{AllByRecursion, list_any, position}
use Rattle.expect_actions.specs.declared.breaks.Break.{Break}

-- the breaks in rising address, and the actions of the break that stopped last
pub record BreakTable : Type 0 where
  pub list : List Break
  pub actions : List ℕ

abbrev pub table : List Break → List ℕ → BreakTable
table list actions = record { list = list; actions = actions }

abbrev pub break_at : ℕ → ℕ → List ℕ → Break
break_at address count actions = record { address = address; count = count; actions = actions }

-- how many breaks there are at most
abbrev pub most_breaks : ℕ
most_breaks = 256

-- whether a break is at an address
abbrev pub is_at : ℕ → Break → Bool
is_at address b = b.address == address

abbrev pub has_break : ℕ → List Break → Bool
has_break address list = list_any (is_at address) list

-- A break is put in its place by its address, and replaces one that is there.
abbrev pub with_break : Break → List Break → List Break
with_break new list =
    filter (λ b. nat_lt b.address new.address) list ++ new ∷ filter (λ b. nat_lt new.address b.address) list

abbrev pub without_break : ℕ → List Break → List Break
without_break address list = filter (λ b. not (is_at address b)) list

-- A count above 1 is lowered by one, else it becomes 0.
abbrev pub lowered : Break → Break
lowered b = record b { count = b.count - 1 }

-- what a test at an address makes of the breaks
abbrev pub tested : ℕ → List Break → List Break
tested address list = map (λ b. if is_at address b then lowered b else b) list

-- whether a break stops a test at an address: it is there, and its count is not above 1
abbrev pub stops : ℕ → Break → Bool
stops address b = is_at address b && nat_le b.count 1

-- the place from 0 of the break that stops a test at an address, where one does
abbrev pub stop_at : ℕ → List Break → Option ℕ
stop_at address list = position (stops address) list

-- the actions of the break that stopped last: those of the one at that place, where one stopped now
abbrev pub stopped_actions : Option ℕ → List Break → List ℕ → List ℕ
stopped_actions None list before = before
stopped_actions (Some k) list before = unwrap_or (option_map (λ b. b.actions) (slice_get list k)) before

-- what a test at an address makes of the table
abbrev pub after_test : ℕ → BreakTable → BreakTable
after_test address t = table (tested address t.list) (stopped_actions (stop_at address t.list) t.list t.actions)

-- the addresses rise, and none is there twice
abbrev pub Rising : List Break → Type 0
Rising [] = Unit {0}
Rising (b ∷ list) = AllByRecursion (λ (later : Break). b.address < later.address) list × Rising list

-- the break of an address, where there is one: the map that a list is
abbrev pub break_of : ℕ → List Break → Option Break
break_of address [] = None
break_of address (b ∷ list) = if is_at address b then Some b else break_of address list

-- whether a test stops there
abbrev pub stops_now : Option Break → Bool
stops_now None = false
stops_now (Some b) = nat_le b.count 1

-- The list is a map from addresses to counts and actions: what is at an address behind each call, and that a test stops
-- exactly where a break is whose count is not above 1, at its place.
pub record BreaksAreAMap : Type 0 where
  pub has : (address : ℕ) (list : List Break) → has_break address list ≡ is_some (break_of address list)
  pub put : (address : ℕ) (new : Break) (list : List Break) → break_of address (with_break new list) ≡ (if is_at address new then Some new else break_of address list)
  pub removed : (address gone : ℕ) (list : List Break) → break_of address (without_break gone list) ≡ (if gone == address then None else break_of address list)
  pub after_test : (address at : ℕ) (list : List Break) → break_of address (tested at list) ≡ (if at == address then option_map lowered (break_of address list) else break_of address list)
  pub stop : (address : ℕ) (list : List Break) → Rising list → is_some (stop_at address list) ≡ stops_now (break_of address list)
  pub place : (address : ℕ) (list : List Break) (k : ℕ) → Rising list → stop_at address list ≡ Some k → slice_get list k ≡ break_of address list

-- no mark is set
abbrev pub NoMarks : List Bool → Type 0
NoMarks marks = (address : ℕ) → slice_index_or marks address false ≡ false

-- a mark for each address, which is set exactly where a break is
pub record AreMarks (marks : List Bool) (list : List Break) : Type 0 where
  pub all : length marks ≡ 2 ^ 15
  pub exact : (address : ℕ) → address < 2 ^ 15 → slice_index_or marks address false ≡ has_break address list
