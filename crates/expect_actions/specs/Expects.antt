-- Expects: texts at which a run stops once the console has printed them, each with a count of matches and with actions
-- (SIMH Users' Guide, "Console Output Expect").
use Rattle.std.specs.Prelude.{ℕ, ◌-◌, ◌&&◌, nat_le, Bool, List, [], ◌∷◌, ◌++◌, length, drop, remove, slice_set}
use Rattle.std.specs.Prelude.{Option, Some, None, slice_get, if◌then◌else◌}
use Rattle.std.specs.List.{position}
use Rattle.std.specs.Str.{bytes_eq}
use Rattle.expect_actions.specs.declared.expects.Expect.{Expect}

-- the expects in the order in which they were added, the bytes that the console printed last since the last match, 64
-- at most, and the actions of the expect that stopped last
pub record ExpectTable : Type 0 where
  pub list : List Expect
  pub tail : List ℕ
  pub actions : List ℕ

abbrev pub table : List Expect → List ℕ → List ℕ → ExpectTable
table list tail actions = record { list = list; tail = tail; actions = actions }

abbrev pub expect_of : ℕ → List ℕ → List ℕ → Expect
expect_of count text actions = record { count = count; text = text; actions = actions }

-- how many expects there are at most
abbrev pub most_expects : ℕ
most_expects = 64

-- how many bytes a text has at most that is waited for, and so how many of the printed bytes are kept
abbrev pub longest_text : ℕ
longest_text = 64

-- An expect is added behind the others.
abbrev pub with_expect : Expect → ExpectTable → ExpectTable
with_expect new t = record t { list = t.list ++ new ∷ [] }

-- All expects are removed, and the printed bytes stay.
abbrev pub no_expects : ExpectTable → ExpectTable
no_expects t = record t { list = [] }

-- the last bytes of a text
abbrev pub last_bytes : List ℕ → List ℕ
last_bytes text = drop (length text - longest_text) text

-- whether a text ends with another
abbrev pub ends_in : List ℕ → List ℕ → Bool
ends_in text end = nat_le (length end) (length text) && bytes_eq (drop (length text - length end) text) end

-- the place from 0 of the first expect whose text the printed bytes end with
abbrev pub first_match : List ℕ → List Expect → Option ℕ
first_match printed list = position (λ e. ends_in printed e.text) list

-- where a match at a place stops: there, where the count is not above 1
abbrev pub stop_of : Option ℕ → List Expect → Option ℕ
stop_of None list = None
stop_of (Some k) list = elim (slice_get list k) [
  | None ↦ None
  | Some e ↦ if nat_le e.count 1 then Some k else None
]

-- a match that does not stop
abbrev pub counted_down : Expect → Expect
counted_down e = record e { count = e.count - 1 }

-- what a match makes of the table: the tail is emptied, a count above 1 is lowered by one, and else the expect is
-- removed and its actions are those of the last stop
abbrev pub matched : Option ℕ → List ℕ → ExpectTable → ExpectTable
matched None printed t = table t.list printed t.actions
matched (Some k) printed t = elim (slice_get t.list k) [
  | None ↦ table t.list [] t.actions
  | Some e ↦ if nat_le e.count 1 then table (remove t.list k) [] e.actions
      else table (slice_set t.list k (counted_down e)) [] t.actions
]

-- the tail once a byte has been printed, before it is compared
abbrev pub printed_with : ℕ → ExpectTable → List ℕ
printed_with byte t = last_bytes (t.tail ++ byte ∷ [])

-- the place from 0 of the expect at which the run stops when a byte is printed, where it does
abbrev pub match_at : ℕ → ExpectTable → Option ℕ
match_at byte t = stop_of (first_match (printed_with byte t) t.list) t.list

-- the table once a byte has been printed
abbrev pub after_printed : ℕ → ExpectTable → ExpectTable
after_printed byte t = matched (first_match (printed_with byte t) t.list) (printed_with byte t) t
