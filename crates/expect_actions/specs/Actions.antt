-- The actions that wait to be done, and how a text is split into actions at its `;` (SIMH Users' Guide, "Breakpoints").
use Rattle.std.specs.Prelude.{◌≡◌, ℕ, ◌==◌, Bool, false, List, [], ◌∷◌, ◌++◌, length, drop, if◌then◌else◌}
use Rattle.std.specs.List.{AllByRecursion}
use Rattle.expect_actions.specs.declared.splits.Place.{Place}
use Rattle.expect_actions.specs.declared.splits.Place.TheVariants.{Outside, Within, Escaped}
use Rattle.expect_actions.specs.KeysFile.{with_front}

-- Where the byte behind one stands. A `"` opens a quoted text and closes it; within one, a `\` takes the next byte
-- along, so that `\"` does not close it.
abbrev pub next_place : Place → ℕ → Place
next_place Outside b = if b == 34 then Within else Outside
next_place Within b = if b == 34 then Outside else (if b == 92 then Escaped else Within)
next_place Escaped b = Within

-- whether a byte ends an action: a `;` outside of quotes
abbrev pub ends_action : Place → ℕ → Bool
ends_action Outside b = b == 59
ends_action Within b = false
ends_action Escaped b = false

-- the pieces of a text whose first byte stands there
abbrev pub actions_from : Place → List ℕ → List (List ℕ)
actions_from place [] = [] ∷ []
actions_from place (b ∷ text) =
    if ends_action place b then [] ∷ actions_from Outside text else with_front b (actions_from (next_place place b) text)

-- the pieces of a text between the `;` outside of quotes, of which there is one at least
abbrev pub pieces : List ℕ → List (List ℕ)
pieces text = actions_from Outside text

-- the actions of a text: an empty text has none, and an empty piece of another is one
abbrev pub split : List ℕ → List (List ℕ)
split [] = []
split (b ∷ text) = pieces (b ∷ text)

-- how many actions wait at most
abbrev pub most_actions : ℕ
most_actions = 64

-- the first action, written first into a place
abbrev pub first_written : List (List ℕ) → List ℕ → List ℕ
first_written [] out = out
first_written (action ∷ others) out = action ++ drop (length action) out

-- texts with a `;` in front of each
abbrev pub joined_behind : List (List ℕ) → List ℕ
joined_behind [] = []
joined_behind (action ∷ others) = 59 ∷ action ++ joined_behind others

-- texts with a `;` between one and the next
abbrev pub joined : List (List ℕ) → List ℕ
joined [] = []
joined (action ∷ others) = action ++ joined_behind others

-- the actions of a text, joined, are the text
abbrev pub ActionsMakeTheText : Type 0
ActionsMakeTheText = (text : List ℕ) → joined (split text) ≡ text

-- no action has a `;` outside of quotes: split, it is itself
abbrev pub ActionsAreWhole : Type 0
ActionsAreWhole = (text : List ℕ) → AllByRecursion (λ (action : List ℕ). pieces action ≡ action ∷ []) (split text)
