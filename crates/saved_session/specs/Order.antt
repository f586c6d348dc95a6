-- What an element of a list leaves for the next one, which is told from which number, place or time on it may be.
use Rattle.std.specs.Prelude.{ℕ, ◌+◌, List, [], ◌∷◌, ◌++◌}
use Rattle.saved_session.specs.declared.saved.SavedEvent.{SavedEvent}
use Rattle.saved_session.specs.declared.saved.SavedSend.{SavedSend}
use Rattle.saved_session.specs.Parts.{FilePart, BreakPart}
use Rattle.saved_session.specs.Ranges.{FilePlace}

-- registers and units are numbered one behind another
abbrev pub next_number : {A : Type 0} → ℕ → A → ℕ
next_number i x = i + 1

abbrev pub with_event : List SavedEvent → SavedEvent → List SavedEvent
with_event events e = events ++ e ∷ []

abbrev pub place_of : ℕ → ℕ → FilePlace
place_of position unit = record { position = position; unit = unit }

-- the next file has a later unit
abbrev pub behind_file : FilePlace → FilePart → FilePlace
behind_file least f = place_of f.position (f.unit + 1)

-- the next break has a higher address
abbrev pub behind_break : ℕ → BreakPart → ℕ
behind_break least b = b.address + 1

-- the next byte is not sent before it
abbrev pub behind_send : ℕ → SavedSend → ℕ
behind_send least s = s.time
