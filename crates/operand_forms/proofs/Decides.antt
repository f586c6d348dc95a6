-- What it means that a function decides a form.
use Rattle.std.proofs.Common.{◌≡◌, ◌↔◌, ℕ, List, Option, Some}

-- the function gives the value that a word has by the form, and none exactly where there is none
abbrev pub Decides : {V : Type 0} → (List ℕ → V → Type 0) → (List ℕ → Option V) → Type 0
Decides {V} Form form = (text : List ℕ) (v : V) → (form text ≡ Some v) ↔ Form text v
