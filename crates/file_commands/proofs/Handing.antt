-- Which notes a command is handed.
use Rattle.std.proofs.Common.{◌≡◌, ℕ, ◌==◌, Bool, true, false, List, [], ◌∷◌, ◌++◌, length, drop, refl, ap, ◌∙◌, arith, if◌then◌else◌}
use Rattle.std.proofs.lemmas.Bool.Decides.{nat_tests}
use Rattle.file_commands.specs.Notes.{CommandNote, Note, numbered, handed, Follow}
use Rattle.file_commands.specs.Laws.{CommandsTakeTheirNotes}

taken-if : (b : Bool) (x y : List CommandNote) → b ≡ true → (if b then x else y) ≡ x
taken-if true x y is = refl
taken-if false x y is = absurd (cc)

left-if : (b : Bool) (x y : List CommandNote) → b ≡ false → (if b then x else y) ≡ y
left-if false x y is = refl
left-if true x y is = absurd (cc)

pub handed-none : (number : ℕ) (more : List Note) → Follow number more → handed number more ≡ []
handed-none number [] follow = refl
handed-none number (n ∷ more) follow = left-if (n.command == number) (n.note ∷ handed number more) [] (grind (arith, nat_tests))

pub handed-own : (number : ℕ) (notes : List CommandNote) (more : List Note) → Follow number more → handed number (numbered number notes ++ more) ≡ notes
handed-own number [] more follow = handed-none number more follow
handed-own number (n ∷ notes) more follow =
    taken-if (number == number) (n ∷ handed number (numbered number notes ++ more)) [] (grind (arith, nat_tests))
    ∙ ap (λ (l : List CommandNote). n ∷ l) (handed-own number notes more follow)

pub dropped : (number : ℕ) (notes : List CommandNote) (more : List Note) → drop (length notes) (numbered number notes ++ more) ≡ more
dropped number [] more = refl
dropped number (n ∷ notes) more = dropped number notes more

pub commands-take : CommandsTakeTheirNotes
commands-take = record { own = handed-own; rest = dropped; none = handed-none }
