-- An open id of files in memory stands for a name that is there.
use Rattle.std.specs.Prelude.{◌≡◌, ℕ, ◌==◌, ◌&&◌, Bool, true, false, List, [], ◌∷◌, Option, Some, IsSome, is_some, option_map, unwrap_or, if◌then◌else◌}
use Rattle.std.proofs.Common.{subst, refl}
use Rattle.file_traits.specs.Lists.{NamedBytes, find_file}
use Rattle.file_traits.specs.State.{Opened, opened_at, name_at, IsOpen, IsNamed}
use Rattle.host_files.specs.MemFiles.{MemState, are_there, told_state}

abbrev Where : Bool → Type 0 → Type 0
Where true t = t
Where false t = Unit {0}

first-of : (a b : Bool) → (a && b) ≡ true → a ≡ true
first-of true b both = refl
first-of false b both = both

second-of : (a b : Bool) → (a && b) ≡ true → b ≡ true
second-of true b both = both
second-of false b both = subst (λ (x : Bool). Where x (b ≡ true)) both tt

front : (files : List NamedBytes) (b : Bool) (o : Opened) (rest : Option Opened) → IsSome (find_file files o.name)
    → (IsSome rest → IsSome (find_file files (unwrap_or (option_map (λ (p : Opened). p.name) rest) [])))
    → IsSome (if b then Some o else rest) → IsSome (find_file files (unwrap_or (option_map (λ (p : Opened). p.name) (if b then Some o else rest)) []))
front files true o rest here later is_open = here
front files false o rest here later is_open = later is_open

listed : (files : List NamedBytes) (opened : List Opened) (file : ℕ) → are_there files opened ≡ true → IsSome (opened_at opened file) → IsSome (find_file files (name_at opened file))
listed files [] file there is_open = subst (λ (b : Bool). Where b (IsSome (find_file files []))) is_open tt
listed files (o ∷ rest) file there is_open =
    front files (o.file == file) o (opened_at rest file) (first-of (is_some (find_file files o.name)) (are_there files rest) there)
    (λ (more : IsSome (opened_at rest file)). listed files rest file (second-of (is_some (find_file files o.name)) (are_there files rest) there) more) is_open

pub there_named : (m : MemState) (file : ℕ) → are_there m.files m.table.opened ≡ true → IsOpen (told_state m) file → IsNamed (told_state m) file
there_named m file there is_open = listed m.files m.table.opened file there is_open
