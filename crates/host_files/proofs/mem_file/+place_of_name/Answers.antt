use Rattle.std.proofs.Common.{◌≡◌, ◌∷◌, true, map, string_bytes, subst, List, rules}
use Rattle.std.specs.Prelude.{bytes_eq}
use Rattle.file_traits.specs.Lists.{NamedBytes}
use Rattle.host_files.specs.MemFiles.{named_of, HasPlace}
use Rattle.host_files.proofs.Names.{place-first}
use Rattle.host_files.proofs.mem_file.+place_of_name.Goals as goal

pub returns-then-eq : goal.returns-then-eq
returns-then-eq t c =
    let same : bytes_eq (string_bytes c.in-Some.first.now.name) c.args.name.now ≡ true = search rules in
    let list : named_of c.in-Some.first.now ∷ map named_of c.in-Some.rest.now ≡ map named_of c.args.files.now = search rules in
    subst (λ (xs : List NamedBytes). HasPlace xs c.args.name.now 0) list
    (place-first (named_of c.in-Some.first.now) (map named_of c.in-Some.rest.now) c.args.name.now same)
