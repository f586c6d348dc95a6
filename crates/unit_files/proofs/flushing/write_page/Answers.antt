use Rattle.std.proofs.Common.{◌≡◌, ℕ, Bool, true, false, List, [], sym, ap, ◌∙◌, rules, if◌then◌else◌}
use Rattle.std.proofs.lemmas.List.{nil_from_length}
use Rattle.file_traits.specs.Lists.{changed, overwritten}
use Rattle.file_traits.specs.State.{name_at}
use Rattle.unit_files.proofs.WrittenPages.{unchanged}
use Rattle.unit_files.proofs.flushing.write_page.Goals as goal
use Rattle.unit_files.proofs.flushing.write_page.Goals.{then-not-marked-via-then-not-marked, then-not-marked-via-else-not-marked+then-is_empty}

pub returns-then-not-marked-clause-files : goal.returns-then-not-marked-clause-files
returns-then-not-marked-clause-files g c =
    let old = g.F.Files.state c.args.files.now in
    let name = name_at old.opened c.args.file.0 in
    let bytes = c.args.bytes.now in
    elim c.then-not-marked.branch [
      | then-not-marked-via-then-not-marked w ↦
          let off : c.args.marked ≡ false = search rules in
          unchanged old.files name
          ∙ ap (λ (m : Bool). changed old.files name (λ was. if m then overwritten was c.args.place bytes else was)) (sym off)
      | then-not-marked-via-else-not-marked+then-is_empty w ↦
          let on : c.args.marked ≡ true = search rules in
          let none : bytes ≡ [] = nil_from_length bytes (search rules) in
          unchanged old.files name
          ∙ ap (λ (l : List ℕ). changed old.files name (λ was. overwritten was c.args.place l)) (sym none)
          ∙ ap (λ (m : Bool). changed old.files name (λ was. if m then overwritten was c.args.place bytes else was)) (sym on)
    ]
