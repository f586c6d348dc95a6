use Rattle.std.proofs.Common.{◌≡◌, ◌∷◌, ◌+◌, true, List, ℕ, length, map, string_bytes, subst, ap, ◌∙◌, rules, arith}
use Rattle.file_traits.specs.State.{Opened}
use Rattle.host_files.specs.OpenTable.{TableState, opened_of, all_given}
use Rattle.host_files.proofs.Tables.{not-open, given-added}
use Rattle.host_files.proofs.open_table.OpenTable.add.Goals as goal

pub invariant_of-self-2 : goal.invariant_of-self-2
invariant_of-self-2 g c =
    let given = length c.self.inside.counts.items in
    let o : Opened = record { file = given; name = string_bytes c.args.name; mode = c.args.mode } in
    let opened : map opened_of c.insert.new.self.items ≡ o ∷ map opened_of c.self.inside.entries.items = search rules in
    let counts : length c.push.new.self.items ≡ given + 1 = search rules in
    ap (λ (xs : List Opened). all_given xs (length c.push.new.self.items)) opened
    ∙ ap (λ (n : ℕ). all_given (o ∷ map opened_of c.self.inside.entries.items) n) counts
    ∙ given-added o (map opened_of c.self.inside.entries.items) given (search rules) c.self.invariant

pub returns-clause-fresh : goal.returns-clause-fresh
returns-clause-fresh g c =
    let all : all_given c.args.self.now.opened (length c.args.self.now.counts) ≡ true = subst (λ (t : TableState). all_given t.opened (length t.counts) ≡ true) c.self.view_is c.self.invariant in
    not-open c.args.self.now.opened (length c.args.self.now.counts) (length c.args.self.now.counts) all (omega arith)
