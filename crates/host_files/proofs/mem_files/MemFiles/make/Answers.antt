use Rattle.std.proofs.lemmas.List.{length-append}
use Rattle.std.proofs.Common.{ℕ, length, ◌+◌, ◌≡◌, ◌∷◌, ◌++◌, [], map, ap, sym, is_some, ◌∙◌, List, rules}
use Rattle.file_traits.specs.Lists.{NamedBytes, find_file, with_file}
use Rattle.host_files.specs.MemFiles.{named_of}
use Rattle.host_files.proofs.Names.{found-last, with-new}
use Rattle.host_files.proofs.mem_files.MemFiles.make.Goals as goal

pub invariant_of-self : goal.invariant_of-self
invariant_of-self c = record {
  there = c.push_file.ensures.kept c.args.self.now.table.opened c.args.self.now.there;
  rooms = c.push_file.ensures.rooms;
}

pub add-requires-clause-there : goal.add-requires-clause-there
add-requires-clause-there c =
    let files = map named_of c.args.self.now.files.items in
    let pushed = c.in-Ok-push_file.ensures.added ∙ ap (λ (g : NamedBytes). files ++ g ∷ []) c.in-Ok.ensures.file in
    ap (λ (xs : List NamedBytes). is_some (find_file xs c.args.name.now)) pushed ∙ found-last files c.args.name.now []

pub returns-in-Ok-add-clause-opens : goal.returns-in-Ok-add-clause-opens
returns-in-Ok-add-clause-opens c =
    let files = map named_of c.args.self.now.files.items in
    let pushed = c.in-Ok-push_file.ensures.added ∙ ap (λ (g : NamedBytes). files ++ g ∷ []) c.in-Ok.ensures.file in
    let told : map named_of c.add.new.self.files.items ≡ with_file files c.args.name.now [] =
    ap (λ fs. map named_of fs.items) c.add.ensures.files ∙ pushed ∙ sym (with-new files c.args.name.now [] c.requires.missing) in
    record {
      opened = search rules;
      next = c.in-Ok-add.ensures.file;
      given = ap (λ (xs : List ℕ). length xs) c.in-Ok-add.ensures.counts ∙ length-append c.args.self.now.table.counts (0 ∷ []) ∙ ap (λ (n : ℕ). n + 1) (sym c.in-Ok-add.ensures.file);
      fresh = search rules;
      files = λ tells. told;
      allowed = search rules;
    }
