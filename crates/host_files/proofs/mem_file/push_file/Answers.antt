use Rattle.std.proofs.Common.{◌≡◌, ◌++◌, ◌∷◌, [], map, List, ap, ◌∙◌, rules}
use Rattle.std.proofs.lemmas.List.{map-append}
use Rattle.host_files.specs.declared.mem_file.MemFile.{MemFile}
use Rattle.host_files.specs.MemFiles.{named_of}
use Rattle.host_files.proofs.Names.{there_pushed}
use Rattle.host_files.proofs.mem_file.push_file.Goals as goal

pub returns-clause-kept : goal.returns-clause-kept
returns-clause-kept c opened all =
    let items : c.push.new.self.items ≡ c.args.files.now.items ++ c.args.file ∷ [] = search rules in
    let pushed = ap (λ (xs : List MemFile). map named_of xs) items ∙ map-append named_of c.args.files.now.items (c.args.file ∷ []) in
    there_pushed (map named_of c.args.files.now.items) (map named_of c.push.new.self.items) (named_of c.args.file) opened pushed all
