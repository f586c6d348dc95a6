use Rattle.std.proofs.Common.{◌≡◌, take, map, sym, refl, ◌∙◌, rules}
use Rattle.file_traits.specs.Lists.{overwritten}
use Rattle.file_traits.specs.State.{name_at}
use Rattle.host_files.specs.MemFiles.{named_of}
use Rattle.file_traits.proofs.Changes.{changed-same}
use Rattle.host_files.proofs.mem_files.MemFilesFiles.write_at.Goals as goal

pub returns-else-store-clause-files : goal.returns-else-store-clause-files
returns-else-store-clause-files c =
    let files = map named_of c.args.self.now.files.items in
    let same : map named_of c.store.new.self.files.items ≡ files = search rules in
    same ∙ sym (changed-same files (name_at c.args.self.now.table.opened c.args.file.0) (λ old. overwritten old c.args.place (take 0 c.args.bytes.now)) (λ bytes. refl))

pub returns-else-stored-clause-files : goal.returns-else-stored-clause-files
returns-else-stored-clause-files c =
    let files = map named_of c.args.self.now.files.items in
    let same : map named_of c.store-stored.new.self.files.items ≡ files = search rules in
    same ∙ sym (changed-same files (name_at c.args.self.now.table.opened c.args.file.0) (λ old. overwritten old c.args.place (take 0 c.args.bytes.now)) (λ bytes. refl))
