use Rattle.std.proofs.Common.{map, ap, ◌∙◌, List}
use Rattle.file_traits.specs.Lists.{NamedBytes, resized}
use Rattle.host_files.specs.MemFiles.{named_of, are_there}
use Rattle.host_files.proofs.Names.{there-changed}
use Rattle.host_files.proofs.mem_files.MemFilesFiles.set_length.Goals as goal

pub invariant_of-self-2 : goal.invariant_of-self-2
invariant_of-self-2 c = record {
  there =
      ap (λ (files : List NamedBytes). are_there files c.args.self.now.table.opened) c.resize_file.ensures.files
      ∙ there-changed (map named_of c.args.self.now.files.items) c.args.self.now.table.opened c.name-name.result.now (λ old. resized old c.args.length)
      ∙ c.args.self.now.there;
  rooms = c.resize_file.ensures.rooms;
}
