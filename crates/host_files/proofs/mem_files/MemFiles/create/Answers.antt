use Rattle.std.proofs.Common.{map, ap, ◌∙◌, List}
use Rattle.file_traits.specs.Lists.{NamedBytes, resized}
use Rattle.host_files.specs.MemFiles.{named_of, are_there}
use Rattle.host_files.proofs.Names.{there-changed}
use Rattle.host_files.proofs.mem_files.MemFiles.create.Goals as goal

pub invariant_of-self : goal.invariant_of-self
invariant_of-self c = record {
  there =
      ap (λ (files : List NamedBytes). are_there files c.add.new.self.table.opened) c.resize_file.ensures.files
      ∙ there-changed (map named_of c.add.new.self.files.items) c.add.new.self.table.opened c.args.name.now (λ old. resized old 0)
      ∙ c.add.new.self.there;
  rooms = c.resize_file.ensures.rooms;
}
