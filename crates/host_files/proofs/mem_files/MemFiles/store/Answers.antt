use Rattle.std.proofs.Common.{map, ap, ◌∙◌, List}
use Rattle.file_traits.specs.Lists.{NamedBytes, overwritten}
use Rattle.host_files.specs.MemFiles.{named_of, are_there}
use Rattle.host_files.proofs.Names.{there-changed}
use Rattle.host_files.proofs.mem_files.MemFiles.store.Goals as goal

pub invariant_of-self : goal.invariant_of-self
invariant_of-self c = record {
  there =
      ap (λ (files : List NamedBytes). are_there files c.args.self.now.table.opened) c.write_file.ensures.files
      ∙ there-changed (map named_of c.args.self.now.files.items) c.args.self.now.table.opened c.name-name.result.now (λ old. overwritten old c.args.place c.args.piece.now)
      ∙ c.args.self.now.there;
  rooms = c.write_file.ensures.rooms;
}
