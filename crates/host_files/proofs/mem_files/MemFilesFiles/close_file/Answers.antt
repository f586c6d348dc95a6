use Rattle.std.proofs.Common.{◌≡◌, map, ap, ◌∙◌, List, rules}
use Rattle.file_traits.specs.State.{Opened, without}
use Rattle.host_files.specs.MemFiles.{named_of, are_there}
use Rattle.host_files.proofs.Names.{there-without}
use Rattle.host_files.proofs.mem_files.MemFilesFiles.close_file.Goals as goal

pub invariant_of-self : goal.invariant_of-self
invariant_of-self c =
    let files = map named_of c.args.self.now.files.items in
    let opened : c.remove.new.self.opened ≡ without c.args.self.now.table.opened c.args.file.0 = search rules in
    record {
      there = ap (λ (os : List Opened). are_there files os) opened ∙ there-without files c.args.self.now.table.opened c.args.file.0 c.args.self.now.there;
      rooms = c.args.self.now.rooms;
    }
