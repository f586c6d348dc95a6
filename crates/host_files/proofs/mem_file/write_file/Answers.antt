use Rattle.std.proofs.Common.{◌≡◌, None, map, get_or, refl, sym, rules}
use Rattle.file_traits.specs.Lists.{find_file, overwritten}
use Rattle.host_files.specs.MemFiles.{named_of, HasPlace}
use Rattle.host_files.proofs.Names.{changed-none, set-changed}
use Rattle.host_files.proofs.mem_file.write_file.Goals as goal

pub returns-in-Some-clause-files : goal.returns-in-Some-clause-files
returns-in-Some-clause-files c =
    let at : HasPlace (map named_of c.args.files.now.items) c.args.name.now c.in-Some.i = search rules in
    let f = c.index_mut.result.now in
    let is : f ≡ get_or c.args.files.now.items c.in-Some.i f = c.index_mut.ensures.value in
    set-changed c.args.files.now.items c.in-Some.i c.args.name.now f (record f { bytes = c.write_into.new.bytes }) (λ old. overwritten old c.args.place c.args.piece.now) at is refl c.write_into.ensures.bytes

pub returns-in_default-clause-files : goal.returns-in_default-clause-files
returns-in_default-clause-files c =
    let none : find_file (map named_of c.args.files.now.items) c.args.name.now ≡ None = search rules in
    sym (changed-none (map named_of c.args.files.now.items) c.args.name.now (λ old. overwritten old c.args.place c.args.piece.now) none)
