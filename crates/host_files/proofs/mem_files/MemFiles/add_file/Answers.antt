use Rattle.std.proofs.Common.{◌≡◌, ◌∷◌, ◌++◌, [], true, None, map, ap, sym, is_some, ◌∙◌, List, rules}
use Rattle.file_traits.specs.Lists.{NamedBytes, find_file, with_file, changed, overwritten, resized}
use Rattle.host_files.specs.MemFiles.{named_of, are_there}
use Rattle.host_files.proofs.Names.{there-changed, refilled, with-new}
use Rattle.host_files.proofs.mem_files.MemFiles.add_file.Goals as goal

pub invariant_of-self : goal.invariant_of-self
invariant_of-self c =
    let opened = c.args.self.now.table.opened in
    record {
      there =
          ap (λ (files : List NamedBytes). are_there files opened) c.write_file.ensures.files
          ∙ there-changed (map named_of c.resize_file.new.files.items) opened c.args.name.now (λ old. overwritten old 0 c.args.bytes.now)
          ∙ ap (λ (files : List NamedBytes). are_there files opened) c.resize_file.ensures.files
          ∙ there-changed (map named_of c.args.self.now.files.items) opened c.args.name.now (λ old. resized old 0)
          ∙ c.args.self.now.there;
      rooms = c.write_file.ensures.rooms;
    }

pub returns-then-is_some-clause-added : goal.returns-then-is_some-clause-added
returns-then-is_some-clause-added c =
    let files = map named_of c.args.self.now.files.items in
    let there : is_some (find_file files c.args.name.now) ≡ true = search rules in
    let now : map named_of c.write_file.new.files.items ≡ with_file files c.args.name.now c.args.bytes.now =
    c.write_file.ensures.files
    ∙ ap (λ (xs : List NamedBytes). changed xs c.args.name.now (λ old. overwritten old 0 c.args.bytes.now)) c.resize_file.ensures.files
    ∙ sym (refilled files c.args.name.now c.args.bytes.now there) in
    ap (λ (xs : List NamedBytes). record { files = xs; room = c.args.self.now.room; table = c.args.self.now.table; calls = c.args.self.now.calls; open_faults = c.args.self.now.open_faults }) now

pub returns-in-Ok-push_file-clause-added : goal.returns-in-Ok-push_file-clause-added
returns-in-Ok-push_file-clause-added c =
    let files = map named_of c.args.self.now.files.items in
    let none : find_file files c.args.name.now ≡ None = search rules in
    let now : map named_of c.push_file.new.files.items ≡ with_file files c.args.name.now c.args.bytes.now =
    c.in-Ok-push_file.ensures.added ∙ ap (λ (g : NamedBytes). files ++ g ∷ []) c.in-Ok.ensures.file ∙ sym (with-new files c.args.name.now c.args.bytes.now none) in
    ap (λ (xs : List NamedBytes). record { files = xs; room = c.args.self.now.room; table = c.args.self.now.table; calls = c.args.self.now.calls; open_faults = c.args.self.now.open_faults }) now
