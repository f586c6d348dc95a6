use Rattle.std.specs.Prelude.{Some, OnOk, OnErr, Result, Ok, Err}
use Rattle.std.proofs.Common.{◌≡◌, List, ℕ, ap, sym, ◌∙◌}
use Rattle.file_traits.specs.Lists.{bytes_of, changed, resized}
use Rattle.file_traits.specs.State.{FileState, name_at}
use Rattle.file_traits.specs.OneList.{masked}
use Rattle.file_traits.proofs.Changes.{put_back}
use Rattle.file_traits.proofs.ThroughOne.{changed_content, masked_same, on_ok}
use Rattle.file_traits.proofs.one_file.OneFileBytes.set_length.Goals as goal

either : {T E P Q R : Type 0} (result : Result T E) → (P → R) → (Q → R) → OnOk result P → OnErr result Q → R
either (Ok x) first second set same = first set
either (Err e) first second set same = second same

pub returns-clause-set : goal.returns-clause-set
returns-clause-set g c = λ tells.
    let old = g.F.Files.state c.args.self.now.files.now in
    let new = g.F.Files.state c.set_length.new.self in
    let file = c.args.self.now.file.0 in
    on_ok c.set_length.result
    (λ (files : new.files ≡ changed old.files (name_at old.opened file) (λ (bytes : List ℕ). resized bytes c.args.length)).
    changed_content old new file (λ (bytes : List ℕ). resized bytes c.args.length) (g.met.F.Files.named tells c.args.self.now.files.now file c.args.self.now.is_open) files c.set_length.ensures.opened)
    c.set_length.ensures.set

pub returns-clause-behind : goal.returns-clause-behind
returns-clause-behind g c =
    let old = g.F.Files.state c.args.self.now.files.now in
    let new = g.F.Files.state c.set_length.new.self in
    let file = c.args.self.now.file.0 in
    let name = name_at old.opened file in
    let counted = c.set_length.ensures.counted in
    let same : masked new file ≡ masked old file =
    either c.set_length.result
    (λ (files : new.files ≡ changed old.files name (λ (bytes : List ℕ). resized bytes c.args.length)).
    masked_same old new file (λ (bytes : List ℕ). resized bytes c.args.length) files c.set_length.ensures.opened counted.ids counted.openings counted.others)
    (λ (files : new.files ≡ old.files).
    masked_same old new file (λ (bytes : List ℕ). bytes_of old.files name) (files ∙ sym (put_back old.files name)) c.set_length.ensures.opened counted.ids counted.openings counted.others)
    c.set_length.ensures.set c.set_length.ensures.same in
    ap (λ (s : FileState). record { lender = Some c.args.self.now.files.ghost_name; file = file; state = s }) same
