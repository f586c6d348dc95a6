use Rattle.std.proofs.Common.{◌≡◌, ◌+◌, ◌-◌, ℕ, List, take, drop, length, ap, sym, ◌∙◌, subst, arith}
use Rattle.std.proofs.lemmas.List.{drop-drop}
use Rattle.file_traits.specs.declared.files.FileId.{FileId}
use Rattle.file_traits.specs.State.{content}
use Rattle.host_adapters.specs.Placed.{IsRead}
use Rattle.host_adapters.proofs.Pages.{read-within}
use Rattle.host_adapters.proofs.paged_files.PagedFilesFiles.read_at.Goals as goal

-- the page has the bytes
pub returns-in-Some-clause-reads : goal.returns-in-Some-clause-reads
returns-in-Some-clause-reads g c tells =
    let held = c.args.self.now in
    let found = c.in-Some.ensures in
    let start = c.in-Some.start in
    let first = held.start + start in
    let m = length c.args.buf.now in
    let wanted : first + m - first ≡ m = omega arith in
    let state = g.F.Files.state held.files in
    let page = drop held.start held.page.items in
    let read = subst (λ (f : FileId). IsRead (content state f.0) held.place held.count page) found.same (held.read tells) in
    let given = c.copy_from_slice.ensures.after
    ∙ ap (λ (xs : List ℕ). take (first + m - first) (drop first xs)) c.deref.ensures.value
    ∙ ap (λ (k : ℕ). take k (drop first held.page.items)) wanted
    ∙ ap (λ (xs : List ℕ). take m xs) (sym (drop-drop start held.start held.page.items)) in
    read-within (content state c.args.file.0) page c.copy_from_slice.new.self held.place held.count c.args.place start m
    read found.place found.within given c.copy_from_slice.ensures.len
