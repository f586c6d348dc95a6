use Rattle.std.proofs.Common.{◌≡◌, ◌+◌, ◌-◌, ◌≤◌, ℕ, drop, subst, arith}
use Rattle.file_traits.specs.State.{content}
use Rattle.host_adapters.specs.Placed.{IsRead}
use Rattle.host_adapters.proofs.Pages.{read-rest}
use Rattle.host_adapters.proofs.paged_files.PagedFiles.keep_behind.Goals as goal

pub invariant_of-self-2-clause-read : goal.invariant_of-self-2-clause-read
invariant_of-self-2-clause-read g c tells =
    let held = c.args.self.now in
    let end = c.in-Some.end in
    let k = end - held.place in
    let bytes = content (g.F.Files.state held.files) held.file.0 in
    let ahead = c.if-end-self.false in
    let inside = c.if-passed-self.false in
    let few : k ≤ held.count = omega (arith, inside) in
    let there : held.place + k ≡ end = omega (arith, ahead) in
    subst (λ (p : ℕ). IsRead bytes p (held.count - k) (drop (held.start + k) held.page.items)) there
    (read-rest bytes held.page.items held.place held.count held.start k few (held.read tells))
