use Rattle.std.proofs.Common.{◌∙◌, ap, sym, ℕ, ◌+◌, Bool, Option}
use Rattle.host_lines.specs.MemLines.{CallState, fails_of, fails_from}
use Rattle.host_lines.proofs.Numbered.{fails_later}
use Rattle.host_lines.proofs.calls.Calls.begin.Goals as goal

pub returns-then-fails-clause-later : goal.returns-then-fails-clause-later
returns-then-fails-clause-later c =
    let failing = c.self.inside.failing.items in
    ap (λ (n : Option ℕ). fails_from n failing) c.after-self-inside.ensures ∙ fails_later c.in-Some.number failing
    ∙ ap {B = ℕ → Bool} (λ (n : Option ℕ) (k : ℕ). fails_from n failing (k + 1)) (sym c.in-Some.is)
    ∙ ap {B = ℕ → Bool} (λ (s : CallState) (k : ℕ). fails_of s (k + 1)) c.self.view_is

pub returns-else-fails-clause-later : goal.returns-else-fails-clause-later
returns-else-fails-clause-later c =
    let failing = c.self.inside.failing.items in
    ap (λ (n : Option ℕ). fails_from n failing) c.after-self-inside.ensures ∙ fails_later c.in-Some.number failing
    ∙ ap {B = ℕ → Bool} (λ (n : Option ℕ) (k : ℕ). fails_from n failing (k + 1)) (sym c.in-Some.is)
    ∙ ap {B = ℕ → Bool} (λ (s : CallState) (k : ℕ). fails_of s (k + 1)) c.self.view_is
