use Rattle.std.proofs.Common.{◌≡◌, ◌∙◌, ap, rules, ℕ, ◌==◌, not, filter}
use Rattle.host_lines.specs.State.{without_one}
use Rattle.host_lines.specs.MemLines.{MemState, is_listed}
use Rattle.std.proofs.lemmas.Fn.{filter_same}
use Rattle.host_lines.proofs.Connections.{port_removed}
use Rattle.host_lines.proofs.mem_lines.MemLinesLines.unlisten.Goals as goal

pub returns-clause-ports : goal.returns-clause-ports
returns-clause-ports c =
    let kept : c.retain.new.self.items ≡ filter (λ (q : ℕ). not (q == c.args.port)) c.self.inside.ports.items = filter_same _ _ _ (λ x b f' k. search rules) _ _ c.retain.ensures.filtered in
    ap is_listed kept ∙ port_removed c.self.inside.ports.items c.args.port ∙ ap (λ (m : MemState). without_one c.args.port (is_listed m.ports)) c.self.view_is
