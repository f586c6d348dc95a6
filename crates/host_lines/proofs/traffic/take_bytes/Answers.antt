use Rattle.std.proofs.Common.{◌≡◌, ◌∙◌, ap, sym, arith, rules, ◌≤◌, length, get_or}
use Rattle.host_lines.specs.Traffic.{Happening}
use Rattle.host_lines.proofs.Entries.{remove_set, same_or, all_taken}
use Rattle.host_lines.proofs.traffic.take_bytes.Goals as goal

pub returns-then-not-is_more-clause-left : goal.returns-then-not-is_more-clause-left
returns-then-not-is_more-clause-left c = λ d.
    let entries = c.args.entries.now.items in
    let e = get_or entries c.args.place d in
    let is : c.index.result.now ≡ e = c.index.ensures ∙ same_or entries c.args.place c.index.result.now d (search rules) in
    let few : length e.bytes ≤ length c.args.buf.now = omega (arith, c.len.ensures, c.if-not-is_more.true, ap (λ (h : Happening). length h.bytes) is) in
    c.remove.ensures.items ∙ remove_set entries c.args.place c.take-count.new.self ∙ sym (all_taken (length c.args.buf.now) c.args.place e entries few)
