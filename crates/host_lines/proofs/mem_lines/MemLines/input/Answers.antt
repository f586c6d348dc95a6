use Rattle.std.proofs.Common.{◌≡◌, ◌∙◌, ap, sym, [], length, Some}
use Rattle.std.specs.List.{position}
use Rattle.std.proofs.lemmas.List.Quantifiers.{position-Some}
use Rattle.host_lines.specs.declared.entry.CallerAct.TheVariants as acts
use Rattle.host_lines.specs.Traffic.{Traffic, comes_from, taken_input}
use Rattle.host_lines.specs.MemLines.{MemState, traffic_of, fails_of, happens}
use Rattle.host_lines.proofs.Entries.{input_taken}
use Rattle.host_lines.proofs.mem_lines.MemLines.input.Goals as goal

pub returns-then-eq-clause-traffic : goal.returns-then-eq-clause-traffic
returns-then-eq-clause-traffic c =
    let t : Traffic = record { entries = c.self.inside.entries.items; most = c.self.inside.most; room = c.self.inside.room; fails = fails_of c.self.inside.calls } in
    let d = happens 0 0 acts.HangsUp [] in
    let size = length c.args.buf.now in
    let test = comes_from c.args.caller c.args.now in
    let at : position test t.entries ≡ Some c.in-Some.place = sym (c.first_input.ensures ∙ ap (position test) c.as_slice.ensures.value) ∙ c.in-Some.is in
    let within = (position-Some test t.entries c.in-Some.place d at).0 in
    input_taken size c.in-Some.place t d (position test t.entries) _ c.take_input-received.new.entries.items at within (c.take_input-received.ensures.answer d) (c.take_input-received.ensures.left d)
    ∙ ap (λ (m : MemState). taken_input size (position test m.entries) (traffic_of m)) c.self.view_is

pub returns-else-eq-clause-traffic : goal.returns-else-eq-clause-traffic
returns-else-eq-clause-traffic c =
    let t : Traffic = record { entries = c.self.inside.entries.items; most = c.self.inside.most; room = c.self.inside.room; fails = fails_of c.self.inside.calls } in
    let d = happens 0 0 acts.HangsUp [] in
    let size = length c.args.buf.now in
    let test = comes_from c.args.caller c.args.now in
    let at : position test t.entries ≡ Some c.in-Some.place = sym (c.first_input.ensures ∙ ap (position test) c.as_slice.ensures.value) ∙ c.in-Some.is in
    let within = (position-Some test t.entries c.in-Some.place d at).0 in
    input_taken size c.in-Some.place t d (position test t.entries) _ c.take_input-received.new.entries.items at within (c.take_input-received.ensures.answer d) (c.take_input-received.ensures.left d)
    ∙ ap (λ (m : MemState). taken_input size (position test m.entries) (traffic_of m)) c.self.view_is
