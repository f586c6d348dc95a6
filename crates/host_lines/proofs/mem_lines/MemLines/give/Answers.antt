use Rattle.std.proofs.Common.{◌≡◌, ◌∙◌, ap, sym, arith, rules, ℕ, ◌<◌, true, List, [], ◌∷◌, ◌++◌, remove, get_or, slice_get, if◌then◌else◌}
use Rattle.std.specs.Prelude.{vec_len, vec_capacity}
use Rattle.std.specs.Result.{is_ok}
use Rattle.std.proofs.lemmas.List.Sums.{sum_by-remove}
use Rattle.std.proofs.lemmas.Option.{slice_get-get_or}
use Rattle.host_lines.specs.declared.entry.CallerAct.TheVariants as acts
use Rattle.host_lines.specs.declared.mem_lines.Given.{Given}
use Rattle.host_lines.specs.Traffic.{Happening, caller_at}
use Rattle.host_lines.specs.MemLines.{MemState, connects_of, happens}
use Rattle.host_lines.proofs.mem_lines.MemLines.give.Goals as goal

pub returns-clause-lines : goal.returns-clause-lines
returns-clause-lines c =
    let entries = c.self.inside.entries.items in
    let given = c.self.inside.given in
    let d = happens 0 0 acts.HangsUp [] in
    let sum = sum_by-remove connects_of entries c.args.place d (search rules) in
    let one : connects_of (get_or entries c.args.place d) ≡ 1 = search rules in
    let room : vec_len given < vec_capacity given = omega (arith, sum, one, c.self.invariant.1, c.self.invariant.2) in
    let ok : is_ok c.push.result ≡ true = search (rules, c.push.ensures.succeeds room) in
    let caller : c.caller.result ≡ caller_at (slice_get entries c.args.place) =
    c.caller.ensures ∙ ap (λ (e : Happening). e.caller) c.remove-entry.ensures.value ∙ sym (ap caller_at (slice_get-get_or entries c.args.place c.remove-entry.result (search rules))) in
    let all : c.push.new.self.items ≡ given.items ++ record { caller = caller_at (slice_get entries c.args.place); stands = true } ∷ [] =
    c.push.ensures.items ∙ ap (λ b. if b then given.items ++ record { caller = c.caller.result; stands = true } ∷ [] else given.items) ok
    ∙ ap (λ (n : ℕ). given.items ++ record { caller = n; stands = true } ∷ []) caller in
    let made : List Happening → List Given → MemState = λ es gs. record {
      entries = es;
      most = c.self.inside.most;
      room = c.self.inside.room;
      calls = c.self.inside.calls;
      ports = c.self.inside.ports.items;
      given = gs;
      sent = c.self.inside.sent.items;
      last = c.self.inside.last;
      connects = c.self.inside.connects;
    } in
    ap (λ (es : List Happening). made es c.push.new.self.items) c.remove-entry.ensures.items ∙ ap (made (remove entries c.args.place)) all
    ∙ ap (λ (m : MemState). record m {
      entries = remove m.entries c.args.place;
      given = m.given ++ record { caller = caller_at (slice_get m.entries c.args.place); stands = true } ∷ [];
    }) c.self.view_is
