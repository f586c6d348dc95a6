use Rattle.std.proofs.Common.{◌≡◌, ◌∙◌, ap, arith, rules, ◌+◌, ◌<◌, true, [], ◌∷◌, ◌++◌, length, get_or, if◌then◌else◌}
use Rattle.std.specs.Prelude.{vec_len, vec_capacity}
use Rattle.std.specs.Result.{is_ok}
use Rattle.host_lines.specs.declared.lines.Sent.{Sent}
use Rattle.host_lines.proofs.Kept.{one_kept}
use Rattle.host_lines.proofs.traffic.keep_sent.Goals as goal

pub loop-byte-preserved : goal.loop-byte-preserved
loop-byte-preserved c =
    let i = c.loop-byte.byte-index in
    let kept = c.loop-byte.sent in
    let within : i < length c.args.bytes.now = search rules in
    let room : vec_len kept < vec_capacity kept = omega (arith, within, c.loop-byte.invariant.1, c.loop-byte.invariant.2, c.requires) in
    let ok : is_ok c.push.result ≡ true = c.push.ensures.succeeds room in
    let one : Sent = record { caller = c.args.caller; byte = get_or c.args.bytes.now i 0 } in
    let added : c.push.new.self.items ≡ kept.items ++ one ∷ [] = c.push.ensures.items ∙ ap (λ b. if b then kept.items ++ one ∷ [] else kept.items) ok in
    let longer : vec_len c.push.new.self ≡ vec_len kept + 1 = c.push.ensures.len ∙ ap (λ b. if b then vec_len kept + 1 else vec_len kept) ok in
    (one_kept _ _ _ _ i c.args.bytes.now within c.loop-byte.invariant.0 added, omega (arith, longer, c.loop-byte.invariant.1), omega (arith, c.push.ensures.capacity, c.loop-byte.invariant.2))
