-- What a reset leaves: the lines stand, and nothing is printed.
use Rattle.std.proofs.Common.{map, ◌≡◌, ◌∙◌, ℕ, Bool, true, false, List, Ok, refl, ap, sym, subst}
use Rattle.expect_actions.specs.Watch.{WatchState}
use Rattle.telnet_lines.specs.Line.{LineOf}
use Rattle.telnet_lines.specs.Joined.{seen_line}
use Rattle.nova_machine.specs.Machine.{MachineState, reset_machine, reset_devices}
use Rattle.nova_machine.specs.Seen.{erased, seen, beside}
use Rattle.nova_machine.specs.Comes.{Output}
use Rattle.command_session.specs.declared.next.Next.TheVariants.{Go}
use Rattle.command_session.specs.Live.{Live, with_machine, standing, Beyond}
use Rattle.command_session.specs.RunEffects.{reset_where, reset_reply}
use Rattle.command_session.specs.Doing.{Does}
use Rattle.command_session.proofs.ReplyLemmas.{goes-said}

pub erased-reset_machine : (m : MachineState) → reset_machine (erased m) ≡ erased (reset_machine m)
unfolding reset_machine reset_devices
erased-reset_machine m = refl

-- the lines stand where a machine is reset, or not
pub reset-lines : (resets : Bool) (m : MachineState) → (reset_where resets m).lines ≡ m.lines
unfolding reset_machine reset_devices
reset-lines true m = refl
reset-lines false m = refl

-- RESET prints nothing
pub reset-does : (watch : WatchState) (keys : List (ℕ × ℕ)) (files : Beyond) (m new : MachineState) (tells : Bool) (text : Output) → new ≡ reset_machine m
    → Does (reset_reply (seen (beside watch keys files.files files.lines) files.whole m)) (Ok Go) (standing 0 (seen (beside watch keys files.files files.lines) files.whole new)) tells text text
unfolding reset_reply
reset-does watch keys files m new tells text is =
    let s = seen (beside watch keys files.files files.lines) files.whole m in
    let left : seen (beside watch keys files.files files.lines) files.whole new ≡ with_machine s (reset_machine (erased m)) =
    ap (λ (x : MachineState). seen (beside watch keys files.files files.lines) files.whole x) is
    ∙ ap (λ (ls : List (LineOf ℕ)). record s { machine = erased (reset_machine m); lines = map (seen_line files.lines) ls }) (reset-lines true m)
    ∙ ap (λ (x : MachineState). with_machine s x) (sym (erased-reset_machine m)) in
    subst (λ (x : Live). Does (reset_reply s) (Ok Go) (standing 0 x) tells text text) (sym left) (refl, goes-said (with_machine s (reset_machine (erased m))) tells text)
