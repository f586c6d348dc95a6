-- What SET CPU does.
use Rattle.std.proofs.Common.{◌≡◌, ℕ, Bool, true, false, List}
use Rattle.std.proofs.Common.{Ok, Err, refl, sym, subst, if◌then◌else◌}
use Rattle.nova_memory.specs.Memory.{fits_size}
use Rattle.expect_actions.specs.Watch.{WatchState}
use Rattle.nova_machine.specs.Machine.{MachineState}
use Rattle.nova_machine.specs.Seen.{seen, beside}
use Rattle.nova_machine.specs.Comes.{Output}
use Rattle.command_session.specs.declared.next.Next.TheVariants.{Go}
use Rattle.command_session.specs.declared.fault.CommandFault.TheVariants.{OutOfRange}
use Rattle.command_session.specs.Live.{Live, standing, with_machine, Beyond}
use Rattle.command_session.specs.Reply.{goes, refused}
use Rattle.plain_commands.specs.SetEffects.{sized, ruled, set_size_reply, set_autobit_reply}
use Rattle.command_session.specs.Doing.{Does}
use Rattle.command_session.proofs.ReplyLemmas.{goes-said, refused-said}

pub size-does : (watch : WatchState) (keys : List (ℕ × ℕ)) (files : Beyond) (m new : MachineState) (k : ℕ) (tells : Bool) (text : Output) → fits_size k ≡ true → new ≡ sized m k
    → Does (set_size_reply (seen (beside watch keys files.files files.lines) files.whole m) k) (Ok Go) (standing 0 (seen (beside watch keys files.files files.lines) files.whole new)) tells text text
unfolding set_size_reply
size-does watch keys files m new k tells text fits is =
    let live = seen (beside watch keys files.files files.lines) files.whole m in
    subst (λ (b : Bool). Does (if b then goes (with_machine live (sized live.machine k)) else refused OutOfRange live) (Ok Go) (standing 0 (seen (beside watch keys files.files files.lines) files.whole new)) tells text text) (sym fits)
    (subst (λ (x : MachineState). Does (goes (with_machine live (sized live.machine k))) (Ok Go) (standing 0 (seen (beside watch keys files.files files.lines) files.whole x)) tells text text) (sym is)
    (refl, goes-said (with_machine live (sized live.machine k)) tells text))

pub size-refused : (live : Live) (k : ℕ) (tells : Bool) (text : Output) → fits_size k ≡ false → Does (set_size_reply live k) (Err OutOfRange) (standing 0 live) tells text text
unfolding set_size_reply
size-refused live k tells text fits =
    subst (λ (b : Bool). Does (if b then goes (with_machine live (sized live.machine k)) else refused OutOfRange live) (Err OutOfRange) (standing 0 live) tells text text) (sym fits)
    (refl, refused-said OutOfRange live tells text)

pub rule-does : (watch : WatchState) (keys : List (ℕ × ℕ)) (files : Beyond) (m new : MachineState) (before : Bool) (tells : Bool) (text : Output) → new ≡ ruled m before
    → Does (set_autobit_reply (seen (beside watch keys files.files files.lines) files.whole m) before) (Ok Go) (standing 0 (seen (beside watch keys files.files files.lines) files.whole new)) tells text text
unfolding set_autobit_reply
rule-does watch keys files m new before tells text is =
    let live = seen (beside watch keys files.files files.lines) files.whole m in
    subst (λ (x : MachineState). Does (goes (with_machine live (ruled live.machine before))) (Ok Go) (standing 0 (seen (beside watch keys files.files files.lines) files.whole x)) tells text text) (sym is)
    (refl, goes-said (with_machine live (ruled live.machine before)) tells text)
