-- A turn in which nothing comes before the instruction.
use Rattle.std.proofs.Common.{◌≡◌, ℕ, Bool, false, List, Option, None, option_map, refl, ap, sym, subst, ◌∙◌, append-nil, if◌then◌else◌}
use Rattle.host_lines.specs.Traffic.{Answer}
use Rattle.host_lines.specs.State.{LineState}
use Rattle.nova_machine.specs.Machine.{MachineState}
use Rattle.file_traits.specs.Lists.{NamedBytes}
use Rattle.nova_machine.specs.Notes.{UnitNote}
use Rattle.nova_machine.specs.Seen.{Seen, seen, beside, erased, with_machine}
use Rattle.nova_machine.specs.Parts.{Part, silent, then_part}
use Rattle.nova_machine.specs.Turned.{Turned, goes_on, still}
use Rattle.nova_machine.specs.Turn.{is_interrupted, enter, interrupt, breaks_tested, breaks_tested_unless, attended, prepared}
use Rattle.nova_machine.specs.Quiet.{IsPlain}
use Rattle.nova_machine.specs.Comes.{Output, IsWhole}
use Rattle.nova_machine.proofs.Hearing.{heard-nothing}
use Rattle.nova_machine.proofs.Serving.{serving-none}
use Rattle.expect_actions.specs.Watch.{WatchState}
use Rattle.expect_actions.specs.declared.breaks.Break.{Break as BreakAt}
use Rattle.expect_actions.specs.Breaks.{table, has_break, tested, stopped_actions}
use Rattle.expect_actions.proofs.BreakLemmas.{stop_none, tested_none}
use Rattle.nova_machine.specs.declared.machine.Stop.TheVariants.{Break}
use Rattle.nova_machine.proofs.Opened.{turn-opened}

pub interrupt-none : (m : MachineState) → is_interrupted m ≡ false → interrupt m ≡ goes_on m
unfolding interrupt
interrupt-none m quiet = ap (λ (b : Bool). if b then enter m else goes_on m) quiet

-- where no break is at PC, none is tested
pub breaks-none : (s : Seen) → has_break s.machine.processor.cpu.pc s.watch.breaks.list ≡ false → breaks_tested s ≡ silent None s
unfolding breaks_tested
breaks-none s none =
    let pc = s.machine.processor.cpu.pc in
    let b = s.watch.breaks in
    ap (λ (o : Option ℕ). silent (option_map Break o) (record s { watch = record s.watch { breaks = table (tested pc b.list) (stopped_actions o b.list b.actions) } })) (stop_none pc b.list none)
    ∙ ap (λ (list : List BreakAt). silent None (record s { watch = record s.watch { breaks = table list b.actions } })) (tested_none pc b.list none)

-- no numbers of files are looked at
plain-erased : (m : MachineState) → IsPlain m → IsPlain (erased m)
plain-erased m plain = record { none = plain.none; uninterrupted = plain.uninterrupted }

pub plain-attended : (note : Option UnitNote) (s : Seen) → IsPlain s.machine → attended note s ≡ silent None s
plain-attended note s plain =
    (turn-opened note false s).attends ∙ ap (λ (p : Part). then_part p (λ served. still served (interrupt served.machine))) (serving-none note s plain.none)
    ∙ ap (λ (t : Turned). silent t.stop (with_machine s t.machine)) (interrupt-none s.machine plain.uninterrupted)

pub plain-prepared : (note : Option UnitNote) (s : Seen) → IsPlain s.machine → has_break s.machine.processor.cpu.pc s.watch.breaks.list ≡ false → prepared note false s ≡ silent None s
plain-prepared note s plain none =
    (turn-opened note false s).prepares ∙ ap (λ (p : Part). then_part p (λ at. breaks_tested_unless false at)) (plain-attended note s plain)
    ∙ breaks-none s none

pub plain-whole : (note : Option UnitNote) (watch : WatchState) (keys : List (ℕ × ℕ)) (files : List NamedBytes) (lines : LineState) (whole : List Answer) (m : MachineState) (tells : Bool) (b : Output) → IsPlain m
    → IsWhole (attended note (seen (beside watch keys files lines) whole m)) None (seen (beside watch keys files lines) whole m) tells b b
plain-whole note watch keys files lines whole m tells b plain =
    let s = seen (beside watch keys files lines) whole m in
    let P : Part → Type 0 = λ p. IsWhole p None s tells b b in
    subst P (sym (plain-attended note s (plain-erased m plain))) (record { stop_is = refl; after_is = refl; written = λ _. sym (append-nil b.console); heard = sym (heard-nothing b.heard) })
