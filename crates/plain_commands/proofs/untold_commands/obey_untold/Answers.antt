use Rattle.std.proofs.Common.{ℕ, Bool, refl, ap, sym, subst, List}
use Rattle.unit_files.specs.Buffer.{AttachedFiles}
use Rattle.file_commands.specs.Notes.{notes_said}
use Rattle.nova_machine.specs.Comes.{output}
use Rattle.command_session.specs.Live.{CommandState, live_in}
use Rattle.command_session.specs.Nature.{nature}
use Rattle.command_session.specs.Doing.{IsUndone, says_files, want_by}
use Rattle.command_session.proofs.DidLemmas.{did-of}
use Rattle.command_session.proofs.KeptLemmas.{keeps-none}
use Rattle.command_session.proofs.RemainLemmas.{leaves, undone-none}
use Rattle.plain_commands.specs.UntoldEffect.{untold_effect}
use Rattle.plain_commands.proofs.UntoldLemmas.{alone, unheard, does-of-no-file, untold-no-file}
use Rattle.plain_commands.proofs.untold_commands.obey_untold.Goals as goal

pub returns-clause-refused : goal.returns-clause-refused
returns-clause-refused g c = λ is.
    let same = c.do_untold.ensures.refused is in
    leaves (nature c.args.command.now).flushes c.args.session.now c.do_untold.new.session same.0 same.1

pub returns-clause-told : goal.returns-clause-told
returns-clause-told g c = λ files heard.
    let s = c.args.session.now in
    let new = c.do_untold.new.session in
    let r = untold_effect (live_in s files) c.args.command.now in
    did-of (λ own. r) r s.command c.do_untold.result (live_in new files) g.S.Sink.tells (output (g.S.Sink.written c.args.out.now) heard) (output (g.S.Sink.written c.do_untold.new.out) heard)
    (notes_said s.notes) (notes_said new.notes) (λ own. refl) (ap (λ (x : CommandState). notes_said x.notes) c.do_untold.ensures.rest) (c.do_untold.ensures.told files heard)

pub returns-clause-undone : goal.returns-clause-undone
returns-clause-undone g c = λ is tells state.
    let s = c.args.session.now in
    let new = c.do_untold.new.session in
    let r = c.args.command.now in
    let text = g.S.Sink.written c.args.out.now in
    let w = c.do_untold.ensures.wanted is in
    subst (λ (after : List ℕ). IsUndone (nature r).flushes (nature r).reads_whole (says_files tells r) s new text after state state) (sym w.written)
    (undone-none (nature r).flushes (nature r).reads_whole (says_files tells r) s new text state (ap (λ (x : CommandState). x.machine) w.undone)
    (ap (λ (x : CommandState). x.watch) w.undone) (ap (λ (x : CommandState). x.keys) w.undone) (ap (λ (x : CommandState). x.notes) w.undone))

pub returns-clause-want : goal.returns-clause-want
returns-clause-want g c = λ is. subst (λ (b : Bool). want_by b 16) (sym (c.do_untold.ensures.wanted is).takes) tt

pub returns-clause-unrefused : goal.returns-clause-unrefused
returns-clause-unrefused g c = λ is. (c.do_untold.ensures.wanted is).unrefused

pub returns-clause-keeps : goal.returns-clause-keeps
returns-clause-keeps g c = λ tells state.
    let s = c.args.session.now in
    let new = c.do_untold.new.session in
    let live = live_in s (alone state.files) in
    keeps-none s.command new.machine.time tells c.do_untold.result s.notes new.notes state (ap (λ (x : CommandState). x.notes) c.do_untold.ensures.rest)
    (does-of-no-file (untold_effect live c.args.command.now) c.do_untold.result _ _ _ _ (c.do_untold.ensures.told (alone state.files) unheard) (untold-no-file live c.args.command.now))

pub returns-clause-slots : goal.returns-clause-slots
returns-clause-slots g c = ap (λ (a : AttachedFiles). a.slots) c.do_untold.ensures.attached
