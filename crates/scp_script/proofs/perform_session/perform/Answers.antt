use Rattle.std.proofs.Common.{◌≡◌, ◌⊎◌, inl, inr, ⊎_elim, ℕ, ◌-◌, Bool, IsTrue, true, List, [], Option, refl, ap, sym, ◌∙◌, subst, arith}
use Rattle.file_traits.specs.Lists.{NamedBytes}
use Rattle.host_lines.specs.State.{LineState}
use Rattle.unit_files.specs.InStep.{InStep}
use Rattle.nova_machine.specs.Machine.{attached_files}
use Rattle.unit_files.specs.Attachments.{Held}
use Rattle.unit_files.specs.Open.{AllOpen, Around}
use Rattle.file_commands.specs.declared.note.FaultNote.{FaultNote}
use Rattle.file_commands.specs.OwnFiles.{AreOwn}
use Rattle.file_commands.specs.Notes.{Note, notes_said}
use Rattle.file_commands.proofs.OwnFiles.{unused, own-both}
use Rattle.unit_list.specs.Bus.{kinds_of}
use Rattle.scp_script.specs.Session.{Session}
use Rattle.state_transfer.specs.SavedValid.{AreStandard}
use Rattle.scp_script.specs.declared.progress.CommandLoop.{CommandLoop}
use Rattle.session_texts.specs.Scripts.{first_script, still_open, AreFiles}
use Rattle.session_texts.specs.Actions.{coming}
use Rattle.session_texts.proofs.OpenLemmas.{first-one, stack-first}
use Rattle.scp_script.specs.Spending.{FinishAt}
use Rattle.scp_script.specs.Perform.{beginning, beginning_with}
use Rattle.host_lines.specs.Traffic.{Answer as LineAnswer}
use Rattle.host_lines.specs.Told.{IsFirst, record_in}
use Rattle.nova_machine.specs.Comes.{Output, output}
use Rattle.command_session.proofs.CloseLemmas.{said-append}
use Rattle.command_session.specs.LinesLeft.{LinesLeft}
use Rattle.nova_machine.proofs.LineSteps.{first-same, first-through}
use Rattle.command_session.proofs.PortLemmas.{left-same, left-then}
use Rattle.command_session.specs.Live.{CommandState, beyond}
use Rattle.scp_script.specs.Loop.{AreKeptFor, NumbersSuffice, session_of}
use Rattle.scp_script.proofs.WholeLemmas.{ComesSoFar, begun, never-begun, over, causes-behind, kept-since}
use Rattle.scp_script.proofs.UnsaidLemmas.{SaidUpTo, said-on, no-more, turned}
use Rattle.scp_script.proofs.KeptLemmas.{kept-none, kept-both}
use Rattle.scp_script.proofs.UsedLemmas.{next-told, grown}
use Rattle.scp_script.proofs.SpendingLemmas.{begins-so, goes-so, ends-so}
use Rattle.scp_script.proofs.perform_session.perform.Goals as goal

-- where a session came so far: what the disk holds is in step with its file, and all is said that was done
abbrev IsNow : (List LineAnswer → List Note → Session) → CommandState → List NamedBytes → LineState → CommandLoop → List ℕ → Output → Output → List Note → Type 0
IsNow begin s files ports l left before after notes =
    InStep (attached_files s.machine) files
    × ((w : List LineAnswer) → IsFirst (record_in ports.told) w → ComesSoFar (begin w) (session_of s (beyond files ports w) l left) before after notes (notes_said s.notes))

-- or no more is said from some text on
abbrev IsSaidOrNow : (List LineAnswer → List Note → Session) → Bool → CommandState → List NamedBytes → LineState → CommandLoop → List ℕ → Output → Output → List Note → Type 0
IsSaidOrNow begin tells s files ports l left before after notes =
    SaidUpTo begin tells ports left before after notes (notes_said s.notes) ⊎ IsNow begin s files ports l left before after notes

pub lines-init : goal.lines-init
unfolding beginning beginning_with
lines-init g c =
    let started = c.in-Ok.ensures.first in
    let budget : c.in-Ok.texts.budget ≡ c.args.opening.now.budget = ap (λ (x : CommandLoop). x.budget) started in
    let opening = c.args.opening.now in
    let first = first_script opening.script opening.arguments.items in
    let scripts : c.in-Ok.texts.texts.scripts ≡ first = ap (λ (x : CommandLoop). x.texts.scripts) started in
    record {
      paid = omega (arith, budget);
      command = omega (arith, budget);
      limit = refl;
      keys = refl;
      reads = ap (λ (x : CommandLoop). x.reads) started;
      come = begins-so first (opening.budget - c.in-Ok.texts.budget) c.in-Ok.texts.texts.actions c.in-Ok.texts.texts.scripts (omega (arith, budget))
          (stack-first first (first-one opening.script opening.arguments.items) (subst AreFiles scripts c.in-Ok.ensures.files)) (ap (λ (x : CommandLoop). x.texts.actions) started) scripts;
      unread = λ off. refl;
      told = λ enough source used apart sink step. inr (
        step,
        λ whole begins.
            let ports = g.L.Lines.state c.args.lines.now in
            rw started (begun (session_of c.args.session.now (beyond (g.F.Files.state c.args.files.now).files ports whole)
            (record { texts = record { actions = []; scripts = first_script c.args.opening.now.script c.args.opening.now.arguments.items }; reads = c.args.opening.now.reads; reader = record { line = []; open_ = true }; budget = c.args.opening.now.budget; prompt = c.args.opening.now.prompt })
            (g.C.Source.left c.args.input.now)) (output (g.S.Sink.written c.args.out.now) ports.sent) (notes_said c.args.session.now.notes)),
      );
      lines = left-same g.L.Lines.tells (g.L.Lines.state c.args.lines.now) c.args.session.now.machine.lines;
      source = refl;
      sink = refl;
      keeps = kept-none _ _ c.args.session.now.notes (g.F.Files.state c.args.files.now);
      whose = unused c.args.session.now.machine.slots c.args.session.now.machine.slots c.args.session.now.notes c.args.session.now.notes (g.F.Files.state c.args.files.now) refl refl;
      standard = c.requires.standard;
      kinds = refl;
      is_open = c.requires.«open»;
      around = λ base around. around;
    }

-- what the loop keeps, where the actions of the last stop were let go of
pub lines-preserved : goal.lines-preserved
lines-preserved g c =
    let done = c.next_line.new.session in
    let is = c.rest.ensures in
    let number : c.rest.new.session.command ≡ done.command = ap (λ (x : CommandState). x.command) is in
    let notes_are : c.rest.new.session.notes ≡ done.notes = ap (λ (x : CommandState). x.notes) is in
    let slots_are : c.rest.new.session.machine.slots ≡ done.machine.slots = ap (λ (x : CommandState). x.machine.slots) is in
    let new = g.F.Files.state c.next_line.new.files in
    record {
      paid = omega (arith, c.lines.invariant.paid, c.in-GoesOn.ensures.pays);
      command = omega (arith, c.lines.invariant.command, c.in-GoesOn.ensures.command, number, c.lines.invariant.paid, c.in-GoesOn.ensures.pays);
      limit = ap (λ (x : CommandState). x.limit) is ∙ c.in-GoesOn.ensures.limit ∙ c.lines.invariant.limit;
      keys = ap (λ (x : CommandState). x.keys) is ∙ c.in-GoesOn.ensures.keys ∙ c.lines.invariant.keys;
      reads = c.in-GoesOn.ensures.reads ∙ c.lines.invariant.reads;
      come = goes-so (first_script c.args.opening.now.script c.args.opening.now.arguments.items) c.args.opening.now.budget c.lines.texts.budget c.next_line.new.lines.budget c.lines.texts.texts.actions
          c.next_line.new.lines.texts.actions c.lines.texts.texts.scripts c.next_line.new.lines.texts.scripts c.in-GoesOn.ensures.pays c.lines.invariant.paid c.lines.invariant.come c.in-GoesOn.ensures.scripts;
      unread = λ off. c.in-GoesOn.ensures.unread (c.lines.invariant.reads ∙ off) ∙ c.lines.invariant.unread off;
      told = λ enough source used apart sink step.
          let ports = g.L.Lines.state c.args.lines.now in
          let ports-mid = g.L.Lines.state c.lines.lines in
          let ports' = g.L.Lines.state c.next_line.new.ports in
          let mid_files = (g.F.Files.state c.lines.files).files in
          let before = output (g.S.Sink.written c.args.out.now) ports.sent in
          let printed = output (g.S.Sink.written c.lines.out) ports-mid.sent in
          let after = output (g.S.Sink.written c.next_line.new.out) ports'.sent in
          let notes = notes_said c.args.session.now.notes in
          let left = g.C.Source.left c.lines.input in
          let left' = g.C.Source.left c.next_line.new.input in
          let begin = λ (w : List LineAnswer) (notes : List Note). beginning c.args.session.now (beyond (g.F.Files.state c.args.files.now).files ports w) c.args.opening.now (g.C.Source.left c.args.input.now) notes in
          let reads = λ (on : c.lines.texts.reads ≡ true). source (sym c.lines.invariant.reads ∙ on) in
          let apart-mid = λ (tells : IsTrue g.L.Lines.tells). (c.lines.invariant.lines.told tells (apart tells)).0 in
          let later = λ (tells : IsTrue g.L.Lines.tells). (c.in-GoesOn.ensures.ports.told tells (apart-mid tells)).1 in
          let numbers : NumbersSuffice c.lines.session.command c.lines.texts.budget = omega (arith, enough, c.lines.invariant.command, c.lines.invariant.paid) in
          let kept = c.in-GoesOn.ensures.keeps in
          subst (λ (x : CommandState). IsSaidOrNow begin g.L.Lines.tells x new.files ports' c.next_line.new.lines left' before after notes) (sym is)
          (⊎_elim
          (λ (said : SaidUpTo begin g.L.Lines.tells ports-mid left before printed notes (notes_said c.lines.session.notes)).
          inl (said-on begin g.L.Lines.tells ports-mid ports' left left' before printed after notes (notes_said c.lines.session.notes) (notes_said done.notes) (notes_said kept.kept) later (c.in-GoesOn.ensures.grows sink)
          (ap notes_said kept.added ∙ said-append c.lines.session.notes kept.kept) (c.in-GoesOn.ensures.drops reads) (λ tells. c.in-GoesOn.ensures.ports.heard tells) said))
          (λ (now : IsNow begin c.lines.session mid_files ports-mid c.lines.texts left before printed notes).
          let next = λ (w : List LineAnswer) (at : IsFirst (record_in ports-mid.told) w).
          next-told g.F.Files.tells g.L.Lines.tells begin w (session_of c.lines.session (beyond mid_files ports-mid w) c.lines.texts left) before printed notes (notes_said c.lines.session.notes) used (now.1 w at) in
          let first = next (record_in ports-mid.told) (first-same (record_in ports-mid.told)) in
          let grows = grown g.L.Lines.tells ports-mid ports' later (λ untold. c.next_line.ensures.still reads untold (record_in ports-mid.told) first) in
          turned begin g.L.Lines.tells c.lines.session done mid_files new.files ports-mid ports' c.lines.texts c.next_line.new.lines left left' before printed after notes (notes_said c.lines.session.notes) (notes_said done.notes)
          grows (c.in-GoesOn.ensures.step reads apart-mid (record_in ports-mid.told) first) now.0 now.1
          (λ w begins. c.in-GoesOn.ensures.told numbers reads apart-mid sink now.0 w begins (next w (first-through (record_in ports-mid.told) (record_in ports'.told) w grows begins))))
          (c.lines.invariant.told enough source used apart sink step));
      lines =
          let ports = g.L.Lines.state c.args.lines.now in
          let ports' = g.L.Lines.state c.next_line.new.ports in
          subst (λ (x : CommandState). LinesLeft g.L.Lines.tells ports c.args.session.now.machine.lines ports' x.machine.lines) (sym is)
          (left-then g.L.Lines.tells ports (g.L.Lines.state c.lines.lines) ports' c.args.session.now.machine.lines c.lines.session.machine.lines done.machine.lines
          c.lines.invariant.lines c.in-GoesOn.ensures.ports);
      source = c.in-GoesOn.ensures.cause.1 ∙ c.lines.invariant.source;
      sink = c.in-GoesOn.ensures.cause.0 ∙ c.lines.invariant.sink;
      keeps =
          let budget = c.args.opening.now.budget in
          let before = c.lines.texts.budget in
          let left = c.next_line.new.lines.budget in
          subst (λ (kept : List FaultNote). AreKeptFor g.F.Files.tells (budget - left) c.args.session.now.notes kept (g.F.Files.state c.args.files.now) new) (sym notes_are)
          (kept-both g.F.Files.tells (budget - before) (before - left) (budget - left) c.args.session.now.notes c.lines.session.notes done.notes (g.F.Files.state c.args.files.now)
          (g.F.Files.state c.lines.files) new (omega (arith, c.lines.invariant.paid, c.in-GoesOn.ensures.pays)) c.lines.invariant.keeps c.in-GoesOn.ensures.keeps);
      whose =
          let first = c.args.session.now in
          let mid = c.lines.session in
          let old = g.F.Files.state c.args.files.now in
          subst (λ (slots : List (Option Held)). AreOwn first.machine.slots slots first.notes c.rest.new.session.notes old new) (sym slots_are)
          (subst (λ (kept : List FaultNote). AreOwn first.machine.slots done.machine.slots first.notes kept old new) (sym notes_are)
          (own-both first.machine.slots mid.machine.slots done.machine.slots first.notes mid.notes done.notes old (g.F.Files.state c.lines.files) new
          c.lines.invariant.whose c.in-GoesOn.ensures.whose));
      standard = subst (λ (x : CommandState). AreStandard x.machine.units) (sym is) c.in-GoesOn.ensures.standard;
      kinds = ap (λ (x : CommandState). kinds_of x.machine.units) is ∙ c.in-GoesOn.ensures.kinds ∙ c.lines.invariant.kinds;
      is_open = subst (λ (slots : List (Option Held)). AllOpen slots new.opened) (sym slots_are) c.in-GoesOn.ensures.«open»;
      around = λ base around. subst (λ (slots : List (Option Held)). Around slots base new.opened) (sym slots_are)
          (c.in-GoesOn.ensures.around base (c.lines.invariant.around base around));
    }

pub returns-in-IsOver-clause-told : goal.returns-in-IsOver-clause-told
returns-in-IsOver-clause-told g c = λ enough source used apart sink step whole begins.
    let ports = g.L.Lines.state c.args.lines.now in
    let ports-mid = g.L.Lines.state c.lines.lines in
    let ports' = g.L.Lines.state c.next_line.new.ports in
    let mid_files = (g.F.Files.state c.lines.files).files in
    let done = c.next_line.new.session in
    let before = output (g.S.Sink.written c.args.out.now) ports.sent in
    let printed = output (g.S.Sink.written c.lines.out) ports-mid.sent in
    let after = output (g.S.Sink.written c.next_line.new.out) ports'.sent in
    let notes = notes_said c.args.session.now.notes in
    let left = g.C.Source.left c.lines.input in
    let left' = g.C.Source.left c.next_line.new.input in
    let begin = λ (w : List LineAnswer) (notes : List Note). beginning c.args.session.now (beyond (g.F.Files.state c.args.files.now).files ports w) c.args.opening.now (g.C.Source.left c.args.input.now) notes in
    let reads = λ (on : c.lines.texts.reads ≡ true). source (sym c.lines.invariant.reads ∙ on) in
    let apart-mid = λ (tells : IsTrue g.L.Lines.tells). (c.lines.invariant.lines.told tells (apart tells)).0 in
    let later = λ (tells : IsTrue g.L.Lines.tells). (c.in-IsOver.ensures.ports.told tells (apart-mid tells)).1 in
    let numbers : NumbersSuffice c.lines.session.command c.lines.texts.budget = omega (arith, enough, c.lines.invariant.command, c.lines.invariant.paid) in
    let kept = c.in-IsOver.ensures.keeps in
    ⊎_elim
    (λ (said : SaidUpTo begin g.L.Lines.tells ports-mid left before printed notes (notes_said c.lines.session.notes)).
    inl (no-more begin g.L.Lines.tells ports' whole left' before after notes (notes_said done.notes) begins
    (said-on begin g.L.Lines.tells ports-mid ports' left left' before printed after notes (notes_said c.lines.session.notes) (notes_said done.notes) (notes_said kept.kept) later (c.in-IsOver.ensures.grows sink)
    (ap notes_said kept.added ∙ said-append c.lines.session.notes kept.kept) (c.in-IsOver.ensures.drops reads) (λ tells. c.in-IsOver.ensures.ports.heard tells) said)))
    (λ (now : IsNow begin c.lines.session mid_files ports-mid c.lines.texts left before printed notes).
    let next = λ (w : List LineAnswer) (at : IsFirst (record_in ports-mid.told) w).
    next-told g.F.Files.tells g.L.Lines.tells begin w (session_of c.lines.session (beyond mid_files ports-mid w) c.lines.texts left) before printed notes (notes_said c.lines.session.notes) used (now.1 w at) in
    let first = next (record_in ports-mid.told) (first-same (record_in ports-mid.told)) in
    let grows = grown g.L.Lines.tells ports-mid ports' later (λ untold. c.next_line.ensures.still reads untold (record_in ports-mid.told) first) in
    let back = first-through (record_in ports-mid.told) (record_in ports'.told) whole grows begins in
    inr (over (begin whole) (session_of c.lines.session (beyond mid_files ports-mid whole) c.lines.texts left)
    (session_of done (beyond (g.F.Files.state c.next_line.new.files).files ports' whole) c.next_line.new.lines left' []) c.in-IsOver.finish before printed after notes (notes_said c.lines.session.notes) (notes_said done.notes)
    (now.1 whole back) (c.in-IsOver.ensures.told numbers reads apart-mid sink now.0 whole begins (next whole back))))
    (c.lines.invariant.told enough source used apart sink step)

pub returns-in-IsOver-clause-lines : goal.returns-in-IsOver-clause-lines
returns-in-IsOver-clause-lines g c =
    left-then g.L.Lines.tells (g.L.Lines.state c.args.lines.now) (g.L.Lines.state c.lines.lines) (g.L.Lines.state c.next_line.new.ports) c.args.session.now.machine.lines
    c.lines.session.machine.lines c.next_line.new.session.machine.lines c.lines.invariant.lines c.in-IsOver.ensures.ports

pub returns-in_default-clause-lines : goal.returns-in_default-clause-lines
returns-in_default-clause-lines g c = left-same g.L.Lines.tells (g.L.Lines.state c.args.lines.now) c.args.session.now.machine.lines

pub returns-in-IsOver-clause-command : goal.returns-in-IsOver-clause-command
returns-in-IsOver-clause-command g c =
    let budget = c.args.opening.now.budget in
    let left = c.next_line.new.lines.budget in
    let pays = c.in-IsOver.ensures.pays in
    let paid = c.lines.invariant.paid in
    let first = first_script c.args.opening.now.script c.args.opening.now.arguments.items in
    let texts = c.lines.texts.texts in
    record {
      paid = budget - left;
      within = omega arith;
      number = omega (arith, c.lines.invariant.command, paid, c.in-IsOver.ensures.command, pays);
      cause = ends-so c.args.opening.now.reads first budget c.in-IsOver.finish left (budget - (budget - left)) (omega (arith, paid, pays)) (record {
        before = c.lines.texts.budget;
        within = paid;
        fell = pays;
        texts = coming texts;
        come = c.lines.invariant.come;
        at = subst (λ (b : Bool). FinishAt b texts.actions (still_open texts.scripts) c.lines.texts.budget c.in-IsOver.finish left) c.lines.invariant.reads c.in-IsOver.ensures.ends;
      });
    }

pub returns-in_default-clause-command : goal.returns-in_default-clause-command
returns-in_default-clause-command g c = record { paid = 0; within = omega arith; number = omega arith; cause = tt }

pub returns-in-IsOver-clause-cause : goal.returns-in-IsOver-clause-cause
returns-in-IsOver-clause-cause g c =
    causes-behind c.in-IsOver.finish (g.S.Sink.fault_count c.args.out.now) (g.S.Sink.fault_count c.lines.out) (g.S.Sink.fault_count c.next_line.new.out)
    (g.C.Source.fault_count c.args.input.now) (g.C.Source.fault_count c.lines.input) (g.C.Source.fault_count c.next_line.new.input)
    c.lines.invariant.sink c.lines.invariant.source c.in-IsOver.ensures.cause

pub returns-in-IsOver-clause-unread : goal.returns-in-IsOver-clause-unread
returns-in-IsOver-clause-unread g c = λ off. c.in-IsOver.ensures.unread (c.lines.invariant.reads ∙ off) ∙ c.lines.invariant.unread off

pub returns-in-IsOver-clause-keeps : goal.returns-in-IsOver-clause-keeps
returns-in-IsOver-clause-keeps g c =
    let budget = c.args.opening.now.budget in
    let before = c.lines.texts.budget in
    let left = c.next_line.new.lines.budget in
    let paid = c.lines.invariant.paid in
    let pays = c.in-IsOver.ensures.pays in
    record {
      spent = budget - left;
      within = omega arith;
      number_is = omega (arith, c.lines.invariant.command, paid, c.in-IsOver.ensures.command, pays);
      kept = kept-both g.F.Files.tells (budget - before) (before - left) (budget - left) c.args.session.now.notes c.lines.session.notes c.next_line.new.session.notes (g.F.Files.state c.args.files.now)
          (g.F.Files.state c.lines.files) (g.F.Files.state c.next_line.new.files) (omega (arith, paid, pays)) c.lines.invariant.keeps c.in-IsOver.ensures.keeps;
    }

pub returns-in_default-clause-keeps : goal.returns-in_default-clause-keeps
returns-in_default-clause-keeps g c =
    record { spent = 0; within = omega arith; number_is = omega arith; kept = kept-none _ _ c.args.session.now.notes (g.F.Files.state c.args.files.now) }

pub returns-in-IsOver-clause-whose : goal.returns-in-IsOver-clause-whose
returns-in-IsOver-clause-whose g c =
    let first = c.args.session.now in
    let mid = c.lines.session in
    let last = c.next_line.new.session in
    own-both first.machine.slots mid.machine.slots last.machine.slots first.notes mid.notes last.notes (g.F.Files.state c.args.files.now) (g.F.Files.state c.lines.files)
    (g.F.Files.state c.next_line.new.files) c.lines.invariant.whose c.in-IsOver.ensures.whose

pub returns-in-IsOver-clause-kept : goal.returns-in-IsOver-clause-kept
returns-in-IsOver-clause-kept g c =
    kept-since c.in-IsOver.finish c.next_line.new.session.machine.slots _ _ c.args.session.now.notes c.lines.session.notes c.next_line.new.session.notes (g.F.Files.state c.args.files.now)
    (g.F.Files.state c.lines.files) (g.F.Files.state c.next_line.new.files) c.lines.invariant.keeps c.in-IsOver.ensures.kept

pub returns-in_default-clause-told : goal.returns-in_default-clause-told
unfolding beginning beginning_with
returns-in_default-clause-told g c = λ enough source used apart sink step whole begins.
    let ports = g.L.Lines.state c.args.lines.now in
    inr (never-begun (λ notes. beginning c.args.session.now (beyond (g.F.Files.state c.args.files.now).files ports whole) c.args.opening.now (g.C.Source.left c.args.input.now) notes)
    (output (g.S.Sink.written c.args.out.now) ports.sent) (notes_said c.args.session.now.notes) refl)
