use Rattle.std.proofs.Common.{List, Ok, refl, subst, ap, sym, ◌∙◌}
use Rattle.command_session.specs.declared.next.Next.{Next}
use Rattle.command_session.specs.Doing.{Does}
use Rattle.nova_machine.specs.Comes.{output}
use Rattle.session_texts.specs.Scripts.{Script, label_in, jumped_to}
use Rattle.session_texts.specs.Actions.{Texts, texts_of, coming, text_of_stop, overflow_text}
use Rattle.session_texts.proofs.OpenLemmas.{stack-as, stack-jumped}
use Rattle.scp_script.specs.declared.progress.Progress.TheVariants.{GoesOn}
use Rattle.scp_script.proofs.SpendingLemmas.{no-exit, opens-none, opens-one, opens-jumped, opens-failed, opens-since}
use Rattle.command_session.proofs.GrowLemmas.{grows-same}
use Rattle.scp_script.proofs.GrowLemmas.{complained-grows, denied-grows}
use Rattle.scp_script.proofs.TextLemmas.{refused_texts, ran-followed, label-denied}
use Rattle.scp_script.proofs.answers.follow.Goals as goal

pub returns-in-Ran-clause-told : goal.returns-in-Ran-clause-told
returns-in-Ran-clause-told g c = λ heard reply at before watched room does.
    let tells = g.S.Sink.tells in
    let mid = output (g.S.Sink.written c.args.out.now) heard in
    ran-followed (coming c.args.texts.now) (Ok c.args.command.now) reply c.in-Ran.stop c.args.watch.now c.act_on.result (coming c.act_on.new.texts) at tells before mid (output (g.S.Sink.written c.act_on.new.out) heard) watched
    c.act_on.ensures.texts refl c.act_on.ensures.told (subst (λ (n : Next). Does reply (Ok n) at tells before mid) c.in-Ran.is does)

pub returns-in-Goto-clause-told : goal.returns-in-Goto-clause-told
returns-in-Goto-clause-told g c = λ heard reply at before watched room does.
    let texts = coming c.args.texts.now in
    let tells = g.S.Sink.tells in
    let mid = output (g.S.Sink.written c.args.out.now) heard in
    let found = ap (λ l. label_in l texts.scripts) (sym c.label_of.ensures) ∙ c.in-Err.ensures.found in
    let same = c.in-Err.ensures.jumps ∙ ap (λ f. jumped_to f texts.scripts) c.in-Err.ensures.found in
    label-denied texts (Ok c.args.command.now) reply c.in-Err.fault c.refuse.result (coming c.refuse.new.texts) at tells before mid (output (g.S.Sink.written c.refuse.new.out) heard)
    (g.S.Sink.fault_count c.args.out.now) (g.S.Sink.fault_count c.refuse.new.out) found
    (c.refuse.ensures.texts ∙ ap (λ (l : List Script). refused_texts c.in-Err.fault (texts_of texts.actions l)) same) refl
    (subst (λ (n : Next). Does reply (Ok n) at tells before mid) c.in-Goto.is does) c.refuse.ensures.told

-- ---- an exit, and the scripts

pub returns-in-Ran-clause-asked : goal.returns-in-Ran-clause-asked
returns-in-Ran-clause-asked g c = no-exit (Ok c.args.command.now) c.act_on.result c.act_on.ensures.stays

pub returns-in-Goto-clause-asked : goal.returns-in-Goto-clause-asked
returns-in-Goto-clause-asked g c = no-exit (Ok c.args.command.now) c.refuse.result c.refuse.ensures.stays

pub returns-in-Ran-clause-scripts : goal.returns-in-Ran-clause-scripts
returns-in-Ran-clause-scripts g c = opens-none c.args.texts.now.scripts c.act_on.new.texts.scripts c.act_on.result (ap (λ (t : Texts). t.scripts) c.act_on.ensures.texts)

pub returns-in-Goto-clause-scripts : goal.returns-in-Goto-clause-scripts
returns-in-Goto-clause-scripts g c =
    let old = c.args.texts.now.scripts in
    let mid = c.go_to.new.self in
    opens-since old mid c.refuse.new.texts.scripts c.refuse.result (λ first most stack. stack-as first most _ mid c.in-Err.ensures.jumps (stack-jumped first most _ old stack))
    (opens-failed _ mid c.refuse.new.texts.scripts c.refuse.result (ap (λ (t : Texts). t.scripts) c.refuse.ensures.texts))

pub returns-then-not-is_full-clause-scripts : goal.returns-then-not-is_full-clause-scripts
returns-then-not-is_full-clause-scripts g c = opens-one c.begin.result c.args.texts.now.scripts c.push.new.self GoesOn c.begin.ensures.file c.push.ensures

pub returns-in-Ok-clause-scripts : goal.returns-in-Ok-clause-scripts
returns-in-Ok-clause-scripts g c = opens-jumped _ c.args.texts.now.scripts c.go_to.new.self GoesOn c.in-Ok.ensures.jumps

-- ---- the console

pub returns-in-Ran-clause-grows : goal.returns-in-Ran-clause-grows
returns-in-Ran-clause-grows g c =
    complained-grows g.S.Sink.tells (g.S.Sink.written c.args.out.now) (overflow_text (text_of_stop c.in-Ran.stop c.args.watch.now) c.args.texts.now.actions) c.act_on.result
    (g.S.Sink.written c.act_on.new.out) c.act_on.ensures.told

pub returns-in-Goto-clause-grows : goal.returns-in-Goto-clause-grows
returns-in-Goto-clause-grows g c =
    denied-grows c.in-Err.fault g.S.Sink.tells c.refuse.result (g.S.Sink.written c.args.out.now) (g.S.Sink.written c.refuse.new.out) (g.S.Sink.fault_count c.args.out.now)
    (g.S.Sink.fault_count c.refuse.new.out) c.refuse.ensures.told

pub returns-in-Go-clause-grows : goal.returns-in-Go-clause-grows
returns-in-Go-clause-grows g c = grows-same g.S.Sink.tells (g.S.Sink.written c.args.out.now) (g.S.Sink.written c.args.out.now) refl

pub returns-in-Ok-clause-grows : goal.returns-in-Ok-clause-grows
returns-in-Ok-clause-grows g c = grows-same g.S.Sink.tells (g.S.Sink.written c.args.out.now) (g.S.Sink.written c.args.out.now) refl

pub returns-then-not-is_full-clause-grows : goal.returns-then-not-is_full-clause-grows
returns-then-not-is_full-clause-grows g c = grows-same g.S.Sink.tells (g.S.Sink.written c.args.out.now) (g.S.Sink.written c.args.out.now) refl

pub returns-else-not-is_full-clause-grows : goal.returns-else-not-is_full-clause-grows
returns-else-not-is_full-clause-grows g c = grows-same g.S.Sink.tells (g.S.Sink.written c.args.out.now) (g.S.Sink.written c.args.out.now) refl
