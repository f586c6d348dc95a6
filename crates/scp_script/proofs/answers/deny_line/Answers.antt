use Rattle.std.proofs.Common.{Bool, refl, ap, ◌∙◌}
use Rattle.session_texts.specs.Scripts.{behind_failure}
use Rattle.session_texts.specs.Actions.{texts_of, behind_refusal, coming}
use Rattle.nova_machine.specs.Comes.{output}
use Rattle.command_session.specs.Live.{live_in}
use Rattle.command_session.specs.FaultText.{fault_text}
use Rattle.scp_script.proofs.TextLemmas.{line-denied}
use Rattle.scp_script.proofs.GrowLemmas.{complained-grows}
use Rattle.scp_script.proofs.answers.deny_line.Goals as goal

pub returns-clause-told : goal.returns-clause-told
returns-clause-told g c = λ around heard notes what is.
    let texts = coming c.args.texts.now in
    line-denied c.args.session.now.limit texts notes (live_in c.args.session.now around) what c.args.fault c.complain-progress.result (coming c.fail.new.self) g.S.Sink.tells
    (output (g.S.Sink.written c.args.out.now) heard) (output (g.S.Sink.written c.complain-progress.new.out) heard) is
    (c.fail.ensures ∙ ap (λ (b : Bool). texts_of (behind_refusal texts.scripts (behind_failure b texts.scripts) texts.actions) (behind_failure b texts.scripts)) c.is_assertion.ensures) refl c.complain-progress.ensures.told

pub returns-clause-grows : goal.returns-clause-grows
returns-clause-grows g c =
    complained-grows g.S.Sink.tells (g.S.Sink.written c.args.out.now) (fault_text c.args.fault) c.complain-progress.result (g.S.Sink.written c.complain-progress.new.out) c.complain-progress.ensures.told
