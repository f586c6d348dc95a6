-- Commands on the same state do the same.
use Rattle.std.proofs.Common.{◌≡◌, true, [], Ok, Err, refl, sym, subst, ◌∙◌}
use Rattle.observations.specs.Observations.{text_of, sent_of}
use Rattle.nova_machine.specs.Comes.{Output}
use Rattle.command_session.specs.declared.fault.CommandFault.TheVariants.{Console, OutOfMemory}
use Rattle.command_session.specs.Live.{Live, Standing}
use Rattle.command_session.specs.Reply.{Answer, Reply, bare_answer}
use Rattle.command_session.specs.Doing.{Does, IsSaid}
use Rattle.scp_commands.specs.Effect.{effect}
use Rattle.command_laws.specs.SameCommand.{IsAnswered, SameStateSameCommand}

is-said : (reply : Reply) (answer : Answer) (at : Standing) (before after : Output) → IsAnswered answer → Does reply answer at true before after
    → (bare_answer answer ≡ reply.answer) × IsSaid reply at true before after
is-said reply (Err Console) at before after own does = absurd own
is-said reply (Err OutOfMemory) at before after own does = absurd own
is-said reply (Ok next) at before after own does = does
is-said reply (Err fault) at before after own does = does

pub same-state-same-command : SameStateSameCommand
same-state-same-command limit request s t answer other x y before after front behind same own free one two =
    let reply = effect limit [] s request in
    let a = is-said reply answer x before after own one in
    let again : Does reply other y true front behind = subst (λ (z : Live). Does (effect limit [] z request) other y true front behind) (sym same) two in
    let b = is-said reply other y front behind free again in
    record {
      answers = a.0 ∙ sym b.0;
      states = a.1.after_is ∙ sym b.1.after_is;
      added = text_of reply.made;
      one = a.1.written refl;
      two = b.1.written refl;
      sent = sent_of reply.made;
      one_heard = a.1.heard;
      two_heard = b.1.heard;
    }
